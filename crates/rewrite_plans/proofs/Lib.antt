pub mod PlansByKind
pub mod Seen
