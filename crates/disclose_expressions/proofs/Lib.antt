pub mod InTurn
pub mod ExpressionsByKind
