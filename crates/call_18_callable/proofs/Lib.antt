pub mod Callable
