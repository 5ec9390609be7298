pub mod Add
pub mod Claims
pub mod Inner
