pub mod Runs
pub mod Numbers
pub mod Claims
pub mod Cases
pub mod Inner
