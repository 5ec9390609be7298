pub mod Words
pub mod Rows
pub mod Build
pub mod Cases
pub mod Claims
pub mod Spelling
pub mod Inner
