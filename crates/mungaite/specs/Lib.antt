pub mod Code
pub mod Host
pub mod Claims
