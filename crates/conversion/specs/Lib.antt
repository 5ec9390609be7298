pub mod Groups
pub mod Retype
pub mod Convert
pub mod Claims
pub mod Cases
