pub mod Inputs
pub mod Puts
pub mod Rests
