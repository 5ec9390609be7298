pub mod Laws
pub mod Turns
pub mod Reached
pub mod Stops
