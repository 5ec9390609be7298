pub mod Promises
pub mod Converting
pub mod Terms
