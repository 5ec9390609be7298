pub mod Lines
pub mod Output
pub mod Compiled
pub mod Converted
pub mod Claims
pub mod Worked
