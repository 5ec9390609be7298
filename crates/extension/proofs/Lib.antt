pub mod Splices
pub mod Adds
pub mod Causes
pub mod Counts
pub mod Trip
pub mod Twins
