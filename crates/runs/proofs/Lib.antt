pub mod Faults
pub mod Holds
pub mod Numbered
pub mod Cases
pub mod Fill
pub mod Progress
