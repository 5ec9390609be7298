pub mod CodeLaws
pub mod Whole
pub mod Host
pub mod Built
