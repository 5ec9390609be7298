pub mod Input
pub mod Put
