-- Definitions that only proofs, laws and the contracts of private functions use; no claim rests on them.
pub mod Plans
pub mod Moves
pub mod Filled
pub mod Grow
