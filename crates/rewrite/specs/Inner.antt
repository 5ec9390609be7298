-- Definitions that only proofs, laws and the contracts of private functions use; no claim rests on them.
pub mod Put
pub mod Retype
pub mod Kept
pub mod Settle
pub mod Ready
