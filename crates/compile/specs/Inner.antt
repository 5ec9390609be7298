-- Definitions that only proofs, laws and the contracts of private functions use; no claim rests on them.
pub mod Turn
pub mod Due
pub mod Stop
