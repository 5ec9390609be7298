-- What only private contracts and proofs use.
pub mod Parts
pub mod Marks
pub mod Kept
pub mod Verdicts
pub mod Walks
pub mod Rules
pub mod Nearer
pub mod Sources
pub mod Steps
