-- What only private contracts and proofs use.
pub mod OnePass
