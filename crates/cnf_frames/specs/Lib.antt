pub mod Counts
pub mod Facts
pub mod Queries
pub mod Fronts
pub mod QueryPaths
pub mod Proofs
pub mod ProofTexts
