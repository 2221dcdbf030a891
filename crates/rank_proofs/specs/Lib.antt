pub mod Codes
pub mod Counts
pub mod Edges
pub mod Known
pub mod ProofTexts
pub mod Proofs
pub mod Readings
pub mod Tops
