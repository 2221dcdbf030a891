pub mod Decided
pub mod Proofs
pub mod Shown
pub mod Solved
pub mod Undecided
