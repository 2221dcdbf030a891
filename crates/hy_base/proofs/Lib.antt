mod CallLemmas
mod FileLemmas
pub mod Listed
pub mod Members
mod Pieces
pub mod Places
pub mod Readings
mod Recorded
pub mod RowNumbers
pub mod Truths
pub mod Writings
