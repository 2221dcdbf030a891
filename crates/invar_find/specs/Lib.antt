pub mod Candidates
pub mod Parts
pub mod Kepts
pub mod Classes
pub mod Standing
pub mod Searches
