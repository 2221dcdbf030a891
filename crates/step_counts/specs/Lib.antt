pub mod Branches
pub mod Runs
pub mod Words
