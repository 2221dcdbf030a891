pub mod Classes
pub mod Laws
pub mod Names
pub mod Reads
pub mod Refusals
pub mod Rules
pub mod Runs
