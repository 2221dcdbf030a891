pub mod Answers
pub mod Decisions
pub mod Evidence
pub mod QueryLimits
