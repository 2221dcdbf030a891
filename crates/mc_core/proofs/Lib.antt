pub mod Answering
pub mod QueryLimits
pub mod Verdicts
pub mod Usable
