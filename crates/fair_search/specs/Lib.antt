pub mod Answers
pub mod Passing
pub mod Paths
pub mod Tours
pub mod Verdicts
