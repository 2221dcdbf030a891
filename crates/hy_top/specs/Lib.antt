pub mod Answers
pub mod Tools
