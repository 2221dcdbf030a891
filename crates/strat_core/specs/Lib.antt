-- Definitions by subject.
pub mod Answers
pub mod Questions
pub mod Refusing
