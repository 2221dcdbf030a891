pub mod Claims
pub mod Counting
pub mod Errors
pub mod Good
pub mod Reading
pub mod Refuting
pub mod Truths
pub mod Verdicts
