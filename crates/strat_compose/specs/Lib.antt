-- Definitions by subject.
pub mod AtomNumbers
pub mod Completions
pub mod Driving
pub mod Formulas
pub mod Groups
pub mod Prefixes
pub mod Refusals
pub mod Runs
pub mod Winning
