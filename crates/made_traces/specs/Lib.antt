pub mod MadeTraces
pub mod Progress
