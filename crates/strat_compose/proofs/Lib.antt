-- Lemmas by subject.
pub mod Adding
mod Agreeing
mod Assembling
pub mod AtomBounds
mod Beginning
mod Bodies
pub mod Completing
mod Conjuncts
pub mod Conjoining
pub mod Demands
pub mod Fitting
mod FreshNames
mod GroupRuns
mod NamedOutputs
mod NamesBelow
mod Numbering
pub mod PartRuns
pub mod Placing
pub mod Prefixes
pub mod Rooms
pub mod SignalBounds
mod Sizes
pub mod Winning
