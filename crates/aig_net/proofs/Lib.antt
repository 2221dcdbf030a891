pub mod Closings
pub mod Copying
pub mod Costs
mod Executing
mod Follows
pub mod GateLemmas
pub mod LassoRuns
pub mod Likeness
pub mod Disjunctions
pub mod Literals
pub mod Looping
pub mod Making
pub mod Periods
pub mod Placing
mod Recurring
pub mod Rounds
mod RowLemmas
mod RunRows
pub mod Running
mod SignalLemmas
mod States
pub mod Valuations
pub mod Wiring
