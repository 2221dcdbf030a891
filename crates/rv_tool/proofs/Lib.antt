pub mod Asking
pub mod Counting
mod EventFiles
mod EventSteps
pub mod FirstSpecs
mod Following
mod Outcomes
mod Printed
mod Settled
mod Sources
