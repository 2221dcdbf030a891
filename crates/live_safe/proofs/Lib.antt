mod Closings
mod Conjoining
pub mod Counting
mod OnLatches
mod Parts
pub mod SafeGates
pub mod SafeRange
pub mod Saving
pub mod Shapes
mod Sizes
mod Stages
pub mod Starts
mod Stepping
pub mod Unfolding
