pub mod AttachedRange
mod Counting
pub mod Foretelling
mod Gathering
pub mod Heeding
pub mod Parts
pub mod Rooms
mod Sizes
mod Stages
mod Stepping
mod Truths
