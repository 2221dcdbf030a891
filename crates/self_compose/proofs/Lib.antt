pub mod Periods
mod Rooms
pub mod Tuples
