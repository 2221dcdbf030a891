-- Lemmas by subject.
pub mod Completed
pub mod Judging
pub mod Readings
pub mod Rooms
pub mod Satisfying
