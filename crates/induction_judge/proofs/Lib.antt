pub mod Ending
pub mod Latches
pub mod Places
pub mod Shortness
pub mod Starting
pub mod Walking
pub mod Whole
