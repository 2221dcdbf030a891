pub mod Classes
mod Following
pub mod Settled
pub mod Shelves
pub mod Silence
pub mod Steps
