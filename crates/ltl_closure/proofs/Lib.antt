pub mod Closing
pub mod Inserting
pub mod Marking
pub mod Visiting
pub mod Tasks
pub mod OneBody
pub mod Roots
pub mod Finding
