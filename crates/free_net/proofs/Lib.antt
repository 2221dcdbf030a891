pub mod Agreeing
pub mod Fulfilling
pub mod Naming
pub mod Planning
pub mod Posing
pub mod Roots
pub mod Seeing
