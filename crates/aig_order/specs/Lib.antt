pub mod Firsts
pub mod Gates
pub mod Reaching
pub mod Takings
