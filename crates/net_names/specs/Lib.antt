pub mod Meanings
pub mod Names
