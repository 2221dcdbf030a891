pub mod Contents
pub mod ErrorLines
pub mod Faults
pub mod Steps
