pub mod Naming
pub mod Numbers
pub mod Readings
pub mod Symbols
