pub mod Found
pub mod Numbers
pub mod Parsers
pub mod Words
