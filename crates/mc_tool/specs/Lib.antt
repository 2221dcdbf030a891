pub mod Checking
pub mod Driving
pub mod Rules
pub mod Texts
pub mod Words
