pub mod Keeping
pub mod Refuting
pub mod Rules
