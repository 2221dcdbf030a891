pub mod Agreeing
pub mod Monitoring
pub mod Refused
pub mod Rules
pub mod Texts
pub mod Watching
pub mod Words
