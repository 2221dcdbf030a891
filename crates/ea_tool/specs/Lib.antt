pub mod Agreeing
pub mod Deciding
pub mod Finding
pub mod Judging
pub mod Lassos
pub mod Rules
pub mod Texts
pub mod Words
