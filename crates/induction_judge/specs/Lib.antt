pub mod Asking
pub mod Good
pub mod Judged
pub mod Reading
pub mod Keeps
