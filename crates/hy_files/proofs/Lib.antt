pub mod Failing
pub mod FileNames
pub mod Texts
