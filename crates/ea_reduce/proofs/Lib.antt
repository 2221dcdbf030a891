pub mod Adding
pub mod Each
pub mod Jobs
pub mod Maps
pub mod Reducing
pub mod Refusing
pub mod Same
