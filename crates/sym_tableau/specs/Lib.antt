pub mod Oracles
pub mod Places
