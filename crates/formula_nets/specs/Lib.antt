pub mod Posed
pub mod SafeNets
pub mod Witnesses
