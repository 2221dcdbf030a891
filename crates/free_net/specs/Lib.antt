pub mod FreeNets
pub mod Reduced
