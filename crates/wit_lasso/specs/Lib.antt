pub mod FormulaNets
pub mod PathParts
pub mod Satisfaction
pub mod Seeing
pub mod Unfoldings
