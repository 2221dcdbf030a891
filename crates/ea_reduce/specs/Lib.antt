pub mod Fulfilled
pub mod Joints
pub mod Plans
pub mod Refused
