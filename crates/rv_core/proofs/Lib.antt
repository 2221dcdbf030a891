mod Answering
mod Arriving
mod Below
mod Bounding
mod Building
mod Calling
pub mod Ending
pub mod Fewer
mod Keepings
mod Leading
mod Lone
mod Looking
mod Making
mod Masking
mod Naming
mod Outcomes
mod Places
mod Seeing
mod SessionLists
mod Sifting
mod Standing
mod Stepping
mod Turning
mod Unmasking
