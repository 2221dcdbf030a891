pub mod Copied
pub mod Deciding
pub mod Growing
pub mod MadeSafe
pub mod OwnSignals
pub mod Rooms
pub mod SameSignals
pub mod Witnessing
