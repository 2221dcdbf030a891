pub mod Sublists
pub mod Settled
pub mod Starting
pub mod Searching
pub mod Splitting
pub mod Standings
pub mod Leavings
pub mod Choosing
