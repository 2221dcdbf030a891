pub mod Claims
mod Due
mod Following
pub mod Last
mod Named
mod Once
pub mod Reading
mod Showing
mod Worded
