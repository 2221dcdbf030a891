mod Asking
mod Checking
mod Driving
mod Following
mod Once
mod Turns
