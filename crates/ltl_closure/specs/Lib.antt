pub mod Bodies
pub mod Closures
pub mod Jobs
pub mod Nodes
pub mod Numbered
pub mod Plain
