pub mod Heading
pub mod Keeping
pub mod Walking
