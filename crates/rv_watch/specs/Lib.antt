pub mod Agreeing
pub mod At
pub mod ByEvents
pub mod Courses
pub mod Input
pub mod Runs
pub mod Texts
pub mod Words
