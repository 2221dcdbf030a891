pub mod Replies
pub mod Searches
pub mod Verdicts
