pub mod FrontLassos
pub mod Seeing
pub mod TracedLines
pub mod Witnessed
