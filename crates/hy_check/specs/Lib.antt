pub mod Answers
pub mod Contents
pub mod Judging
pub mod Ready
pub mod Rules
pub mod Shown
pub mod Texts
pub mod Words
