pub mod Claimed
pub mod GoodTexts
pub mod Written
