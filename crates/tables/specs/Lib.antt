pub mod Tables
pub mod Refusals
pub mod Answers
pub mod Texts
