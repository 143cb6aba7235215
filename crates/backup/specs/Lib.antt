pub mod Serving
pub mod Answers
