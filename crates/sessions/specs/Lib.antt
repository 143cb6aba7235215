pub mod Sessions
pub mod View
pub mod Answers
pub mod Commits
