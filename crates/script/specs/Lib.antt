pub mod Fields
pub mod Openings
pub mod Commands
pub mod Shown
