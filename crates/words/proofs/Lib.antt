pub mod Cutting
pub mod Hexing
pub mod Lining
pub mod Reading
