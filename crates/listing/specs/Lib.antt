pub mod Said
pub mod Listing
pub mod Faults
pub mod Loaded
pub mod Shown
