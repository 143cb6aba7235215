pub mod Shown
pub mod Rules
pub mod Faults
pub mod Laws
