pub mod Chains
pub mod Blocks
pub mod Rows
pub mod Entries
pub mod Laws
