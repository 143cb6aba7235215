pub mod Kind
pub mod Checked
