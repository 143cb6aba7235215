pub mod Overwriting
pub mod Files
pub mod RowsStand
pub mod BodiesStand
