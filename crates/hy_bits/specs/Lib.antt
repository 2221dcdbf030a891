pub mod Binary
pub mod BinaryLaws
pub mod Letter
pub mod Rows
pub mod RowLaws
pub mod Sets
