pub mod RowOperations
