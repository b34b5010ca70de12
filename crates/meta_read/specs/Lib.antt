pub mod Codes
pub mod Members
pub mod Names
pub mod Tops
pub mod Rows
pub mod Metadata
pub mod RowByRow
