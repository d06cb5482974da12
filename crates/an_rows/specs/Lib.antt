pub mod Format
pub mod RowTree
pub mod Valid
pub mod RowRead
pub mod Cells
pub mod Changes
pub mod Lent
pub mod Migration
