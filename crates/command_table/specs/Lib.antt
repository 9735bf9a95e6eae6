pub mod Rows
pub mod Table
pub mod RowsSeen
pub mod Reasons
pub mod Pages
