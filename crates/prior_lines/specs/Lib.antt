pub mod Form
pub mod Numbers
pub mod Row
pub mod Rows
