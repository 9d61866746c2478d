pub mod Hex
pub mod Numbers
pub mod Rows
pub mod Tally
pub mod Text
pub mod Words
