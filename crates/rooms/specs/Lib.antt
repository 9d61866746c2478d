pub mod Refusals
pub mod Meaning
pub mod Record
pub mod Window
pub mod Kinds
pub mod Calls
