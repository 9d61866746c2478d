pub mod Nodes
pub mod Names
pub mod Refusals
pub mod Reading
pub mod Accepted
pub mod Readers
