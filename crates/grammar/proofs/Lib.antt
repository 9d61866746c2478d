pub mod Language
pub mod Verdicts
pub mod Loosened
pub mod Unique
pub mod Fates
pub mod Together
