pub mod Lexemes
pub mod Scans
