pub mod Classes
pub mod Lexemes
pub mod Tokens
pub mod Lexing
