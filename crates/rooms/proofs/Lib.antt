mod Written
mod Decoded
mod Windows
mod Alike
