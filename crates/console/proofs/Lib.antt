mod Bytes
mod Forms
mod Parting
mod Reading
