-- Symbols and messages, as every layer means them.
pub mod Symbols
