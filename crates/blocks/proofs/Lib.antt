-- Lemmas on blocks, by topic.
pub mod Nibbles
pub mod Bits
pub mod Steps
pub mod Laws
pub mod Bounds
pub mod Places
pub mod Unique
pub mod Refused
pub mod Once
pub mod Packing
pub mod Readings
pub mod Promised
