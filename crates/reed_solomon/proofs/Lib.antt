-- Lemmas, by topic.
pub mod Multiples
pub mod Register
pub mod Rests
pub mod Correcting
pub mod AnyLength
pub mod Nearness
pub mod Mending
