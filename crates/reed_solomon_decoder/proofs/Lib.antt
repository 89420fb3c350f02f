-- Lemmas of the decoder, for any t and n, in the order in which they build on each other.
pub mod Weighing
pub mod Roots
pub mod Places
pub mod Rows
pub mod Turns
pub mod Values
pub mod Composition
pub mod Exponents
pub mod Searching
pub mod Listed
