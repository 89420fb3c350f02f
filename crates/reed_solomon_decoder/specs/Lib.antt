-- Which errors have the syndromes of a line.
pub mod Errors
pub mod Kernel
pub mod Exponents
pub mod Listed
pub mod Decoded
