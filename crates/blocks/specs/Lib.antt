-- Blocks of 257 bits. What to believe: Blocks and Refusals; the others serve proofs.
pub mod Refusals
pub mod Blocks
pub mod Numbers
pub mod Reading
pub mod Packed
pub mod Widths
pub mod Filling
pub mod Taking
