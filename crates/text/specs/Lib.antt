-- The text of a loop. What to believe: Text and Refusals, and Laws for what is proved above Text; Reading, Tokens and Parts serve proofs.
pub mod Refusals
pub mod Text
pub mod Laws
pub mod Reading
pub mod Tokens
pub mod Parts
