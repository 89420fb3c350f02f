-- The meaning of a refusal's number.
pub mod Layers
