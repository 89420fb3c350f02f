-- The field of 1,024 elements and its laws.
pub mod Field
pub mod Laws
