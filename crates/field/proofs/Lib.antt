-- Lemmas of the field, for this crate and for the crates above.
pub mod Every
pub mod Linear
pub mod Laws
pub mod Powers
pub mod Lists
pub mod Logs
