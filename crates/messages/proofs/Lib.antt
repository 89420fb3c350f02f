-- Lemmas on messages, by topic.
pub mod Shifts
pub mod Chains
pub mod Groups
pub mod Pulls
pub mod Turns
pub mod Laws
pub mod InPlace
pub mod Symbols
pub mod Promised
pub mod Alone
pub mod Once
