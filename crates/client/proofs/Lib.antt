-- Lemmas on sessions.
pub mod Finish
