-- Lemmas on a port, by topic.
pub mod Counting
pub mod Promised
