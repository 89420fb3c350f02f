-- Lemmas on words.
pub mod Same
