-- Lemmas on the place for the text.
pub mod Filling
