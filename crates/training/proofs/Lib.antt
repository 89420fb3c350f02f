-- Lemmas on the numbers of records.
pub mod Numbering
pub mod OneRecord
