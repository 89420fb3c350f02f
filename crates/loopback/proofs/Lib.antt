-- Lemmas on damaged lines and on readings, by topic.
pub mod Flips
pub mod Readable
pub mod Homes
pub mod Journeys
