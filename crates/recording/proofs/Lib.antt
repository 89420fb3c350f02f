-- Lemmas on markers and on counting from marker to marker.
pub mod Markers
pub mod Counting
pub mod EndToEnd
