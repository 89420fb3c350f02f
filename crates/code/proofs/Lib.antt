-- Lemmas, by topic.
pub mod Off
pub mod Table
pub mod FromFn
