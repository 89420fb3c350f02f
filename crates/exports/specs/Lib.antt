-- What the calls for other languages answer.
pub mod Answers
