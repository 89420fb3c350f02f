-- What the client's calls answer.
pub mod Sessions
