-- Messages of 514 symbols. What to believe: Messages and Refusals; the others serve proofs.
pub mod Refusals
pub mod Messages
pub mod Numbers
pub mod Reading
pub mod Writers
pub mod Readers
