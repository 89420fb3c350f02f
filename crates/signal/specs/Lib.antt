-- The meaning of training signals: Signal is the page to believe.
pub mod Signal
pub mod Calls
pub mod Laws
pub mod Tape
pub mod Inner
