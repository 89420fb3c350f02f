-- The code's meaning is that of the crate reed_solomon_algebra at t = 7; these files say what its parts do.
pub mod Corrected
pub mod Repaired
