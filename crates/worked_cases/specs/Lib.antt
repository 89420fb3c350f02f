-- The worked cases of the formats. What to believe: Cases.
pub mod Cases
