-- Lemmas of the codes, in the order in which they build on each other.
pub mod Metric
pub mod Polynomials
pub mod KeyLemma
pub mod Locators
pub mod Differences
pub mod Generator
pub mod Division
pub mod Divides
pub mod Encodes
