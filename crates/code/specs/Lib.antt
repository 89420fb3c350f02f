-- The meaning of codes. Begin with Codes; Calls says what the calls do, Layers what the layers make of a code.
-- From Metric on stand lemmas: the law of each code is a member of its impl, and cites them.
pub mod Distance
pub mod Codes
pub mod Refusals
pub mod Calls
pub mod Sequence
pub mod Layers
pub mod Copies
pub mod Metric
pub mod Layered
pub mod Once
pub mod Scrambling
pub mod Recur
pub mod Sums
