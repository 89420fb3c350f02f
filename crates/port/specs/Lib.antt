-- The port. What to believe: Promise, and Limits, Refusals and Calls for the single call; Runs ties calls to runs.
pub mod Limits
pub mod Refusals
pub mod Calls
pub mod Promise
pub mod Runs
pub mod Checks
