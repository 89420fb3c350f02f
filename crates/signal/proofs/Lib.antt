-- Lemmas on bits, cells, fields and the pattern, and on what is sent and read of them.
pub mod Bits
pub mod Levels
pub mod Recorded
pub mod Sending
pub mod Standing
pub mod Cells
pub mod Seen
pub mod FieldBits
pub mod Pattern
pub mod Sent
pub mod Whole
pub mod Carried
pub mod SignalParts
pub mod Patterned
pub mod OneSignal
pub mod Once
