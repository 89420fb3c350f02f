-- Words of 66 bits. What to believe: Types, Raw, Words and Refusals.
pub mod Types
pub mod Raw
pub mod Words
pub mod Refusals
