-- Lemmas on texts, by topic.
pub mod Faults
pub mod Alike
pub mod Numbers
pub mod Steps
pub mod Hexadecimal
pub mod Stands
pub mod Inverses
pub mod Firsts
