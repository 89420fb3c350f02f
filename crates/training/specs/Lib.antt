-- The meaning of training records: Numbers and Fields are the pages to believe. Fitting has lemmas.
pub mod Numbers
pub mod Fields
pub mod Making
pub mod Refusals
pub mod Fitting
