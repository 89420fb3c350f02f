-- The meaning of finding and surveying: Finding and Surveying are the pages to believe.
pub mod Finding
pub mod Surveying
pub mod Laws
