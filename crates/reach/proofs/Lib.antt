-- The laws.
pub mod Knowing
pub mod Searches
pub mod Settling
