-- The laws.
pub mod NumberLaws
pub mod Exits
