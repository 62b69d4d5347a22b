-- The definitions: what a search along a table of successors reaches, and cycles.
pub mod Searches
