-- The definitions. The meaning: Words, First, Packed, Sets, Listed, Actions, Tables, and of Bits Bytes and HighestByte. The tests
-- that run: has_bit, set_bytes, action_bytes and list_from in Bits, bits_below in Counts.
pub mod Bits
pub mod Words
pub mod First
pub mod Counts
pub mod Packed
pub mod Sets
pub mod Actions
pub mod Tables
pub mod Listed
