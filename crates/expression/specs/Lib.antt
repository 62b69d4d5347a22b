-- The definitions. The meaning: Charts, WellFormed and NodesChecked in Table, and the bytes of a table in NodeBytes. The
-- tests that run: check_of in Table, and Body.
pub mod Table
pub mod Kinds
pub mod Body
pub mod Charts
pub mod NodeBytes
-- What only serves proofs, the code's way there: the uses, where each node leads, the keys of the leaves and their
-- ranks, the first actions as words, and the transitions in order.
pub mod Uses
pub mod Targets
pub mod Keys
pub mod Words
pub mod Listing
