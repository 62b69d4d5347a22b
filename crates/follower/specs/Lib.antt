-- The definitions. The state, its bytes and its fields: States. The meaning: FollowerAnswers and WayAnswers, each answer and
-- what is left after it. The tests that run: Calls, one call on a state and on lent bytes; Lists, lists of calls; Ways, the
-- shortest way. Parts and Layers only serve proofs, as the contracts of parts of the code.
pub mod States
pub mod FollowerAnswers
pub mod Calls
pub mod Lists
pub mod Parts
pub mod Ways
pub mod WayAnswers
pub mod Layers
