-- The definitions. The meaning: RemovalAnswers, what each answer of 20, 21, 30 and 50 to 52 says; TogetherAnswers, of
-- several loops together, 56 and 57 too. The tests that run: Removals, the answer and the standing bytes after a call,
-- and after a list of calls; Together, those of a call with a list of loops. The others only serve proofs, as the
-- contracts of the code's parts: Loops, Walks, LoopLists.
pub mod Removals
pub mod RemovalAnswers
pub mod Together
pub mod TogetherAnswers
pub mod Loops
pub mod Walks
pub mod LoopLists
