-- The definitions. The meaning: LabellingAnswers, what each answer of 30 to 35 says. The test that runs: Labellings.
-- The others only serve proofs, as the contracts of the code's parts: Answers, Given, Loops.
pub mod LabellingAnswers
pub mod Labellings
pub mod Given
pub mod Answers
pub mod Loops
