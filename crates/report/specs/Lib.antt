-- The definitions. THE MEANING: document 01's number and values for each answer, and which refusal an answer is where
-- several things are asked. There is no test, and nothing that only serves proofs.
pub mod Numbers
pub mod Stages
