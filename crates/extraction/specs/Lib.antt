-- The definitions. The meaning: what document 02 says of each answer.
pub mod ExtractionAnswers
-- The tests that run: the answer, and the lent bytes after it.
pub mod Extractions
-- What only serves proofs: what the writers of texts and sums are given, and leave in the table of nodes.
pub mod Writers
