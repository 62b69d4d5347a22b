-- The definitions. The meaning: RelationAnswers, with Related, RelationFits and Passes in Answers. The tests:
-- Relations. The rest of Answers, Suspects, Runs, Classes, Small, Places and Pairs are contracts of the code, and only
-- serve proofs.
pub mod RelationAnswers
pub mod Relations
pub mod Answers
pub mod Suspects
pub mod Runs
pub mod Classes
pub mod Small
pub mod Places
pub mod Pairs
