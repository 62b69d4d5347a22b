-- The promises as statements: all of it is meaning, there is no test here and nothing that only serves proofs.
-- all of them, in one record: the page to open first
pub mod Promises
-- demand 1, a page a call: each answer by its number; document 02's calls too
pub mod Numbered
pub mod Check
pub mod ExpressionChart
pub mod Removal
pub mod Follower
pub mod ShortestWay
pub mod LoopsTogether
pub mod Extraction
pub mod Spoiling
pub mod VertexTransitions
-- what an accepted file is
pub mod Accepted
pub mod Demand2
pub mod Demand3
