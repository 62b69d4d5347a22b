-- The proofs of the promises.
pub mod Promises
pub mod Numbered
pub mod Check
pub mod ExpressionChart
pub mod Removal
pub mod Follower
pub mod ShortestWay
pub mod LoopsTogether
pub mod TextRelations
pub mod Extraction
pub mod Spoiling
pub mod VertexTransitions
pub mod Accepted
pub mod Demand2
pub mod Demand3
