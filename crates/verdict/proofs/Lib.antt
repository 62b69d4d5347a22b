-- The laws.
pub mod Files
pub mod Layouts
pub mod Stages
pub mod Verdicts
