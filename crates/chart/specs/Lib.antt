-- The definitions. The meaning: Bodies, Refusals, Parts, Steps, Systems, Standing, Images, Numbered. The tests that run: Checks
-- and Leaving. Codes only serves the proof of `check`.
pub mod Bodies
pub mod Checks
pub mod Refusals
pub mod Leaving
pub mod Parts
pub mod Codes
pub mod Steps
pub mod Systems
pub mod Standing
pub mod Images
pub mod Numbered
