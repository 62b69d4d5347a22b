-- The definitions: the starred cases as a table, and the test that runs them. Nothing here only serves proofs.
pub mod Cases
