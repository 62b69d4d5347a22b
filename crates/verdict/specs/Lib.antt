-- The definitions; none only serves proofs. Both files have the tests, which contracts cite, and the meaning.
-- `records_of` is the test of 1 to 4; `file_of`, `Whole` and `RecordsChecked` are what it means
pub mod Files
-- `verdict_of` is the test of the whole file; `Fails` says which check fails, those before it passing; `BothPass` and
-- `ComeToPairs` are what the code's parts require
pub mod Verdicts
