-- The laws: the theorems over bytes, then what the code's parts do.
pub mod Counting
pub mod Labellings
pub mod Later
pub mod Seen
pub mod Sifting
pub mod Firsts
pub mod Given
pub mod Runs
pub mod Collecting
pub mod Lows
pub mod Sizes
pub mod Reaching
pub mod Nested
pub mod Onward
pub mod Loops
pub mod Entries
pub mod Answers
