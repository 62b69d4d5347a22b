-- The laws: of the definitions Bytes, Calls, Lists and WayCalls; of the code Finds, Copies, Layers, Narrows and Walks.
pub mod Bytes
pub mod Calls
pub mod Lists
pub mod Finds
pub mod Copies
pub mod Layers
pub mod Narrows
pub mod Walks
pub mod WayCalls
