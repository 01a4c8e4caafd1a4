pub mod Orders
pub mod Keys
pub mod Entries
pub mod Held
pub mod Search
pub mod Total
pub mod KeyLemmas
