pub mod Records
pub mod Searches
pub mod Listed
pub mod Grounds
pub mod Nets
