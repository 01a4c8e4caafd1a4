pub mod Lending
pub mod Finding
pub mod Feeding
pub mod Running
pub mod Promised
