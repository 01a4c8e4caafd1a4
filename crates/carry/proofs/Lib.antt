pub mod Lists
pub mod Ways
pub mod Moves
pub mod Sweep
pub mod Judgement
pub mod Verdicts
pub mod Ranges
pub mod Places
