pub mod Parts
pub mod Answers
pub mod States
pub mod Stages
pub mod Steps
pub mod Tries
pub mod Runs
pub mod Promise
