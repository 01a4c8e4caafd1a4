pub mod Numbers
pub mod Cuts
pub mod Letters
pub mod Ends
pub mod Wholes
pub mod Once
pub mod Runs
pub mod Puts
