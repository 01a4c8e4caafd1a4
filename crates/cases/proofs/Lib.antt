pub mod Finite
pub mod Calls
pub mod Halves
pub mod Edges
pub mod Webs
pub mod Labels
pub mod Mating
pub mod Passing
