pub mod Edges
pub mod Mating
