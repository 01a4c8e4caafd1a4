pub mod EdgePlaces
pub mod RowEdges
pub mod Steps
pub mod Walking
pub mod Refused
pub mod Returning
pub mod Opposed
