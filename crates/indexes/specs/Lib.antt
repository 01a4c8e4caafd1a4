pub mod Rule
pub mod Lists
pub mod Faces
pub mod Edges
pub mod Gathered
