pub mod Edges
pub mod HalfFaces
