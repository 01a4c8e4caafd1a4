pub mod Sides
pub mod SkinTables
pub mod Pairing
