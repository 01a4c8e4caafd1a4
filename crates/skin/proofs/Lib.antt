pub mod Rising
pub mod Sided
pub mod Paired
pub mod SkinWebs
