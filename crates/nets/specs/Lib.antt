pub mod CornerNets
