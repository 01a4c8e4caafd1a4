pub mod TableJoins
