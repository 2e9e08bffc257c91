-- Which sets an altitude needs (NeededSets), and their order (Sets).
pub mod NeededSets
pub mod Sets
