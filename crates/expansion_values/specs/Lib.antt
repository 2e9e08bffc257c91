-- The definitions that the contracts of this crate cite (ExpansionValues), the order in which the sets' values are worked out (Sets), that they come out
-- of a season (InSeason), the magnetic activity that sets share (Activities), and what lets gtd7 work without State (Settled).
pub mod ExpansionValues
pub mod Sets
pub mod InSeason
pub mod Activities
pub mod Settled
