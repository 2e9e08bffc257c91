-- The definitions that the contracts of this crate cite (DescentOrbits; Lent: the lent memory), and the theorems on them.
pub mod DescentOrbits
pub mod Lent
pub mod Theorems
pub mod Kilometres
