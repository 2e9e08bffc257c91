-- The definitions that the contracts of this crate cite (FirstBelow; Walk: the way of the code), and the theorems on them.
pub mod FirstBelow
pub mod Walk
pub mod Theorems
