-- The definitions that the contracts over a column's rows cite, and the theorems on them.
pub mod FirstBelowList
pub mod Theorems
