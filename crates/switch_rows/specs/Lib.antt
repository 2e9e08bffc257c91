-- Whether two rows give the same expansions (Rows), and what follows for sw and swc (Same).
pub mod Rows
pub mod Same
