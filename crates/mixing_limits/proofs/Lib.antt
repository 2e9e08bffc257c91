-- Laws about where species are mixed.
pub mod Some
