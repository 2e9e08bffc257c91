-- What a Shape fixes and what an altitude adds (Place), by what a gas is thinned out (Thinning), each with the law that it is densu.
pub mod Place
pub mod Thinning
