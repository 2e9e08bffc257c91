-- The record of a station in its two slices.
pub mod Record
