-- The definitions that every call's answer is said by.
pub mod Refusals
