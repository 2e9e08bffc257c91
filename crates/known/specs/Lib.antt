-- A record known in part: the call's answer and row (Known); what they depend on, and where 1 comes (Theorems, over Fields).
pub mod Known
pub mod Fields
pub mod Theorems
