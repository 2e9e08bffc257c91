-- The definitions that the contracts of this crate cite, and the forms as texts.
pub mod Grammar
pub mod Forms
