-- The tables that the contracts cite, and their names.
pub mod Tables
pub mod Names
