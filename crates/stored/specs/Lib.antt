-- The numbers that a station stores and the row out of them (Stored), that this row is gtd7's (Rows), and so the record's (Eleven); rows out of numbers to which parts are
-- added (Reached).
pub mod Stored
pub mod Rows
pub mod Reached
pub mod Eleven
