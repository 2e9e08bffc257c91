-- The definitions that the contracts of this crate cite, and what holds of a station (Stations), of a descent (DescentTheorems) and of many
-- records (RecordTheorems) from C.
pub mod Potirehu
pub mod Stations
pub mod Crossings
pub mod Bands
pub mod Boards
pub mod Constants
pub mod Descents
pub mod DescentTheorems
pub mod FirstBelow
pub mod KnownInPart
pub mod Records
pub mod RecordTheorems
