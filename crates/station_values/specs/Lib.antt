-- The expansions' values in a station's numbers (StationValues), that entries 0 and 15 to 23 of a row have no part in them (Independent), that sec has none
-- in glob7s' (Seconds), and the whole season of a day (WholeSeason).
pub mod StationValues
pub mod Independent
pub mod Seconds
pub mod WholeSeason
