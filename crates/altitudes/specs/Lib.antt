-- The answer to a column (Altitudes), its refusal 10 on cases (Cases), and the loop that sees all in range (Within).
pub mod Altitudes
pub mod Cases
pub mod Within
