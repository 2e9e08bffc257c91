-- Demand 3: its list (Shut), and laws of floats (Size, Zero), of sizes (Fit), of switch 9 (Nine) and of the View (PlainView) that its theorem in proofs/ stands on;
-- two sets that differ in the coefficient that globe7 raises (Raised).
pub mod Fields
pub mod Shut
pub mod Nine
pub mod PlainView
pub mod Size
pub mod Zero
pub mod Fit
pub mod Raised
