-- What gtd7d has of gtd7, and its part of demand 3.
use Rattle.std.specs.Prelude.{◌≡◌, refl, Bool, true, false, cond, List, ℕ, ◌<◌, ℤ, length, set, Float}
use Rattle.std.proofs.Common.{sym, ◌∙◌, ap, subst, lit<, get_or-set_same, get_or-set_other}
use Rattle.std.specs.Float.{nan}
use Rattle.std.specs.Float.Ieee.{ne, of_bits}
use Rattle.numbers.specs.Arithmetic.{◌⊘◌, ◌‼◌}
use Rattle.numbers.specs.Literals.{0·0, 1000·0}
use Rattle.refusals.specs.Refusals.{Accepted, Answer, accepted_of}
use Rattle.setting.specs.declared.Input.{Input}
use Rattle.setting.specs.Switches.{on_off, sw_at}
use Rattle.atmosphere.specs.Atmosphere.{eleven_of, answer_of, row_after}
use Rattle.shutoff.specs.Shut.{one, Alike}
use Rattle.shutoff.proofs.Theorems.{demand_3}
use Rattle.drag_sum.specs.DragSum.{drag_sum_of, drag_mass_of, dragged_of}
use Rattle.drag.specs.Drag.{drag_of, drag_after}
use Rattle.drag.specs.Length.{eleven_long}

-- an entry of one of two lists is that of one of two others, where those agree
chosen_entry : (b : Bool) (ys zs xs : List Float) (k : ℕ) → ys ‼ k ≡ zs ‼ k → cond b ys xs ‼ k ≡ cond b zs xs ‼ k
chosen_entry true ys zs xs k e = e
chosen_entry false ys zs xs k e = refl

-- Every number but d[5] is gtd7's, whatever the answer and the lent row.
pub others_kept : (w : List ℤ) (n : Input) (xs : List Float) (k : ℕ) → (k ≡ 5 → ⊥) → drag_after w n xs ‼ k ≡ row_after w n xs ‼ k
unfolding drag_after row_after drag_of dragged_of
others_kept w n xs k h =
    let d = eleven_of w n in
    chosen_entry (accepted_of (answer_of w n (length xs))) (set d 5 (drag_mass_of (sw_at w 0) d)) d xs k (get_or-set_other d 5 k (drag_mass_of (sw_at w 0) d) nan h)

-- d[5] of an accepted call is summed anew from the numbers of gtd7's row.
pub mass_summed : (w : List ℤ) (n : Input) (xs : List Float) → answer_of w n (length xs) ≡ Accepted
    → drag_after w n xs ‼ 5 ≡ drag_mass_of (sw_at w 0) (row_after w n xs)
unfolding drag_after row_after drag_of dragged_of
mass_summed w n xs e =
    let d = eleven_of w n in
    ap (λ (r : Answer). cond (accepted_of r) (set d 5 (drag_mass_of (sw_at w 0) d)) xs ‼ 5) e
    ∙ get_or-set_same d 5 (drag_mass_of (sw_at w 0) d) nan (subst (λ (m : ℕ). 5 < m) (sym (eleven_long w n)) (lit< tt))
    ∙ sym (ap (λ (r : Answer). drag_mass_of (sw_at w 0) (cond (accepted_of r) d xs)) e)

by_one : (b : Bool) (x y : Float) → cond (ne (on_off b) 0·0) x y ≡ cond b x y
unfolding ne of_bits
by_one true x y = refl
by_one false x y = refl

-- d[5] is divided by 1000 when switch 0, as given, is 1, and only then.
pub in_kilograms : (w : List ℤ) (d : List Float) → drag_mass_of (sw_at w 0) d ≡ cond (one w 0) (drag_sum_of d ⊘ 1000·0) (drag_sum_of d)
unfolding drag_mass_of
in_kilograms w d = by_one (one w 0) (drag_sum_of d ⊘ 1000·0) (drag_sum_of d)

-- an accepted call's row is made of gtd7's and switch 0 alone
pub dragged : (w : List ℤ) (n : Input) (xs : List Float) → answer_of w n (length xs) ≡ Accepted → drag_after w n xs ≡ dragged_of (sw_at w 0) (row_after w n xs)
unfolding drag_after row_after drag_of
dragged w n xs e =
    ap (λ (r : Answer). cond (accepted_of r) (dragged_of (sw_at w 0) (eleven_of w n)) xs) e
    ∙ sym (ap (λ (r : Answer). dragged_of (sw_at w 0) (cond (accepted_of r) (eleven_of w n) xs)) e)

-- Demand 3 for gtd7d. For every switch row and any two accepted runs of gtd7d on records alike under that row, whatever the two lent rows
-- held: both write the same eleven numbers, and these are the definition's for the one record and for the other.
pub demand_3_drag : (w : List ℤ) (a b : Input) (xs ys : List Float)
    → Alike w a b
    → answer_of w a (length xs) ≡ Accepted
    → answer_of w b (length ys) ≡ Accepted
    → (drag_after w a xs ≡ drag_after w b ys) × (drag_after w a xs ≡ drag_of w a) × (drag_after w b ys ≡ drag_of w b)
unfolding drag_of
demand_3_drag w a b xs ys like e f =
    let h = demand_3 w a b xs ys like e f in
    let p = dragged w a xs e in
    let q = dragged w b ys f in (
      p ∙ ap (dragged_of (sw_at w 0)) h.0 ∙ sym q,
      p ∙ ap (dragged_of (sw_at w 0)) h.1,
      q ∙ ap (dragged_of (sw_at w 0)) h.2,
    )
