-- `natural_logarithm::digits` meets its contract. Assumes nothing.
use mathlib.Core.Path.{◌≡◌, sym, ap, ◌∙◌, subst}
use Prim.Native.Nat.{ℕ, ◌+◌, ◌-◌, ◌*◌, ◌/◌, ◌^◌, ◌≤◌}
use native.Mathlib.Omega.{arith}
use lib.ListN.{get_or}
use Rattle.logarithm_tables.specs.Tables.{logarithms}
use Rattle.natural_logarithm.specs.Log.{log1m_of, short_of, log_within, difference_of}
use Rattle.natural_logarithm.proofs.LogBound.{logarithms_le, short_some, short_le}
use Rattle.natural_logarithm.proofs.LogCases.{difference_shift}
use Rattle.natural_logarithm.proofs.digits.Lts as lts
use Rattle.natural_logarithm.proofs.digits.Tie as tie
use Rattle.natural_logarithm.proofs.digits.Reads as reads
use Rattle.natural_logarithm.proofs.digits.Goals as goal

-- the facts known there
abbrev After-log1m : Type 0
After-log1m = lts.After-log1m tie.the-claims reads.Pre reads.Post

-- the facts known there
abbrev After-piece_at-piece : Type 0
After-piece_at-piece = lts.After-piece_at tie.the-claims reads.Pre reads.Post

-- the table's reciprocal leaves something, and little
module _ (c : After-piece_at-piece) where
  abbrev t : ℕ
  t = c.args.t

  product_le : (t + 2 ^ 52) * c.piece_at-piece.result.0 ≤ 2 ^ 62
  product_le = subst (λ (r : ℕ). (t + 2 ^ 52) * r ≤ 2 ^ 62) (sym c.piece_at-piece.ensures.0) (short_some t c.requires.2)

  left_le : short_of t c.piece_at-piece.result.0 ≤ 2470000000000000
  left_le = subst (λ (r : ℕ). short_of t r ≤ 2470000000000000) (sym c.piece_at-piece.ensures.0) (short_le t c.requires.2)

  entry_le : c.piece_at-piece.result.1 ≤ 2 ^ 58
  entry_le = subst (λ (n : ℕ). n ≤ 2 ^ 58) (sym c.piece_at-piece.ensures.1) (logarithms_le (t / 2 ^ 45))

module _ (c : After-log1m) where
  abbrev piece : After-piece_at-piece
  piece = c.before.before.before

  abbrev w : ℕ
  w = (piece.piece_at-piece.result.1 + 2 ^ 58 - c.log1m.result) / 32

  -- less than 1 and log 2, and 1 more
  w_lt : w ≤ 2 ^ 54
  w_lt = cut piece.piece_at-piece.result.1 c.log1m.result (entry_le piece)
    where
      cut : (a s : ℕ) → a ≤ 2 ^ 58 → (a + 2 ^ 58 - s) / 32 ≤ 2 ^ 54
      cut a s h = omega arith

  within_is : w ≡ log_within (t piece)
  within_is =
      ap (λ (a : ℕ). (a + 2 ^ 58 - c.log1m.result) / 32) piece.piece_at-piece.ensures.1
      ∙ ap (λ (s : ℕ). (get_or logarithms (t piece / 2 ^ 45) 0 + 2 ^ 58 - s) / 32) (c.log1m.ensures.0 ∙ ap (λ (r : ℕ). log1m_of (short_of (t piece) r)) piece.piece_at-piece.ensures.0)

-- 1023 + k times log 2, 1 and what is added make 2 ^ 63
even : (k : ℕ) → k ≤ 54 → (1023 + k) * 6243314768165359 + 2 ^ 53 + (2827453829766872559 - k * 6243314768165359) ≡ 2 ^ 63
even k h = omega arith

pub overflow_mul-z : goal.overflow_mul-z
overflow_mul-z c = omega (arith, product_le c.before)

pub overflow_sub-z : goal.overflow_sub-z
overflow_sub-z c = product_le c.before

pub overflow_add-w : goal.overflow_add-w
overflow_add-w c = omega (arith, entry_le c.before.before)

pub log1m-requires : goal.log1m-requires
log1m-requires c = left_le c.before.before

pub overflow_sub-w : goal.overflow_sub-w
overflow_sub-w c = omega (arith, c.log1m.ensures.1)

pub overflow_add-e : goal.overflow_add-e
overflow_add-e c = omega (arith, w_lt c)

pub overflow_mul-k : goal.overflow_mul-k
overflow_mul-k c = omega (arith, (piece c).before.requires.0)

pub overflow_sub-k : goal.overflow_sub-k
overflow_sub-k c = omega (arith, (piece c).before.requires.0)

pub overflow_add-e-2 : goal.overflow_add-e-2
overflow_add-e-2 c = omega (arith, w_lt c, (piece c).before.requires.1)

pub returns : goal.returns
returns c =
    let s = (piece c.before).before in
    let k = s.args.k in
    let p = s.args.e * 6243314768165359 in
    let r = 2827453829766872559 - k * 6243314768165359 in
    c.difference.ensures
    ∙ ap (λ (w : ℕ). difference_of (p + w + r) (2 ^ 63)) (within_is c.before)
    ∙ ap (difference_of (p + log_within s.args.t + r)) (sym (even k s.requires.0))
    ∙ difference_shift (p + log_within s.args.t) ((1023 + k) * 6243314768165359 + 2 ^ 53) r
