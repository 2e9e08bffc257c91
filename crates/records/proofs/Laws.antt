-- The season that is kept, and the outcomes of a record.
use Prim.Native.Nat.{ℕ, ◌+◌, ◌-◌, ◌*◌}
use Rattle.std.specs.Prelude.{Option, Some}
use mathlib.Core.Path.{◌≡◌, refl, sym, ap, ◌∙◌}
use mathlib.Core.Bool.{Bool, true, false, cond, not, false≢true}
use mathlib.Core.List.{List}
use native.Mathlib.Numerals.{add-one}
use native.Mathlib.Omega.{arith}
use borrow.Rule.Slice.PartMut.{put_mid}
use lib.IntN.{ℤ}
use lib.ListN.{length, take, drop, set}
use lib.Ieee.{Float, binary64, of_int}
use mir.Syntax.{w32}
use mir.Val.{of_z, to_z}
use Rattle.numbers.specs.Booleans.{both}
use Rattle.refusals.specs.Refusals.{accepted_of}
use Rattle.setting.specs.declared.Input.{Input}
use Rattle.needed_sets.specs.declared.Need.{Need}
use Rattle.needed_sets.specs.NeededSets.{need_at}
use Rattle.season.specs.Season.{Seasoned, season_into}
use Rattle.season.proofs.Filled.{seasoned}
use Rattle.expansion_values.specs.declared.RecordValues.{RecordValues}
use Rattle.expansion_values.specs.ExpansionValues.{record_values_of}
use Rattle.expansion_values.specs.Sets.{record_values_given}
use Rattle.expansion_values.specs.InSeason.{longitude_in, record_in_season}
use Rattle.acceptance.specs.Acceptance.{record_answer}
use Rattle.atmosphere.specs.Atmosphere.{eleven_of, answer_of, row_after}
use Rattle.host_record.specs.Record.{code_of}
use Rattle.records.specs.declared.KeptSeason.{KeptSeason}
use Rattle.records.specs.Records.{same_need, KeptRight, answers_to, rows_to}
use Rattle.record_list.specs.RecordList.{record_at}

-- ---- whether a season serves

agreed_is : (a b : Bool) → cond a b (not b) ≡ true → a ≡ b
agreed_is true true e = refl
agreed_is true false e = absurd (false≢true e)
agreed_is false true e = absurd (false≢true e)
agreed_is false false e = refl

abbrev needs : Bool → Bool → Bool → Bool → Bool → Bool → Need
needs high pt ps nodes meso tropo = record { high = high; pt = pt; ps = ps; nodes = nodes; meso = meso; tropo = tropo }

field_by_field : (a b : Need) → a.high ≡ b.high → a.pt ≡ b.pt → a.ps ≡ b.ps → a.nodes ≡ b.nodes → a.meso ≡ b.meso → a.tropo ≡ b.tropo
    → needs a.high a.pt a.ps a.nodes a.meso a.tropo ≡ needs b.high b.pt b.ps b.nodes b.meso b.tropo
field_by_field a b e0 e1 e2 e3 e4 e5 = rw (e0, e1, e2, e3, e4, e5)

same_is : (a b : Need) → same_need a b ≡ true → a ≡ b
same_is a b e =
    let five = both _ (cond a.tropo b.tropo (not b.tropo)) e in
    let four = both _ (cond a.meso b.meso (not b.meso)) five.0 in
    let three = both _ (cond a.nodes b.nodes (not b.nodes)) four.0 in
    let two = both _ (cond a.ps b.ps (not b.ps)) three.0 in
    let one = both (cond a.high b.high (not b.high)) (cond a.pt b.pt (not b.pt)) two.0 in
    field_by_field a b (agreed_is a.high b.high one.0) (agreed_is a.pt b.pt one.1) (agreed_is a.ps b.ps two.1)
    (agreed_is a.nodes b.nodes three.1) (agreed_is a.meso b.meso four.1) (agreed_is a.tropo b.tropo five.1)

-- two signed numbers with the same 32 bits
same_bits : (x y : ℤ) → to_z w32 (of_z w32 x) ≡ x → to_z w32 (of_z w32 y) ≡ y → of_z w32 x ≡ of_z w32 y → x ≡ y
same_bits x y e f g = sym e ∙ ap (to_z w32) g ∙ f

pub serves_law : (k : KeptSeason) (doy : ℤ) (a : Need) (same : Bool) → same ≡ same_need k.need a → to_z w32 (of_z w32 k.doy) ≡ k.doy → to_z w32 (of_z w32 doy) ≡ doy
    → of_z w32 k.doy ≡ of_z w32 doy → same ≡ true → (k.doy ≡ doy) × (k.need ≡ a)
serves_law k doy a same e f g h t = (same_bits k.doy doy f g h, same_is k.need a (sym e ∙ t))

pub kept_serves : (w : List ℤ) (kept : Option KeptSeason) (s : List Float) (k : KeptSeason) (doy : ℤ) (a : Need) → KeptRight w kept s → kept ≡ Some k → k.doy ≡ doy → k.need ≡ a
    → Seasoned (of_int binary64 doy) a (longitude_in w) s
kept_serves w kept s k doy a right is e f = rw (e, f) at ((rw is at right).1)

pub filled_serves : (w : List ℤ) (n : Input) (a : Need) (s t : List Float) (doy : Float) (long : Bool) → length s ≡ 156
    → t ≡ season_into doy a long s → long ≡ longitude_in w → doy ≡ of_int binary64 n.doy → Seasoned (of_int binary64 n.doy) a (longitude_in w) t
filled_serves w n a s t doy long len e el ed = rw (e, el, ed) (seasoned (of_int binary64 n.doy) a (longitude_in w) s len)

-- ---- the row out of a season

pub values_are : (w : List ℤ) (n : Input) (a : Need) (s : List Float) (v : RecordValues) → v ≡ record_values_given w n a s → Seasoned (of_int binary64 n.doy) a (longitude_in w) s
    → a ≡ need_at n.alt → v ≡ record_values_of w n (need_at n.alt)
values_are w n a s v e q f = e ∙ record_in_season w n a s q ∙ ap (record_values_of w n) f

-- ---- a record's answer and row

eleven_long : (w : List ℤ) (n : Input) (len : ℕ) → len ≡ 11 → answer_of w n len ≡ record_answer w n
unfolding answer_of
eleven_long w n len e = rw e

module _ (w : List ℤ) (n : Input) (xs : List Float) (len : length xs ≡ 11) where
  pub refused_row : accepted_of (record_answer w n) ≡ false → xs ≡ row_after w n xs
  unfolding row_after
  refused_row t = rw (eleven_long w n (length xs) len, t)

  pub accepted_row : (ys : List Float) → accepted_of (record_answer w n) ≡ true → ys ≡ eleven_of w n → ys ≡ row_after w n xs
  unfolding row_after
  accepted_row ys t e = rw (eleven_long w n (length xs) len, t) e

-- ---- one more record

module _ (w days : List ℤ) (f l : List Float) (k : ℕ) (n : Input) (en : n ≡ record_at days f l k) where
  pub next_answer : (xs answers : List ℕ) (x : ℕ) → answers ≡ answers_to w days f l k xs → x ≡ code_of (record_answer w n) → set answers k x ≡ answers_to w days f l (k + 1) xs
  unfolding answers_to
  next_answer xs answers x ea ex = rw (add-one k, ea, ex, en)

  pub next_row : (xs rows row : List Float) → rows ≡ rows_to w days f l k xs → row ≡ row_after w n (take (11 * k + 11 - 11 * k) (drop (11 * k) rows))
      → put_mid (11 * k) (11 * k + 11 - 11 * k) rows row ≡ rows_to w days f l (k + 1) xs
  unfolding rows_to
  next_row xs rows row er ew =
      let eleven : 11 * k + 11 - 11 * k ≡ 11 = omega arith in
      rw (add-one k, eleven, rw (eleven, en) at ew, er)
