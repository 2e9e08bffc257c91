-- No expansion reads entry 0 of the switch row or an entry from 15 on: two Views that differ in these entries alone have the same values of the expansions.
use Rattle.std.specs.Prelude.{ℕ, ◌+◌, ◌<◌, ◌≡◌, refl, List, [], ◌∷◌, Float}
use Rattle.std.proofs.Common.{sym, ap, ap₂, ◌∙◌, lit<}
use Rattle.numbers.specs.Arithmetic.{◌‼◌}
use Rattle.numbers.specs.Literals.{0·0}
use Rattle.setting.specs.declared.State.{State}
use Rattle.setting.specs.declared.View.{View}
use Rattle.setting.specs.declared.Left.{Left}
use Rattle.legendre.specs.Legendre.{rows_of}
use Rattle.expansion_parts.specs.ExpansionParts.{t8_of, history8_of, daily8_of, t10_of, t11_of, t12_of, history12_of, daily12_of, weighted_of, weighted_from, t8s_of, t10s_given}
use Rattle.expansion.specs.declared.Carried.{Carried}
use Rattle.expansion.specs.Expansion.{first_terms_of, carried_of, globe7_given, globe7_value, turns_after_of, state_after, globe7_of, glob7s_given, glob7s_from_given, glob7s_from, glob7s_of}
use Rattle.needed_sets.specs.declared.Need.{Need}
use Rattle.expansion_values.specs.ExpansionValues.{legendre_in, quiet_of, active_of, wide_of, expansion_values_of}

-- a View with other rows
abbrev pub with_rows : View → List Float → List Float → View
with_rows v sw swc =
    record {
      sw = sw;
      swc = swc;
      doy = v.doy;
      sec = v.sec;
      g_lat = v.g_lat;
      g_long = v.g_long;
      lst = v.lst;
      ap = v.ap;
      ap_array = v.ap_array;
      df = v.df;
      dfa = v.dfa;
      dfa2 = v.dfa2;
      slat = v.slat;
      clat = v.clat;
      slong = v.slong;
      clong = v.clong;
      st = v.st;
      ct = v.ct;
      s2t = v.s2t;
      c2t = v.c2t;
      s3t = v.s3t;
      c3t = v.c3t;
      cos_year = v.cos_year;
      cos_half_year = v.cos_half_year;
      cos_local = v.cos_local;
      cos_ut = v.cos_ut;
      cos_ut_long = v.cos_ut_long;
      cos_long = v.cos_long;
    }

-- the same entries 1 to 14: entry 1 + k
abbrev pub Agree : List Float → List Float → Type 0
Agree a b = (k : ℕ) → k < 14 → a ‼ (1 + k) ≡ b ‼ (1 + k)

-- the entries 1 to 14 alone
abbrev fourteen_after_zero : List Float → List Float
fourteen_after_zero a = 0·0 ∷ (a ‼ 1) ∷ (a ‼ 2) ∷ (a ‼ 3) ∷ (a ‼ 4) ∷ (a ‼ 5) ∷ (a ‼ 6) ∷ (a ‼ 7) ∷ (a ‼ 8) ∷ (a ‼ 9) ∷ (a ‼ 10) ∷ (a ‼ 11) ∷ (a ‼ 12) ∷ (a ‼ 13) ∷ (a ‼ 14) ∷ []

abbrev globe7_result : Float → State → Left Float
globe7_result x a = record { value = x; state = a }

abbrev narrowed : View → View
narrowed v = with_rows v (fourteen_after_zero v.sw) (fourteen_after_zero v.swc)

fourteen_agree : (a b : List Float) → Agree a b → fourteen_after_zero a ≡ fourteen_after_zero b
fourteen_agree a b e =
    rw (e 0 (lit< tt), e 1 (lit< tt), e 2 (lit< tt), e 3 (lit< tt), e 4 (lit< tt), e 5 (lit< tt), e 6 (lit< tt), e 7 (lit< tt), e 8 (lit< tt), e 9 (lit< tt), e 10 (lit< tt), e 11 (lit< tt), e 12 (lit< tt), e 13 (lit< tt))

narrowed_agree : (v : View) (sw swc : List Float) → Agree v.sw sw → Agree v.swc swc → narrowed v ≡ narrowed (with_rows v sw swc)
narrowed_agree v sw swc e f = ap₂ (with_rows v) (fourteen_agree v.sw sw e) (fourteen_agree v.swc swc f)

-- ---- a View's entries 1 to 14 alone give the same

globe7_value_narrowed : (v : View) (p : List Float) (g : List (List Float)) (c : Carried) → globe7_value v p g c ≡ globe7_value (narrowed v) p g c
unfolding globe7_value globe7_given first_terms_of weighted_of weighted_from t8_of history8_of daily8_of t10_of t11_of t12_of history12_of daily12_of
globe7_value_narrowed v p g c = refl

glob7s_narrowed : (v : View) (p : List Float) (g : List (List Float)) (c : Carried) → glob7s_from v p g c ≡ glob7s_from (narrowed v) p g c
unfolding glob7s_from glob7s_from_given glob7s_given weighted_of weighted_from t8s_of t10s_given
glob7s_narrowed v p g c = refl

after_narrowed : (v : View) (p : List Float) (s : State) → state_after v p s ≡ state_after (narrowed v) p s
unfolding state_after turns_after_of
after_narrowed v p s = refl

globe7_narrowed : (v : View) (p : List Float) (s : State) → globe7_of v p s ≡ globe7_of (narrowed v) p s
unfolding globe7_of
globe7_narrowed v p s =
    ap (λ (a : State). globe7_result (globe7_value v p (rows_of a.plg) (carried_of a)) a) (after_narrowed v p s)
    ∙ ap (λ (x : Float). globe7_result x (state_after (narrowed v) p s)) (globe7_value_narrowed v p _ _)

expansion_values_narrowed : (v : View) (n : Need) → expansion_values_of v n ≡ expansion_values_of (narrowed v) n
unfolding expansion_values_of wide_of active_of quiet_of turns_after_of legendre_in globe7_value globe7_given first_terms_of weighted_of weighted_from t8_of history8_of daily8_of t10_of t11_of t12_of history12_of daily12_of glob7s_from glob7s_from_given glob7s_given t8s_of t10s_given
expansion_values_narrowed v n = refl

-- ---- two Views

-- globe7, its value and the State after it
pub globe7_agree : (v : View) (sw swc p : List Float) (s : State) → Agree v.sw sw → Agree v.swc swc → globe7_of v p s ≡ globe7_of (with_rows v sw swc) p s
globe7_agree v sw swc p s e f =
    globe7_narrowed v p s ∙ ap (λ (u : View). globe7_of u p s) (narrowed_agree v sw swc e f) ∙ sym (globe7_narrowed (with_rows v sw swc) p s)

-- glob7s
pub glob7s_agree : (v : View) (sw swc p : List Float) (s : State) → Agree v.sw sw → Agree v.swc swc → glob7s_of v p s ≡ glob7s_of (with_rows v sw swc) p s
unfolding glob7s_of
glob7s_agree v sw swc p s e f =
    glob7s_narrowed v p _ _ ∙ ap (λ (u : View). glob7s_of u p s) (narrowed_agree v sw swc e f) ∙ sym (glob7s_narrowed (with_rows v sw swc) p _ _)

-- and so all that a station holds of them
pub expansion_values_agree : (v : View) (sw swc : List Float) (n : Need) → Agree v.sw sw → Agree v.swc swc → expansion_values_of v n ≡ expansion_values_of (with_rows v sw swc) n
expansion_values_agree v sw swc n e f =
    expansion_values_narrowed v n ∙ ap (λ (u : View). expansion_values_of u n) (narrowed_agree v sw swc e f) ∙ sym (expansion_values_narrowed (with_rows v sw swc) n)
