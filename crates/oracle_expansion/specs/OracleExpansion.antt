-- The calls of globe7 and glob7s on numbers and slices.
use Rattle.std.specs.Prelude.{ℕ, zero, suc, ◌-◌, cond, not, ◌&&◌, Option, None, Some, Result, Ok, Err, List, [], ◌∷◌, eqb, ℤ, length, take, drop, Float}
use Rattle.std.specs.Float.Ieee.{eq}
use Rattle.numbers.specs.Arithmetic.{◌‼◌}
use Rattle.numbers.specs.Literals.{1·0}
use Rattle.setting.specs.declared.State.{State}
use Rattle.setting.specs.declared.Left.{Left}
use Rattle.expansion_calls.specs.declared.ExpansionRefusal.{ExpansionRefusal}
use Rattle.expansion_calls.specs.ExpansionCalls.{refusal_number, refusal_place, globe7_call_of, glob7s_call_of}
use Rattle.host_record.specs.Record.{packed_of, record_of}
use Rattle.oracle_state.specs.OracleState.{state_number}

-- the Legendre values, numbers 31 to 66
unfoldable pub legendre_read : List Float → List Float
legendre_read x = take 36 (drop 31 x)

-- State from its 79 numbers in the order of its fields, the Legendre values from g; dm28 was set where the last is 1
unfoldable pub state_with : List Float → List Float → State
state_with x g =
    record {
      gsurf = x ‼ 0;
      re = x ‼ 1;
      dd = x ‼ 2;
      dm04 = x ‼ 3;
      dm16 = x ‼ 4;
      dm28 = x ‼ 5;
      dm28_set = eq (x ‼ 78) 1·0;
      dm32 = x ‼ 6;
      dm40 = x ‼ 7;
      dm01 = x ‼ 8;
      dm14 = x ‼ 9;
      meso_tn1 = (x ‼ 10) ∷ (x ‼ 11) ∷ (x ‼ 12) ∷ (x ‼ 13) ∷ (x ‼ 14) ∷ [];
      meso_tn2 = (x ‼ 15) ∷ (x ‼ 16) ∷ (x ‼ 17) ∷ (x ‼ 18) ∷ [];
      meso_tn3 = (x ‼ 19) ∷ (x ‼ 20) ∷ (x ‼ 21) ∷ (x ‼ 22) ∷ (x ‼ 23) ∷ [];
      meso_tgn1 = (x ‼ 24) ∷ (x ‼ 25) ∷ [];
      meso_tgn2 = (x ‼ 26) ∷ (x ‼ 27) ∷ [];
      meso_tgn3 = (x ‼ 28) ∷ (x ‼ 29) ∷ [];
      dfa = x ‼ 30;
      plg = g;
      ctloc = x ‼ 67;
      stloc = x ‼ 68;
      c2tloc = x ‼ 69;
      s2tloc = x ‼ 70;
      s3tloc = x ‼ 71;
      c3tloc = x ‼ 72;
      apdf = x ‼ 73;
      apt = (x ‼ 74) ∷ (x ‼ 75) ∷ (x ‼ 76) ∷ (x ‼ 77) ∷ [];
    }

abbrev pub state_of : List Float → State
state_of x = state_with x (legendre_read x)

-- the length that the first slice without its length needs, none where all have theirs: the lent one for the numbers, the fields, the array,
-- the switches, the State
unfoldable pub misfit_of : ℕ → ℕ → ℕ → ℕ → ℕ → Option ℕ
misfit_of numbers fields array switches state =
    cond (not (eqb numbers 80)) (Some 80)
    (cond (not (eqb fields 8)) (Some 8)
    (cond (not (eqb array 0) && not (eqb array 7)) (Some 7)
    (cond (not (eqb switches 24)) (Some 24)
    (cond (not (eqb state 79)) (Some 79) None))))

-- a call's answer with a refusal as document 01's number and its place
abbrev pub told_of : Result (Left Float) (Left ExpansionRefusal) → Result (Left Float) (ℕ × ℕ)
told_of (Ok e) = Ok e
told_of (Err r) = Err (refusal_number r.value, refusal_place r.value)

-- 4 with the length needed; then the rest
abbrev pub fitted_of : Option ℕ → Result (Left Float) (ℕ × ℕ) → Result (Left Float) (ℕ × ℕ)
fitted_of None rest = rest
fitted_of (Some needed) rest = Err (4, needed)

unfoldable pub host_globe7 : ℤ → ℤ → List Float → List Float → List ℤ → List Float → List Float → ℕ → Result (Left Float) (ℕ × ℕ)
host_globe7 year doy f l w p x numbers =
    fitted_of (misfit_of numbers (length f) (length l) (length w) (length x)) (told_of (globe7_call_of w (record_of year doy f l) p (state_of x)))

unfoldable pub host_glob7s : ℤ → ℤ → List Float → List Float → List ℤ → List Float → List Float → ℕ → Result (Left Float) (ℕ × ℕ)
host_glob7s year doy f l w p x numbers =
    fitted_of (misfit_of numbers (length f) (length l) (length w) (length x)) (told_of (glob7s_call_of w (record_of year doy f l) p (state_of x)))

-- the value, then the State's numbers
unfoldable pub entry_of : Left Float → ℕ → Float
entry_of e k = cond (eqb k 0) e.value (state_number e.state (k - 1))

-- m of these numbers from number k on, and all of them
unfoldable pub expanded_entries : ℕ → Left Float → ℕ → List Float
expanded_entries zero e k = []
expanded_entries (suc m) e k = entry_of e k ∷ expanded_entries m e (suc k)

abbrev pub expanded_numbers : Left Float → List Float
expanded_numbers e = expanded_entries 80 e 0

-- the lent slice afterwards: after a refusal what it held
unfoldable pub expanded_after : Result (Left Float) (ℕ × ℕ) → List Float → List Float
expanded_after (Ok e) xs = expanded_numbers e
expanded_after (Err r) xs = xs

-- the refusal's number times 2^32 and its place, 0 where the call is accepted
abbrev pub expanded_code : Result (Left Float) (ℕ × ℕ) → ℕ
expanded_code (Ok e) = 0
expanded_code (Err r) = packed_of r.0 r.1
