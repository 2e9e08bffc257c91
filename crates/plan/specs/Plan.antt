-- Plans: what gts7 and gtd7 ask of the expansions, in order, what they make of the answers, and which fields of State they set. A plan sees no
-- record and no View.
use Rattle.std.specs.Prelude.{◌≡◌, refl, List, Bool, true, false, Float}
use Rattle.std.proofs.Common.{sym, ap, ap₂, ◌∙◌}
use Rattle.numbers.specs.Arithmetic.{◌⊕◌, ◌⊖◌, ◌⊗◌}
use Rattle.numbers.specs.Literals.{1·0}
use Rattle.elementary.specs.Exp.{exp_of}
use Rattle.setting.specs.declared.State.{State}
use Rattle.setting.specs.declared.View.{View}
use Rattle.setting.specs.declared.Left.{Left}
use Rattle.tables.specs.Names.{Wide, Narrow, wide, narrow, PT, PS, PD0, PD1, PD2, PD3, PD4, PD5, PD6, PD7, PD8, PTL0, PTL1, PTL2, PTL3, PMA0, PMA1, PMA2, PMA3, PMA4, PMA5, PMA6, PMA7, PMA8, PMA9}
use Rattle.plan.specs.declared.ExpansionValues.{ExpansionValues}
use Rattle.plan.specs.Fields.{Fields, fields_of, with_fields}
use Rattle.expansion.specs.Expansion.{carried_of, turns_after_of, state_after, globe7_of, glob7s_of}

-- 1 + f * globe7
unfoldable pub one_plus_globe7_of : View → Float → List Float → State → Left Float
one_plus_globe7_of v f p s = let g = globe7_of v p s in record { value = 1·0 ⊕ f ⊗ g.value; state = g.state }

-- exp(f * globe7)
unfoldable pub exp_globe7_of : View → Float → List Float → State → Left Float
exp_globe7_of v f p s = let g = globe7_of v p s in record { value = exp_of (f ⊗ g.value); state = g.state }

-- 1 + f * glob7s
unfoldable pub one_plus_glob7s_of : View → Float → List Float → State → Float
one_plus_glob7s_of v f p s = 1·0 ⊕ f ⊗ glob7s_of v p s

-- 1 - f * glob7s
unfoldable pub one_minus_glob7s_of : View → Float → List Float → State → Float
one_minus_glob7s_of v f p s = 1·0 ⊖ f ⊗ glob7s_of v p s

-- a question: an expansion over a coefficient set, with the factor it is multiplied by and the way it enters
pub data Ask : Type 0 where
  one_plus_globe7 : Float → Wide → Ask
  exp_globe7 : Float → Wide → Ask
  one_plus_glob7s : Float → Narrow → Ask
  one_minus_glob7s : Float → Narrow → Ask

-- a result; a question and what follows from its answer; a step that sets fields of State, and what follows
pub data Plan (A : Type 0) : Type 0 where
  done : A → Plan A
  ask : Ask → (Float → Plan A) → Plan A
  keep : (Fields → Fields) → Plan A → Plan A

-- one plan, then another that depends on its result
infixl 10 ◌>>=◌
unfoldable pub ◌>>=◌ : {A B : Type 0} → Plan A → (A → Plan B) → Plan B
done a >>= k = k a
ask q f >>= k = ask q (λ x. f x >>= k)
keep u m >>= k = keep u (m >>= k)

-- a step that sets fields, as a line of its own in a plan
infixl 10 ◌>>◌
abbrev pub ◌>>◌ : {A : Type 0} → (Fields → Fields) → Plan A → Plan A
u >> m = keep u m

-- a question alone
abbrev pub get : Ask → Plan Float
get q = ask q (λ x. done x)

-- one of two plans by a test
abbrev pub either : {A : Type 0} → Bool → Plan A → Plan A → Plan A
either true x y = x
either false x y = y

-- the answer, from the View and the State, with the State after it
unfoldable pub answer : View → Ask → State → Left Float
answer v (one_plus_globe7 f p) s = one_plus_globe7_of v f (wide p) s
answer v (exp_globe7 f p) s = exp_globe7_of v f (wide p) s
answer v (one_plus_glob7s f p) s = record { value = one_plus_glob7s_of v f (narrow p) s; state = s }
answer v (one_minus_glob7s f p) s = record { value = one_minus_glob7s_of v f (narrow p) s; state = s }

-- a plan that was run: its result and the State that is left
pub record Ran (A : Type 0) : Type 0 where
  pub result : A
  pub left : State

abbrev pub ends : {A : Type 0} → A → State → Ran A
ends a s = record { result = a; left = s }

-- a plan run: each question answered and each field set in order, the State handed on
unfoldable pub run : {A : Type 0} → View → Plan A → State → Ran A
run v (done a) s = ends a s
run v (ask q k) s = run v (k (answer v q s).value) (answer v q s).state
run v (keep u m) s = run v m (with_fields s (u (fields_of s)))

pub run->>= : {A B : Type 0} (v : View) (m : Plan A) (k : A → Plan B) (s : State)
    → run v (m >>= k) s ≡ run v (k (run v m s).result) (run v m s).left
unfolding run ◌>>=◌
run->>= v (done a) k s = refl
run->>= v (ask q f) k s = run->>= v (f (answer v q s).value) k (answer v q s).state
run->>= v (keep u m) k s = run->>= v m k (with_fields s (u (fields_of s)))

-- a plan told its answers: what it makes of them, with no State
unfoldable pub told : {A : Type 0} → (Ask → Float) → Plan A → A
told g (done a) = a
told g (ask q k) = told g (k (g q))
told g (keep u m) = told g m

pub told->>= : {A B : Type 0} (g : Ask → Float) (m : Plan A) (k : A → Plan B) → told g (m >>= k) ≡ told g (k (told g m))
unfolding told ◌>>=◌
told->>= g (done a) k = refl
told->>= g (ask q f) k = told->>= g (f (g q)) k
told->>= g (keep u m) k = told->>= g m k

-- the fields that its steps leave
unfoldable pub fields_after : {A : Type 0} → (Ask → Float) → Plan A → Fields → Fields
fields_after g (done a) f = f
fields_after g (ask q k) f = fields_after g (k (g q)) f
fields_after g (keep u m) f = fields_after g m (u f)

pub kept->>= : {A B : Type 0} (g : Ask → Float) (m : Plan A) (k : A → Plan B) (f : Fields) → fields_after g (m >>= k) f ≡ fields_after g (k (told g m)) (fields_after g m f)
unfolding told fields_after ◌>>=◌
kept->>= g (done a) k f = refl
kept->>= g (ask q j) k f = kept->>= g (j (g q)) k f
kept->>= g (keep u m) k f = kept->>= g m k (u f)

-- a stage whose result is known, then the rest
pub then : {A B : Type 0} (g : Ask → Float) (m : Plan A) (k : A → Plan B) (a : A) → a ≡ told g m → told g (m >>= k) ≡ told g (k a)
then g m k a e = told->>= g m k ∙ ap (λ (r : _). told g (k r)) (sym e)

pub last : {A : Type 0} (g : Ask → Float) (a : A) → told g (done a) ≡ a
unfolding told
last g a = refl

pub told_keep : {A : Type 0} (g : Ask → Float) (u : Fields → Fields) (m : Plan A) → told g (keep u m) ≡ told g m
unfolding told
told_keep g u m = refl

-- a plan told its answers, with a State: its result, and the State with the fields that its steps leave
unfoldable pub stepped : {A : Type 0} → (Ask → Float) → Plan A → State → Ran A
stepped g m s = ends (told g m) (with_fields s (fields_after g m (fields_of s)))

pub stepped_done : {A : Type 0} (g : Ask → Float) (a : A) (s : State) → stepped g (done a) s ≡ ends a s
unfolding stepped told fields_after
stepped_done g a s = refl

pub stepped_keep : {A : Type 0} (g : Ask → Float) (u : Fields → Fields) (m : Plan A) (s : State) → stepped g (keep u m) s ≡ stepped g m (with_fields s (u (fields_of s)))
unfolding stepped told fields_after
stepped_keep g u m s = refl

-- a stage whose result and State are known, then the rest
pub stepped_then : {A B : Type 0} (g : Ask → Float) (m : Plan A) (k : A → Plan B) (s : State) (a : A) (t : State)
    → stepped g m s ≡ ends a t → stepped g (m >>= k) s ≡ stepped g (k a) t
unfolding stepped
stepped_then g m k s a t e =
    ap₂ (λ (b : _) (f : Fields). ends b (with_fields s f)) (told->>= g m k) (kept->>= g m k (fields_of s))
    ∙ ap (λ (r : Ran _). ends (told g (k r.result)) (with_fields r.left (fields_after g (k r.result) (fields_of r.left)))) e

-- an answer sees none of the seventeen fields, and leaves them as they were
pub answer_fields : (v : View) (q : Ask) (s : State) (f : Fields)
    → answer v q (with_fields s f) ≡ record { value = (answer v q s).value; state = with_fields (answer v q s).state f }
unfolding answer one_plus_globe7_of exp_globe7_of one_plus_glob7s_of one_minus_glob7s_of globe7_of glob7s_of carried_of state_after turns_after_of
answer_fields v (one_plus_globe7 c p) s f = refl
answer_fields v (exp_globe7 c p) s f = refl
answer_fields v (one_plus_glob7s c p) s f = refl
answer_fields v (one_minus_glob7s c p) s f = refl

-- the value of globe7 over a set, among the expansions' values
abbrev pub wide_in : ExpansionValues → Wide → Float
wide_in l PT = l.pt
wide_in l PS = l.ps
wide_in l PD0 = l.pd0
wide_in l PD1 = l.pd1
wide_in l PD2 = l.pd2
wide_in l PD3 = l.pd3
wide_in l PD4 = l.pd4
wide_in l PD5 = l.pd5
wide_in l PD6 = l.pd6
wide_in l PD7 = l.pd7
wide_in l PD8 = l.pd8

-- the value of glob7s over a set, among the expansions' values
abbrev pub narrow_in : ExpansionValues → Narrow → Float
narrow_in l PTL0 = l.ptl0
narrow_in l PTL1 = l.ptl1
narrow_in l PTL2 = l.ptl2
narrow_in l PTL3 = l.ptl3
narrow_in l PMA0 = l.pma0
narrow_in l PMA1 = l.pma1
narrow_in l PMA2 = l.pma2
narrow_in l PMA3 = l.pma3
narrow_in l PMA4 = l.pma4
narrow_in l PMA5 = l.pma5
narrow_in l PMA6 = l.pma6
narrow_in l PMA7 = l.pma7
narrow_in l PMA8 = l.pma8
narrow_in l PMA9 = l.pma9

-- the answer, from the expansions' values
abbrev pub answer_to : ExpansionValues → Ask → Float
answer_to l (one_plus_globe7 f p) = 1·0 ⊕ f ⊗ wide_in l p
answer_to l (exp_globe7 f p) = exp_of (f ⊗ wide_in l p)
answer_to l (one_plus_glob7s f p) = 1·0 ⊕ f ⊗ narrow_in l p
answer_to l (one_minus_glob7s f p) = 1·0 ⊖ f ⊗ narrow_in l p
