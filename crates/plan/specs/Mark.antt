-- dm28 and the mark beside it: the step that sets dm28 sets the mark too, and every other step leaves both as they were.
use Rattle.std.specs.Prelude.{◌≡◌, refl, Bool, true, false, List, Float}
use Rattle.std.proofs.Common.{sym, ap, ◌∙◌, true≢false}
use Rattle.plan.specs.Fields.{Fields, set_when, set_gravity, set_dd, set_dm04, set_dm16, set_dm28, set_dm32, set_dm40, set_dm01, set_dm14, set_tn1, set_tn2, set_tn3, set_nodes1, set_top3}
use Rattle.plan.specs.Plan.{Ask, Plan, ask, keep, done, either, ◌>>=◌, told, fields_after, kept->>=}

-- ---- steps

-- dm28 and its mark
abbrev pub mixed_n2 : Fields → Float × Bool
mixed_n2 f = (f.dm28, f.dm28_set)

-- a step that leaves both as they were
abbrev pub Leaves : (Fields → Fields) → Type 0
Leaves u = (f : Fields) → mixed_n2 (u f) ≡ mixed_n2 f

-- dm28 can be set and be 0: the mark is true whatever x is
pub dm28_marks : (x : Float) (f : Fields) → ((set_dm28 x f).dm28_set ≡ true) × ((set_dm28 x f).dm28 ≡ x)
unfolding set_dm28
dm28_marks x f = (refl, refl)

pub gravity_leaves : (g r : Float) → Leaves (set_gravity g r)
unfolding set_gravity
gravity_leaves g r f = refl

pub dd_leaves : (x : Float) → Leaves (set_dd x)
unfolding set_dd
dd_leaves x f = refl

pub dm04_leaves : (x : Float) → Leaves (set_dm04 x)
unfolding set_dm04
dm04_leaves x f = refl

pub dm16_leaves : (x : Float) → Leaves (set_dm16 x)
unfolding set_dm16
dm16_leaves x f = refl

pub dm32_leaves : (x : Float) → Leaves (set_dm32 x)
unfolding set_dm32
dm32_leaves x f = refl

pub dm40_leaves : (x : Float) → Leaves (set_dm40 x)
unfolding set_dm40
dm40_leaves x f = refl

pub dm01_leaves : (x : Float) → Leaves (set_dm01 x)
unfolding set_dm01
dm01_leaves x f = refl

pub dm14_leaves : (x : Float) → Leaves (set_dm14 x)
unfolding set_dm14
dm14_leaves x f = refl

pub tn1_leaves : (t g : List Float) → Leaves (set_tn1 t g)
unfolding set_tn1
tn1_leaves t g f = refl

pub tn2_leaves : (t g : List Float) → Leaves (set_tn2 t g)
unfolding set_tn2
tn2_leaves t g f = refl

pub tn3_leaves : (t g : List Float) → Leaves (set_tn3 t g)
unfolding set_tn3
tn3_leaves t g f = refl

pub nodes1_leaves : (t g : List Float) → Leaves (set_nodes1 t g)
unfolding set_nodes1 set_tn1
nodes1_leaves t g f = refl

pub top3_leaves : (x : Float) → Leaves (set_top3 x)
unfolding set_top3 set_tn3
top3_leaves x f = refl

pub when_leaves : (b : Bool) (u : Fields → Fields) → Leaves u → Leaves (set_when b u)
when_leaves true u h f = h f
when_leaves false u h f = refl

-- ---- plans

-- a plan after which the mark is true where b is, and else dm28 and mark are as they were
abbrev pub Marks : {A : Type 0} → Bool → Plan A → Type 0
Marks true m = (g : Ask → Float) (f : Fields) → (fields_after g m f).dm28_set ≡ true
Marks false m = (g : Ask → Float) (f : Fields) → mixed_n2 (fields_after g m f) ≡ mixed_n2 f

-- a plan that leaves both
abbrev pub Unmarking : {A : Type 0} → Plan A → Type 0
Unmarking m = Marks false m

pub done_leaves : {A : Type 0} (a : A) → Unmarking (done a)
unfolding fields_after
done_leaves a g f = refl

pub ask_marks : {A : Type 0} (b : Bool) (q : Ask) (k : Float → Plan A) → ((x : Float) → Marks b (k x)) → Marks b (ask q k)
unfolding fields_after
ask_marks true q k h = λ g f. h (g q) g f
ask_marks false q k h = λ g f. h (g q) g f

pub keep_marks : {A : Type 0} (b : Bool) (u : Fields → Fields) (m : Plan A) → Leaves u → Marks b m → Marks b (keep u m)
unfolding fields_after
keep_marks true u m h i = λ g f. i g (u f)
keep_marks false u m h i = λ g f. i g (u f) ∙ h f

-- a step that sets the mark where b holds
pub when_marks : {A : Type 0} (b : Bool) (u : Fields → Fields) (m : Plan A) → ((f : Fields) → (u f).dm28_set ≡ true) → Unmarking m → Marks b (keep (set_when b u) m)
unfolding fields_after
when_marks true u m h i = λ g f. ap (λ (x : Float × Bool). x.1) (i g (u f)) ∙ h f
when_marks false u m h i = λ g f. i g f

pub either_leaves : {A : Type 0} (b : Bool) (x y : Plan A) → Unmarking x → Unmarking y → Unmarking (either b x y)
either_leaves true x y h i = h
either_leaves false x y h i = i

-- one plan, then another: the mark is set by the first, or by the second
pub then_leaves : {A B : Type 0} (b : Bool) (m : Plan A) (k : A → Plan B) → Marks b m → ((a : A) → Unmarking (k a)) → Marks b (m >>= k)
then_leaves true m k h i = λ g f. ap (λ (x : Fields). x.dm28_set) (kept->>= g m k f) ∙ ap (λ (x : Float × Bool). x.1) (i (told g m) g (fields_after g m f)) ∙ h g f
then_leaves false m k h i = λ g f. ap mixed_n2 (kept->>= g m k f) ∙ i (told g m) g (fields_after g m f) ∙ h g f

pub then_marks : {A B : Type 0} (b : Bool) (m : Plan A) (k : A → Plan B) → Unmarking m → ((a : A) → Marks b (k a)) → Marks b (m >>= k)
then_marks true m k h i = λ g f. ap (λ (x : Fields). x.dm28_set) (kept->>= g m k f) ∙ i (told g m) g (fields_after g m f)
then_marks false m k h i = λ g f. ap mixed_n2 (kept->>= g m k f) ∙ i (told g m) g (fields_after g m f) ∙ h g f

-- ---- from a State in which neither is set

module _ {A : Type 0} (g : Ask → Float) (m : Plan A) (f : Fields) (new : f.dm28_set ≡ false) where
  -- the mark is then true exactly where b is
  pub marked_where : (b : Bool) → Marks b m → (fields_after g m f).dm28_set ≡ b
  marked_where true h = h g f
  marked_where false h = ap (λ (x : Float × Bool). x.1) (h g f) ∙ new

  -- a mark that is false leaves dm28 as it was
  pub unmarked_leaves : (b : Bool) → Marks b m → (fields_after g m f).dm28_set ≡ false → (fields_after g m f).dm28 ≡ f.dm28
  unmarked_leaves true h e = absurd (true≢false (sym (h g f) ∙ e))
  unmarked_leaves false h e = ap (λ (x : Float × Bool). x.0) (h g f)
