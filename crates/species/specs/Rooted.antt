-- Each species of gts7 at a place, from its Root, with the laws that these are the model's species. A reader who believes Species.antt need not read it.
use Rattle.std.specs.Prelude.{◌≡◌, Bool, true, false, cond, not, Float}
use Rattle.std.proofs.Math.Path.{refl, ap}
use Rattle.std.proofs.Common.{◌∙◌}
use Rattle.std.specs.Float.Ieee.{neg, ne}
use Rattle.numbers.specs.Arithmetic.{◌⊖◌, ◌⊗◌, ◌⊘◌, ◌‼◌}
use Rattle.numbers.specs.Literals.{0·0, 0·17, 0·38, 1·0, 4·0, 14·0, 16·0, 28·0, 32·0, 40·0}
use Rattle.elementary.specs.Exp.{exp_of}
use Rattle.elementary.specs.Log.{log_of}
use Rattle.elementary.specs.Root.{sqrt_of}
use Rattle.mixing.specs.Mixing.{ccor_of, ccor2_of, dnet_of}
use Rattle.places.specs.Thinning.{thinning_of, thinned_of, thinned_densu}
use Rattle.places.specs.declared.place.Place.{Place}
use Rattle.places.specs.declared.thinning.Thinning.{Thinning}
use Rattle.profile.specs.Gravity.{scalh_of}
use Rattle.profile.specs.declared.unchecked.Shape.{Shape}
use Rattle.tables.specs.Tables.{ptm_t, pdl_t0, pdl_t1, pdm_t0, pdm_t1, pdm_t2, pdm_t3, pdm_t4, pdm_t5, pdm_t6}
use Rattle.species.specs.declared.Blend.{Blend}
use Rattle.species.specs.declared.Mixture.{Mixture}
use Rattle.species.specs.declared.Root.{Root}
use Rattle.species.specs.Species.{nodes, density_of, mixed_of, n2_of, helium_of, oxygen_of, o2_mixed_of, o2_of, argon_of, hydrogen_of, nitrogen_of, anomalous_oxygen_of}
use Rattle.species.specs.Places.{place_at, Turbopause, Mixes}

-- a gas at a place, from its density at the lower boundary
unfoldable pub gas_of : Place → Float → Float → Float → Float
gas_of p dlb xm alpha = thinned_of (thinning_of p xm alpha) dlb

-- what thins out the mixed densities, where a species is mixed
unfoldable pub mixing_of : Bool → Place → Float → Thinning
mixing_of on p xmm = cond on (thinning_of p xmm 0·0) (record { none = true; under = false; tz = 0·0; p = 0·0; e = 0·0; q = 0·0; k = 0·0 })

-- the mixed density at a turbopause, where it is asked for
unfoldable pub turbopause_density_of : Bool → Place → Float → Float → Float → Float
turbopause_density_of on w db xm alpha = cond on (gas_of w db xm alpha) 0·0

unfoldable pub gas_root : Bool → Place → Float → Float → Float → Float → Root
gas_root on w db xm alpha num =
    cond on (record { db = db; b = gas_of w db xm alpha; r = log_of (num ⊘ gas_of w db xm alpha) }) (record { db = db; b = 0·0; r = 0·0 })

-- each species' root at its turbopause, on where it is asked for; b28 is N2's mixed density there, xmm the mass of mixed air
unfoldable pub n2_root_of : Place → Float → Float → Root
n2_root_of w db xmm = record { db = db; b = gas_of w db (28·0 ⊖ xmm) (0·0 ⊖ 1·0); r = 0·0 }

unfoldable pub helium_root_of : Bool → Place → Float → Float → Float → Root
helium_root_of on w db b28 xmm = gas_root on w db (4·0 ⊖ xmm) (neg 0·38 ⊖ 1·0) (b28 ⊗ pdm_t0 ‼ 1)

unfoldable pub oxygen_root_of : Bool → Place → Float → Float → Float → Root
oxygen_root_of on w db flux xmm =
    record { db = db; b = turbopause_density_of on w db (16·0 ⊖ xmm) (0·0 ⊖ 1·0); r = pdm_t1 ‼ 1 ⊗ pdl_t1 ‼ 16 ⊗ flux }

unfoldable pub o2_root_of : Bool → Place → Float → Float → Float → Root
o2_root_of on w db b28 xmm = gas_root on w db (32·0 ⊖ xmm) (0·0 ⊖ 1·0) (b28 ⊗ pdm_t3 ‼ 1)

unfoldable pub argon_root_of : Bool → Place → Float → Float → Float → Root
argon_root_of on w db b28 xmm = gas_root on w db (40·0 ⊖ xmm) (0·17 ⊖ 1·0) (b28 ⊗ pdm_t4 ‼ 1)

unfoldable pub hydrogen_root_of : Bool → Place → Float → Float → Float → Root
hydrogen_root_of on w db b28 xmm = gas_root on w db (1·0 ⊖ xmm) (neg 0·38 ⊖ 1·0) (b28 ⊗ pdm_t5 ‼ 1 ⊗ sqrt_of (pdl_t1 ‼ 17 ⊗ pdl_t1 ‼ 17))

unfoldable pub nitrogen_root_of : Bool → Place → Float → Float → Float → Root
nitrogen_root_of on w db b28 xmm = gas_root on w db (14·0 ⊖ xmm) (0·0 ⊖ 1·0) (b28 ⊗ pdm_t6 ‼ 1 ⊗ sqrt_of (pdl_t0 ‼ 2 ⊗ pdl_t0 ‼ 2))

-- a species blended at its turbopause: dd is its density where nothing is mixed, b the mixed one at the turbopause
unfoldable pub blended_of : Float → Thinning → Float → Float → Float → Float → Mixture
blended_of dd t b xm zhm xmm =
    let dm = thinned_of t b in
    record { dens = dnet_of dd dm zhm xmm xm; dm = dm }

-- what mixing makes of each species' density dd at a place, and the species from its Root
unfoldable pub blended_n2 : Bool → Float → Thinning → Root → Float → Mixture
blended_n2 on dd t q xmm =
    cond (not on) (record { dens = dd; dm = 0·0 })
    (blended_of dd t q.b 28·0 (pdm_t2 ‼ 3 ⊗ pdl_t1 ‼ 5) xmm)

unfoldable pub n2_from : Bool → Place → Thinning → Root → Float → Mixture
n2_from on p t q xmm = blended_n2 on (gas_of p q.db 28·0 0·0) t q xmm

unfoldable pub blended_helium : Bool → Float → Float → Thinning → Root → Float → Float → Mixture
blended_helium on z dd t q zhm xmm =
    cond (not on) (record { dens = dd; dm = 0·0 }) (
    let m = pdm_t0 in
    let l = pdl_t1 in
    let x = blended_of dd t q.b 4·0 zhm xmm in
    let c = ccor_of z q.r (m ‼ 5 ⊗ l ‼ 1) (m ‼ 4 ⊗ l ‼ 0) in
    record { dens = x.dens ⊗ c; dm = x.dm })

unfoldable pub helium_from : Bool → Float → Place → Thinning → Root → Float → Float → Mixture
helium_from on z p t q zhm xmm = blended_helium on z (gas_of p q.db 4·0 (neg 0·38)) t q zhm xmm

unfoldable pub blended_oxygen : Bool → Float → Float → Thinning → Root → Float → Float → Mixture
blended_oxygen on z dd t q zhm xmm =
    cond (not on) (record { dens = dd; dm = 0·0 }) (
    let m = pdm_t1 in
    let l = pdl_t1 in
    let x = blended_of dd t q.b 16·0 zhm xmm in
    let c = ccor2_of z q.r (m ‼ 5 ⊗ l ‼ 3) (m ‼ 4 ⊗ l ‼ 2) (m ‼ 5 ⊗ l ‼ 4) in
    let e = ccor_of z (m ‼ 3 ⊗ l ‼ 14) (m ‼ 7 ⊗ l ‼ 13) (m ‼ 6 ⊗ l ‼ 12) in
    record { dens = x.dens ⊗ c ⊗ e; dm = x.dm })

unfoldable pub oxygen_from : Bool → Float → Place → Thinning → Root → Float → Float → Mixture
oxygen_from on z p t q zhm xmm = blended_oxygen on z (gas_of p q.db 16·0 0·0) t q zhm xmm

unfoldable pub blended_o2 : Bool → Float → Float → Thinning → Root → Float → Float → Mixture
blended_o2 on z dd t q zhm xmm =
    cond (not on) (record { dens = dd; dm = 0·0 }) (
    let m = pdm_t3 in
    let l = pdl_t1 in
    let x = blended_of dd t q.b 32·0 zhm xmm in
    let c = ccor_of z q.r (m ‼ 5 ⊗ l ‼ 7) (m ‼ 4 ⊗ l ‼ 6) in
    record { dens = x.dens ⊗ c; dm = x.dm })

unfoldable pub o2_mixed_from : Bool → Float → Place → Thinning → Root → Float → Float → Mixture
o2_mixed_from on z p t q zhm xmm = blended_o2 on z (gas_of p q.db 32·0 0·0) t q zhm xmm

unfoldable pub blended_argon : Bool → Float → Float → Thinning → Root → Float → Float → Mixture
blended_argon on z dd t q zhm xmm =
    cond (not on) (record { dens = dd; dm = 0·0 }) (
    let m = pdm_t4 in
    let l = pdl_t1 in
    let x = blended_of dd t q.b 40·0 zhm xmm in
    let c = ccor_of z q.r (m ‼ 5 ⊗ l ‼ 9) (m ‼ 4 ⊗ l ‼ 8) in
    record { dens = x.dens ⊗ c; dm = x.dm })

unfoldable pub argon_from : Bool → Float → Place → Thinning → Root → Float → Float → Mixture
argon_from on z p t q zhm xmm = blended_argon on z (gas_of p q.db 40·0 0·17) t q zhm xmm

unfoldable pub blended_hydrogen : Bool → Float → Float → Thinning → Root → Float → Float → Mixture
blended_hydrogen on z dd t q zhm xmm =
    cond (not on) (record { dens = dd; dm = 0·0 }) (
    let m = pdm_t5 in
    let l = pdl_t1 in
    let x = blended_of dd t q.b 1·0 zhm xmm in
    let c = ccor_of z q.r (m ‼ 5 ⊗ l ‼ 11) (m ‼ 4 ⊗ l ‼ 10) in
    let e = ccor_of z (m ‼ 3 ⊗ l ‼ 20) (m ‼ 7 ⊗ l ‼ 19) (m ‼ 6 ⊗ l ‼ 18) in
    record { dens = x.dens ⊗ c ⊗ e; dm = x.dm })

unfoldable pub hydrogen_from : Bool → Float → Place → Thinning → Root → Float → Float → Mixture
hydrogen_from on z p t q zhm xmm = blended_hydrogen on z (gas_of p q.db 1·0 (neg 0·38)) t q zhm xmm

unfoldable pub blended_nitrogen : Bool → Float → Float → Thinning → Root → Float → Float → Mixture
blended_nitrogen on z dd t q zhm xmm =
    cond (not on) (record { dens = dd; dm = 0·0 }) (
    let m = pdm_t6 in
    let l = pdl_t0 in
    let x = blended_of dd t q.b 14·0 zhm xmm in
    let c = ccor_of z q.r (m ‼ 5 ⊗ l ‼ 1) (m ‼ 4 ⊗ l ‼ 0) in
    let e = ccor_of z (m ‼ 3 ⊗ l ‼ 5) (m ‼ 7 ⊗ l ‼ 4) (m ‼ 6 ⊗ l ‼ 3) in
    record { dens = x.dens ⊗ c ⊗ e; dm = x.dm })

unfoldable pub nitrogen_from : Bool → Float → Place → Thinning → Root → Float → Float → Mixture
nitrogen_from on z p t q zhm xmm = blended_nitrogen on z (gas_of p q.db 14·0 0·0) t q zhm xmm

unfoldable pub o2_from : Float → Bool → Float → Place → Thinning → Root → Float → Float → Float → Mixture
o2_from sw15 on z p t q rate zhm xmm =
    let x = o2_mixed_from on z p t q zhm xmm in
    cond (not (ne sw15 0·0)) x (
    let m = pdm_t3 in
    let c = ccor2_of z rate (m ‼ 7 ⊗ pdl_t1 ‼ 22) (m ‼ 6 ⊗ pdl_t1 ‼ 21) (m ‼ 7 ⊗ pdl_t0 ‼ 22) in
    record { dens = x.dens ⊗ c; dm = x.dm })

unfoldable pub anomalous_factor_of : Float → Float → Float → Float → Float → Float → Float
anomalous_factor_of rgas gsurf re zsht zmho tho = neg zsht ⊘ scalh_of rgas gsurf re zmho 16·0 tho

unfoldable pub anomalous_oxygen_from : Float → Place → Float → Float → Float → Float → Float
anomalous_oxygen_from z p db factor zsht zmho =
    let a = exp_of (neg (z ⊖ zmho) ⊘ zsht) in
    gas_of p db 16·0 0·0 ⊗ exp_of (factor ⊗ (a ⊖ 1·0))

-- ---- these are the model's species

pub gas_is : (h : Shape) (z : Float) (p : Place) → p ≡ place_at h z → (dlb xm alpha : Float) → gas_of p dlb xm alpha ≡ density_of h z dlb xm alpha
unfolding gas_of density_of
gas_is h z p e dlb xm alpha = ap (λ (w : Place). thinned_of (thinning_of w xm alpha) dlb) e ∙ thinned_densu h z dlb xm alpha (ptm_t ‼ 5) nodes

-- q is the root of a species whose mixing is asked for where on is true: zh is its turbopause, xm and alpha are less those of mixed air
pub record Rooted (on : Bool) (h : Shape) (zh db xm alpha r : Float) (q : Root) : Type 0 where
  pub lower : q.db ≡ db
  pub upper : on ≡ true → q.b ≡ density_of h zh db xm alpha
  pub rate : on ≡ true → q.r ≡ r

-- a root that was worked out where it is asked for
root_db : (on : Bool) (w : Place) (db xm alpha num : Float) → (gas_root on w db xm alpha num).db ≡ db
unfolding gas_root
root_db true w db xm alpha num = refl
root_db false w db xm alpha num = refl

root_there : (on : Bool) (w : Place) (db xm alpha num : Float) → on ≡ true
    → gas_root on w db xm alpha num ≡ record { db = db; b = gas_of w db xm alpha; r = log_of (num ⊘ gas_of w db xm alpha) }
unfolding gas_root
root_there on w db xm alpha num o = rw o

pub root_is : (on : Bool) (h : Shape) (zh : Float) (w : Place) (db xm alpha num : Float) (q : Root) → q ≡ gas_root on w db xm alpha num → Turbopause h on zh w
    → Rooted on h zh db xm alpha (log_of (num ⊘ density_of h zh db xm alpha)) q
root_is on h zh w db xm alpha num q e at =
    record {
      lower = ap (λ (x : Root). x.db) e ∙ root_db on w db xm alpha num;
      upper = λ o. ap (λ (x : Root). x.b) (e ∙ root_there on w db xm alpha num o) ∙ gas_is h zh w (at o) db xm alpha;
      rate = λ o. ap (λ (x : Root). x.r) (e ∙ root_there on w db xm alpha num o) ∙ ap (λ (d : Float). log_of (num ⊘ d)) (gas_is h zh w (at o) db xm alpha);
    }

-- O's, whose rate no turbopause changes
pub oxygen_root_is : (on : Bool) (h : Shape) (w : Place) (db flux xmm : Float) (q : Root) → q ≡ oxygen_root_of on w db flux xmm → Turbopause h on (pdm_t1 ‼ 2) w
    → Rooted on h (pdm_t1 ‼ 2) db (16·0 ⊖ xmm) (0·0 ⊖ 1·0) (pdm_t1 ‼ 1 ⊗ pdl_t1 ‼ 16 ⊗ flux) q
unfolding oxygen_root_of turbopause_density_of
oxygen_root_is on h w db flux xmm q e at =
    record {
      lower = ap (λ (x : Root). x.db) e;
      upper = λ o. ap (λ (x : Root). x.b) e ∙ ap (λ (t : Bool). cond t (gas_of w db (16·0 ⊖ xmm) (0·0 ⊖ 1·0)) 0·0) o ∙ gas_is h (pdm_t1 ‼ 2) w (at o) db (16·0 ⊖ xmm) (0·0 ⊖ 1·0);
      rate = λ o. ap (λ (x : Root). x.r) e;
    }

-- N2's, which every species reads
pub n2_root_is : (h : Shape) (w : Place) (db zhf xmm : Float) (q : Root) → q ≡ n2_root_of w db xmm → w ≡ place_at h (pdm_t2 ‼ 2 ⊗ zhf)
    → (q.db ≡ db) × (q.b ≡ density_of h (pdm_t2 ‼ 2 ⊗ zhf) db (28·0 ⊖ xmm) (0·0 ⊖ 1·0))
unfolding n2_root_of
n2_root_is h w db zhf xmm q e at = (ap (λ (x : Root). x.db) e, ap (λ (x : Root). x.b) e ∙ gas_is h (pdm_t2 ‼ 2 ⊗ zhf) w at db (28·0 ⊖ xmm) (0·0 ⊖ 1·0))

-- one of two mixtures, by the test of a species
by_test : (on : Bool) (x y x' y' : Mixture) → (on ≡ false → x ≡ x') → (on ≡ true → y ≡ y') → cond (not on) x y ≡ cond (not on) x' y'
by_test true x y x' y' e f = f refl
by_test false x y x' y' e f = e refl

-- the mixed density at the turbopause beside one of two mixtures
with_b : (on : Bool) (b : Float) (x y : Mixture)
    → ◌≡◌ {A = Blend} (record { dens = (cond (not on) x y).dens; b = b; dm = (cond (not on) x y).dm })
    (cond (not on) (record { dens = x.dens; b = b; dm = x.dm }) (record { dens = y.dens; b = b; dm = y.dm }))
with_b true b x y = refl
with_b false b x y = refl

-- a species that is asked for where own is true
module _ (own : Bool) (h : Shape) (z : Float) (p : Place) (t : Thinning) (q : Root) (zhm xmm zh db xm alpha r : Float)
    (at : p ≡ place_at h z) (thins : Mixes own p xmm t) (rooted : Rooted own h zh db (xm ⊖ xmm) (alpha ⊖ 1·0) r q) where
  plain : gas_of p q.db xm alpha ≡ density_of h z db xm alpha
  plain = ap (λ (d : Float). gas_of p d xm alpha) rooted.lower ∙ gas_is h z p at db xm alpha

  here : own ≡ true → thinned_of t q.b ≡ density_of h z (density_of h zh db (xm ⊖ xmm) (alpha ⊖ 1·0)) xmm 0·0
  unfolding gas_of
  here o =
      ap (thinned_of t) (rooted.upper o)
      ∙ ap (λ (x : Thinning). thinned_of x (density_of h zh db (xm ⊖ xmm) (alpha ⊖ 1·0))) (thins o)
      ∙ gas_is h z p at _ xmm 0·0

  blended_is : own ≡ true → blended_of (gas_of p q.db xm alpha) t q.b xm zhm xmm ≡ record { dens = (mixed_of h z db zh xm alpha zhm xmm).dens; dm = (mixed_of h z db zh xm alpha zhm xmm).dm }
  unfolding blended_of mixed_of
  blended_is o = rw (plain, here o)

  alone : own ≡ false → ◌≡◌ {A = Mixture} (record { dens = gas_of p q.db xm alpha; dm = 0·0 }) (record { dens = density_of h z db xm alpha; dm = 0·0 })
  alone o = ap (λ (d : Float). record { dens = d; dm = 0·0 }) plain

module _ (h : Shape) (on : Bool) (z : Float) (p : Place) (t : Thinning) (q : Root) (at : p ≡ place_at h z) where
  -- N2, whose mixed density at the turbopause is given with it
  pub n2_is : (db zhf xmm : Float) → Mixes on p xmm t
      → (q.db ≡ db) × (q.b ≡ density_of h (pdm_t2 ‼ 2 ⊗ zhf) db (28·0 ⊖ xmm) (0·0 ⊖ 1·0))
      → ◌≡◌ {A = Blend} (record { dens = (n2_from on p t q xmm).dens; b = q.b; dm = (n2_from on p t q xmm).dm }) (n2_of h on z db zhf xmm)
  unfolding n2_from blended_n2 n2_of mixed_of
  n2_is db zhf xmm thins e =
      let rooted : Rooted on h (pdm_t2 ‼ 2 ⊗ zhf) db (28·0 ⊖ xmm) (0·0 ⊖ 1·0) q.r q = record { lower = e.0; upper = λ o. e.1; rate = λ o. refl } in
      ap (λ (b : Float). record { dens = (n2_from on p t q xmm).dens; b = b; dm = (n2_from on p t q xmm).dm }) e.1
      ∙ ap (λ (m : Mixture). record { dens = m.dens; b = density_of h (pdm_t2 ‼ 2 ⊗ zhf) db (28·0 ⊖ xmm) (0·0 ⊖ 1·0); dm = m.dm })
      (by_test on _ _ _ _
      (alone on h z p t q (pdm_t2 ‼ 3 ⊗ pdl_t1 ‼ 5) xmm (pdm_t2 ‼ 2 ⊗ zhf) db 28·0 0·0 _ at thins rooted)
      (blended_is on h z p t q (pdm_t2 ‼ 3 ⊗ pdl_t1 ‼ 5) xmm (pdm_t2 ‼ 2 ⊗ zhf) db 28·0 0·0 _ at thins rooted))
      ∙ with_b on _ _ _

  pub helium_is : (b28 db zhm xmm : Float) → Mixes on p xmm t
      → Rooted on h (pdm_t0 ‼ 2) db (4·0 ⊖ xmm) (neg 0·38 ⊖ 1·0) (log_of (b28 ⊗ pdm_t0 ‼ 1 ⊘ density_of h (pdm_t0 ‼ 2) db (4·0 ⊖ xmm) (neg 0·38 ⊖ 1·0))) q
      → helium_from on z p t q zhm xmm ≡ helium_of h on z b28 db zhm xmm
  unfolding helium_from blended_helium helium_of mixed_of
  helium_is b28 db zhm xmm thins rooted =
      by_test on _ _ _ _
      (alone on h z p t q zhm xmm (pdm_t0 ‼ 2) db 4·0 (neg 0·38) _ at thins rooted)
      (λ o. rw (blended_is on h z p t q zhm xmm (pdm_t0 ‼ 2) db 4·0 (neg 0·38) _ at thins rooted o, rooted.rate o))

  pub argon_is : (b28 db zhm xmm : Float) → Mixes on p xmm t
      → Rooted on h (pdm_t4 ‼ 2) db (40·0 ⊖ xmm) (0·17 ⊖ 1·0) (log_of (b28 ⊗ pdm_t4 ‼ 1 ⊘ density_of h (pdm_t4 ‼ 2) db (40·0 ⊖ xmm) (0·17 ⊖ 1·0))) q
      → argon_from on z p t q zhm xmm ≡ argon_of h on z b28 db zhm xmm
  unfolding argon_from blended_argon argon_of mixed_of
  argon_is b28 db zhm xmm thins rooted =
      by_test on _ _ _ _
      (alone on h z p t q zhm xmm (pdm_t4 ‼ 2) db 40·0 0·17 _ at thins rooted)
      (λ o. rw (blended_is on h z p t q zhm xmm (pdm_t4 ‼ 2) db 40·0 0·17 _ at thins rooted o, rooted.rate o))

  pub hydrogen_is : (b28 db zhm xmm : Float) → Mixes on p xmm t
      → Rooted on h (pdm_t5 ‼ 2) db (1·0 ⊖ xmm) (neg 0·38 ⊖ 1·0) (log_of (b28 ⊗ pdm_t5 ‼ 1 ⊗ sqrt_of (pdl_t1 ‼ 17 ⊗ pdl_t1 ‼ 17) ⊘ density_of h (pdm_t5 ‼ 2) db (1·0 ⊖ xmm) (neg 0·38 ⊖ 1·0))) q
      → hydrogen_from on z p t q zhm xmm ≡ hydrogen_of h on z b28 db zhm xmm
  unfolding hydrogen_from blended_hydrogen hydrogen_of mixed_of
  hydrogen_is b28 db zhm xmm thins rooted =
      by_test on _ _ _ _
      (alone on h z p t q zhm xmm (pdm_t5 ‼ 2) db 1·0 (neg 0·38) _ at thins rooted)
      (λ o. rw (blended_is on h z p t q zhm xmm (pdm_t5 ‼ 2) db 1·0 (neg 0·38) _ at thins rooted o, rooted.rate o))

  pub nitrogen_is : (b28 db zhm xmm : Float) → Mixes on p xmm t
      → Rooted on h (pdm_t6 ‼ 2) db (14·0 ⊖ xmm) (0·0 ⊖ 1·0) (log_of (b28 ⊗ pdm_t6 ‼ 1 ⊗ sqrt_of (pdl_t0 ‼ 2 ⊗ pdl_t0 ‼ 2) ⊘ density_of h (pdm_t6 ‼ 2) db (14·0 ⊖ xmm) (0·0 ⊖ 1·0))) q
      → nitrogen_from on z p t q zhm xmm ≡ nitrogen_of h on z b28 db zhm xmm
  unfolding nitrogen_from blended_nitrogen nitrogen_of mixed_of
  nitrogen_is b28 db zhm xmm thins rooted =
      by_test on _ _ _ _
      (alone on h z p t q zhm xmm (pdm_t6 ‼ 2) db 14·0 0·0 _ at thins rooted)
      (λ o. rw (blended_is on h z p t q zhm xmm (pdm_t6 ‼ 2) db 14·0 0·0 _ at thins rooted o, rooted.rate o))

  pub o2_mixed_is : (b28 db zhm xmm : Float) → Mixes on p xmm t
      → Rooted on h (pdm_t3 ‼ 2) db (32·0 ⊖ xmm) (0·0 ⊖ 1·0) (log_of (b28 ⊗ pdm_t3 ‼ 1 ⊘ density_of h (pdm_t3 ‼ 2) db (32·0 ⊖ xmm) (0·0 ⊖ 1·0))) q
      → o2_mixed_from on z p t q zhm xmm ≡ o2_mixed_of h on z b28 db zhm xmm
  unfolding o2_mixed_from blended_o2 o2_mixed_of mixed_of
  o2_mixed_is b28 db zhm xmm thins rooted =
      by_test on _ _ _ _
      (alone on h z p t q zhm xmm (pdm_t3 ‼ 2) db 32·0 0·0 _ at thins rooted)
      (λ o. rw (blended_is on h z p t q zhm xmm (pdm_t3 ‼ 2) db 32·0 0·0 _ at thins rooted o, rooted.rate o))

  pub oxygen_is : (db zhm xmm flux : Float) → Mixes on p xmm t
      → Rooted on h (pdm_t1 ‼ 2) db (16·0 ⊖ xmm) (0·0 ⊖ 1·0) (pdm_t1 ‼ 1 ⊗ pdl_t1 ‼ 16 ⊗ flux) q
      → oxygen_from on z p t q zhm xmm ≡ oxygen_of h on z db zhm xmm flux
  unfolding oxygen_from blended_oxygen oxygen_of mixed_of
  oxygen_is db zhm xmm flux thins rooted =
      by_test on _ _ _ _
      (alone on h z p t q zhm xmm (pdm_t1 ‼ 2) db 16·0 0·0 _ at thins rooted)
      (λ o. rw (blended_is on h z p t q zhm xmm (pdm_t1 ‼ 2) db 16·0 0·0 _ at thins rooted o, rooted.rate o))

  pub o2_is : (sw15 b28 db zhm xmm flux rate : Float) → Mixes on p xmm t
      → Rooted on h (pdm_t3 ‼ 2) db (32·0 ⊖ xmm) (0·0 ⊖ 1·0) (log_of (b28 ⊗ pdm_t3 ‼ 1 ⊘ density_of h (pdm_t3 ‼ 2) db (32·0 ⊖ xmm) (0·0 ⊖ 1·0))) q
      → rate ≡ pdm_t3 ‼ 3 ⊗ pdl_t1 ‼ 23 ⊗ flux
      → o2_from sw15 on z p t q rate zhm xmm ≡ o2_of h sw15 on z b28 db zhm xmm flux
  unfolding o2_from o2_of
  o2_is sw15 b28 db zhm xmm flux rate thins rooted e = rw (o2_mixed_is b28 db zhm xmm thins rooted, e)

pub anomalous_is : (h : Shape) (z : Float) (p : Place) → p ≡ place_at h z → (db factor zsht zmho tho : Float) → factor ≡ anomalous_factor_of h.rgas h.gsurf h.re zsht zmho tho
    → anomalous_oxygen_from z p db factor zsht zmho ≡ anomalous_oxygen_of h z db zsht zmho tho
unfolding anomalous_oxygen_from anomalous_factor_of anomalous_oxygen_of
anomalous_is h z p at db factor zsht zmho tho e = rw (gas_is h z p at db 16·0 0·0, e)
