-- Each species of gts7 with the answer of its expansion given, as the Rust writes it.
use Rattle.std.specs.Prelude.{Bool, cond, not, List, [], ◌∷◌, Float}
use Rattle.std.specs.Float.Ieee.{neg, ne}
use Rattle.numbers.specs.Arithmetic.{◌⊖◌, ◌⊗◌, ◌⊘◌, ◌‼◌}
use Rattle.numbers.specs.Literals.{0·0, 0·17, 0·38, 1·0, 4·0, 14·0, 16·0, 28·0, 32·0, 40·0, 72·5, 90·0, 100·0, 110·0}
use Rattle.elementary.specs.Exp.{exp_of}
use Rattle.elementary.specs.Log.{log_of}
use Rattle.elementary.specs.Root.{sqrt_of}
use Rattle.mixing.specs.Mixing.{ccor_of, ccor2_of, dnet_of}
use Rattle.profile.specs.Gravity.{scalh_of}
use Rattle.profile.specs.Profile.{densu5_of, returned_number, temperature_in}
use Rattle.profile.specs.declared.unchecked.Shape.{Shape}
use Rattle.tables.specs.Tables.{ptm_t, pdl_t0, pdl_t1, pdm_t0, pdm_t1, pdm_t2, pdm_t3, pdm_t4, pdm_t5, pdm_t6}
use Rattle.species.specs.declared.Blend.{Blend}
use Rattle.species.specs.declared.Mixture.{Mixture}

-- zn1 of gts7
abbrev pub nodes : List Float
nodes = (pdl_t1 ‼ 15) ∷ 110·0 ∷ 100·0 ∷ 90·0 ∷ 72·5 ∷ []

-- densu over gts7's nodes: what it returns for a density dlb at the lower boundary
unfoldable pub density_of : Shape → Float → Float → Float → Float → Float
density_of h z dlb xm alpha = returned_number (densu5_of h z dlb xm alpha (ptm_t ‼ 5) nodes)

-- densu over gts7's nodes: the temperature that it writes
unfoldable pub temperature_of : Shape → Float → Float
temperature_of h z = temperature_in (densu5_of h z 1·0 0·0 0·0 (ptm_t ‼ 5) nodes)

-- a species above and below the turbopause, blended
unfoldable pub mixed_of : Shape → Float → Float → Float → Float → Float → Float → Float → Blend
mixed_of h z db zh xm alpha zhm xmm =
    let d0 = density_of h z db xm alpha in
    let b = density_of h zh db (xm ⊖ xmm) (alpha ⊖ 1·0) in
    let dm = density_of h z b xmm 0·0 in
    record { dens = dnet_of d0 dm zhm xmm xm; b = b; dm = dm }

-- N2: on says whether it is mixed, xmm is the mass of mixed air
unfoldable pub n2_of : Shape → Bool → Float → Float → Float → Float → Blend
n2_of h on z db zhf xmm =
    let m = pdm_t2 in
    let d0 = density_of h z db 28·0 0·0 in
    let b = density_of h (m ‼ 2 ⊗ zhf) db (28·0 ⊖ xmm) (0·0 ⊖ 1·0) in
    cond (not on) (record { dens = d0; b = b; dm = 0·0 }) (
    let dm = density_of h z b xmm 0·0 in
    record { dens = dnet_of d0 dm (m ‼ 3 ⊗ pdl_t1 ‼ 5) xmm 28·0; b = b; dm = dm })

-- Helium
unfoldable pub helium_of : Shape → Bool → Float → Float → Float → Float → Float → Mixture
helium_of h on z b28 db zhm xmm =
    cond (not on) (record { dens = density_of h z db 4·0 (neg 0·38); dm = 0·0 }) (
    let m = pdm_t0 in
    let l = pdl_t1 in
    let x = mixed_of h z db (m ‼ 2) 4·0 (neg 0·38) zhm xmm in
    let r = log_of (b28 ⊗ m ‼ 1 ⊘ x.b) in
    let c = ccor_of z r (m ‼ 5 ⊗ l ‼ 1) (m ‼ 4 ⊗ l ‼ 0) in
    record { dens = x.dens ⊗ c; dm = x.dm })

-- Atomic oxygen
unfoldable pub oxygen_of : Shape → Bool → Float → Float → Float → Float → Float → Mixture
oxygen_of h on z db zhm xmm flux =
    cond (not on) (record { dens = density_of h z db 16·0 0·0; dm = 0·0 }) (
    let m = pdm_t1 in
    let l = pdl_t1 in
    let x = mixed_of h z db (m ‼ 2) 16·0 0·0 zhm xmm in
    let c = ccor2_of z (m ‼ 1 ⊗ l ‼ 16 ⊗ flux) (m ‼ 5 ⊗ l ‼ 3) (m ‼ 4 ⊗ l ‼ 2) (m ‼ 5 ⊗ l ‼ 4) in
    let e = ccor_of z (m ‼ 3 ⊗ l ‼ 14) (m ‼ 7 ⊗ l ‼ 13) (m ‼ 6 ⊗ l ‼ 12) in
    record { dens = x.dens ⊗ c ⊗ e; dm = x.dm })

-- Molecular oxygen without its second correction
unfoldable pub o2_mixed_of : Shape → Bool → Float → Float → Float → Float → Float → Mixture
o2_mixed_of h on z b28 db zhm xmm =
    cond (not on) (record { dens = density_of h z db 32·0 0·0; dm = 0·0 }) (
    let m = pdm_t3 in
    let l = pdl_t1 in
    let x = mixed_of h z db (m ‼ 2) 32·0 0·0 zhm xmm in
    let r = log_of (b28 ⊗ m ‼ 1 ⊘ x.b) in
    let c = ccor_of z r (m ‼ 5 ⊗ l ‼ 7) (m ‼ 4 ⊗ l ‼ 6) in
    record { dens = x.dens ⊗ c; dm = x.dm })

-- Argon
unfoldable pub argon_of : Shape → Bool → Float → Float → Float → Float → Float → Mixture
argon_of h on z b28 db zhm xmm =
    cond (not on) (record { dens = density_of h z db 40·0 0·17; dm = 0·0 }) (
    let m = pdm_t4 in
    let l = pdl_t1 in
    let x = mixed_of h z db (m ‼ 2) 40·0 0·17 zhm xmm in
    let r = log_of (b28 ⊗ m ‼ 1 ⊘ x.b) in
    let c = ccor_of z r (m ‼ 5 ⊗ l ‼ 9) (m ‼ 4 ⊗ l ‼ 8) in
    record { dens = x.dens ⊗ c; dm = x.dm })

-- Hydrogen
unfoldable pub hydrogen_of : Shape → Bool → Float → Float → Float → Float → Float → Mixture
hydrogen_of h on z b28 db zhm xmm =
    cond (not on) (record { dens = density_of h z db 1·0 (neg 0·38); dm = 0·0 }) (
    let m = pdm_t5 in
    let l = pdl_t1 in
    let x = mixed_of h z db (m ‼ 2) 1·0 (neg 0·38) zhm xmm in
    let q = sqrt_of (l ‼ 17 ⊗ l ‼ 17) in
    let r = log_of (b28 ⊗ m ‼ 1 ⊗ q ⊘ x.b) in
    let c = ccor_of z r (m ‼ 5 ⊗ l ‼ 11) (m ‼ 4 ⊗ l ‼ 10) in
    let e = ccor_of z (m ‼ 3 ⊗ l ‼ 20) (m ‼ 7 ⊗ l ‼ 19) (m ‼ 6 ⊗ l ‼ 18) in
    record { dens = x.dens ⊗ c ⊗ e; dm = x.dm })

-- Atomic nitrogen
unfoldable pub nitrogen_of : Shape → Bool → Float → Float → Float → Float → Float → Mixture
nitrogen_of h on z b28 db zhm xmm =
    cond (not on) (record { dens = density_of h z db 14·0 0·0; dm = 0·0 }) (
    let m = pdm_t6 in
    let l = pdl_t0 in
    let x = mixed_of h z db (m ‼ 2) 14·0 0·0 zhm xmm in
    let q = sqrt_of (l ‼ 2 ⊗ l ‼ 2) in
    let r = log_of (b28 ⊗ m ‼ 1 ⊗ q ⊘ x.b) in
    let c = ccor_of z r (m ‼ 5 ⊗ l ‼ 1) (m ‼ 4 ⊗ l ‼ 0) in
    let e = ccor_of z (m ‼ 3 ⊗ l ‼ 5) (m ‼ 7 ⊗ l ‼ 4) (m ‼ 6 ⊗ l ‼ 3) in
    record { dens = x.dens ⊗ c ⊗ e; dm = x.dm })

-- molecular oxygen; the second correction asks switch 15 alone
unfoldable pub o2_of : Shape → Float → Bool → Float → Float → Float → Float → Float → Float → Mixture
o2_of h sw15 on z b28 db zhm xmm flux =
    let x = o2_mixed_of h on z b28 db zhm xmm in
    cond (not (ne sw15 0·0)) x (
    let m = pdm_t3 in
    let c = ccor2_of z (m ‼ 3 ⊗ pdl_t1 ‼ 23 ⊗ flux) (m ‼ 7 ⊗ pdl_t1 ‼ 22) (m ‼ 6 ⊗ pdl_t1 ‼ 21) (m ‼ 7 ⊗ pdl_t0 ‼ 22) in
    record { dens = x.dens ⊗ c; dm = x.dm })

-- anomalous oxygen; tho is its temperature
unfoldable pub anomalous_oxygen_of : Shape → Float → Float → Float → Float → Float → Float
anomalous_oxygen_of h z db zsht zmho tho =
    let dd = density_of h z db 16·0 0·0 in
    let zsho = scalh_of h.rgas h.gsurf h.re zmho 16·0 tho in
    let a = exp_of (neg (z ⊖ zmho) ⊘ zsht) in
    dd ⊗ exp_of (neg zsht ⊘ zsho ⊗ (a ⊖ 1·0))
