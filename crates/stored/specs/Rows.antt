-- The row out of what a station stores is gtd7's.
use Rattle.std.specs.Prelude.{ℕ, zero, suc, ◌+◌, ◌*◌, ◌≤◌, ◌<◌, ◌≡◌, Bool, false, cond, not, List, [], ◌∷◌, ◌++◌, T, ℤ, length, take, drop, replicate}
use Rattle.std.proofs.Math.Path.{refl, ap}
use Rattle.std.proofs.Common.{sym, ap₂, ◌∙◌, subst, arith, not-suc-le-zero, ltb-false, lt→ltb, length-append, drop-drop}
use Rattle.std.proofs.Math.Bool.{true}
use Rattle.std.proofs.lemmas.Bool.{false≢true}
use Rattle.std.proofs.Math.Seq.{take_at, take-length, drop_at}
use Rattle.std.specs.Float.Ieee.Fits.{down_pos}
use Rattle.std.specs.Float.Ieee.{Float, up, down, neg, lt, le, eq, of_bits}
use Rattle.std.specs.Float.{nan, inf, fin}
use Rattle.numbers.specs.Arithmetic.{◌⊖◌, ◌⊗◌, ◌⊘◌, ◌‼◌}
use Rattle.numbers.specs.Literals.{0·0, 0·17, 0·38, 1·0, 4·0, 14·0, 16·0, 32·0, 40·0, 72·5, 100·0, 200·0, 300·0, 2500·0}
use Rattle.numbers.specs.Booleans.{or_left, and_both}
use Rattle.elementary.specs.Exp.{exp_of}
use Rattle.elementary.specs.Log.{log_of}
use Rattle.elementary.specs.Root.{sqrt_of}
use Rattle.parameters.specs.Parameters.{present_of}
use Rattle.parameters.specs.declared.Parameters.{Parameters}
use Rattle.mixing_limits.specs.Limits.{mixed_at, some_mixed}
use Rattle.mixing_limits.specs.declared.Mixed.{Mixed}
use Rattle.mixing_limits.proofs.Some.{o_there, o2_there, ar_there, n_there, four_some, he_some, n2_some, h_some}
use Rattle.layers.specs.Layers.{first_five, span_of, blank_of}
use Rattle.places.specs.Place.{spine_of, under_place}
use Rattle.places.specs.Thinning.{place_temperature}
use Rattle.places.specs.declared.place.Spine.{Spine}
use Rattle.places.specs.declared.place.Place.{Place}
use Rattle.places.specs.declared.thinning.Thinning.{Thinning}
use Rattle.places.proofs.Order.{lt_asym}
use Rattle.plan.specs.declared.ExpansionValues.{ExpansionValues}
use Rattle.plan.specs.Plan.{Plan, Ask, either, ◌>>=◌, told, answer_to}
use Rattle.profile.specs.declared.unchecked.Shape.{Shape}
use Rattle.species.specs.declared.Blend.{Blend}
use Rattle.species.specs.declared.Root.{Root}
use Rattle.species.specs.Species.{nodes, density_of, temperature_of}
use Rattle.species.specs.Places.{spine_at, place_at, Mixes}
use Rattle.species.specs.Rooted.{Rooted, mixing_of, helium_root_of, o2_root_of, argon_root_of, hydrogen_root_of, nitrogen_root_of, n2_from, helium_from, oxygen_from, o2_from, argon_from, hydrogen_from, nitrogen_from, anomalous_oxygen_from, root_is, oxygen_root_is, helium_is, oxygen_is, o2_is, argon_is, hydrogen_is, nitrogen_is}
use Rattle.species.proofs.Laws.{mixes}
use Rattle.tables.specs.Tables.{ptm_t, pd_t0, pd_t1, pd_t2, pd_t4, pd_t5, pd_t6, pd_t7, pd_t8, pdm_t0, pdm_t1, pdm_t2, pdm_t3, pdm_t4, pdm_t5, pdm_t6, pdm_t7, pdl_t0, pdl_t1}
use Rattle.gts7_arithmetic.specs.declared.Site.{Site}
use Rattle.gts7_arithmetic.specs.declared.Nodes.{Nodes}
use Rattle.gts7_arithmetic.specs.declared.SixSpecies.{SixSpecies}
use Rattle.gts7_arithmetic.specs.declared.Gts7Output.{Gts7Output}
use Rattle.gts7_arithmetic.specs.Gts7Arithmetic.{varied_of, mean_of, shape_of, anomalous_of, row_of, gather_of}
use Rattle.stages.specs.Stages.{tinf_plan, gradient_plan, tlb_plan, nodes_plan, shape_plan, n2_plan, helium_plan, oxygen_plan, o2_plan, argon_plan, hydrogen_plan, nitrogen_plan, species_plan, anomalous_plan, gts7_plan}
use Rattle.stages.proofs.Laws.{n2_law, anomalous_law}
use Rattle.thermosphere.proofs.Laws.{shape_law, species_law, gts7_law, o2_too, argon_too, nitrogen_too}
use Rattle.lower_atmosphere.specs.LowerAtmosphere.{mesosphere_of, meso_nodes_plan, gtd7_above}
use Rattle.unmixed.proofs.Laws.{gathered}
use Rattle.region.specs.declared.Bases.{Bases}
use Rattle.region.specs.declared.Roots.{Roots}
use Rattle.region.specs.Region.{base_of, thin_bases_of, dense_bases_of, bases_of, turbopauses_of, roots_from, roots_of, six_at, row_at, row_over, temperature_at, row_under}
use Rattle.footing.specs.declared.Footing.{Footing}
use Rattle.footing.specs.Footing.{curves_of, standing_of, footing_of, row_below_of}
use Rattle.atmosphere.specs.Atmosphere.{eleven_from}
use Rattle.atmosphere.specs.Rows.{eleven_above, eleven_below}
use Rattle.atmosphere.proofs.Laws.{present_mass}
use Rattle.stored_parts.specs.declared.Parts.{Parts}
use Rattle.stored_parts.specs.Parts.{parts_at}
use Rattle.stored_parts.specs.Held.{PartsHold}
use Rattle.stored.specs.Stored.{part, region_numbers, spine_numbers, span_numbers, ground_numbers, footing_numbers, five_in, shape_in, root_in, roots_in, spine_in, span_in, footing_in, region_stored, low_stored, footing_stored, summit_stored, stored_of, low_row, row_stored}

-- ---- the shape of a region: gts7's plan asks three tests of the altitude

module _ (sw : List Float) (x : Site) (z y : Float)
    (above : lt (pdl_t1 ‼ 15) z ≡ lt (pdl_t1 ‼ 15) y) (over : lt 72·5 z ≡ lt 72·5 y) (under : lt z 300·0 ≡ lt y 300·0) where
  tinf_alike : tinf_plan sw z ≡ tinf_plan sw y
  unfolding tinf_plan
  tinf_alike = rw above

  gradient_alike : gradient_plan sw z ≡ gradient_plan sw y
  unfolding gradient_plan
  gradient_alike = rw over

  nodes_alike : nodes_plan sw z ≡ nodes_plan sw y
  unfolding nodes_plan
  nodes_alike = rw under

  shape_alike : (l : ExpansionValues) → told (answer_to l) (shape_plan sw x z) ≡ told (answer_to l) (shape_plan sw x y)
  unfolding shape_plan
  shape_alike l = rw (tinf_alike, gradient_alike, nodes_alike)

-- 100, 200 and 300 km stand for their regions
above_100 : lt (pdl_t1 ‼ 15) 100·0 ≡ false
unfolding lt of_bits pdl_t1
above_100 = refl

above_200 : lt (pdl_t1 ‼ 15) 200·0 ≡ true
unfolding lt of_bits pdl_t1
above_200 = refl

above_300 : lt (pdl_t1 ‼ 15) 300·0 ≡ true
unfolding lt of_bits pdl_t1
above_300 = refl

over_100 : lt 72·5 100·0 ≡ true
unfolding lt of_bits
over_100 = refl

over_200 : lt 72·5 200·0 ≡ true
unfolding lt of_bits
over_200 = refl

over_300 : lt 72·5 300·0 ≡ true
unfolding lt of_bits
over_300 = refl

under_100 : lt 100·0 300·0 ≡ true
unfolding lt of_bits
under_100 = refl

under_200 : lt 200·0 300·0 ≡ true
unfolding lt of_bits
under_200 = refl

under_300 : lt 300·0 300·0 ≡ false
unfolding lt of_bits
under_300 = refl

-- ---- a species from its root at the turbopause is its plan's

anywhere : (on : Bool) (h : Shape) (zh db xm alpha r : Float) (q : Root) → Rooted true h zh db xm alpha r q → Rooted on h zh db xm alpha r q
anywhere on h zh db xm alpha r q a = record { lower = a.lower; upper = λ o. a.upper refl; rate = λ o. a.rate refl }

module _ (sw : List Float) (x : Site) (z : Float) (l : ExpansionValues) (h : Shape) (p : Place) (at : p ≡ place_at h z) where
  abbrev m : Mixed
  m = mixed_at x.nine (sw ‼ 15) z

  abbrev xmm : Float
  xmm = x.nine.xmm

  abbrev thins : Thinning
  thins = mixing_of (some_mixed m) p xmm

  thins_is : Mixes (some_mixed m) p xmm thins
  thins_is = mixes (some_mixed m) p xmm thins refl

  abbrev d : Bases
  d = bases_of (sw ‼ 21) l

  abbrev q : Roots
  q = roots_of h x d

  abbrev zhm : Float
  zhm = pdm_t2 ‼ 3 ⊗ pdl_t1 ‼ 5

  n2_told : ◌≡◌ {A = Blend} (record { dens = (n2_from m.n2 p thins q.n2 xmm).dens; b = q.n2.b; dm = (n2_from m.n2 p thins q.n2 xmm).dm }) (told (answer_to l) (n2_plan sw h m.n2 z x.zhf xmm))
  unfolding roots_of roots_from turbopauses_of bases_of dense_bases_of base_of
  n2_told = n2_law sw h m.n2 z p (place_at h (pdm_t2 ‼ 2 ⊗ x.zhf)) thins x.zhf xmm l _ q.n2 _ pdm_t2 pd_t2 refl refl refl refl refl (at, refl, λ o. thins_is (n2_some m o))

  helium_told : helium_from m.he z p thins q.he zhm xmm ≡ told (answer_to l) (helium_plan sw h m.he z q.n2.b zhm xmm)
  unfolding roots_of roots_from turbopauses_of bases_of thin_bases_of base_of told helium_plan ◌>>=◌ helium_root_of
  helium_told =
      helium_is h m.he z p thins q.he at q.n2.b (pdm_t0 ‼ 0 ⊗ exp_of (sw ‼ 21 ⊗ l.pd0) ⊗ pd_t0 ‼ 0) zhm xmm (λ o. thins_is (he_some m o))
      (anywhere m.he h (pdm_t0 ‼ 2) (pdm_t0 ‼ 0 ⊗ exp_of (sw ‼ 21 ⊗ l.pd0) ⊗ pd_t0 ‼ 0) (4·0 ⊖ xmm) (neg 0·38 ⊖ 1·0) (log_of (q.n2.b ⊗ pdm_t0 ‼ 1 ⊘ density_of h (pdm_t0 ‼ 2) (pdm_t0 ‼ 0 ⊗ exp_of (sw ‼ 21 ⊗ l.pd0) ⊗ pd_t0 ‼ 0) (4·0 ⊖ xmm) (neg 0·38 ⊖ 1·0))) q.he
      (root_is true h (pdm_t0 ‼ 2) (place_at h (pdm_t0 ‼ 2)) (pdm_t0 ‼ 0 ⊗ exp_of (sw ‼ 21 ⊗ l.pd0) ⊗ pd_t0 ‼ 0) (4·0 ⊖ xmm) (neg 0·38 ⊖ 1·0) (q.n2.b ⊗ pdm_t0 ‼ 1) q.he refl (λ o. refl)))

  argon_told : argon_from m.ar z p thins q.ar zhm xmm ≡ told (answer_to l) (argon_plan sw h m.ar z q.n2.b zhm xmm)
  unfolding roots_of roots_from turbopauses_of bases_of dense_bases_of base_of told argon_plan ◌>>=◌ argon_root_of
  argon_told =
      argon_is h m.ar z p thins q.ar at q.n2.b (pdm_t4 ‼ 0 ⊗ exp_of (sw ‼ 21 ⊗ l.pd5) ⊗ pd_t5 ‼ 0) zhm xmm (λ o. thins_is (four_some m (ar_there m o)))
      (anywhere m.ar h (pdm_t4 ‼ 2) (pdm_t4 ‼ 0 ⊗ exp_of (sw ‼ 21 ⊗ l.pd5) ⊗ pd_t5 ‼ 0) (40·0 ⊖ xmm) (0·17 ⊖ 1·0) (log_of (q.n2.b ⊗ pdm_t4 ‼ 1 ⊘ density_of h (pdm_t4 ‼ 2) (pdm_t4 ‼ 0 ⊗ exp_of (sw ‼ 21 ⊗ l.pd5) ⊗ pd_t5 ‼ 0) (40·0 ⊖ xmm) (0·17 ⊖ 1·0))) q.ar
      (root_is true h (pdm_t4 ‼ 2) (place_at h (pdm_t1 ‼ 2)) (pdm_t4 ‼ 0 ⊗ exp_of (sw ‼ 21 ⊗ l.pd5) ⊗ pd_t5 ‼ 0) (40·0 ⊖ xmm) (0·17 ⊖ 1·0) (q.n2.b ⊗ pdm_t4 ‼ 1) q.ar refl (λ o. ap (place_at h) argon_too)))

  hydrogen_told : hydrogen_from m.h z p thins q.h zhm xmm ≡ told (answer_to l) (hydrogen_plan sw h m.h z q.n2.b zhm xmm)
  unfolding roots_of roots_from turbopauses_of bases_of thin_bases_of base_of told hydrogen_plan ◌>>=◌ hydrogen_root_of
  hydrogen_told =
      hydrogen_is h m.h z p thins q.h at q.n2.b (pdm_t5 ‼ 0 ⊗ exp_of (sw ‼ 21 ⊗ l.pd6) ⊗ pd_t6 ‼ 0) zhm xmm (λ o. thins_is (h_some m o))
      (anywhere m.h h (pdm_t5 ‼ 2) (pdm_t5 ‼ 0 ⊗ exp_of (sw ‼ 21 ⊗ l.pd6) ⊗ pd_t6 ‼ 0) (1·0 ⊖ xmm) (neg 0·38 ⊖ 1·0) (log_of (q.n2.b ⊗ pdm_t5 ‼ 1 ⊗ sqrt_of (pdl_t1 ‼ 17 ⊗ pdl_t1 ‼ 17) ⊘ density_of h (pdm_t5 ‼ 2) (pdm_t5 ‼ 0 ⊗ exp_of (sw ‼ 21 ⊗ l.pd6) ⊗ pd_t6 ‼ 0) (1·0 ⊖ xmm) (neg 0·38 ⊖ 1·0))) q.h
      (root_is true h (pdm_t5 ‼ 2) (place_at h (pdm_t5 ‼ 2)) (pdm_t5 ‼ 0 ⊗ exp_of (sw ‼ 21 ⊗ l.pd6) ⊗ pd_t6 ‼ 0) (1·0 ⊖ xmm) (neg 0·38 ⊖ 1·0) (q.n2.b ⊗ pdm_t5 ‼ 1 ⊗ sqrt_of (pdl_t1 ‼ 17 ⊗ pdl_t1 ‼ 17)) q.h refl (λ o. refl)))

  nitrogen_told : nitrogen_from m.n z p thins q.n zhm xmm ≡ told (answer_to l) (nitrogen_plan sw h m.n z q.n2.b zhm xmm)
  unfolding roots_of roots_from turbopauses_of bases_of thin_bases_of base_of told nitrogen_plan ◌>>=◌ nitrogen_root_of
  nitrogen_told =
      nitrogen_is h m.n z p thins q.n at q.n2.b (pdm_t6 ‼ 0 ⊗ exp_of (sw ‼ 21 ⊗ l.pd7) ⊗ pd_t7 ‼ 0) zhm xmm (λ o. thins_is (four_some m (n_there m o)))
      (anywhere m.n h (pdm_t6 ‼ 2) (pdm_t6 ‼ 0 ⊗ exp_of (sw ‼ 21 ⊗ l.pd7) ⊗ pd_t7 ‼ 0) (14·0 ⊖ xmm) (0·0 ⊖ 1·0) (log_of (q.n2.b ⊗ pdm_t6 ‼ 1 ⊗ sqrt_of (pdl_t0 ‼ 2 ⊗ pdl_t0 ‼ 2) ⊘ density_of h (pdm_t6 ‼ 2) (pdm_t6 ‼ 0 ⊗ exp_of (sw ‼ 21 ⊗ l.pd7) ⊗ pd_t7 ‼ 0) (14·0 ⊖ xmm) (0·0 ⊖ 1·0))) q.n
      (root_is true h (pdm_t6 ‼ 2) (place_at h (pdm_t1 ‼ 2)) (pdm_t6 ‼ 0 ⊗ exp_of (sw ‼ 21 ⊗ l.pd7) ⊗ pd_t7 ‼ 0) (14·0 ⊖ xmm) (0·0 ⊖ 1·0) (q.n2.b ⊗ pdm_t6 ‼ 1 ⊗ sqrt_of (pdl_t0 ‼ 2 ⊗ pdl_t0 ‼ 2)) q.n refl (λ o. ap (place_at h) nitrogen_too)))

  o2_told : o2_from (sw ‼ 15) m.o2 z p thins q.o2 q.rate zhm xmm ≡ told (answer_to l) (o2_plan sw h m.o2 z q.n2.b zhm xmm x.flux)
  unfolding roots_of roots_from turbopauses_of bases_of dense_bases_of base_of told o2_plan ◌>>=◌ o2_root_of
  o2_told =
      o2_is h m.o2 z p thins q.o2 at (sw ‼ 15) q.n2.b (pdm_t3 ‼ 0 ⊗ exp_of (sw ‼ 21 ⊗ l.pd4) ⊗ pd_t4 ‼ 0) zhm xmm x.flux q.rate (λ o. thins_is (four_some m (o2_there m o)))
      (anywhere m.o2 h (pdm_t3 ‼ 2) (pdm_t3 ‼ 0 ⊗ exp_of (sw ‼ 21 ⊗ l.pd4) ⊗ pd_t4 ‼ 0) (32·0 ⊖ xmm) (0·0 ⊖ 1·0) (log_of (q.n2.b ⊗ pdm_t3 ‼ 1 ⊘ density_of h (pdm_t3 ‼ 2) (pdm_t3 ‼ 0 ⊗ exp_of (sw ‼ 21 ⊗ l.pd4) ⊗ pd_t4 ‼ 0) (32·0 ⊖ xmm) (0·0 ⊖ 1·0))) q.o2
      (root_is true h (pdm_t3 ‼ 2) (place_at h (pdm_t1 ‼ 2)) (pdm_t3 ‼ 0 ⊗ exp_of (sw ‼ 21 ⊗ l.pd4) ⊗ pd_t4 ‼ 0) (32·0 ⊖ xmm) (0·0 ⊖ 1·0) (q.n2.b ⊗ pdm_t3 ‼ 1) q.o2 refl (λ o. ap (place_at h) o2_too))) refl

  oxygen_told : oxygen_from m.o z p thins q.o zhm xmm ≡ told (answer_to l) (oxygen_plan sw h m.o z zhm xmm x.flux)
  unfolding roots_of roots_from turbopauses_of bases_of dense_bases_of base_of told oxygen_plan ◌>>=◌
  oxygen_told =
      oxygen_is h m.o z p thins q.o at (pdm_t1 ‼ 0 ⊗ exp_of (sw ‼ 21 ⊗ l.pd1) ⊗ pd_t1 ‼ 0) zhm xmm x.flux (λ o. thins_is (four_some m (o_there m o)))
      (anywhere m.o h (pdm_t1 ‼ 2) (pdm_t1 ‼ 0 ⊗ exp_of (sw ‼ 21 ⊗ l.pd1) ⊗ pd_t1 ‼ 0) (16·0 ⊖ xmm) (0·0 ⊖ 1·0) (pdm_t1 ‼ 1 ⊗ pdl_t1 ‼ 16 ⊗ x.flux) q.o
      (oxygen_root_is true h (place_at h (pdm_t1 ‼ 2)) (pdm_t1 ‼ 0 ⊗ exp_of (sw ‼ 21 ⊗ l.pd1) ⊗ pd_t1 ‼ 0) x.flux xmm q.o refl (λ o. refl)))

  six_told : six_at (sw ‼ 15) m z q p thins zhm xmm ≡ told (answer_to l) (species_plan sw h m z q.n2.b x.flux xmm)
  unfolding six_at
  six_told =
      species_law sw h m z q.n2.b x.flux xmm l _ _ _ _ _ _ pdl_t1 pdm_t2
      nitrogen_told hydrogen_told argon_told o2_told oxygen_told helium_told refl refl

  anomalous_told : (k : Place) → k ≡ place_at (anomalous_of h) z → anomalous_oxygen_from z k q.hot q.factor (pdm_t7 ‼ 5) (pdm_t7 ‼ 4) ≡ told (answer_to l) (anomalous_plan sw (anomalous_of h) z)
  unfolding roots_of roots_from turbopauses_of bases_of thin_bases_of base_of anomalous_of
  anomalous_told k e = anomalous_law sw (anomalous_of h) z l _ q.factor k _ pdl_t0 pdm_t7 pd_t8 refl refl e refl refl refl refl

  -- the row at a place is gts7's
  row_told : (k : Place) (t1 : Float) → k ≡ place_at (anomalous_of h) z → t1 ≡ temperature_of h (sqrt_of (z ⊗ z)) → h ≡ told (answer_to l) (shape_plan sw x z)
      → row_at x.nine (sw ‼ 0) (sw ‼ 15) z h.tinf q p k t1 ≡ (gtd7_above (told (answer_to l) (gts7_plan sw x z))).row
  unfolding row_at
  row_told k t1 e f g =
      let b : Blend = record { dens = (n2_from m.n2 p thins q.n2 xmm).dens; b = q.n2.b; dm = (n2_from m.n2 p thins q.n2 xmm).dm } in
      let y : SixSpecies = six_at (sw ‼ 15) m z q p thins zhm xmm in
      let o : Float = anomalous_oxygen_from z k q.hot q.factor (pdm_t7 ‼ 5) (pdm_t7 ‼ 4) in
      ap (λ (t : Float). row_of (sw ‼ 0) h.tinf b.dens y o t) f
      ∙ gathered (sw ‼ 0) h z b y o
      ∙ ap (λ (u : Gts7Output). (gtd7_above u).row) (gts7_law sw x z l (gather_of (sw ‼ 0) h z b y o) o (anomalous_of h) y b m h refl (anomalous_told k e) refl six_told n2_told refl g)

-- at or above za
over_told : (sw : List Float) (x : Site) (z : Float) (l : ExpansionValues) (h : Shape) → h ≡ told (answer_to l) (shape_plan sw x z)
    → row_over x.nine (sw ‼ 0) (sw ‼ 15) h (roots_of h x (bases_of (sw ‼ 21) l)) z ≡ (gtd7_above (told (answer_to l) (gts7_plan sw x z))).row
unfolding row_over temperature_of
over_told sw x z l h e =
    row_told sw x z l h (place_at h z) refl (place_at (anomalous_of h) z) (place_at h (sqrt_of (z ⊗ z))).tz refl (place_temperature h (sqrt_of (z ⊗ z)) (ptm_t ‼ 5) nodes) e

-- below za, where the spines serve
warm_told : (h : Shape) (r : Float) (b : Bool) → lt r (pdl_t1 ‼ 15) ≡ b → temperature_at h (spine_at h) r ≡ temperature_of h r
unfolding temperature_at temperature_of
warm_told h r true e =
    rw e (ap (λ (w : Place). w.tz) (under_place h r (ptm_t ‼ 5) nodes e (lt_asym r (pdl_t1 ‼ 15) e)) ∙ place_temperature h r (ptm_t ‼ 5) nodes)
warm_told h r false e = rw e (place_temperature h r (ptm_t ‼ 5) nodes)

under_told : (sw : List Float) (x : Site) (z : Float) (l : ExpansionValues) (h : Shape) → lt z (pdl_t1 ‼ 15) ≡ true → lt (pdl_t1 ‼ 15) z ≡ false → h ≡ told (answer_to l) (shape_plan sw x z)
    → row_under x.nine (sw ‼ 0) (sw ‼ 15) h (spine_at h) (spine_at (anomalous_of h)) (roots_of h x (bases_of (sw ‼ 21) l)) z ≡ (gtd7_above (told (answer_to l) (gts7_plan sw x z))).row
unfolding row_under anomalous_of
under_told sw x z l h below not_above e =
    row_told sw x z l h _ (under_place h z (ptm_t ‼ 5) nodes below not_above) _ _ (under_place (anomalous_of h) z (ptm_t ‼ 5) nodes below not_above)
    (warm_told h (sqrt_of (z ⊗ z)) (lt (sqrt_of (z ⊗ z)) (pdl_t1 ‼ 15)) refl) e

-- ---- what is stored is read again as it was

either_told : {A : Type 0} (P : A → Type 0) (g : Ask → Float) (b : Bool) (m n : Plan A) → P (told g m) → P (told g n) → P (told g (either b m n))
either_told P g true m n e f = e
either_told P g false m n e f = f

-- five numbers and two
abbrev Plain : List Float → List Float → Type 0
Plain t g = (((t ‼ 0) ∷ (t ‼ 1) ∷ (t ‼ 2) ∷ (t ‼ 3) ∷ (t ‼ 4) ∷ []) ≡ t) × (((g ‼ 0) ∷ (g ‼ 1) ∷ []) ≡ g)

nodes_plain : (sw : List Float) (z : Float) (l : ExpansionValues) → Plain (told (answer_to l) (nodes_plan sw z)).tn (told (answer_to l) (nodes_plan sw z)).tgn
unfolding told nodes_plan ◌>>=◌ varied_of mean_of
nodes_plain sw z l = either_told (λ (n : Nodes). Plain n.tn n.tgn) (answer_to l) (lt z 300·0) _ _ (refl, refl) (refl, refl)

shape_plain : (sw : List Float) (x : Site) (z : Float) (l : ExpansionValues) → Plain (told (answer_to l) (shape_plan sw x z)).tn (told (answer_to l) (shape_plan sw x z)).tgn
unfolding shape_of
shape_plain sw x z l =
    subst (λ (h : Shape). Plain h.tn h.tgn)
    (shape_law sw x z l (shape_of x (told (answer_to l) (tinf_plan sw z)) (told (answer_to l) (tlb_plan sw)) (told (answer_to l) (gradient_plan sw z)) (told (answer_to l) (nodes_plan sw z))) _ _ _ _ refl refl refl refl refl)
    (nodes_plain sw z l)

-- the gas constant of a shape is its site's
shape_gas : (sw : List Float) (x : Site) (z : Float) (l : ExpansionValues) → x.nine ≡ present_of → (told (answer_to l) (shape_plan sw x z)).rgas ≡ present_of.rgas
unfolding shape_of
shape_gas sw x z l e =
    subst (λ (h : Shape). h.rgas ≡ present_of.rgas)
    (shape_law sw x z l (shape_of x (told (answer_to l) (tinf_plan sw z)) (told (answer_to l) (tlb_plan sw)) (told (answer_to l) (gradient_plan sw z)) (told (answer_to l) (nodes_plan sw z))) _ _ _ _ refl refl refl refl refl)
    (ap (λ (c : Parameters). c.rgas) e)

shape_back : (h : Shape) (q : Roots) → Plain h.tn h.tgn → h.rgas ≡ present_of.rgas → shape_in (region_numbers h q) ≡ h
unfolding shape_in region_numbers five_in
shape_back h q e f =
    ap₂ (λ (t g : List Float). record { rgas = present_of.rgas; gsurf = h.gsurf; re = h.re; tinf = h.tinf; tlb = h.tlb; s = h.s; tn = t; tgn = g }) e.0 e.1
    ∙ ap (λ (r : Float). record { rgas = r; gsurf = h.gsurf; re = h.re; tinf = h.tinf; tlb = h.tlb; s = h.s; tn = h.tn; tgn = h.tgn }) (sym f)

roots_back : (h : Shape) (q : Roots) → roots_in (region_numbers h q) ≡ q
unfolding roots_in root_in region_numbers
roots_back h q = refl

spine_back : (h : Shape) → h.rgas ≡ present_of.rgas → spine_in (spine_numbers (spine_at h)) ≡ spine_at h
unfolding spine_in spine_numbers five_in spine_of first_five
spine_back h e = rw e

-- a footing whose site has other constants
abbrev with_nine : Footing → Parameters → Footing
with_nine f c =
    record {
      x = record { gsurf = f.x.gsurf; re = f.x.re; zhf = f.x.zhf; flux = f.x.flux; nine = c };
      tinf = f.tinf;
      dm28m = f.dm28m;
      he = f.he;
      n2 = f.n2;
      o2 = f.o2;
      ar = f.ar;
      meso = f.meso;
      curves = f.curves;
    }

footing_back : (sw : List Float) (x : Site) (l : ExpansionValues) (tropo : Bool) → x.nine ≡ present_of → footing_in (footing_numbers (footing_of sw x l tropo)) ≡ footing_of sw x l tropo
unfolding footing_in footing_numbers ground_numbers span_numbers span_in five_in footing_of standing_of curves_of span_of first_five blank_of told meso_nodes_plan ◌>>=◌ mesosphere_of
footing_back sw x l true e = ap (λ (c : Parameters). with_nine (footing_of sw x l true) c) (sym e)
footing_back sw x l false e = ap (λ (c : Parameters). with_nine (footing_of sw x l false) c) (sym e)

pub footing_length : (on : Bool) (sw : List Float) (x : Site) (l : ExpansionValues) (tropo : Bool) → length (footing_stored on sw x l tropo) ≡ 53
unfolding footing_stored footing_numbers ground_numbers span_numbers
footing_length true sw x l tropo = refl
footing_length false sw x l tropo = refl

pub low_length : (on : Bool) (sw : List Float) (x : Site) (l : ExpansionValues) (d : Bases) → length (low_stored on sw x l d) ≡ 84
unfolding low_stored region_numbers spine_numbers
low_length true sw x l d = refl
low_length false sw x l d = refl

pub region_length : (on : Bool) (sw : List Float) (x : Site) (l : ExpansionValues) (d : Bases) (z : Float) → length (region_stored on sw x l d z) ≡ 36
unfolding region_stored region_numbers
region_length true sw x l d z = refl
region_length false sw x l d z = refl

pub numbers_36 : (h : Shape) (q : Roots) → length (region_numbers h q) ≡ 36
unfolding region_numbers
numbers_36 h q = refl

pub numbers_24 : (s : Spine) → length (spine_numbers s) ≡ 24
unfolding spine_numbers
numbers_24 s = refl

pub grown : (a b : List Float) (m n : ℕ) → length a ≡ m → length b ≡ n → length (a ++ b) ≡ m + n
grown a b m n e f = length-append a b ∙ ap₂ (λ (i j : ℕ). i + j) e f

pub drop_past : (a r : List Float) (n k : ℕ) → length a ≡ n → drop (n + k) (a ++ r) ≡ drop k r
drop_past a r n k e = sym (drop-drop k n (a ++ r)) ∙ ap (drop k) (drop_at a r n e)

-- where each part stands, behind the record's fourteen numbers
module _ (p : Parts) (sw : List Float) (x : Site) (l : ExpansionValues) (rec : List Float) (len : length rec ≡ 14) where
  abbrev F : List Float
  F = footing_stored p.below sw x l p.tropo

  abbrev L : List Float
  L = low_stored p.low sw x l (bases_of (sw ‼ 21) l)

  abbrev M : List Float
  M = region_stored p.mid sw x l (bases_of (sw ‼ 21) l) 200·0

  abbrev U : List Float
  U = region_stored p.top sw x l (bases_of (sw ‼ 21) l) 300·0

  abbrev S : List Float
  S = summit_stored p.summit sw x l

  f53 : length F ≡ 53
  f53 = footing_length p.below sw x l p.tropo

  l84 : length L ≡ 84
  l84 = low_length p.low sw x l (bases_of (sw ‼ 21) l)

  m36 : length M ≡ 36
  m36 = region_length p.mid sw x l (bases_of (sw ‼ 21) l) 200·0

  u36 : length U ≡ 36
  u36 = region_length p.top sw x l (bases_of (sw ‼ 21) l) 300·0

  pub footing_part : part 14 53 (rec ++ stored_of p sw x l) ≡ F
  unfolding stored_of
  footing_part = ap (take 53) (drop_at rec _ 14 len) ∙ take_at F _ 53 f53

  pub low_part : part 67 84 (rec ++ stored_of p sw x l) ≡ L
  unfolding stored_of
  low_part = ap (take 84) (drop_past rec _ 14 53 len ∙ drop_at F _ 53 f53) ∙ take_at L _ 84 l84

  pub mid_part : part 151 36 (rec ++ stored_of p sw x l) ≡ M
  unfolding stored_of
  mid_part = ap (take 36) (drop_past rec _ 14 137 len ∙ drop_past F _ 53 84 f53 ∙ drop_at L _ 84 l84) ∙ take_at M _ 36 m36

  pub top_part : part 187 36 (rec ++ stored_of p sw x l) ≡ U
  unfolding stored_of
  top_part = ap (take 36) (drop_past rec _ 14 173 len ∙ drop_past F _ 53 120 f53 ∙ drop_past L _ 84 36 l84 ∙ drop_at M _ 36 m36) ∙ take_at U _ 36 u36

  pub summit_part : part 223 11 (rec ++ stored_of p sw x l) ≡ take 11 S
  unfolding stored_of
  summit_part = ap (take 11) (drop_past rec _ 14 209 len ∙ drop_past F _ 53 156 f53 ∙ drop_past L _ 84 72 l84 ∙ drop_past M _ 36 36 m36 ∙ drop_at U _ 36 u36)

-- ---- the row of an altitude, by its way

at_least : (x y : Float) → lt x y ≡ true → le x y ≡ true
unfolding le
at_least x y e = or_left (lt x y) (eq x y) e

-- above 72.5 km gts7's row is gtd7's
above_told : (sw : List Float) (x : Site) (l : ExpansionValues) (alt : Float) → lt 72·5 alt ≡ true → (gtd7_above (told (answer_to l) (gts7_plan sw x alt))).row ≡ eleven_from sw x l alt
above_told sw x l alt e = eleven_above sw x l alt (gtd7_above (told (answer_to l) (gts7_plan sw x alt))) (told (answer_to l) (gts7_plan sw x alt)) alt refl refl (rw e) (at_least 72·5 alt e)

-- 72.5 km itself
at_72 : (sw : List Float) (x : Site) (l : ExpansionValues) (alt : Float) → lt 72·5 alt ≡ false → le 72·5 alt ≡ true → (gtd7_above (told (answer_to l) (gts7_plan sw x 72·5))).row ≡ eleven_from sw x l alt
at_72 sw x l alt e f = eleven_above sw x l alt (gtd7_above (told (answer_to l) (gts7_plan sw x 72·5))) (told (answer_to l) (gts7_plan sw x 72·5)) 72·5 refl refl (rw e) f

not_over : lt 72·5 72·5 ≡ false
unfolding lt of_bits
not_over = refl

at_itself : le 72·5 72·5 ≡ true
unfolding le lt eq of_bits
at_itself = refl

all_eleven : (u : Gts7Output) → take 11 (gtd7_above u).row ≡ (gtd7_above u).row
unfolding gtd7_above
all_eleven u = refl

summit_told : (sw : List Float) (x : Site) (l : ExpansionValues) (alt : Float) (on : Bool) → on ≡ true → lt 72·5 alt ≡ false → le 72·5 alt ≡ true
    → take 11 (summit_stored on sw x l) ≡ eleven_from sw x l alt
unfolding summit_stored
summit_told sw x l alt on o e f =
    ap (λ (b : Bool). take 11 (cond (not b) (replicate 11 0·0) (eleven_from sw x l 72·5))) o
    ∙ ap (take 11) (sym (at_72 sw x l 72·5 not_over at_itself))
    ∙ all_eleven (told (answer_to l) (gts7_plan sw x 72·5))
    ∙ at_72 sw x l alt e f

above_eleven : (u : Gts7Output) → length (gtd7_above u).row ≡ 11
unfolding gtd7_above
above_eleven u = refl

pub summit_length : (on : Bool) (sw : List Float) (x : Site) (l : ExpansionValues) → length (summit_stored on sw x l) ≡ 11
unfolding summit_stored
summit_length true sw x l = ap length (sym (at_72 sw x l 72·5 not_over at_itself)) ∙ above_eleven (told (answer_to l) (gts7_plan sw x 72·5))
summit_length false sw x l = refl

-- what is stored, with the record's fourteen numbers, is 234 numbers
pub all_length : (p : Parts) (sw : List Float) (x : Site) (l : ExpansionValues) (rec : List Float) → length rec ≡ 14 → length (rec ++ stored_of p sw x l) ≡ 234
unfolding stored_of
all_length p sw x l rec e =
    let d = bases_of (sw ‼ 21) l in
    grown rec _ 14 220 e
    (grown (footing_stored p.below sw x l p.tropo) _ 53 167 (footing_length p.below sw x l p.tropo)
    (grown (low_stored p.low sw x l d) _ 84 83 (low_length p.low sw x l d)
    (grown (region_stored p.mid sw x l d 200·0) _ 36 47 (region_length p.mid sw x l d 200·0)
    (grown (region_stored p.top sw x l d 300·0) _ 36 11 (region_length p.top sw x l d 300·0) (summit_length p.summit sw x l)))))

-- a region's row, read again; y stands for it
region_told : (sw : List Float) (x : Site) (l : ExpansionValues) (alt y : Float) (xs : List Float) → x.nine ≡ present_of → lt 72·5 alt ≡ true
    → told (answer_to l) (shape_plan sw x alt) ≡ told (answer_to l) (shape_plan sw x y)
    → xs ≡ region_numbers (told (answer_to l) (shape_plan sw x y)) (roots_of (told (answer_to l) (shape_plan sw x y)) x (bases_of (sw ‼ 21) l))
    → row_over present_of (sw ‼ 0) (sw ‼ 15) (shape_in xs) (roots_in xs) alt ≡ eleven_from sw x l alt
region_told sw x l alt y xs c e s f =
    let h : Shape = told (answer_to l) (shape_plan sw x y) in
    ap (λ (r : List Float). row_over present_of (sw ‼ 0) (sw ‼ 15) (shape_in r) (roots_in r) alt) f
    ∙ ap₂ (λ (g : Shape) (q : Roots). row_over present_of (sw ‼ 0) (sw ‼ 15) g q alt) (shape_back h _ (shape_plain sw x y l) (shape_gas sw x y l c)) (roots_back h _)
    ∙ ap (λ (k : Parameters). row_over k (sw ‼ 0) (sw ‼ 15) h (roots_of h x (bases_of (sw ‼ 21) l)) alt) (sym c)
    ∙ over_told sw x alt l h (sym s)
    ∙ above_told sw x l alt e

stored_region : (on : Bool) (sw : List Float) (x : Site) (l : ExpansionValues) (y : Float) → on ≡ true
    → region_stored on sw x l (bases_of (sw ‼ 21) l) y ≡ region_numbers (told (answer_to l) (shape_plan sw x y)) (roots_of (told (answer_to l) (shape_plan sw x y)) x (bases_of (sw ‼ 21) l))
unfolding region_stored
stored_region on sw x l y o = rw o

whole : (xs : List Float) (n : ℕ) → length xs ≡ n → take n xs ≡ xs
whole xs n e = ap (λ (k : ℕ). take k xs) (sym e) ∙ take-length xs

-- one of two rows, by a test
chosen_row : (b t : Bool) (x y r : List Float) → t ≡ b → (t ≡ false → x ≡ r) → (t ≡ true → y ≡ r) → cond (not t) x y ≡ r
chosen_row true t x y r e f g = ap (λ (k : Bool). cond (not k) x y) e ∙ g e
chosen_row false t x y r e f g = ap (λ (k : Bool). cond (not k) x y) e ∙ f e

other : (b t : Bool) (x y r : List Float) → t ≡ b → (t ≡ true → x ≡ r) → (t ≡ false → y ≡ r) → cond t x y ≡ r
other true t x y r e f g = ap (λ (k : Bool). cond k x y) e ∙ f e
other false t x y r e f g = ap (λ (k : Bool). cond k x y) e ∙ g e

-- anomalous oxygen's shape has the gas constant of the rest
anomalous_gas : (h : Shape) → h.rgas ≡ present_of.rgas → (anomalous_of h).rgas ≡ present_of.rgas
unfolding anomalous_of
anomalous_gas h e = e

-- the region up to za
low_told : (on : Bool) (sw : List Float) (x : Site) (l : ExpansionValues) (alt : Float) (below : Bool) → x.nine ≡ present_of → on ≡ true → lt 72·5 alt ≡ true → lt (pdl_t1 ‼ 15) alt ≡ false → lt alt (pdl_t1 ‼ 15) ≡ below
    → told (answer_to l) (shape_plan sw x alt) ≡ told (answer_to l) (shape_plan sw x 100·0)
    → low_row (sw ‼ 0) (sw ‼ 15) (low_stored on sw x l (bases_of (sw ‼ 21) l)) alt ≡ eleven_from sw x l alt
unfolding low_row low_stored
low_told on sw x l alt below c o over not_above e s =
    let h : Shape = told (answer_to l) (shape_plan sw x 100·0) in
    let gas : h.rgas ≡ present_of.rgas = shape_gas sw x 100·0 l c in
    let q : Roots = roots_of h x (bases_of (sw ‼ 21) l) in
    let a : List Float = region_numbers h q in
    let b : List Float = spine_numbers (spine_at h) in
    let g : List Float = spine_numbers (spine_at (anomalous_of h)) in
    let first : part 0 36 (a ++ (b ++ g)) ≡ a = take_at a (b ++ g) 36 (numbers_36 h q) in
    let second : part 36 24 (a ++ (b ++ g)) ≡ b = ap (take 24) (drop_at a (b ++ g) 36 (numbers_36 h q)) ∙ take_at b g 24 (numbers_24 (spine_at h)) in
    let third : part 60 24 (a ++ (b ++ g)) ≡ g =
    ap (take 24) (drop_past a (b ++ g) 36 24 (numbers_36 h q) ∙ drop_at b g 24 (numbers_24 (spine_at h))) ∙ whole g 24 (numbers_24 (spine_at (anomalous_of h))) in
    let shape : shape_in (part 0 36 (a ++ (b ++ g))) ≡ h = ap shape_in first ∙ shape_back h q (shape_plain sw x 100·0 l) gas in
    let roots : roots_in (part 0 36 (a ++ (b ++ g))) ≡ q = ap roots_in first ∙ roots_back h q in
    let spine : spine_in (part 36 24 (a ++ (b ++ g))) ≡ spine_at h = ap spine_in second ∙ spine_back h gas in
    let hot : spine_in (part 60 24 (a ++ (b ++ g))) ≡ spine_at (anomalous_of h) = ap spine_in third ∙ spine_back (anomalous_of h) (anomalous_gas h gas) in
    rw o (chosen_row below (lt alt (pdl_t1 ‼ 15)) _ _ _ e
    (λ t. rw (shape, roots) (ap (λ (k : Parameters). row_over k (sw ‼ 0) (sw ‼ 15) h q alt) (sym c) ∙ over_told sw x alt l h (sym s) ∙ above_told sw x l alt over))
    (λ t. rw (shape, roots, spine, hot) (ap (λ (k : Parameters). row_under k (sw ‼ 0) (sw ‼ 15) h (spine_at h) (spine_at (anomalous_of h)) q alt) (sym c) ∙ under_told sw x alt l h t not_above (sym s) ∙ above_told sw x l alt over)))

-- ---- an altitude that is not above za lies below 300 km

clash : {A : Type 0} → false ≡ true → A
clash e = absurd (false≢true e)

holds : (b : Bool) → T b → b ≡ true
holds false t = elim t [ ]
holds true t = refl

some : (a b c : ℕ) → 0 < b → 0 < c → 0 < a + b * c
some a zero c p q = absurd (not-suc-le-zero p)
some a (suc b) c p q = omega (arith, q)

fall : (z : Float) (n : ℕ) (d : ℤ) (n' : ℕ) (d' : ℤ)
    → 0 < n' * up d'
    → ((a c : ℕ) → 0 < c → a * down d ≤ n * up d * c → a * down d' < n' * up d' * c)
    → lt (fin false n d) z ≡ false
    → le z 2500·0 ≡ true
    → lt z (fin false n' d') ≡ true
unfolding lt le eq of_bits
fall nan n d n' d' p k h e = clash e
fall (inf true) n d n' d' p k h e = refl
fall (inf false) n d n' d' p k h e = clash e
fall (fin true m e) n d n' d' p k h f = holds _ (lt→ltb 0 _ (some (m * up e * down d') (n' * up d') (down e) p (down_pos e)))
fall (fin false m e) n d n' d' p k h f = holds _ (lt→ltb _ _ (k (m * up e) (down e) (down_pos e) (ltb-false (n * up d * down e) (m * up e * down d) h)))

below_300 : (z : Float) → lt (pdl_t1 ‼ 15) z ≡ false → le z 2500·0 ≡ true → lt z 300·0 ≡ true
unfolding of_bits pdl_t1
below_300 z h e = fall z _ _ _ _ (omega arith) (λ a c p q. omega (arith, p, q)) h e

-- ---- all ways together

-- With the present nine the row out of the stored numbers is gtd7's, at every altitude whose part is stored
pub stored_told : (p : Parts) (sw : List Float) (x : Site) (l : ExpansionValues) (rec : List Float) (alt : Float) → x.nine ≡ present_of → length rec ≡ 14 → le alt 2500·0 ≡ true → PartsHold p (parts_at alt)
    → row_stored (sw ‼ 0) (sw ‼ 15) (rec ++ stored_of p sw x l) alt ≡ eleven_from sw x l alt
unfolding row_stored parts_at footing_stored
stored_told p sw x l rec alt c len fits h =
    chosen_row (lt 72·5 alt) (lt 72·5 alt) _ _ _ refl
    (λ e. other (le 72·5 alt) (le 72·5 alt) _ _ _ refl
    (λ f. summit_part p sw x l rec len ∙ summit_told sw x l alt p.summit (h.summit (and_both (le 72·5 alt) (not (lt 72·5 alt)) f (ap not e))) e f)
    (λ f. ap (λ (xs : List Float). row_below_of (sw ‼ 0) (footing_in xs) alt) (footing_part p sw x l rec len)
    ∙ ap (λ (b : Bool). row_below_of (sw ‼ 0) (footing_in (footing_stored b sw x l p.tropo)) alt) (h.below (ap not f))
    ∙ ap (λ (g : Footing). row_below_of (sw ‼ 0) g alt) (footing_back sw x l p.tropo c)
    ∙ eleven_below sw x l alt p.tropo (footing_of sw x l p.tropo) (row_below_of (sw ‼ 0) (footing_of sw x l p.tropo) alt) (ap (λ (k : Parameters). eq k.xmm 0·0) c ∙ present_mass) refl refl h.tropo f))
    (λ e. chosen_row (lt (pdl_t1 ‼ 15) alt) (lt (pdl_t1 ‼ 15) alt) _ _ _ refl
    (λ f. ap (λ (xs : List Float). low_row (sw ‼ 0) (sw ‼ 15) xs alt) (low_part p sw x l rec len)
    ∙ low_told p.low sw x l alt (lt alt (pdl_t1 ‼ 15)) c (h.low (and_both (lt 72·5 alt) (not (lt (pdl_t1 ‼ 15) alt)) e (ap not f))) e f refl
    (shape_alike sw x alt 100·0 (f ∙ sym above_100) (e ∙ sym over_100) (below_300 alt f fits ∙ sym under_100) l))
    (λ f. other (lt alt 300·0) (lt alt 300·0) _ _ _ refl
    (λ g. region_told sw x l alt 200·0 _ c e (shape_alike sw x alt 200·0 (f ∙ sym above_200) (e ∙ sym over_200) (g ∙ sym under_200) l)
    (mid_part p sw x l rec len ∙ stored_region p.mid sw x l 200·0 (h.mid (and_both (lt (pdl_t1 ‼ 15) alt) (lt alt 300·0) f g))))
    (λ g. region_told sw x l alt 300·0 _ c e (shape_alike sw x alt 300·0 (f ∙ sym above_300) (e ∙ sym over_300) (g ∙ sym under_300) l)
    (top_part p sw x l rec len ∙ stored_region p.top sw x l 300·0 (h.top (and_both (lt (pdl_t1 ‼ 15) alt) (not (lt alt 300·0)) f (ap not g)))))))
