-- `put_descended` meets its contract.
use Rattle.std.specs.Prelude.{Result}
use Prim.Native.Nat.{ℕ}
use mathlib.Core.Path.{sym, ap, ◌∙◌}
use Rattle.refusals.specs.declared.Refusal.{Refusal}
use Rattle.descent_orbits.specs.declared.Descended.{Descended}
use Rattle.host_record.specs.Record.{packed_of}
use Rattle.potirehu.specs.Descents.{descended_code, end_after}
use Rattle.potirehu.proofs.descents.put_descended.Goals as goal

pub put_end-requires : goal.put_end-requires
put_end-requires c =
    let fits = c.requires.1 _ c.in-Ok.is in
    (c.requires.0, fits.0, fits.1)

pub returns-in-Ok : goal.returns-in-Ok
returns-in-Ok c =
    let is = c.in-Ok.is in
    let ys = c.args.end.now in
    (sym (ap (λ (a : Result Descended Refusal). descended_code a) is), c.put_end.ensures ∙ sym (ap (λ (a : Result Descended Refusal). end_after a ys) is))

pub returns-in-Err : goal.returns-in-Err
returns-in-Err c =
    let is = c.in-Err.is in
    let ys = c.args.end.now in (
      c.packed.ensures ∙ ap (λ (n : ℕ). packed_of n c.in-Err.r.place) c.number.ensures ∙ sym (ap (λ (a : Result Descended Refusal). descended_code a) is),
      sym (ap (λ (a : Result Descended Refusal). end_after a ys) is),
    )
