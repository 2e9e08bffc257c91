-- `view_of` meets its contract.
use mathlib.Core.Path.{ap}
use Rattle.views.specs.declared.Turns.{Turns}
use Rattle.views.specs.View.{turned_of, view_of}
use Rattle.setting.specs.Switches.{flags_of}
use Rattle.views.proofs.view_of.Goals as goal

pub phase_zero-z-requires : goal.phase_zero-z-requires
unfolding turned_of
phase_zero-z-requires c = (ap (λ (t : Turns). t.ct) c.turned-t.ensures, c.cos-clong.ensures)

pub returns : goal.returns
unfolding view_of flags_of
returns c = simp (c.phase_zero-z.ensures, c.turned-t.ensures, c.cos-clong.ensures, c.sin-slong.ensures, c.cos-clat.ensures, c.sin-slat.ensures, c.pow-dfa2.ensures, c.day-doy.ensures, c.tselec-f.ensures)
