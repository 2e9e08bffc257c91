-- `turned` meets its contract.
use Rattle.views.specs.View.{turned_of}
use Rattle.views.proofs.turned.Goals as goal

pub sin-st-requires : goal.sin-st-requires
sin-st-requires c = tt

pub cos-ct-requires : goal.cos-ct-requires
cos-ct-requires c = tt

pub sin-s2t-requires : goal.sin-s2t-requires
sin-s2t-requires c = tt

pub cos-c2t-requires : goal.cos-c2t-requires
cos-c2t-requires c = tt

pub sin-s3t-requires : goal.sin-s3t-requires
sin-s3t-requires c = tt

pub cos-c3t-requires : goal.cos-c3t-requires
cos-c3t-requires c = tt

pub returns : goal.returns
unfolding turned_of
returns c = simp (← c.cos-c3t.ensures, ← c.sin-s3t.ensures, ← c.cos-c2t.ensures, ← c.sin-s2t.ensures, ← c.cos-ct.ensures, ← c.sin-st.ensures)
