-- `fill_places` meets its contract: at each turn the rest of the filling gives the whole.
use mathlib.Core.Path.{refl, ◌∙◌, sym}
use borrow.Author.Rules.{rules}
use Rattle.setting.proofs.Fill.{filled_more, filled_done}
use Rattle.season.specs.Season.{place_cosine}
use Rattle.season.proofs.fill_places.Goals as goal

pub loop-i-init : goal.loop-i-init
loop-i-init c = refl

pub place_cosine-requires : goal.place_cosine-requires
place_cosine-requires c = (search rules, search rules, search rules)

pub loop-i-preserved : goal.loop-i-preserved
loop-i-preserved c =
    let l = c.loop-i in
    let A = c.args in
    rw c.place_cosine.ensures (filled_more A.end (place_cosine A.doy) l.i l.s (search rules) ∙ l.invariant)

pub returns : goal.returns
returns c =
    let l = c.loop-i in
    let A = c.args in
    sym (filled_done A.end (place_cosine A.doy) l.i l.s (search rules)) ∙ l.invariant
