-- The State of a call that has not begun: State::new of the Rust.
use Rattle.std.specs.Prelude.{false, replicate}
use Rattle.numbers.specs.Literals.{0·0}
use Rattle.setting.specs.declared.State.{State}

unfoldable pub fresh_of : State
fresh_of =
    record {
      gsurf = 0·0;
      re = 0·0;
      dd = 0·0;
      dm04 = 0·0;
      dm16 = 0·0;
      dm28 = 0·0;
      dm28_set = false;
      dm32 = 0·0;
      dm40 = 0·0;
      dm01 = 0·0;
      dm14 = 0·0;
      meso_tn1 = replicate 5 0·0;
      meso_tn2 = replicate 4 0·0;
      meso_tn3 = replicate 5 0·0;
      meso_tgn1 = replicate 2 0·0;
      meso_tgn2 = replicate 2 0·0;
      meso_tgn3 = replicate 2 0·0;
      dfa = 0·0;
      plg = replicate 36 0·0;
      ctloc = 0·0;
      stloc = 0·0;
      c2tloc = 0·0;
      s2tloc = 0·0;
      s3tloc = 0·0;
      c3tloc = 0·0;
      apdf = 0·0;
      apt = replicate 4 0·0;
    }
