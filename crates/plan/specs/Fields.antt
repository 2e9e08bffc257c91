-- The seventeen fields of State that gts7 and gtd7 set themselves and no expansion reads or sets.
use Rattle.std.specs.Prelude.{Bool, true, cond, List, set, Float}
use Rattle.numbers.specs.Arithmetic.{◌‼◌}
use Rattle.setting.specs.declared.State.{State}

pub record Fields : Type 0 where
  pub gsurf : Float
  pub re : Float
  pub dd : Float
  pub dm04 : Float
  pub dm16 : Float
  pub dm28 : Float
  pub dm28_set : Bool
  pub dm32 : Float
  pub dm40 : Float
  pub dm01 : Float
  pub dm14 : Float
  pub meso_tn1 : List Float
  pub meso_tn2 : List Float
  pub meso_tn3 : List Float
  pub meso_tgn1 : List Float
  pub meso_tgn2 : List Float
  pub meso_tgn3 : List Float

abbrev pub fields_of : State → Fields
fields_of s =
    record {
      gsurf = s.gsurf;
      re = s.re;
      dd = s.dd;
      dm04 = s.dm04;
      dm16 = s.dm16;
      dm28 = s.dm28;
      dm28_set = s.dm28_set;
      dm32 = s.dm32;
      dm40 = s.dm40;
      dm01 = s.dm01;
      dm14 = s.dm14;
      meso_tn1 = s.meso_tn1;
      meso_tn2 = s.meso_tn2;
      meso_tn3 = s.meso_tn3;
      meso_tgn1 = s.meso_tgn1;
      meso_tgn2 = s.meso_tgn2;
      meso_tgn3 = s.meso_tgn3;
    }

-- a State with these fields in their places, the ten that expansions read as they were
abbrev pub with_fields : State → Fields → State
with_fields s f =
    record {
      gsurf = f.gsurf;
      re = f.re;
      dd = f.dd;
      dm04 = f.dm04;
      dm16 = f.dm16;
      dm28 = f.dm28;
      dm28_set = f.dm28_set;
      dm32 = f.dm32;
      dm40 = f.dm40;
      dm01 = f.dm01;
      dm14 = f.dm14;
      meso_tn1 = f.meso_tn1;
      meso_tn2 = f.meso_tn2;
      meso_tn3 = f.meso_tn3;
      meso_tgn1 = f.meso_tgn1;
      meso_tgn2 = f.meso_tgn2;
      meso_tgn3 = f.meso_tgn3;
      dfa = s.dfa;
      plg = s.plg;
      ctloc = s.ctloc;
      stloc = s.stloc;
      c2tloc = s.c2tloc;
      s2tloc = s.s2tloc;
      s3tloc = s.s3tloc;
      c3tloc = s.c3tloc;
      apdf = s.apdf;
      apt = s.apt;
    }

-- ---- steps: one field or two set, the others as they were

-- glatf
unfoldable pub set_gravity : Float → Float → Fields → Fields
set_gravity g r f =
    record {
      gsurf = g;
      re = r;
      dd = f.dd;
      dm04 = f.dm04;
      dm16 = f.dm16;
      dm28 = f.dm28;
      dm28_set = f.dm28_set;
      dm32 = f.dm32;
      dm40 = f.dm40;
      dm01 = f.dm01;
      dm14 = f.dm14;
      meso_tn1 = f.meso_tn1;
      meso_tn2 = f.meso_tn2;
      meso_tn3 = f.meso_tn3;
      meso_tgn1 = f.meso_tgn1;
      meso_tgn2 = f.meso_tgn2;
      meso_tgn3 = f.meso_tgn3;
    }

unfoldable pub set_dd : Float → Fields → Fields
set_dd x f =
    record {
      gsurf = f.gsurf;
      re = f.re;
      dd = x;
      dm04 = f.dm04;
      dm16 = f.dm16;
      dm28 = f.dm28;
      dm28_set = f.dm28_set;
      dm32 = f.dm32;
      dm40 = f.dm40;
      dm01 = f.dm01;
      dm14 = f.dm14;
      meso_tn1 = f.meso_tn1;
      meso_tn2 = f.meso_tn2;
      meso_tn3 = f.meso_tn3;
      meso_tgn1 = f.meso_tgn1;
      meso_tgn2 = f.meso_tgn2;
      meso_tgn3 = f.meso_tgn3;
    }

unfoldable pub set_dm04 : Float → Fields → Fields
set_dm04 x f =
    record {
      gsurf = f.gsurf;
      re = f.re;
      dd = f.dd;
      dm04 = x;
      dm16 = f.dm16;
      dm28 = f.dm28;
      dm28_set = f.dm28_set;
      dm32 = f.dm32;
      dm40 = f.dm40;
      dm01 = f.dm01;
      dm14 = f.dm14;
      meso_tn1 = f.meso_tn1;
      meso_tn2 = f.meso_tn2;
      meso_tn3 = f.meso_tn3;
      meso_tgn1 = f.meso_tgn1;
      meso_tgn2 = f.meso_tgn2;
      meso_tgn3 = f.meso_tgn3;
    }

unfoldable pub set_dm16 : Float → Fields → Fields
set_dm16 x f =
    record {
      gsurf = f.gsurf;
      re = f.re;
      dd = f.dd;
      dm04 = f.dm04;
      dm16 = x;
      dm28 = f.dm28;
      dm28_set = f.dm28_set;
      dm32 = f.dm32;
      dm40 = f.dm40;
      dm01 = f.dm01;
      dm14 = f.dm14;
      meso_tn1 = f.meso_tn1;
      meso_tn2 = f.meso_tn2;
      meso_tn3 = f.meso_tn3;
      meso_tgn1 = f.meso_tgn1;
      meso_tgn2 = f.meso_tgn2;
      meso_tgn3 = f.meso_tgn3;
    }

-- dm28, and the mark that it was set: 'set by the one step that sets dm28'
unfoldable pub set_dm28 : Float → Fields → Fields
set_dm28 x f =
    record {
      gsurf = f.gsurf;
      re = f.re;
      dd = f.dd;
      dm04 = f.dm04;
      dm16 = f.dm16;
      dm28 = x;
      dm28_set = true;
      dm32 = f.dm32;
      dm40 = f.dm40;
      dm01 = f.dm01;
      dm14 = f.dm14;
      meso_tn1 = f.meso_tn1;
      meso_tn2 = f.meso_tn2;
      meso_tn3 = f.meso_tn3;
      meso_tgn1 = f.meso_tgn1;
      meso_tgn2 = f.meso_tgn2;
      meso_tgn3 = f.meso_tgn3;
    }

unfoldable pub set_dm32 : Float → Fields → Fields
set_dm32 x f =
    record {
      gsurf = f.gsurf;
      re = f.re;
      dd = f.dd;
      dm04 = f.dm04;
      dm16 = f.dm16;
      dm28 = f.dm28;
      dm28_set = f.dm28_set;
      dm32 = x;
      dm40 = f.dm40;
      dm01 = f.dm01;
      dm14 = f.dm14;
      meso_tn1 = f.meso_tn1;
      meso_tn2 = f.meso_tn2;
      meso_tn3 = f.meso_tn3;
      meso_tgn1 = f.meso_tgn1;
      meso_tgn2 = f.meso_tgn2;
      meso_tgn3 = f.meso_tgn3;
    }

unfoldable pub set_dm40 : Float → Fields → Fields
set_dm40 x f =
    record {
      gsurf = f.gsurf;
      re = f.re;
      dd = f.dd;
      dm04 = f.dm04;
      dm16 = f.dm16;
      dm28 = f.dm28;
      dm28_set = f.dm28_set;
      dm32 = f.dm32;
      dm40 = x;
      dm01 = f.dm01;
      dm14 = f.dm14;
      meso_tn1 = f.meso_tn1;
      meso_tn2 = f.meso_tn2;
      meso_tn3 = f.meso_tn3;
      meso_tgn1 = f.meso_tgn1;
      meso_tgn2 = f.meso_tgn2;
      meso_tgn3 = f.meso_tgn3;
    }

unfoldable pub set_dm01 : Float → Fields → Fields
set_dm01 x f =
    record {
      gsurf = f.gsurf;
      re = f.re;
      dd = f.dd;
      dm04 = f.dm04;
      dm16 = f.dm16;
      dm28 = f.dm28;
      dm28_set = f.dm28_set;
      dm32 = f.dm32;
      dm40 = f.dm40;
      dm01 = x;
      dm14 = f.dm14;
      meso_tn1 = f.meso_tn1;
      meso_tn2 = f.meso_tn2;
      meso_tn3 = f.meso_tn3;
      meso_tgn1 = f.meso_tgn1;
      meso_tgn2 = f.meso_tgn2;
      meso_tgn3 = f.meso_tgn3;
    }

unfoldable pub set_dm14 : Float → Fields → Fields
set_dm14 x f =
    record {
      gsurf = f.gsurf;
      re = f.re;
      dd = f.dd;
      dm04 = f.dm04;
      dm16 = f.dm16;
      dm28 = f.dm28;
      dm28_set = f.dm28_set;
      dm32 = f.dm32;
      dm40 = f.dm40;
      dm01 = f.dm01;
      dm14 = x;
      meso_tn1 = f.meso_tn1;
      meso_tn2 = f.meso_tn2;
      meso_tn3 = f.meso_tn3;
      meso_tgn1 = f.meso_tgn1;
      meso_tgn2 = f.meso_tgn2;
      meso_tgn3 = f.meso_tgn3;
    }

-- meso_tn1 and meso_tgn1
unfoldable pub set_tn1 : List Float → List Float → Fields → Fields
set_tn1 t g f =
    record {
      gsurf = f.gsurf;
      re = f.re;
      dd = f.dd;
      dm04 = f.dm04;
      dm16 = f.dm16;
      dm28 = f.dm28;
      dm28_set = f.dm28_set;
      dm32 = f.dm32;
      dm40 = f.dm40;
      dm01 = f.dm01;
      dm14 = f.dm14;
      meso_tn1 = t;
      meso_tn2 = f.meso_tn2;
      meso_tn3 = f.meso_tn3;
      meso_tgn1 = g;
      meso_tgn2 = f.meso_tgn2;
      meso_tgn3 = f.meso_tgn3;
    }

-- meso_tn2 and meso_tgn2
unfoldable pub set_tn2 : List Float → List Float → Fields → Fields
set_tn2 t g f =
    record {
      gsurf = f.gsurf;
      re = f.re;
      dd = f.dd;
      dm04 = f.dm04;
      dm16 = f.dm16;
      dm28 = f.dm28;
      dm28_set = f.dm28_set;
      dm32 = f.dm32;
      dm40 = f.dm40;
      dm01 = f.dm01;
      dm14 = f.dm14;
      meso_tn1 = f.meso_tn1;
      meso_tn2 = t;
      meso_tn3 = f.meso_tn3;
      meso_tgn1 = f.meso_tgn1;
      meso_tgn2 = g;
      meso_tgn3 = f.meso_tgn3;
    }

-- meso_tn3 and meso_tgn3
unfoldable pub set_tn3 : List Float → List Float → Fields → Fields
set_tn3 t g f =
    record {
      gsurf = f.gsurf;
      re = f.re;
      dd = f.dd;
      dm04 = f.dm04;
      dm16 = f.dm16;
      dm28 = f.dm28;
      dm28_set = f.dm28_set;
      dm32 = f.dm32;
      dm40 = f.dm40;
      dm01 = f.dm01;
      dm14 = f.dm14;
      meso_tn1 = f.meso_tn1;
      meso_tn2 = f.meso_tn2;
      meso_tn3 = t;
      meso_tgn1 = f.meso_tgn1;
      meso_tgn2 = f.meso_tgn2;
      meso_tgn3 = g;
    }

-- meso_tn1[1] to meso_tn1[4] and meso_tgn1[1]; element 0 is densu's
unfoldable pub set_nodes1 : List Float → List Float → Fields → Fields
set_nodes1 t g f =
    set_tn1
    (set (set (set (set f.meso_tn1 1 (t ‼ 1)) 2 (t ‼ 2)) 3 (t ‼ 3)) 4 (t ‼ 4))
    (set f.meso_tgn1 1 (g ‼ 1))
    f

-- meso_tn3[0]
unfoldable pub set_top3 : Float → Fields → Fields
set_top3 x f = set_tn3 (set f.meso_tn3 0 x) f.meso_tgn3 f

-- a step that is made where a test holds
abbrev pub set_when : Bool → (Fields → Fields) → Fields → Fields
set_when b u f = cond b (u f) f
