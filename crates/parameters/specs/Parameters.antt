-- The nine constants as the Rust has them.
use Rattle.numbers.specs.Literals.{28·95, 160·0, 200·0, 240·0, 250·0, 300·0, 320·0, 450·0}
use Rattle.numbers.specs.Constants.{rgas}
use Rattle.parameters.specs.declared.Parameters.{Parameters}

-- RGAS, PDM[2][4], and altl of gts7 by the name of each species
unfoldable pub present_of : Parameters
present_of = record { rgas = rgas; xmm = 28·95; he = 200·0; o = 300·0; n2 = 160·0; o2 = 250·0; ar = 240·0; h = 320·0; n = 450·0 }
