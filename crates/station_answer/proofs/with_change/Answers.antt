-- `with_change` meets its contract, variant by variant.
use Rattle.std.specs.Prelude.{refl}
use Rattle.station_answer.specs.Answers.{with_sec_of, with_lst_of, with_long_of, with_fluxes_of}
use Rattle.station_answer.proofs.with_change.Goals as goal

pub returns-in-Sec : goal.returns-in-Sec
unfolding with_sec_of with_lst_of with_long_of with_fluxes_of
returns-in-Sec c = rw c.in-Sec.is refl

pub returns-in-Lst : goal.returns-in-Lst
unfolding with_sec_of with_lst_of with_long_of with_fluxes_of
returns-in-Lst c = rw c.in-Lst.is refl

pub returns-in-GLong : goal.returns-in-GLong
unfolding with_sec_of with_lst_of with_long_of with_fluxes_of
returns-in-GLong c = rw c.in-GLong.is refl

pub returns-in-Fluxes : goal.returns-in-Fluxes
unfolding with_sec_of with_lst_of with_long_of with_fluxes_of
returns-in-Fluxes c = rw c.in-Fluxes.is refl

pub returns-in-Move : goal.returns-in-Move
unfolding with_sec_of with_lst_of with_long_of with_fluxes_of
returns-in-Move c = rw c.in-Move.is refl
