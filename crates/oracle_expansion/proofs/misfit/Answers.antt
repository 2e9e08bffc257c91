-- `misfit` meets its contract.
use borrow.Author.Tests.{eq-eqb, ne_eqb}
use Rattle.oracle_expansion.specs.OracleExpansion.{misfit_of}
use Rattle.oracle_expansion.proofs.misfit.Goals as goal

pub returns-then-numbers-ne80 : goal.returns-then-numbers-ne80
unfolding misfit_of
returns-then-numbers-ne80 c = record { value = simp (ne_eqb _ _ c.if-numbers-ne80.true); numbers_value = λ e. absurd (cc) }

pub returns-then-fields-ne8 : goal.returns-then-fields-ne8
unfolding misfit_of
returns-then-fields-ne8 c = record { value = simp (eq-eqb _ _ c.if-numbers-ne80.false, ne_eqb _ _ c.if-fields-ne8.true); numbers_value = λ e. absurd (cc) }

pub returns-then-ap_array : goal.returns-then-ap_array
unfolding misfit_of
returns-then-ap_array c = record { value = simp (eq-eqb _ _ c.if-numbers-ne80.false, eq-eqb _ _ c.if-fields-ne8.false, c.if-ap_array.true); numbers_value = λ e. absurd (cc) }

pub returns-then-switches-ne24 : goal.returns-then-switches-ne24
unfolding misfit_of
returns-then-switches-ne24 c = record { value = simp (eq-eqb _ _ c.if-numbers-ne80.false, eq-eqb _ _ c.if-fields-ne8.false, c.if-ap_array.false, ne_eqb _ _ c.if-switches-ne24.true); numbers_value = λ e. absurd (cc) }

pub returns-then-state-ne79 : goal.returns-then-state-ne79
unfolding misfit_of
returns-then-state-ne79 c = record { value = simp (eq-eqb _ _ c.if-numbers-ne80.false, eq-eqb _ _ c.if-fields-ne8.false, c.if-ap_array.false, eq-eqb _ _ c.if-switches-ne24.false, ne_eqb _ _ c.if-state-ne79.true); numbers_value = λ e. absurd (cc) }

pub returns : goal.returns
unfolding misfit_of
returns c = record { value = simp (eq-eqb _ _ c.if-numbers-ne80.false, eq-eqb _ _ c.if-fields-ne8.false, c.if-ap_array.false, eq-eqb _ _ c.if-switches-ne24.false, eq-eqb _ _ c.if-state-ne79.false); numbers_value = λ e. (c.if-numbers-ne80.false, c.if-fields-ne8.false, c.if-switches-ne24.false, c.if-state-ne79.false) }
