use Rattle.vsd_roots.proofs.VarianceLaws.{inside-invariant, invariant-anywhere, turned-turned}
use Rattle.vsd_roots.proofs.laws.positions_law.Goals as goal

pub returns-clause-turned_twice : goal.returns-clause-turned_twice
returns-clause-turned_twice c place = turned-turned place

pub returns-clause-invariant_stays : goal.returns-clause-invariant_stays
returns-clause-invariant_stays c sign = inside-invariant sign

pub returns-clause-invariant_anywhere : goal.returns-clause-invariant_anywhere
returns-clause-invariant_anywhere c ds own t place stands = invariant-anywhere ds own t place stands
