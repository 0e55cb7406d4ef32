use Rattle.std.proofs.Common.{refl, inl}
use Rattle.vsd_lawful.proofs.duplicates.is_twice.Goals as goal

pub returns-then-is_redeclared : goal.returns-then-is_redeclared
returns-then-is_redeclared c = (λ _. inl (c.is_redeclared.ensures.0 c.if-is_redeclared.true), λ _. refl)
