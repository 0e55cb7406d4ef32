use Rattle.std.proofs.Common.{sym, ◌∙◌}
use Rattle.std.proofs.lemmas.Bool.{false≢true}
use Rattle.vsd_overrides.proofs.table.target_of.Goals as goal

pub returns-in_default : goal.returns-in_default
returns-in_default c t w = c.in_default.ensures t w.means

pub returns-then-not-is_had : goal.returns-then-not-is_had
returns-then-not-is_had c t w =
    let exact = c.is_had.ensures c.args.h.now.decls.now c.requires.known c.requires.told in
    false≢true (sym c.if-not-is_had.true ∙ exact.1 w.has)

pub returns : goal.returns
returns c =
    let exact = c.is_had.ensures c.args.h.now.decls.now c.requires.known c.requires.told in
    record { means = c.in-Some.ensures; has = exact.0 c.if-not-is_had.false }
