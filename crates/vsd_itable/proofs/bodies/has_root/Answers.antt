use Rattle.std.proofs.Common.{sym}
use Rattle.std.proofs.lemmas.Bool.{eqb-true}
use Rattle.vsd_check.specs.Checked.{decls_of}
use Rattle.vsd_itable.proofs.BodyLaws.{root-differs, root-told}
use Rattle.vsd_itable.proofs.bodies.has_root.Goals as goal

pub returns-then-at-root : goal.returns-then-at-root
returns-then-at-root c =
    root-told (decls_of c.args.checked.now).list (record { decl = c.args.decl; method = c.args.method }) (record { decl = c.root-at.result.0; method = c.root-at.result.1 }) (record { decl = c.args.root.0; method = c.args.root.1 }) c.root-at.ensures.root c.if-at-root.true

pub returns-else-at-root : goal.returns-else-at-root
returns-else-at-root c = (
  λ yes. absurd (c.if-at-root.false (eqb-true c.root-at.result.0 c.args.root.0 yes)),
  λ other. absurd (root-differs (decls_of c.args.checked.now).list (record { decl = c.args.decl; method = c.args.method }) (record { decl = c.root-at.result.0; method = c.root-at.result.1 }) (record { decl = c.args.root.0; method = c.args.root.1 }) c.root-at.ensures.root c.if-at-root.false other),
)
