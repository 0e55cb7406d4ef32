use Rattle.std.proofs.Common.{◌≡◌, ◌<◌, length, get_or, refl, sym, ap, ◌∙◌, arith}
use Rattle.std.proofs.lemmas.Option.{slice_get-get_or, get_or_from_slice_get}
use Rattle.vsd_terms.specs.declared.term.Term.TheVariants.{Param}
use Rattle.vsd_terms.specs.Substitution.{subst_of}
use Rattle.vsd_terms.proofs.SubstitutionLemmas.{subst_of-Param}
use Rattle.vsd_ways.proofs.KnownLemmas.{taken_step, taken_whole}
use Rattle.vsd_ways.proofs.requiring.are_own.Goals as goal

pub loop-i-preserved : goal.loop-i-preserved
loop-i-preserved c = record {
  long = c.loop-i.invariant.long;
  own = λ args long.
      let i = c.loop-i.i in
      let t = c.index-patterns-i.result in
      let u = get_or args i (Param i) in
      let is : t ≡ Param i = c.is_parameter.ensures.0 c.if-not-is_parameter.false in
      let inside : i < length args = omega (arith, long, c.loop-i.invariant.long) in
      let put : subst_of args t ≡ u = ap (subst_of args) is ∙ subst_of-Param args i in
      let read : u ≡ get_or args i u = sym (get_or_from_slice_get args i u u (slice_get-get_or args i (Param i) inside)) in
      (taken_step (subst_of args) c.as_slice-patterns.result.now args i t u c.loop-i-test.true inside c.index-patterns-i.is read).1 (c.loop-i.invariant.own args long, put);
}

pub returns : goal.returns
returns c yes_ args long =
    (taken_whole (subst_of args) c.as_slice-patterns.result.now args c.loop-i.i c.args.patterns.now args c.loop-i-test.false (c.loop-i.invariant.long ∙ sym long) c.as_slice-patterns.ensures refl).0
    (c.loop-i.invariant.own args long)
