use Rattle.std.proofs.Common.{◌≡◌, All, Err, length, get_or, sym, ap, subst, arith}
use Rattle.std.proofs.lemmas.List.{length-map}
use Rattle.vsd_stages.specs.Settling.{Settles}
use Rattle.vsd_stages.specs.Stages.{AreWhole, Builds}
use Rattle.vsd_answers.specs.Numbering.{site_pairs, tokens_of}
use Rattle.vsd_itable.specs.Tables.{IsToken}
use Rattle.vsd_stages.proofs.Building.{build_stops}
use Rattle.vsd_stages.proofs.Counting.{few_tokens}
use Rattle.vsd_stages.proofs.Rooting.{are_tokens}
use Rattle.vsd_stages.proofs.stages.built.Goals as goal

pub returns-in-Ok-build : goal.returns-in-Ok-build
returns-in-Ok-build c = subst (λ t. Settles (Builds t.decls c.args.script t.types) c.prepared.result) c.in-Ok-build.ensures.closed c.prepared.ensures

pub returns-in-Err : goal.returns-in-Err
returns-in-Err c = subst (λ stopped. Settles (Builds c.args.closed.decls c.args.script c.args.closed.types) (Err stopped)) (sym c.stopped_build.ensures)
    (build_stops c.args.closed.decls c.args.script c.args.closed.types c.in-Err.error c.in-Err.ensures.refused)

pub overflow_cast-count : goal.overflow_cast-count
overflow_cast-count c =
    let pairs = site_pairs c.args.script.sites c.in-Ok.types.items in
    let few = few_tokens pairs in
    let long : length pairs ≡ length c.args.script.sites = length-map c.args.script.sites (λ site. (get_or c.in-Ok.types.items site.root 0, site.slot)) in
    let is : length c.in-Ok.tokens.list.items ≡ length (tokens_of pairs) = ap length c.in-Ok.ensures.tokens in
    omega (arith, few, long, is, c.len-count.ensures, c.requires.formed.few_sites)

pub build-requires-clause-tokens : goal.build-requires-clause-tokens
build-requires-clause-tokens c =
    subst (All (IsToken c.args.closed)) (sym c.in-Ok.ensures.tokens)
    (are_tokens c.args.closed c.args.script c.in-Ok.types.items c.in-Ok.ensures.numbers c.requires.formed.sites c.requires.slots)

pub prepared-requires-clause-whole : goal.prepared-requires-clause-whole
prepared-requires-clause-whole c = subst AreWhole (sym c.in-Ok-build.ensures.closed) c.in-Ok-build.ensures.passes
