use Rattle.std.proofs.Common.{◌≡◌, take}
use Rattle.vsd_answers.specs.Numbering.{site_pairs}
use Rattle.vsd_answers.proofs.numbering.pairs_of_sites.Given as goal

abbrev pub invariant-loop-site : goal.invariant-loop-site
invariant-loop-site l = l.pairs.items ≡ site_pairs (take l.site-index l.sites) l.types
