use Rattle.std.proofs.Common.{◌≡◌, ◌≤◌, true, All, length, map, take}
use Rattle.vsd_answers.specs.Numbering.{is_listed, place_of_pair, tokens_of}
use Rattle.vsd_answers.proofs.numbering.number_tokens.Given as goal

abbrev pub invariant-loop-pair : goal.invariant-loop-pair
invariant-loop-pair l = record {
  list : l.list.items ≡ tokens_of (take l.pair-index l.pairs);
  sites : l.sites.items ≡ map (place_of_pair l.list.items) (take l.pair-index l.pairs);
  listed : All (λ p. is_listed l.list.items p ≡ true) (take l.pair-index l.pairs);
  few : length l.list.items ≤ l.pair-index;
}
