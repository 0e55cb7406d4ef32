use Rattle.std.proofs.Common.{◌≡◌, ◌<◌, ◌^◌, drop}
use Rattle.vsd_grammar.specs.Productions.{digits_from}
use Rattle.vsd_grammar.proofs.decimal.value_of.Given as goal

abbrev pub invariant-loop-digit : goal.invariant-loop-digit
invariant-loop-digit l = record {
  small : l.value < 10 ^ l.digit-index;
  reads : digits_from 0 l.digits ≡ digits_from l.value (drop l.digit-index l.digits);
}
