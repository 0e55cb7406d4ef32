use Rattle.std.proofs.Common.{◌≡◌, length, vec_len, vec_capacity, All}
use Rattle.vsd_rule.specs.declared.view.Who.TheVariants.{Root}
use Rattle.vsd_table.specs.Seating.{key_of, IsNew, AreNumbered}
use Rattle.vsd_table.proofs.shared.Shared.seats.Given as goal

abbrev pub invariant-loop-caller : goal.invariant-loop-caller
invariant-loop-caller l = record {
  root : l.root.me.0.who ≡ Root l.caller;
  key : l.root.me.0.key ≡ key_of l.self;
  table : l.root.table_id ≡ l.self.table.shared.table_id;
  count : vec_len l.seats ≡ l.caller;
  listed : length l.seats.items ≡ l.caller;
  room : vec_capacity l.seats ≡ l.self.sizes.callers;
  seats : All (IsNew l.self) l.seats.items;
  numbers : AreNumbered l.seats.items;
}
