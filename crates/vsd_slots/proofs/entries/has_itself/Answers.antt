use Rattle.std.proofs.Common.{◌∙◌, [], List, ℕ, get_or, refl, subst}
use Rattle.vsd_check.specs.Checked.{depths_of}
use Rattle.vsd_types.specs.Types.{is_interface_type, type_at}
use Rattle.vsd_interfaces.specs.Tables.{AreOwn, types_of}
use Rattle.vsd_interfaces.proofs.NumberLaws.{any-turned, any_number}
use Rattle.vsd_interfaces.proofs.RowLaws.{own-are}
use Rattle.vsd_slots.proofs.entries.has_itself.Goals as goal

-- the class has the interface where the number is among its own
pub returns : goal.returns
returns c =
    let s = c.args.closed.now in
    let t = c.args.t in
    let reached = c.args.parts.now.table.reached in
    let own = c.own.result.now in
    let owned : AreOwn s (get_or reached t []) t own = subst (λ (l : List (List ℕ)). AreOwn s (get_or l t []) t own) c.as_slice.ensures c.own.ensures in
    let mine = own-are s (depths_of c.args.checked.now) c.count-count.ensures.distinct c.requires.parts.hierarchy t (get_or reached t []) own (is_interface_type s.decls.list (type_at s.types t)) refl (c.requires.parts.rows.each t c.requires.class).0 owned in
    record {
      interfaces = types_of s.types own;
      are = mine.1;
      test = c.contains.ensures.value ∙ any-turned c.args.i own ∙ any_number s.types c.count-count.ensures.distinct c.args.i own c.requires.interface mine.0;
    }
