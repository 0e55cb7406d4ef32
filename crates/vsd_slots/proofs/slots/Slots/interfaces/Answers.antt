use Rattle.std.proofs.Common.{ℕ, List, get_or, [], refl, subst}
use Rattle.vsd_types.specs.Types.{is_interface_type, type_at}
use Rattle.vsd_interfaces.specs.Tables.{AreOwn}
use Rattle.vsd_interfaces.proofs.RowLaws.{own-are}
use Rattle.vsd_slots.proofs.slots.Slots.interfaces.Goals as goal

pub returns-clause-within : goal.returns-clause-within
returns-clause-within c =
    let s = c.args.closed.now in
    let t = c.args.t in
    let slots = c.requires.slots.1 in
    let reached = c.args.self.now.parts.table.reached in
    let owned : AreOwn s (get_or reached t []) t c.own.result.now = subst (λ (l : List (List ℕ)). AreOwn s (get_or l t []) t c.own.result.now) c.as_slice.ensures c.own.ensures in
    (own-are s c.requires.slots.0 c.count-count.ensures.distinct slots.parts.hierarchy t (get_or reached t []) c.own.result.now (is_interface_type s.decls.list (type_at s.types t)) refl (slots.parts.rows.each t c.requires.listed).0 owned).0

pub returns-clause-interfaces : goal.returns-clause-interfaces
returns-clause-interfaces c =
    let s = c.args.closed.now in
    let t = c.args.t in
    let slots = c.requires.slots.1 in
    let reached = c.args.self.now.parts.table.reached in
    let owned : AreOwn s (get_or reached t []) t c.own.result.now = subst (λ (l : List (List ℕ)). AreOwn s (get_or l t []) t c.own.result.now) c.as_slice.ensures c.own.ensures in
    (own-are s c.requires.slots.0 c.count-count.ensures.distinct slots.parts.hierarchy t (get_or reached t []) c.own.result.now (is_interface_type s.decls.list (type_at s.types t)) refl (slots.parts.rows.each t c.requires.listed).0 owned).1
