use Rattle.std.proofs.Common.{◌≡◌, ℕ, List, Option, Some, None, MatchOption, inl, inr, false}
use Rattle.vsd_ast.specs.declared.declarations.Decl.{Decl}
use Rattle.vsd_ast.specs.declared.declarations.Method.{Method}
use Rattle.vsd_lift.specs.Chain.{IsChain}
use Rattle.vsd_roots.specs.Methods.{IsMethod}
use Rattle.vsd_roots.specs.Order.{IsShallower}
use Rattle.vsd_roots.specs.Slots.{HasMatch, IsNearest, IsOverridden}
use Rattle.vsd_roots.specs.declared.place.Place.{Place}
use Rattle.vsd_roots.proofs.MatchLemmas.{start_of_shallower}
use Rattle.vsd_roots.proofs.TableLemmas.{entry_has, method_within, some_entry}
use Rattle.vsd_roots.proofs.overriding.overridden_by.Goals as goal

answered : (ds : List Decl) (chain : List ℕ) (p : Place) (m : Method) (o : Option Place) → IsMethod ds p m → IsChain ds p.decl chain → m.newslot ≡ false → MatchOption o (HasMatch ds chain m → ⊥) (IsNearest ds chain m) → IsOverridden ds p o
answered ds chain p m None is upward old none = record { method = m; is_method = is; chain = chain; upward = upward; new = inr none }
answered ds chain p m (Some q) is upward old nearest = record { method = m; is_method = is; old = old; chain = chain; upward = upward; nearest = nearest }

pub returns-then-method : goal.returns-then-method
returns-then-method c = record {
  method = c.args.method.now;
  is_method = c.requires.is;
  chain = c.args.chain.now;
  upward = c.requires.chained;
  new = inl c.if-method.true;
}

pub entry_of-start-requires : goal.entry_of-start-requires
entry_of-start-requires c = some_entry _ _ (c.requires.shallower.each c.args.place c.args.method.now c.requires.is)

pub nearest-requires-clause-upward : goal.nearest-requires-clause-upward
nearest-requires-clause-upward c = record {
  from = c.args.place.decl;
  within = (method_within c.args.h.now.decls.now c.args.h.now.places.now c.args.h.now.depths.now c.args.place c.args.method.now c.requires.settled c.requires.is).declared;
  chained = c.requires.chained;
}

pub nearest-requires-clause-start : goal.nearest-requires-clause-start
nearest-requires-clause-start c =
    let h = c.args.h.now in
    let link = entry_has _ c.entry_of-start.result (IsShallower h.decls.now h.depths.now c.args.place) c.entry_of-start.ensures (c.requires.shallower.each c.args.place c.args.method.now c.requires.is) in
    start_of_shallower h.decls.now h.places.now h.depths.now c.args.chain.now c.requires.settled c.args.place c.args.method.now c.entry_of-start.result c.requires.is c.requires.chained link

pub returns : goal.returns
returns c = answered c.args.h.now.decls.now c.args.chain.now c.args.place c.args.method.now c.nearest.result c.requires.is c.requires.chained c.if-method.false c.nearest.ensures
