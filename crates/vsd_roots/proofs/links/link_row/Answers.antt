use Rattle.std.proofs.Common.{◌≡◌, ℕ, ◌+◌, ◌-◌, ◌*◌, ◌<◌, length, get_or, length-set, replicate, None, Option, sym, ap, ◌∙◌, subst, Some, IsSomeAnd, inl, inr, arith, rules}
use Rattle.std.specs.HashMap.{get}
use Rattle.std.specs.List.{slice_get}
use Rattle.std.proofs.lemmas.Bool.{cases_eq}
use Rattle.std.proofs.lemmas.List.{length-replicate}
use Rattle.std.proofs.lemmas.Option.{slice_get-get_or, slice_get_within}
use Rattle.vsd_ast.specs.declared.declarations.Decl.{Decl}
use Rattle.vsd_ast.specs.declared.declarations.Method.{Method}
use Rattle.vsd_roots.specs.Methods.{IsMethod}
use Rattle.vsd_roots.specs.Order.{rank, method_rank, same_name, AreLatest, IsLink}
use Rattle.vsd_roots.specs.declared.place.Place.{Place}
use Rattle.vsd_roots.proofs.LinkLemmas.{IsLink-put, latest-put, latest-row_start}
use Rattle.vsd_roots.proofs.TableLemmas.{method_within, same_method, slice_get-set_other, slice_get-set_same}
use Rattle.vsd_roots.proofs.links.link_row.Goals as goal

pub loop-method-init : goal.loop-method-init
loop-method-init c =
    let h = c.args.h.now in
    let ds = h.decls.now in
    let at = c.args.at in
    let x : Decl = get_or ds at c.index-h-at.result in
    let here : slice_get ds at ≡ Some x = slice_get-get_or ds at c.index-h-at.result c.requires.within in
    let methods : c.as_slice-methods.result.now ≡ x.methods = c.as_slice-methods.ensures in
    let empty : Option Place = None in
    let filled : c.in_ok-vec.field-0.items ≡ replicate (length c.as_slice-methods.result.now) empty = c.in_ok-vec.ensures.items_if_clones_equal (search rules) in
    record {
      count = ap length c.from_vec-row.ensures ∙ ap length filled ∙ length-replicate (length c.as_slice-methods.result.now) empty;
      latest = subst (λ (n : ℕ). AreLatest ds h.depths.now (rank h.depths.now at * 256 + (256 - n)) (get same_name c.args.latest.now)) (sym (ap length methods)) (latest-row_start ds h.places.now h.depths.now c.requires.settled (get same_name c.args.latest.now) at x here c.requires.before);
      done = λ p m decl past is.
          let owners : is.owner ≡ x = let both = sym is.declared ∙ ap (slice_get ds) decl ∙ here in cc in
          absurd (omega (arith, slice_get_within is.owner.methods p.method m is.listed, ap (λ (y : Decl). length y.methods) owners, ap length methods));
    }

pub loop-method-preserved : goal.loop-method-preserved
loop-method-preserved c =
    let h = c.args.h.now in
    let ds = h.decls.now in
    let depths = h.depths.now in
    let at = c.args.at in
    let i = c.loop-method.method - 1 in
    let row = c.loop-method.row in
    let before = c.in_ok-before.before in
    let x : Decl = get_or ds at c.index-h-at.result in
    let here : slice_get ds at ≡ Some x = slice_get-get_or ds at c.index-h-at.result c.requires.within in
    let methods : c.as_slice-methods.result.now ≡ x.methods = c.as_slice-methods.ensures in
    let inside : i < length c.as_slice-methods.result.now = omega arith in
    let m : Method = get_or c.as_slice-methods.result.now i c.index-methods-method.result in
    let p : Place = record { decl = at; method = i } in
    let is : IsMethod ds p m = record {
      owner = x;
      declared = here;
      listed = ap (λ l. slice_get l i) (sym methods) ∙ slice_get-get_or c.as_slice-methods.result.now i c.index-methods-method.result inside;
    } in
    let few = method_within ds h.places.now depths p m c.requires.settled is in
    let limit = few.method in
    let key : c.as_slice.result.now ≡ m.name = c.as_slice.ensures in
    let bound : ℕ = rank depths at * 256 + (256 - c.loop-method.method) in
    let ranked : method_rank depths p ≡ bound = omega arith in
    record {
      count = ap length c.set.ensures ∙ length-set row i before ∙ c.loop-method.invariant.count;
      latest = latest-put ds h.places.now depths c.requires.settled (get same_name c.loop-method.latest) (get same_name c.insert.new.self) bound (rank depths at * 256 + (256 - i)) p m c.as_slice.result is ranked (omega arith) key c.in_ok-before.ensures.updates.0 c.loop-method.invariant.latest;
      done = λ q n decl past other.
          elim (cases_eq q.method i) [
            | inl same ↦ (
                let one = same_method ds p q m n (sym decl) (sym same) is other in
                let written : slice_get c.set.new.self q.method ≡ Some before = ap (slice_get c.set.new.self) same ∙ ap (λ l. slice_get l i) c.set.ensures ∙ slice_get-set_same row i before (omega (arith, c.loop-method.invariant.count)) in
                let same_rank : method_rank depths q ≡ bound = ap (λ (k : ℕ). rank depths k * 256 + (255 - q.method)) decl ∙ ap (λ (k : ℕ). rank depths at * 256 + (255 - k)) same ∙ ranked in
                let link = IsLink-put ds h.places.now depths c.requires.settled (get same_name c.loop-method.latest) bound q n c.as_slice.result before other same_rank (key ∙ ap (λ (y : Method). y.name) one) c.in_ok-before.ensures.old c.loop-method.invariant.latest in
                subst (λ o. IsSomeAnd o (IsLink ds depths q)) (sym written) link
                )
            | inr differ ↦ (
                let kept : slice_get c.set.new.self q.method ≡ slice_get row q.method = ap (λ l. slice_get l q.method) c.set.ensures ∙ slice_get-set_other row i q.method before differ in
                subst (λ o. IsSomeAnd o (IsLink ds depths q)) (sym kept) (c.loop-method.invariant.done q n decl (omega arith) other)
                )
          ];
    }

pub returns-clause-after : goal.returns-clause-after
returns-clause-after c =
    let h = c.args.h.now in
    let end : rank h.depths.now c.args.at * 256 + (256 - c.loop-method.method) ≡ (rank h.depths.now c.args.at + 1) * 256 = omega arith in
    subst (λ (n : ℕ). AreLatest h.decls.now h.depths.now n (get same_name c.loop-method.latest)) end c.loop-method.invariant.latest

pub returns-clause-row : goal.returns-clause-row
returns-clause-row c = record { each = λ p m decl is. c.loop-method.invariant.done p m decl (omega arith) is }
