use Rattle.std.proofs.Common.{◌≡◌, ℕ, ◌<◌, List, length, None, Some, Option, get_or, inl, inr, refl, ap, ◌∙◌, sym, subst, not, arith}
use Rattle.std.proofs.lemmas.List.{get_or_default}
use Rattle.std.specs.HashSet.{contains}
use Rattle.std.specs.List.{list_any, slice_get}
use Rattle.std.proofs.lemmas.Option.{slice_get-get_or, slice_get_cases}
use Rattle.vsd_ast.specs.declared.declarations.Override.{Override}
use Rattle.vsd_least.specs.Least.{AtSome, IsLeast, earlier_of}
use Rattle.vsd_least.proofs.LeastLaws.{IsLeast-end, IsLeast-next, IsLeast-none, IsLeast-shown, IsLeast-start}
use Rattle.vsd_overrides.specs.Conditions.{RepeatedAt, Repeats}
use Rattle.vsd_overrides.specs.Implements.{Implements}
use Rattle.vsd_overrides.specs.Targets.{ImplementsNothing, IsTarget}
use Rattle.vsd_overrides.specs.declared.conditions.Key.{Key}
use Rattle.vsd_overrides.specs.declared.target.Target.{Target}
use Rattle.vsd_overrides.proofs.KeyLemmas.{key_eq, nothing-repeats, seen-known, seen-put, seen-skip, seen-start}
use Rattle.vsd_overrides.proofs.MeaningLemmas.{entry_at}
use Rattle.vsd_overrides.proofs.conditions.repeated_override.Goals as goal

pub loop-i-init : goal.loop-i-init
loop-i-init c = record {
  found = IsLeast-start c.as_slice-overrides.result.now (RepeatedAt c.args.decls.now c.args.place c.args.decl.now);
  seen = seen-start c.args.decls.now c.args.place c.args.decl.now (contains key_eq c.new-seen.result) (λ q. ap (list_any (key_eq q)) c.new-seen.ensures.empty);
}

pub returns : goal.returns
returns c =
    let Q = RepeatedAt c.args.decls.now c.args.place c.args.decl.now in
    let P : List Override → Type 0 = λ l. IsLeast (AtSome l Q) c.loop-i.found in
    subst P c.as_slice-overrides.ensures (IsLeast-end c.as_slice-overrides.result.now Q c.loop-i.i c.loop-i.found (omega arith) c.loop-i.invariant.found)

-- a line that is missing changes nothing
kept : (a : Option ℕ) → a ≡ earlier_of a None
kept None = refl
kept (Some n) = refl

pub loop-i-preserved-in_default : goal.loop-i-preserved-in_default
loop-i-preserved-in_default c =
    let ds = c.args.decls.now in
    let x = c.args.decl.now in
    let place = c.args.place in
    let all = c.as_slice-overrides.result.now in
    let row = c.args.row.now in
    let i = c.loop-i.i in
    let none : Option Target = None in
    let silent : Option ℕ = None in
    let gone : get_or row i none ≡ none = c.in_default.is in
    elim (slice_get_cases all i).1 [
      | inl w ↦ (
          let o = w.0 in
          let there : slice_get x.overrides i ≡ Some o = ap (λ (l : List Override). slice_get l i) (sym c.as_slice-overrides.ensures) ∙ w.2 in
          let target : IsTarget ds place x o (get_or row i none) = entry_at (IsTarget ds place x o) row i none (c.requires.each i o there) in
          let nothing : ImplementsNothing ds place x o = subst (IsTarget ds place x o) gone target in
          record {
            found = IsLeast-next all (RepeatedAt ds place x) i o c.loop-i.found silent c.loop-i.found (kept c.loop-i.found) w.2 c.loop-i.invariant.found
                (IsLeast-none (RepeatedAt ds place x i o) (λ n r. nothing-repeats ds place x i o nothing r.0));
            seen = seen-skip ds place x i o (contains key_eq c.loop-i.seen) there nothing c.loop-i.invariant.seen;
          }
          )
      | inr past ↦ absurd (omega (arith, past.0))
    ]

pub loop-i-preserved : goal.loop-i-preserved
loop-i-preserved c =
    let ds = c.args.decls.now in
    let x = c.args.decl.now in
    let place = c.args.place in
    let all = c.as_slice-overrides.result.now in
    let row = c.args.row.now in
    let i = c.loop-i.i in
    let t : Target = c.in-Some.target in
    let none : Option Target = None in
    let some : get_or row i none ≡ Some t = c.in-Some.is in
    let inside : i < length all = omega arith in
    let o : Override = get_or all i c.index-overrides-i-in-loop-i.result in
    let here : slice_get all i ≡ Some o = slice_get-get_or all i c.index-overrides-i-in-loop-i.result inside in
    let there : slice_get x.overrides i ≡ Some o = ap (λ (l : List Override). slice_get l i) (sym c.as_slice-overrides.ensures) ∙ here in
    let target : IsTarget ds place x o (get_or row i none) = entry_at (IsTarget ds place x o) row i none (c.requires.each i o there) in
    let is : Implements ds place x o t = subst (IsTarget ds place x o) some target in
    let owner : (get_or all i c.index-overrides-i.result).owner ≡ o.owner = ap (λ (p : Override). p.owner) (get_or_default all i c.index-overrides-i.result c.index-overrides-i-in-loop-i.result inside) in
    let k : Key = record { owner = record { ref_ptr = (0, 0); now = (get_or all i c.index-overrides-i.result).owner }; slot = t.slot } in
    record {
      found = IsLeast-next all (RepeatedAt ds place x) i o c.loop-i.found c.shown.result c.earlier-found.result c.earlier-found.ensures here c.loop-i.invariant.found
          (IsLeast-shown (Repeats ds place x i o) (not c.in_ok-new.new) o.line c.shown.result c.shown.ensures
          (seen-known ds place x i o t k (contains key_eq c.loop-i.seen) c.in_ok-new.new is owner refl c.in_ok-new.ensures.added c.loop-i.invariant.seen));
      seen = seen-put ds place x i o t k (contains key_eq c.loop-i.seen) (contains key_eq c.insert.new.self) there is owner refl c.in_ok-new.ensures.updates.0 c.loop-i.invariant.seen;
    }
