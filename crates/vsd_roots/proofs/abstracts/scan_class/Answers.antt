use Rattle.std.proofs.Common.{◌≡◌, ℕ, ◌+◌, ◌-◌, ◌*◌, ◌<◌, List, length, get_or, sym, ap, ◌∙◌, subst, Some, inl, inr, arith}
use Rattle.std.specs.HashSet.{contains}
use Rattle.std.specs.List.{slice_get}
use Rattle.std.proofs.lemmas.Option.{slice_get-get_or, slice_get_cases, slice_get_within}
use Rattle.vsd_ast.specs.declared.declarations.Decl.{Decl}
use Rattle.vsd_ast.specs.declared.declarations.Method.{Method}
use Rattle.vsd_lift.specs.Settled.{IsSettled}
use Rattle.vsd_roots.specs.Bodies.{ScansTo, place_eq}
use Rattle.vsd_roots.specs.Levels.{IsUpward}
use Rattle.vsd_roots.specs.Methods.{IsMethod, entry}
use Rattle.vsd_roots.specs.Slots.{IsRoot}
use Rattle.vsd_roots.specs.declared.place.Place.{Place}
use Rattle.vsd_roots.proofs.ScanLemmas.{declared_at, scan-class_start, scan-put}
use Rattle.vsd_roots.proofs.TableLemmas.{entry_has, method_within, some_entry}
use Rattle.vsd_roots.proofs.abstracts.scan_class.Goals as goal

-- the class at the level, and its method at a place
record ClassAt (ds : List Decl) (chain : List ℕ) (level : ℕ) (d : Decl) : Type 0 where
  declared : get_or chain level 0 < length ds
  few : get_or chain level 0 < 1024
  stands : slice_get chain level ≡ Some (get_or chain level 0)
  here : slice_get ds (get_or chain level 0) ≡ Some (get_or ds (get_or chain level 0) d)

class_at : (ds : List Decl) (places depths chain : List ℕ) (level : ℕ) (d : Decl) → IsSettled ds places depths → IsUpward ds chain → level < length chain → ClassAt ds chain level d
class_at ds places depths chain level d settled up inside =
    let at = get_or chain level 0 in
    let x = declared_at ds places depths chain settled up level inside in
    let within = slice_get_within ds at x.0 x.1 in
    record {
      declared = within;
      few = omega (arith, settled.few);
      stands = slice_get-get_or chain level 0 inside;
      here = slice_get-get_or ds at d within;
    }

method_in : (ds : List Decl) (at i : ℕ) (x : Decl) (methods : List Method) (m : Method) → slice_get ds at ≡ Some x → methods ≡ x.methods → i < length methods → IsMethod ds (record { decl = at; method = i }) (get_or methods i m)
method_in ds at i x methods m here are inside = record {
  owner = x;
  declared = here;
  listed = ap (λ (l : List Method). slice_get l i) (sym are) ∙ slice_get-get_or methods i m inside;
}

pub bounds-h-decl : goal.bounds-h-decl
bounds-h-decl c =
    let h = c.args.h.now in
    let x = declared_at h.decls.now h.places.now h.depths.now c.args.chain.now c.requires.settled c.requires.upward c.args.level c.requires.within in
    slice_get_within h.decls.now (get_or c.args.chain.now c.args.level 0) x.0 x.1

pub offset_bounds-h-decl : goal.offset_bounds-h-decl
offset_bounds-h-decl c =
    let h = c.args.h.now in
    let x = declared_at h.decls.now h.places.now h.depths.now c.args.chain.now c.requires.settled c.requires.upward c.args.level c.requires.within in
    let inside = slice_get_within h.decls.now (get_or c.args.chain.now c.args.level 0) x.0 x.1 in
    omega (arith, c.requires.settled.few)

pub loop-method-init : goal.loop-method-init
loop-method-init c =
    let h = c.args.h.now in
    let ds = h.decls.now in
    let chain = c.args.chain.now in
    let k = class_at ds h.places.now h.depths.now chain c.args.level c.index-h-decl.result c.requires.settled c.requires.upward c.requires.within in
    let start = scan-class_start ds h.places.now h.depths.now chain c.requires.settled c.requires.upward c.args.level (get_or chain c.args.level 0) (get_or ds (get_or chain c.args.level 0) c.index-h-decl.result) (contains place_eq c.args.seen.now) c.args.before k.stands k.here c.requires.scanned in
    subst (λ (n : ℕ). ScansTo ds chain (c.args.level * 256 + (256 - n)) (contains place_eq c.args.seen.now) c.args.before) (ap (λ (l : List Method). length l) (sym c.as_slice-methods.ensures)) start

pub overflow_cast-place : goal.overflow_cast-place
overflow_cast-place c =
    let h = c.args.h.now in
    let k = class_at h.decls.now h.places.now h.depths.now c.args.chain.now c.args.level c.index-h-decl.result c.requires.settled c.requires.upward c.requires.within in
    let few = k.few in
    omega arith

pub overflow_cast-place-in-loop-method : goal.overflow_cast-place-in-loop-method
overflow_cast-place-in-loop-method c =
    let h = c.args.h.now in
    let ds = h.decls.now in
    let chain = c.args.chain.now in
    let at = get_or chain c.args.level 0 in
    let i = c.loop-method.method - 1 in
    let k = class_at ds h.places.now h.depths.now chain c.args.level c.index-h-decl.result c.requires.settled c.requires.upward c.requires.within in
    elim (slice_get_cases c.as_slice-methods.result.now i).1 [
      | inl w ↦ (
          let is : IsMethod ds (record { decl = at; method = i }) w.0 = record { owner = get_or ds at c.index-h-decl.result; declared = k.here; listed = ap (λ (l : List Method). slice_get l i) (sym c.as_slice-methods.ensures) ∙ w.2 } in
          let within = method_within ds h.places.now h.depths.now (record { decl = at; method = i }) w.0 c.requires.settled is in
          let limit = within.method in
          omega arith
          )
      | inr past ↦ absurd (omega (arith, past.0))
    ]

pub entry_of-root-requires : goal.entry_of-root-requires
entry_of-root-requires c =
    let h = c.args.h.now in
    let ds = h.decls.now in
    let chain = c.args.chain.now in
    let at = get_or chain c.args.level 0 in
    let i = c.loop-method.method - 1 in
    let k = class_at ds h.places.now h.depths.now chain c.args.level c.index-h-decl.result c.requires.settled c.requires.upward c.requires.within in
    elim (slice_get_cases c.as_slice-methods.result.now i).1 [
      | inl w ↦ (
          let is : IsMethod ds (record { decl = at; method = i }) w.0 = record { owner = get_or ds at c.index-h-decl.result; declared = k.here; listed = ap (λ (l : List Method). slice_get l i) (sym c.as_slice-methods.ensures) ∙ w.2 } in
          some_entry _ _ (c.requires.roots.each (record { decl = at; method = i }) w.0 is)
          )
      | inr past ↦ absurd (omega (arith, past.0))
    ]

pub loop-method-preserved : goal.loop-method-preserved
loop-method-preserved c =
    let h = c.args.h.now in
    let ds = h.decls.now in
    let chain = c.args.chain.now in
    let at = get_or chain c.args.level 0 in
    let i = c.loop-method.method - 1 in
    let d = c.index-h-decl.result in
    let p : Place = record { decl = at; method = i } in
    let k = class_at ds h.places.now h.depths.now chain c.args.level d c.requires.settled c.requires.upward c.requires.within in
    let inside : i < length c.as_slice-methods.result.now = omega arith in
    let m : Method = get_or c.as_slice-methods.result.now i c.index-methods-method.result in
    let is : IsMethod ds p m = method_in ds at i (get_or ds at d) c.as_slice-methods.result.now c.index-methods-method.result k.here c.as_slice-methods.ensures inside in
    let within = method_within ds h.places.now h.depths.now p m c.requires.settled is in
    let limit = within.method in
    let root = entry_has (entry c.args.roots.now p) c.entry_of-root.result (IsRoot ds p) c.entry_of-root.ensures (c.requires.roots.each p m is) in
    scan-put ds h.places.now h.depths.now chain c.requires.settled c.requires.upward p c.entry_of-root.result m c.args.level (c.args.level * 256 + (256 - c.loop-method.method)) (c.args.level * 256 + (256 - i)) (contains place_eq c.loop-method.seen) (contains place_eq c.insert.new.self) c.loop-method.found c.in_ok-new.new c.is_found-found.result k.stands is root (omega arith) (omega arith) c.in_ok-new.ensures.added c.in_ok-new.ensures.updates.0 c.is_found-found.ensures c.loop-method.invariant
