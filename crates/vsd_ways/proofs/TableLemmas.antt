-- The table of ways, filled in the order of depths.
use Rattle.std.proofs.Common.{◌≡◌, ℕ, ◌+◌, ◌<◌, ◌≤◌, List, [], length, get_or, set, sym, ap, ◌∙◌, subst, Some, All, inl, inr, false, arith, get_or-set_same, get_or-set_other}
use Rattle.std.specs.List.{slice_get}
use Rattle.std.proofs.lemmas.Bool.{cases_lt, cases_order, false≢true}
use Rattle.std.proofs.lemmas.List.{length-set}
use Rattle.std.proofs.lemmas.Option.{slice_get_within, slice_get-get_or}
use Rattle.vsd_terms.specs.declared.term.Term.{Term}
use Rattle.vsd_ast.specs.declared.declarations.Decl.{Decl}
use Rattle.vsd_ast.specs.declared.declarations.Located.{Located}
use Rattle.vsd_ast.specs.Lookup.{place_of}
use Rattle.vsd_lift.specs.Settled.{IsSettled}
use Rattle.vsd_ways.specs.Known.{Way}
use Rattle.vsd_ways.specs.Order.{IsOrder}
use Rattle.vsd_ways.specs.Ways.{AreWays, AreWaysBefore, IsReady, IsWays}
use Rattle.vsd_ways.proofs.SettledLemmas.{named_by, interface_at, number_at}

module _ (ds : List Decl) (owners : List Term) (order : List ℕ) where
  pub ways_start : (table : List (List Way)) → length table ≡ length ds → AreWaysBefore ds owners order 0 table
  ways_start table count = record { count = count; each = λ j n x below. absurd (omega arith) }

  pub ways_skip : (i n : ℕ) (x : Decl) (table : List (List Way)) → slice_get order i ≡ Some n → slice_get ds n ≡ Some x → x.is_interface ≡ false → AreWaysBefore ds owners order i table → AreWaysBefore ds owners order (i + 1) table
  ways_skip i n x table at_i here class before = record {
    count = before.count;
    each = λ j m y below at_j there interface. elim (cases_lt j i) [
      | inl lt ↦ before.each j m y lt at_j there interface
      | inr ge ↦ (
          let same : m ≡ n = let last : j ≡ i = omega arith in let both = sym at_j ∙ ap (slice_get order) last ∙ at_i in cc in
          let is : y ≡ x = let both = sym there ∙ ap (slice_get ds) same ∙ here in cc in
          absurd (false≢true (sym class ∙ ap (λ (d : Decl). d.is_interface) (sym is) ∙ interface))
          )
    ];
  }

  pub ways_put : (i n : ℕ) (x : Decl) (table new : List (List Way)) (ways : List Way) → slice_get order i ≡ Some n → slice_get ds n ≡ Some x → IsWays ds owners x ways → new ≡ set table n ways → AreWaysBefore ds owners order i table → AreWaysBefore ds owners order (i + 1) new
  ways_put i n x table new ways at_i here are is before =
      let inside : n < length table = omega (arith, slice_get_within ds n x here, before.count) in
      subst (AreWaysBefore ds owners order (i + 1)) (sym is) (record {
        count = length-set table n ways ∙ before.count;
        each = λ j m y below at_j there interface. elim (cases_order m n) [
          | inl same ↦ (
              let one : y ≡ x = let both = sym there ∙ ap (slice_get ds) same ∙ here in cc in
              let read : get_or (set table n ways) m [] ≡ ways = ap (λ (k : ℕ). get_or (set table n ways) k []) same ∙ get_or-set_same table n ways [] inside in
              subst (λ (w : List Way). IsWays ds owners y w) (sym read) (subst (λ (d : Decl). IsWays ds owners d ways) (sym one) are)
              )
          | inr other ↦ (
              let differ : m ≡ n → ⊥ = λ e. elim other [ inl lt ↦ omega (arith, e) | inr gt ↦ omega (arith, e) ] in
              let read : get_or (set table n ways) m [] ≡ get_or table m [] = get_or-set_other table n m ways [] differ in
              let earlier : j < i = elim (cases_lt j i) [
                | inl lt ↦ lt
                | inr ge ↦ absurd (differ (let last : j ≡ i = omega arith in let both = sym at_j ∙ ap (slice_get order) last ∙ at_i in cc))
              ] in
              subst (λ (w : List Way). IsWays ds owners y w) (sym read) (before.each j m y earlier at_j there interface)
              )
        ];
      })

  module _ (places depths : List ℕ) (settled : IsSettled ds places depths) (ordered : IsOrder (length ds) depths order) where
    -- the interfaces that the next one requires have their ways
    pub ways_ready : (i n : ℕ) (x : Decl) (table : List (List Way)) → slice_get order i ≡ Some n → slice_get ds n ≡ Some x → AreWaysBefore ds owners order i table → All (λ (t : Located). IsReady ds owners table t.term) x.interfaces
    ways_ready i n x table at_i here before = λ k d inside.
        let t = get_or x.interfaces k d in
        let by = named_by ds places depths n x k t settled here (slice_get-get_or x.interfaces k d inside) in
        λ name args is y there.
        let lower : get_or depths (place_of ds name) 0 < get_or depths n 0 = omega (arith, by.lower, number_at ds depths name args t.term is) in
        let stands = ordered.upward i n (place_of ds name) at_i (slice_get_within ds (place_of ds name) y there) lower in
        before.each stands.place (place_of ds name) y stands.before stands.there there (interface_at ds name args t.term y is there by.interface)

    pub ways_whole : (i : ℕ) (table : List (List Way)) → length order ≤ i → AreWaysBefore ds owners order i table → AreWays ds owners table
    ways_whole i table past before = record {
      count = before.count;
      each = λ n x here interface.
          let w = ordered.whole n (slice_get_within ds n x here) in
          before.each w.0 n x (omega (arith, slice_get_within order w.0 n w.1)) w.1 here interface;
    }
