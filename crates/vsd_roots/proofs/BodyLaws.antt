-- A slot has one body in a class.
use Rattle.std.proofs.Common.{◌≡◌, ℕ, List, sym, ap, ◌∙◌, inl, inr, arith}
use Rattle.std.specs.List.{slice_get}
use Rattle.vsd_ast.specs.declared.declarations.Decl.{Decl}
use Rattle.vsd_roots.specs.Bodies.{IsBody}
use Rattle.vsd_roots.specs.declared.place.Place.{Place}
use Rattle.vsd_roots.proofs.MatchLemmas.{same_place}

pub body_only : (ds : List Decl) (chain : List ℕ) (root : Place) (k l : ℕ) (p q : Place) → IsBody ds chain root k p → IsBody ds chain root l q → p ≡ q
body_only ds chain root k l p q a b =
    elim (a.nearest l q b.stands b.rooted) [
      | inl lower ↦ (
          elim (b.nearest k p a.stands a.rooted) [
            | inl higher ↦ absurd (omega arith)
            | inr same ↦ absurd (omega (arith, same.0))
          ]
          )
      | inr one ↦ (
          elim (b.nearest k p a.stands a.rooted) [
            | inl higher ↦ absurd (omega (arith, one.0))
            | inr other ↦ (
                let decls : p.decl ≡ q.decl = let both = sym a.stands ∙ ap (slice_get chain) one.0 ∙ b.stands in cc in
                same_place p q decls (omega (arith, one.1, other.1))
                )
          ]
          )
    ]
