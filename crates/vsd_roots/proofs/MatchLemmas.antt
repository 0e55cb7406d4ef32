-- The search for the nearest match among the methods of one name.
use Rattle.std.proofs.Common.{◌≡◌, ℕ, suc, All, IfSome, [], ◌∷◌, map, ◌*◌, ◌<◌, ◌≤◌, List, length, get_or, refl, sym, ap, ◌∙◌, subst, Option, Some, None, inl, inr, arith}
use Rattle.std.specs.List.{slice_get}
use Rattle.std.proofs.lemmas.Bool.{cases_lt, cases_order}
use Rattle.vsd_ast.specs.declared.declarations.Decl.{Decl}
use Rattle.vsd_ast.specs.declared.declarations.Method.{Method}
use Rattle.vsd_ast.specs.declared.declarations.Signature.{Signature}
use Rattle.vsd_ast.specs.WellFormed.{IsDeclaration, IsWritten, IsMethod as IsWrittenMethod}
use Rattle.vsd_terms.specs.declared.term.Term.{Term}
use Rattle.vsd_terms.specs.Size.{greatest}
use Rattle.vsd_terms.specs.Substitution.{parameters_of}
use Rattle.vsd_lift.specs.Chain.{IsChain, envs_of}
use Rattle.vsd_lift.specs.Lift.{AllFit, Fits, HasRoom}
use Rattle.vsd_lift.proofs.PlaceLemmas.{All-at}
use Rattle.vsd_lift.specs.Settled.{IsSettled}
use Rattle.vsd_lift.proofs.ChainLemmas.{chain-deeper, chain-room}
use Rattle.vsd_roots.specs.Levels.{IsStart, IsUpward}
use Rattle.vsd_roots.specs.Methods.{IsMethod}
use Rattle.vsd_roots.specs.Order.{IsEarlier, IsLatest, IsLink, IsShallower, method_rank, rank}
use Rattle.vsd_roots.specs.Slots.{HasMatch, IsNearest, Matches}
use Rattle.vsd_roots.specs.declared.place.Place.{Place}
use Rattle.vsd_roots.proofs.LinkLemmas.{decl_of_rank, one_of_rank}
use Rattle.vsd_roots.proofs.TableLemmas.{method_within, same_method}

pub same_place : (p q : Place) → p.decl ≡ q.decl → p.method ≡ q.method → p ≡ q
same_place p q decls methods =
    let made : ℕ → ℕ → Place = λ d m. record { decl = d; method = m } in
    ap (λ (d : ℕ). made d p.method) decls ∙ ap (made q.decl) methods

module _ (ds : List Decl) (places depths chain : List ℕ) (settled : IsSettled ds places depths) (up : IsUpward ds chain) (m : Method) where
  -- a match stands in a declaration that is less deep than the chain's first
  pub match_below : (l : ℕ) (p r : Place) → slice_get chain 0 ≡ Some p.decl → Matches ds chain m l r → method_rank depths r < 1024 * get_or depths p.decl 0 * 256
  match_below l p r first matches =
      let w = method_within ds places depths r matches.other settled matches.is_other in
      let decl = w.decl in
      let lower = chain-deeper ds places depths up.from chain settled up.within up.chained 0 l p.decl r.decl first matches.stands matches.above in
      omega arith

  -- the latest method that matches is the nearest match
  pub nearest_here : (q : Place) (level : ℕ) → IsStart ds depths chain m (Some q) → Matches ds chain m level q → IsNearest ds chain m q
  nearest_here q level start matches = record {
    level = level;
    matches = matches;
    nearest = λ l r other.
        let a = method_within ds places depths q matches.other settled matches.is_other in
        let b = method_within ds places depths r other.other settled other.is_other in
        let a_decl = a.decl in
        let b_decl = b.decl in
        let a_method = a.method in
        let b_method = b.method in
        let latest : method_rank depths r ≤ method_rank depths q = start.latest.latest r other.other other.is_other other.name (start.below l r other) in
        elim (cases_order level l) [
          | inl same ↦ (
              let decls : q.decl ≡ r.decl = let both = sym matches.stands ∙ ap (slice_get chain) same ∙ other.stands in cc in
              inr (same, omega (arith, ap (rank depths) decls))
              )
          | inr differ ↦ (
              elim differ [
                | inl lt ↦ inl lt
                | inr gt ↦ absurd (omega (arith, chain-deeper ds places depths up.from chain settled up.within up.chained l level r.decl q.decl other.stands matches.stands gt))
              ]
              )
        ];
  }

  -- where it doesn't match, the search goes on below it
  pub nearest_later : (q : Place) (before : Option Place) → IsStart ds depths chain m (Some q) → IsLink ds depths q before → ((level : ℕ) → Matches ds chain m level q → ⊥) → IsStart ds depths chain m before
  nearest_later q before start link none =
      let named = start.latest.is in
      let one = same_method ds q q link.method named.0 refl refl link.is_method named.1.0 in
      let P : List ℕ → Type 0 = λ name. IsLatest ds depths name (method_rank depths q) before in
      record {
        bound = method_rank depths q;
        latest = subst P (ap (λ (x : Method). x.name) one ∙ named.1.1.0) link.latest;
        below = λ l r other.
            let latest : method_rank depths r ≤ method_rank depths q = start.latest.latest r other.other other.is_other other.name (start.below l r other) in
            elim (cases_lt (method_rank depths r) (method_rank depths q)) [
              | inl lt ↦ lt
              | inr ge ↦ (
                  let ranks : method_rank depths r ≡ method_rank depths q = omega arith in
                  let where_ = one_of_rank ds places depths settled r q other.other named.0 ranks other.is_other named.1.0 in
                  absurd (none l (subst (λ (p : Place). Matches ds chain m l p) (same_place r q where_.0 where_.1) other))
                  )
            ];
      }

  -- a declaration that isn't above is left at once
  pub nearest_earlier : (q : Place) (before : Option Place) → IsStart ds depths chain m (Some q) → IsEarlier ds depths q before → ((level : ℕ) → slice_get chain level ≡ Some q.decl → 0 < level → ⊥) → IsStart ds depths chain m before
  nearest_earlier q before start link out =
      let named = start.latest.is in
      let one = same_method ds q q link.method named.0 refl refl link.is_method named.1.0 in
      let P : List ℕ → Type 0 = λ name. IsLatest ds depths name (rank depths q.decl * 256) before in
      let a = method_within ds places depths q named.0 settled named.1.0 in
      record {
        bound = rank depths q.decl * 256;
        latest = subst P (ap (λ (x : Method). x.name) one ∙ named.1.1.0) link.latest;
        below = λ l r other.
            let latest : method_rank depths r ≤ method_rank depths q = start.latest.latest r other.other other.is_other other.name (start.below l r other) in
            let b = method_within ds places depths r other.other settled other.is_other in
            let b_method = b.method in
            elim (cases_lt (rank depths r.decl) (rank depths q.decl)) [
              | inl lt ↦ omega arith
              | inr ge ↦ (
                  let ranks : rank depths r.decl ≡ rank depths q.decl = omega arith in
                  let same : r.decl ≡ q.decl = decl_of_rank ds places depths settled r.decl q.decl b.declared a.declared ranks in
                  absurd (out l (other.stands ∙ ap Some same) other.above)
                  )
            ];
      }

  pub nearest_none : IsStart ds depths chain m None → HasMatch ds chain m → ⊥
  nearest_none start has =
      let matches = has.1.1 in
      start.latest.latest has.1.0 matches.other matches.is_other matches.name (start.below has.0 has.1.0 matches)

-- ---- inherited signatures can be lifted

greatest-written : (names parameters : ℕ) (ts : List Term) → All (IsWritten names parameters) ts → greatest (map parameters_of ts) ≤ parameters
greatest-written names parameters [] all = omega arith
greatest-written names parameters (t ∷ ts) all =
    let first : IsWritten names parameters t = all 0 t (omega arith) in
    let rest = greatest-written names parameters ts (λ k d inside. all (suc k) d (omega arith)) in
    omega (arith, first.bound)

pub record SignatureFits (envs : List (List Term)) (level : ℕ) (s : Signature) : Type 0 where
  pub result : IfSome s.result (Fits envs level)
  pub arguments : AllFit envs level s.arguments

pub signature_fits : (ds : List Decl) (places depths chain : List ℕ) (q : Place) (level : ℕ) (other : Method) → IsSettled ds places depths → IsUpward ds chain → IsMethod ds q other → slice_get chain level ≡ Some q.decl → SignatureFits (envs_of ds chain) level other.signature
signature_fits ds places depths chain q level other settled up is here =
    let x = is.owner in
    let declaration : IsDeclaration (length places) x = All-at (IsDeclaration (length places)) ds q.decl x is.declared settled.each in
    let method : IsWrittenMethod (length places) (length x.params) other = All-at (IsWrittenMethod (length places) (length x.params)) x.methods q.method other is.listed declaration.methods in
    let room = λ (count : ℕ) (few : count ≤ length x.params). chain-room ds places depths up.from chain settled up.within up.chained level q.decl x count here is.declared few in
    record {
      result = result_fits other.signature.result (length x.params) room method.signature.result;
      arguments = room (greatest (map parameters_of other.signature.arguments)) (greatest-written (length places) (length x.params) other.signature.arguments method.signature.arguments);
    }
  where
    result_fits : (o : Option Term) (parameters : ℕ) → ((count : ℕ) → count ≤ parameters → HasRoom (envs_of ds chain) level count) → IfSome o (IsWritten (length places) parameters) → IfSome o (Fits (envs_of ds chain) level)
    result_fits None parameters room written = tt
    result_fits (Some t) parameters room written = room (parameters_of t) written.bound

-- the search begins among the declarations that are less deep
pub start_of_shallower : (ds : List Decl) (places depths chain : List ℕ) → IsSettled ds places depths → (p : Place) (m : Method) (before : Option Place) → IsMethod ds p m → IsChain ds p.decl chain → IsShallower ds depths p before → IsStart ds depths chain m before
start_of_shallower ds places depths chain settled p m before is chained link =
    let up : IsUpward ds chain = record { from = p.decl; within = (method_within ds places depths p m settled is).declared; chained = chained } in
    let one = same_method ds p p link.method m refl refl link.is_method is in
    let P : List ℕ → Type 0 = λ name. IsLatest ds depths name (1024 * get_or depths p.decl 0 * 256) before in
    record {
      bound = 1024 * get_or depths p.decl 0 * 256;
      latest = subst P (ap (λ (x : Method). x.name) one) link.latest;
      below = λ l r other. match_below ds places depths chain settled up m l p r chained.first other;
    }
