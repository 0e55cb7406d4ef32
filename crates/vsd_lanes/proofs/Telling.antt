-- What the operations of a lane tell of the types of their objects, and that further roots keep it.
use Rattle.std.proofs.Common.{◌≡◌, ℕ, zero, suc, Bool, true, false, cond, List, [], ◌∷◌, ◌++◌, length, length-append, Option, Some, None, refl, ap, ◌∙◌, arith}
use Rattle.std.specs.List.{slice_get}
use Rattle.std.proofs.Math.ListN.{get_or-append}
use Rattle.std.proofs.Math.Seq.{get_or-append_seam}
use Rattle.std.proofs.lemmas.List.{length_push}
use Rattle.std.proofs.lemmas.Option.{slice_get_within, slice_get-get_or, get_or_from_slice_get}
use Rattle.vsd_terms.specs.declared.term.Term.{Term}
use Rattle.vsd_ast.specs.declared.declarations.Decl.{Decl}
use Rattle.vsd_ast.specs.declared.scripts.Host.{Host}
use Rattle.vsd_ast.specs.declared.scripts.Var.{Var}
use Rattle.vsd_ast.specs.declared.scripts.Var.TheVariants as var
use Rattle.vsd_grammar.specs.declared.cause.Cause.{Cause}
use Rattle.vsd_grammar.specs.declared.cause.Cause.TheVariants.{NotConcrete}
use Rattle.vsd_lanes.specs.declared.tree.Written.{Written}
use Rattle.vsd_lanes.specs.declared.tree.Written.TheVariants as kind
use Rattle.vsd_lanes.specs.Meaning.{times_of}
use Rattle.vsd_lanes.specs.Objects.{IsConcreteRoot}
use Rattle.vsd_lanes.specs.Setting.{concrete_term, concrete_host}
use Rattle.vsd_lanes.specs.Types.{is_concrete}

-- ---- further roots

pub kept_root : (xs more : List Term) (n : ℕ) (t : Term) → slice_get xs n ≡ Some t → slice_get (xs ++ more) n ≡ Some t
kept_root xs more n t e =
    let within = slice_get_within xs n t e in
    let long = length-append xs more in
    let at = slice_get-get_or (xs ++ more) n t (omega (arith, within, long)) in
    at ∙ ap Some (get_or-append xs more t n within ∙ get_or_from_slice_get xs n t t e)

pub new_root : (xs : List Term) (t : Term) → slice_get (xs ++ t ∷ []) (length xs) ≡ Some t
new_root xs t =
    let long = length_push xs t in
    slice_get-get_or (xs ++ t ∷ []) (length xs) t (omega (arith, long)) ∙ ap Some (get_or-append_seam xs t [] t)

pub kept_concrete : (ds : List Decl) (xs more : List Term) (root : ℕ) → IsConcreteRoot ds xs root → IsConcreteRoot ds (xs ++ more) root
kept_concrete ds xs more root k = record { term = k.term; there = kept_root xs more root k.term k.there; concrete = k.concrete }

-- ---- what operations tell

pub if_concrete : (b : Bool) → ◌≡◌ {A = Option Cause} (cond b None (Some NotConcrete)) None → b ≡ true
if_concrete true e = refl
if_concrete false e = absurd cc

module _ (ds : List Decl) (hosts : List Host) where
  -- a host that is called is of a class that isn't abstract
  abbrev pub IsCalled : List Term → Var → Type 0
  IsCalled roots (var.Host h) = (host : Host) × (slice_get hosts h ≡ Some host) × IsConcreteRoot ds roots host.root
  IsCalled roots (var.Own v) = Unit {0}

  -- a load tells whether its root is of a class that isn't abstract
  abbrev pub Tells : List Term → Written → Type 0
  Tells roots (kind.Load word at variable root concrete) = (t : Term) × (slice_get roots root ≡ Some t) × (concrete ≡ is_concrete ds t)
  Tells roots (kind.Unload word at variable) = Unit {0}
  Tells roots (kind.Call word site at object) = IsCalled roots object
  Tells roots (kind.Cast word at source target_at target) = Unit {0}

  abbrev pub AllTell : List Term → List Written → Type 0
  AllTell roots [] = Unit {0}
  AllTell roots (w ∷ ws) = Tells roots w × AllTell roots ws

  pub tell_append : (roots : List Term) (xs ys : List Written) → AllTell roots xs → AllTell roots ys → AllTell roots (xs ++ ys)
  tell_append roots [] ys h k = k
  tell_append roots (x ∷ xs) ys h k = (h.0, tell_append roots xs ys h.1 k)

  pub tell_times : (roots : List Term) (n : ℕ) (ws : List Written) → AllTell roots ws → AllTell roots (times_of n ws)
  unfolding times_of
  tell_times roots zero ws h = tt
  tell_times roots (suc n) ws h = tell_append roots ws (times_of n ws) h (tell_times roots n ws h)

  module _ (roots more : List Term) where
    called_later : (o : Var) → IsCalled roots o → IsCalled (roots ++ more) o
    called_later (var.Host h) k = (k.0, k.1, kept_concrete ds roots more k.0.root k.2)
    called_later (var.Own v) k = tt

    tells_later : (w : Written) → Tells roots w → Tells (roots ++ more) w
    tells_later (kind.Load word at variable root concrete) k = (k.0, kept_root roots more root k.0 k.1, k.2)
    tells_later (kind.Unload word at variable) k = tt
    tells_later (kind.Call word site at object) k = called_later object k
    tells_later (kind.Cast word at source target_at target) k = tt

    pub tell_later : (ws : List Written) → AllTell roots ws → AllTell (roots ++ more) ws
    tell_later [] h = tt
    tell_later (w ∷ ws) h = (tells_later w h.0, tell_later ws h.1)

  pub concrete_called : (roots : List Term) (h : ℕ) → ◌≡◌ {A = Option Cause} (cond (concrete_host ds roots (slice_get hosts h)) None (Some NotConcrete)) None → IsCalled roots (var.Host h)
  concrete_called roots h e = by (slice_get hosts h) refl (if_concrete (concrete_host ds roots (slice_get hosts h)) e)
    where
      of : (host : Host) (o : Option Term) → slice_get roots host.root ≡ o → concrete_term ds o ≡ true → IsConcreteRoot ds roots host.root
      of host None f g = absurd cc
      of host (Some t) f g = record { term = t; there = f; concrete = g }

      by : (o : Option Host) → slice_get hosts h ≡ o → concrete_host ds roots o ≡ true → IsCalled roots (var.Host h)
      by None f g = absurd cc
      by (Some host) f g = (host, f, of host (slice_get roots host.root) refl g)
