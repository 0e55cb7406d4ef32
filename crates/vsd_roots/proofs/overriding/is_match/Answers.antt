use Rattle.std.proofs.Common.{◌≡◌, ℕ, ◌<◌, List, length, get_or, refl, sym, ap, ◌∙◌, subst, Some, IfSome, arith, rules}
use Rattle.std.specs.List.{slice_get}
use Rattle.std.proofs.lemmas.Option.{slice_get-get_or, slice_get_read, slice_get_within}
use Rattle.vsd_ast.specs.declared.declarations.Access.TheVariants.{Private}
use Rattle.vsd_ast.specs.declared.declarations.Decl.{Decl}
use Rattle.vsd_ast.specs.declared.declarations.Method.{Method}
use Rattle.vsd_lift.specs.Chain.{envs_of}
use Rattle.vsd_lift.specs.Lift.{AllFit, Fits, lift_signature}
use Rattle.vsd_lift.proofs.ChainLemmas.{chain-ladder}
use Rattle.vsd_roots.specs.Methods.{IsMethod}
use Rattle.vsd_roots.specs.declared.place.Place.{Place}
use Rattle.vsd_roots.proofs.MatchLemmas.{signature_fits}
use Rattle.vsd_roots.proofs.TableLemmas.{same_method}
use Rattle.vsd_roots.proofs.overriding.is_match.Goals as goal

-- the method that the code reads is the one at the place
method_read : (ds : List Decl) (at : Place) (m r : Method) (d : Decl) (methods : List Method) → IsMethod ds at m → methods ≡ (get_or ds at.decl d).methods → r ≡ get_or methods at.method r → m ≡ r
method_read ds at m r d methods is methods_are read =
    let inside = slice_get_within ds at.decl is.owner is.declared in
    let owners : is.owner ≡ get_or ds at.decl d = let both = sym is.declared ∙ slice_get-get_or ds at.decl d inside in cc in
    let listed : slice_get methods at.method ≡ Some m = ap (λ l. slice_get l at.method) methods_are ∙ ap (λ (x : Decl). slice_get x.methods at.method) (sym owners) ∙ is.listed in
    let within = slice_get_within methods at.method m listed in
    let both = sym listed ∙ slice_get_read methods (length methods) at.method r refl within read in
    cc

pub same_signature_up-requires-clause-ladder : goal.same_signature_up-requires-clause-ladder
same_signature_up-requires-clause-ladder c =
    let h = c.args.h.now in
    let up = c.requires.upward in
    chain-ladder h.decls.now h.places.now h.depths.now up.from c.args.chain.now c.requires.settled up.within up.chained

pub same_signature_up-requires-clause-within : goal.same_signature_up-requires-clause-within
same_signature_up-requires-clause-within c =
    let level = get_or c.args.levels.now c.args.at.decl 0 in
    let some : 0 < level = omega arith in
    let inside = slice_get_within c.args.chain.now level c.args.at.decl (c.requires.levels.found c.args.at.decl some) in
    omega arith

pub same_signature_up-requires-clause-result_fits :
    goal.same_signature_up-requires-clause-result_fits
same_signature_up-requires-clause-result_fits c =
    let h = c.args.h.now in
    let named = c.requires.named in
    let level = get_or c.args.levels.now c.args.at.decl 0 in
    let some : 0 < level = omega arith in
    let here = c.requires.levels.found c.args.at.decl some in
    let one = method_read h.decls.now c.args.at named.0 c.index-as_slice-at.result c.index-h-at.result c.as_slice.result.now named.1.0 c.as_slice.ensures c.index-as_slice-at.is in
    let fits = signature_fits h.decls.now h.places.now h.depths.now c.args.chain.now c.args.at level named.0 c.requires.settled c.requires.upward named.1.0 here in
    subst (λ (x : Method). IfSome x.signature.result (Fits (envs_of h.decls.now c.args.chain.now) level)) one fits.result

pub same_signature_up-requires-clause-arguments_fit :
    goal.same_signature_up-requires-clause-arguments_fit
same_signature_up-requires-clause-arguments_fit c =
    let h = c.args.h.now in
    let named = c.requires.named in
    let level = get_or c.args.levels.now c.args.at.decl 0 in
    let some : 0 < level = omega arith in
    let here = c.requires.levels.found c.args.at.decl some in
    let one = method_read h.decls.now c.args.at named.0 c.index-as_slice-at.result c.index-h-at.result c.as_slice.result.now named.1.0 c.as_slice.ensures c.index-as_slice-at.is in
    let fits = signature_fits h.decls.now h.places.now h.depths.now c.args.chain.now c.args.at level named.0 c.requires.settled c.requires.upward named.1.0 here in
    subst (λ (x : Method). AllFit (envs_of h.decls.now c.args.chain.now) level x.signature.arguments) one fits.arguments

pub returns : goal.returns
returns c =
    let h = c.args.h.now in
    let named = c.requires.named in
    let m = c.args.method.now in
    let r = c.index-as_slice-at.result in
    let level = get_or c.args.levels.now c.args.at.decl 0 in
    let some : 0 < level = omega arith in
    let here = c.requires.levels.found c.args.at.decl some in
    let one = method_read h.decls.now c.args.at named.0 r c.index-h-at.result c.as_slice.result.now named.1.0 c.as_slice.ensures c.index-as_slice-at.is in
    let visible : named.0.access ≡ Private → ⊥ = subst (λ (x : Method). x.access ≡ Private → ⊥) (sym one) (search rules) in
    let envs = envs_of h.decls.now c.args.chain.now in (
      λ yes_. (
        level,
        record {
          above = some;
          stands = here;
          other = named.0;
          is_other = named.1.0;
          name = named.1.1;
          visible = visible;
          signature = subst (λ (x : Method). m.signature ≡ lift_signature envs level x.signature) (sym one) (c.same_signature_up.ensures.0 yes_);
        },
      ),
      λ w.
          let at = w.0 in
          let matches = w.1 in
          let levels : at ≡ level = sym (c.requires.levels.each at c.args.at.decl matches.stands) in
          let other = same_method h.decls.now c.args.at c.args.at matches.other named.0 refl refl matches.is_other named.1.0 in
          c.same_signature_up.ensures.1 (matches.signature ∙ ap (λ (n : ℕ). lift_signature envs n matches.other.signature) levels ∙ ap (λ (x : Method). lift_signature envs level x.signature) (other ∙ one)),
    )
