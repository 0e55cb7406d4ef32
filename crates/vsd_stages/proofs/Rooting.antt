-- The numbers of the roots' types, and the tokens of the sites.
use Rattle.std.proofs.Common.{◌≡◌, ℕ, ◌<◌, List, All, length, get_or, Some, ⊎_elim, sym, ap, subst, ◌∙◌, arith}
use Rattle.std.specs.List.{slice_get}
use Rattle.std.proofs.lemmas.List.{get_or-map, get_or_default, length-map}
use Rattle.std.proofs.lemmas.Option.{get_or_from_slice_get, slice_get-get_or, slice_get_cases, slice_get_within}
use Rattle.vsd_terms.specs.declared.term.Term.{Term}
use Rattle.vsd_ast.specs.Scripts.{IsSite}
use Rattle.vsd_ast.specs.declared.scripts.Script.{Script}
use Rattle.vsd_ast.specs.declared.scripts.Site.{Site}
use Rattle.vsd_answers.specs.Numbering.{Pair, site_pairs, site_tokens_of, tokens_of}
use Rattle.vsd_answers.proofs.Numbered.{is_numbering}
use Rattle.vsd_slots.specs.Refusals.{method_count}
use Rattle.vsd_types.specs.Numbers.{AreNumbers}
use Rattle.vsd_types.specs.TypeList.{TypeList}
use Rattle.vsd_types.specs.Types.{object, type_at}
use Rattle.vsd_types.proofs.NumberLemmas.{numbers-at, numbers-length, numbers-within}
use Rattle.vsd_itable.specs.Tables.{IsToken}
use Rattle.vsd_stages.specs.Rooted.{NameSlots}

module _ (c : TypeList) (s : Script) (types : List ℕ) (numbers : AreNumbers c.types types s.roots) where
  pub root_within : (root : ℕ) (t : Term) → slice_get s.roots root ≡ Some t → get_or types root 0 < length c.types
  root_within root t is =
      let within = slice_get_within s.roots root t is in
      let long = numbers-length c.types types s.roots numbers in
      numbers-within c.types types s.roots numbers root (omega (arith, within, long))

  pub root_type : (root : ℕ) (t : Term) → slice_get s.roots root ≡ Some t → type_at c.types (get_or types root 0) ≡ t
  root_type root t is =
      let within = slice_get_within s.roots root t is in
      let long = numbers-length c.types types s.roots numbers in
      let there = numbers-at c.types types s.roots numbers root 0 t (omega (arith, within, long)) in
      get_or_from_slice_get c.types (get_or types root 0) (get_or s.roots root t) object there ∙ get_or_from_slice_get s.roots root t t is

  abbrev pairs : List Pair
  pairs = site_pairs s.sites types

  abbrev pair_of : Site → Pair
  pair_of site = (get_or types site.root 0, site.slot)

  pair_at : (number : ℕ) (site : Site) → slice_get s.sites number ≡ Some site → get_or pairs number (0, 0) ≡ pair_of site
  pair_at number site is =
      get_or-map pair_of s.sites number site (0, 0) (slice_get_within s.sites number site is) ∙ ap pair_of (get_or_from_slice_get s.sites number site site is)

  pair_within : (number : ℕ) (site : Site) → slice_get s.sites number ≡ Some site → number < length pairs
  pair_within number site is =
      let within = slice_get_within s.sites number site is in
      let long = length-map s.sites pair_of in
      omega (arith, within, long)

  -- a site's token is its own
  pub site_within : (number : ℕ) (site : Site) → slice_get s.sites number ≡ Some site → get_or (site_tokens_of pairs) number 0 < length (tokens_of pairs)
  site_within number site is = (is_numbering pairs).within number (pair_within number site is)

  pub site_token : (number : ℕ) (site : Site) → slice_get s.sites number ≡ Some site → get_or (tokens_of pairs) (get_or (site_tokens_of pairs) number 0) (0, 0) ≡ pair_of site
  site_token number site is = (is_numbering pairs).own number (pair_within number site is) ∙ pair_at number site is

  module _ (sites : All (IsSite (length s.roots)) s.sites) (slots : NameSlots c.decls.list s) where
    slot_of_site : (number : ℕ) (site : Site) → slice_get s.sites number ≡ Some site → IsToken c (pair_of site)
    slot_of_site number site is =
        let within = slice_get_within s.sites number site is in
        let there : IsSite (length s.roots) site = subst (λ (x : Site). IsSite (length s.roots) x) (get_or_from_slice_get s.sites number site site is) (sites number site within) in
        let root : slice_get s.roots site.root ≡ Some (get_or s.roots site.root object) = slice_get-get_or s.roots site.root object there.root in
        let same = root_type site.root (get_or s.roots site.root object) root in record {
          interface = root_within site.root (get_or s.roots site.root object) root;
          slot = subst (λ t. site.slot < method_count c.decls.list t) (sym same) (slots number site (get_or s.roots site.root object) is root);
        }

    token_by : (k : ℕ) → k < length (tokens_of pairs) → IsToken c (get_or (tokens_of pairs) k (0, 0))
    token_by k below =
        let (number, within, is) = (is_numbering pairs).used k below in
        let long = length-map s.sites pair_of in
        ⊎_elim (λ (site, inside, there, again). subst (IsToken c)
        (sym (site_token number site there) ∙ ap (λ n. get_or (tokens_of pairs) n (0, 0)) is)
        (slot_of_site number site there))
        (λ (past, none). absurd (omega (arith, within, long, past))) (slice_get_cases s.sites number).1

    -- each token is a slot of a listed type
    pub are_tokens : All (IsToken c) (tokens_of pairs)
    are_tokens k d below = subst (IsToken c) (get_or_default (tokens_of pairs) k (0, 0) d below) (token_by k below)
