-- What tables answer is what declarations say.
use Rattle.std.proofs.Common.{◌≡◌, ◌↔◌, ◌⊎◌, ℕ, zero, suc, ◌<◌, List, ◌++◌, length, get_or, Some, None, codes, inl, inr, refl, sym, ap, subst, ◌∙◌, arith}
use Rattle.std.specs.List.{slice_get}
use Rattle.vsd_terms.specs.declared.term.Term.{Term}
use Rattle.vsd_ast.specs.declared.scripts.Script.{Script}
use Rattle.vsd_ast.specs.declared.scripts.Site.{Site}
use Rattle.vsd_answers.specs.Answers.{world}
use Rattle.vsd_answers.specs.Numbering.{Pair, site_pairs, tokens_of}
use Rattle.vsd_compat.specs.Compatibility.{IsCompatible}
use Rattle.vsd_lines.specs.Lines.{target_text, verdict}
use Rattle.vsd_lines.specs.Said.{Agrees, IsVerdict}
use Rattle.vsd_rule.specs.Lists.{entry}
use Rattle.vsd_slots.specs.Texts.{method_text}
use Rattle.vsd_types.specs.Types.{type_at}
use Rattle.vsd_itable.specs.Tables.{AreTables, IsTarget, cmp_of, interface_of, method_at, numbered_text, sel_of, slot_of, slot_text, tokens_count, types_count}
use Rattle.vsd_itable.specs.Value.{Value}
use Rattle.vsd_stages.specs.Answered.{IsSaid}
use Rattle.vsd_stages.specs.Rooted.{AreTabled}
use Rattle.vsd_stages.proofs.Rooting.{root_type, root_within, site_token, site_within}

module _ (v : Value) (method slot : ℕ → List ℕ) where
  -- what a target says, where its text is right
  abbrev pub SaysTarget : ℕ → Type 0
  SaysTarget zero = Unit {0}
  SaysTarget (suc n) = method n ≡ numbered_text v n

  said_target : (t j : Term) (m : ℕ) (missing : List ℕ) (number : ℕ) → missing ≡ method_text v.closed.decls.names v.closed.decls.list j m
      → IsTarget v.closed v.methods t j m number → SaysTarget number → IsSaid v.closed.decls t j m (target_text method missing number)
  said_target t j m missing zero is target says = record { found = None; selected = target; said_is = ap (λ x. codes "missing " ++ x) is }
  said_target t j m missing (suc n) is target says = record {
    found = Some (method_at v.closed.types v.methods n);
    selected = target.1;
    said_is = says;
  }

-- yes exactly where the bit is set
verdict_of : (F : Type 0) (bit : ℕ) → bit < 2 → (bit ≡ 1) ↔ F → (F × (verdict bit ≡ codes "yes")) ⊎ ((¬ F) × (verdict bit ≡ codes "no"))
verdict_of F zero small is = inr (λ fits. absurd (let one : zero ≡ 1 = is.1 fits in omega (arith, one)), refl)
verdict_of F (suc zero) small is = inl (is.0 refl, refl)
verdict_of F (suc (suc n)) small is = absurd (omega (arith, small))

module _ (v : Value) (tables : AreTables v) (bits : (i : ℕ) → get_or (cmp_of v) i 0 < 2) (s : Script) (types sites : List ℕ) (tabled : AreTabled v s types sites) (method slot : ℕ → List ℕ)
    (told : (t k : ℕ) → t < types_count v → k < tokens_count v → SaysTarget v method slot (entry (sel_of v) (tokens_count v) t k))
    (slots : (k : ℕ) → k < tokens_count v → slot k ≡ slot_text v k) where
  pairs : List Pair
  pairs = site_pairs s.sites types

  -- the token of a site
  token_below : (number : ℕ) (site : Site) → slice_get s.sites number ≡ Some site → get_or sites number 0 < tokens_count v
  token_below number site is =
      subst (λ ks. get_or sites number 0 < length ks) (sym tabled.tokens)
      (subst (λ ns. get_or ns number 0 < length (tokens_of (site_pairs s.sites types))) (sym tabled.site_tokens) (site_within v.closed s types tabled.numbers number site is))

  token_is : (number : ℕ) (site : Site) → slice_get s.sites number ≡ Some site → get_or v.tokens (get_or sites number 0) (0, 0) ≡ (get_or types site.root 0, site.slot)
  token_is number site is =
      subst (λ ks. get_or ks (get_or sites number 0) (0, 0) ≡ (get_or types site.root 0, site.slot)) (sym tabled.tokens)
      (subst (λ ns. get_or (tokens_of (site_pairs s.sites types)) (get_or ns number 0) (0, 0) ≡ (get_or types site.root 0, site.slot)) (sym tabled.site_tokens)
      (site_token v.closed s types tabled.numbers number site is))

  call_says : (root number : ℕ) (t j : Term) (site : Site) → slice_get s.roots root ≡ Some t → slice_get s.sites number ≡ Some site → slice_get s.roots site.root ≡ Some j
      → IsSaid v.closed.decls t j site.slot
      (target_text method (slot (get_or sites number 0)) (entry (sel_of v) (tokens_count v) (get_or types root 0) (get_or sites number 0)))
  call_says root number t j site is there named =
      let k : ℕ = get_or sites number 0 in
      let n : ℕ = get_or types root 0 in
      let below = token_below number site there in
      let within = root_within v.closed s types tabled.numbers root t is in
      let pair = token_is number site there in
      let of_type : type_at v.closed.types n ≡ t = root_type v.closed s types tabled.numbers root t is in
      let of_interface : interface_of v k ≡ j = ap (λ (p : Pair). type_at v.closed.types p.0) pair ∙ root_type v.closed s types tabled.numbers site.root j named in
      let of_slot : slot_of v k ≡ site.slot = ap (λ (p : Pair). p.1) pair in
      let number_is : ℕ = entry (sel_of v) (tokens_count v) n k in
      let target = tables.targets n k within below in
      let first = subst (λ x. IsTarget v.closed v.methods x (interface_of v k) (slot_of v k) number_is) of_type target in
      let second = subst (λ x. IsTarget v.closed v.methods t x (slot_of v k) number_is) of_interface first in
      let third = subst (λ x. IsTarget v.closed v.methods t j x number_is) of_slot second in
      let text : slot k ≡ method_text v.closed.decls.names v.closed.decls.list j site.slot =
      slots k below ∙ ap (λ x. method_text v.closed.decls.names v.closed.decls.list x (slot_of v k)) of_interface
      ∙ ap (method_text v.closed.decls.names v.closed.decls.list j) of_slot in
      said_target v method slot t j site.slot (slot k) number_is text third (told n k within below)

  cast_says : (root other : ℕ) (t u : Term) → slice_get s.roots root ≡ Some t → slice_get s.roots other ≡ Some u
      → IsVerdict (IsSaid v.closed.decls) (IsCompatible v.closed.decls.list) s t u (verdict (entry (cmp_of v) (types_count v) (get_or types root 0) (get_or types other 0)))
  cast_says root other t u is there =
      let n : ℕ = get_or types root 0 in
      let k : ℕ = get_or types other 0 in
      let first = root_within v.closed s types tabled.numbers root t is in
      let second = root_within v.closed s types tabled.numbers other u there in
      let of_source : type_at v.closed.types n ≡ t = root_type v.closed s types tabled.numbers root t is in
      let of_target : type_at v.closed.types k ≡ u = root_type v.closed s types tabled.numbers other u there in
      let fits = tables.compatible n k first second in
      let here = subst (λ x. (entry (cmp_of v) (types_count v) n k ≡ 1) ↔ IsCompatible v.closed.decls.list x (type_at v.closed.types k)) of_source fits in
      let both = subst (λ x. (entry (cmp_of v) (types_count v) n k ≡ 1) ↔ IsCompatible v.closed.decls.list t x) of_target here in
      verdict_of (IsCompatible v.closed.decls.list t u) (entry (cmp_of v) (types_count v) n k) (bits _) both

  pub agrees : Agrees (IsSaid v.closed.decls) (IsCompatible v.closed.decls.list) s (world (types_count v) (tokens_count v) (sel_of v) (cmp_of v)) types sites method slot
  agrees = record { calls = call_says; casts = cast_says }
