-- What the code keeps of a lane is what its variables name.
use Rattle.std.proofs.Common.{◌≡◌, ◌≢◌, ℕ, zero, suc, ◌+◌, ◌<◌, inl, inr, cond, eqb, true, false, List, [], ◌∷◌, ◌++◌, map, length, get_or, set, slice_get, slice_index, take, drop, EachIndex, All, Contains, Option, None, Some, refl, sym, ap, subst, ◌∙◌, get_or-set_same, get_or-set_other, length-set, append_assoc, arith}
use Rattle.std.proofs.lemmas.List.{drop_more, get_or-map, length-map, take_more}
use Rattle.std.proofs.lemmas.List.Elements.{All-cons, All-contains, All-contains_itself, All-head, All-tail, Contains-push_cases}
use Rattle.std.proofs.lemmas.Bool.{eq-eqb, ne_eqb}
use Rattle.vsd_ast.specs.Scripts.{IsHost, IsThere, MayFollow, without}
use Rattle.vsd_ast.specs.declared.scripts.Host.{Host}
use Rattle.vsd_ast.specs.declared.scripts.Op.{Op}
use Rattle.vsd_ast.specs.declared.scripts.Op.TheVariants.{Load, Unload, Call, Cast}
use Rattle.vsd_ast.specs.declared.scripts.Var.{Var}
use Rattle.vsd_ast.specs.declared.scripts.Var.TheVariants as var
use Rattle.vsd_rule.specs.Lists.{entry}
use Rattle.vsd_answers.specs.Answers.{World, answer_by, answers_after, first_of_both, latest_load, loaded, named_type, type_of_root}
use Rattle.vsd_answers.specs.Held.{CanAnswerOne, IsInReach, held_after, held_type}
use Rattle.vsd_answers.proofs.Loads.{latest_load-push}

-- a variable's latest load before, and that its type is kept
pub record IsKept (types : List ℕ) (before : List Op) (held : List ℕ) (v : ℕ) : Type 0 where
  pub root : ℕ
  pub there : root < length types
  pub latest : latest_load v before ≡ Some root
  pub kept : get_or held v 0 ≡ get_or types root 0

module _ (sites hosts : ℕ) (types : List ℕ) where
  -- operations that may follow, where the types of all variables that live are kept
  pub record AreKept (before after : List Op) (held : List ℕ) (names : ℕ) : Type 0 where
    pub live : List ℕ
    pub lawful : MayFollow (length types) sites hosts names live after
    pub size : length held ≡ names
    pub kept : (v : ℕ) → Contains live v → IsKept types before held v

-- an operation that loads nothing changes nothing
pub kept_plain : (types : List ℕ) (before : List Op) (op : Op) (held : List ℕ) (v : ℕ) → ((u : ℕ) → loaded u op ≡ None)
    → IsKept types before held v → IsKept types (before ++ op ∷ []) held v
kept_plain types before op held v plain k = record {
  root = k.root;
  there = k.there;
  latest = latest_load-push v before op ∙ ap (λ load. first_of_both load (latest_load v before)) (plain v) ∙ k.latest;
  kept = k.kept;
}

-- the variable itself has the type of the root that is loaded
kept_loaded : (types : List ℕ) (before : List Op) (held : List ℕ) (v root : ℕ) → v < length held → root < length types
    → IsKept types (before ++ Load v root ∷ []) (set held v (get_or types root 0)) v
kept_loaded types before held v root within there = record {
  root = root;
  there = there;
  latest =
      latest_load-push v before (Load v root)
      ∙ ap (λ b. first_of_both (cond {A = Option ℕ} b (Some root) None) (latest_load v before)) (eq-eqb v v refl);
  kept = get_or-set_same held v (get_or types root 0) 0 within;
}

kept_other : (types : List ℕ) (before : List Op) (held : List ℕ) (v other root : ℕ) → v ≢ other
    → IsKept types before held v → IsKept types (before ++ Load other root ∷ []) (set held other (get_or types root 0)) v
kept_other types before held v other root differs k = record {
  root = k.root;
  there = k.there;
  latest =
      latest_load-push v before (Load other root)
      ∙ (ap (λ b. first_of_both (cond {A = Option ℕ} b (Some root) None) (latest_load v before)) (ne_eqb other v (λ e. differs (sym e))) ∙ k.latest);
  kept = get_or-set_other held other v (get_or types root 0) 0 differs ∙ k.kept;
}

-- what holds of all variables holds of those that are left
All-without : (P : ℕ → Type 0) (live : List ℕ) (v : ℕ) → All P live → All P (without live v)
All-without P [] v all = all
All-without P (u ∷ live) v all =
    elim (eqb u v) as (λ b. All P (cond b live (u ∷ without live v))) [
      | true ↦ All-tail P u live all
      | false ↦ All-cons P u (without live v) (All-head P u live all) (All-without P live v (All-tail P u live all))
    ]

-- a number that is there is got
got : (xs : List ℕ) (i : ℕ) → i < length xs → slice_get xs i ≡ Some (get_or xs i 0)
got [] i below = absurd (omega arith)
got (x ∷ xs) zero below = refl
got (x ∷ xs) (suc i) below = got xs i (omega arith)

no_host : Host
no_host = record { name = []; root = 0 }

module _ (hs : List Host) (types : List ℕ) (sites names : ℕ) (before : List Op) (held live : List ℕ) where
  -- the type of a variable that is there is kept, and is one of those that there are
  in_reach : (all : ℕ) → All (IsHost (length types)) hs → EachIndex types (λ root. slice_index types root < all) → length held ≡ names
      → ((v : ℕ) → Contains live v → IsKept types before held v) → (o : Var) → IsThere (length types) sites (length hs) names live o
      → IsInReach hs types held o × (held_type hs types held o < all)
  in_reach all are within size kept (var.Host h) there =
      let root = get_or (map (λ (x : Host). x.root) hs) h 0 in
      let e : root ≡ (get_or hs h no_host).root = get_or-map (λ (x : Host). x.root) hs h no_host 0 there in
      let low : root < length types = subst (λ n. n < length types) (sym e) (are h no_host there).root in
      ((there, low), within root low)
  in_reach all are within size kept (var.Own v) there =
      let k = kept v there.1 in
      (subst (λ n. v < n) (sym size) there.0, subst (λ n. n < all) (sym k.kept) (within k.root k.there))

  same_type : ((v : ℕ) → Contains live v → IsKept types before held v) → (o : Var) → IsThere (length types) sites (length hs) names live o
      → held_type hs types held o ≡ named_type hs types before o
  same_type kept (var.Host h) there = sym (ap (type_of_root hs types) (got (map (λ (x : Host). x.root) hs) h (subst (λ n. h < n) (sym (length-map hs (λ (x : Host). x.root))) there)))
  same_type kept (var.Own v) there =
      let k = kept v there.1 in
      k.kept ∙ ap (type_of_root hs types) (sym k.latest)

module _ (hs : List Host) (types tokens : List ℕ) (names : ℕ) where
  -- the operation at hand can be answered
  can_answer : (all_types all_tokens : ℕ) → All (IsHost (length types)) hs → EachIndex types (λ root. slice_index types root < all_types)
      → EachIndex tokens (λ site. slice_index tokens site < all_tokens) → (before : List Op) (op : Op) (after : List Op) (held : List ℕ)
      → AreKept (length tokens) (length hs) types before (op ∷ after) held names → CanAnswerOne all_types all_tokens hs types tokens held op
  can_answer all_types all_tokens are within tokens_in before (Load v root) after held a =
      (subst (λ n. v < n) (sym a.size) a.lawful.0.0, a.lawful.0.1)
  can_answer all_types all_tokens are within tokens_in before (Unload v) after held a = tt
  can_answer all_types all_tokens are within tokens_in before (Call site o) after held a =
      let r = in_reach hs types (length tokens) names before held a.live all_types are within a.size a.kept o a.lawful.0.1 in
      (a.lawful.0.0, tokens_in site a.lawful.0.0, r.0, r.1)
  can_answer all_types all_tokens are within tokens_in before (Cast source target) after held a =
      let r = in_reach hs types (length tokens) names before held a.live all_types are within a.size a.kept source a.lawful.0.0 in
      let q = in_reach hs types (length tokens) names before held a.live all_types are within a.size a.kept target a.lawful.0.1 in
      (r.0, r.1, q.0, q.1)

  -- the answer by what is kept is the answer by what the variables name
  same_answer : (w : World) (before : List Op) (op : Op) (after : List Op) (held : List ℕ) → AreKept (length tokens) (length hs) types before (op ∷ after) held names
      → answer_by w tokens (held_type hs types held) op ≡ answer_by w tokens (named_type hs types (before ++ op ∷ [])) op
  same_answer w before (Load v root) after held a = refl
  same_answer w before (Unload v) after held a = refl
  same_answer w before (Call site o) after held a =
      ap (λ t. entry w.sel w.tokens t (slice_index tokens site) ∷ [])
      (same_type hs types (length tokens) names (before ++ Call site o ∷ []) held a.live
      (λ v lives. kept_plain types before (Call site o) held v (λ u. refl) (a.kept v lives)) o a.lawful.0.1)
  same_answer w before (Cast source target) after held a =
      let kept = λ (v : ℕ) (lives : Contains a.live v). kept_plain types before (Cast source target) held v (λ u. refl) (a.kept v lives) in
      let first = same_type hs types (length tokens) names (before ++ Cast source target ∷ []) held a.live kept source a.lawful.0.0 in
      let second = same_type hs types (length tokens) names (before ++ Cast source target ∷ []) held a.live kept target a.lawful.0.1 in
      ap (λ t. entry w.cmp w.types t (held_type hs types held target) ∷ []) first
      ∙ ap (λ u. entry w.cmp w.types (named_type hs types (before ++ Cast source target ∷ []) source) u ∷ []) second

  pub keeps : (before : List Op) (op : Op) (after : List Op) (held : List ℕ) → AreKept (length tokens) (length hs) types before (op ∷ after) held names
      → AreKept (length tokens) (length hs) types (before ++ op ∷ []) after (held_after types held op) names
  keeps before (Load v root) after held a = record {
    live = a.live ++ v ∷ [];
    lawful = a.lawful.1;
    size = length-set held v (get_or types root 0) ∙ a.size;
    kept = λ u lives.
        elim (Contains-push_cases a.live v u lives) [
          | inl old ↦ kept_other types before held u v root (λ e. a.lawful.0.2 (subst (λ x. Contains a.live x) e old)) (a.kept u old)
          | inr e ↦ subst (λ x. IsKept types (before ++ Load v root ∷ []) (set held v (get_or types root 0)) x) e (kept_loaded types before held v root (subst (λ n. v < n) (sym a.size) a.lawful.0.0) a.lawful.0.1)
        ];
  }
  keeps before (Unload v) after held a = record {
    live = without a.live v;
    lawful = a.lawful.1;
    size = a.size;
    kept = λ u lives.
        let old : Contains a.live u = All-contains (Contains a.live) (without a.live v) u (All-without (Contains a.live) a.live v (All-contains_itself a.live)) lives in
        kept_plain types before (Unload v) held u (λ x. refl) (a.kept u old);
  }
  keeps before (Call site o) after held a = record {
    live = a.live;
    lawful = a.lawful.1;
    size = a.size;
    kept = λ u lives. kept_plain types before (Call site o) held u (λ x. refl) (a.kept u lives);
  }
  keeps before (Cast source target) after held a = record {
    live = a.live;
    lawful = a.lawful.1;
    size = a.size;
    kept = λ u lives. kept_plain types before (Cast source target) held u (λ x. refl) (a.kept u lives);
  }

  module _ (ops : List Op) (i : ℕ) (d : Op) (held : List ℕ) (at : i < length ops) (a : AreKept (length tokens) (length hs) types (take i ops) (drop i ops) held names) where
    at_hand : AreKept (length tokens) (length hs) types (take i ops) (get_or ops i d ∷ drop (i + 1) ops) held names
    at_hand = subst (λ left. AreKept (length tokens) (length hs) types (take i ops) left held names) (drop_more ops i d at) a

    pub can_answer_at : (all_types all_tokens : ℕ) → All (IsHost (length types)) hs → EachIndex types (λ root. slice_index types root < all_types)
        → EachIndex tokens (λ site. slice_index tokens site < all_tokens) → CanAnswerOne all_types all_tokens hs types tokens held (get_or ops i d)
    can_answer_at all_types all_tokens are within tokens_in = can_answer all_types all_tokens are within tokens_in (take i ops) (get_or ops i d) (drop (i + 1) ops) held at_hand

    pub keeps_at : AreKept (length tokens) (length hs) types (take (i + 1) ops) (drop (i + 1) ops) (held_after types held (get_or ops i d)) names
    keeps_at =
        subst (λ done. AreKept (length tokens) (length hs) types done (drop (i + 1) ops) (held_after types held (get_or ops i d)) names) (sym (take_more ops i d at))
        (keeps (take i ops) (get_or ops i d) (drop (i + 1) ops) held at_hand)

    -- the answers so far before those of what is left are the answers of all
    pub answers_at : (w : World) (answers more whole : List ℕ) → answers ++ answers_after hs types w tokens (take i ops) (drop i ops) ≡ whole
        → more ≡ answers ++ answer_by w tokens (held_type hs types held) (get_or ops i d)
        → more ++ answers_after hs types w tokens (take (i + 1) ops) (drop (i + 1) ops) ≡ whole
    answers_at w answers more whole are is =
        let op = get_or ops i d in
        let rest = answers_after hs types w tokens (take i ops ++ op ∷ []) (drop (i + 1) ops) in
        ap (λ done. more ++ answers_after hs types w tokens done (drop (i + 1) ops)) (take_more ops i d at)
        ∙ (ap (λ l. l ++ rest) is
        ∙ (append_assoc answers (answer_by w tokens (held_type hs types held) op) rest
        ∙ (ap (λ l. answers ++ (l ++ rest)) (same_answer w (take i ops) op (drop (i + 1) ops) held at_hand)
        ∙ (ap (λ left. answers ++ answers_after hs types w tokens (take i ops) left) (sym (drop_more ops i d at)) ∙ are))))
