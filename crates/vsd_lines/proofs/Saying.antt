-- The text of the answers that plain lists give is the text by types, where the lists agree with it.
use Rattle.std.proofs.Common.{◌≡◌, ℕ, zero, suc, ◌+◌, ◌<◌, List, [], ◌∷◌, ◌++◌, All, Contains, decimal, map, length, get_or, replicate, None, Some, slice_get, slice_index, refl, sym, ap, subst, ◌∙◌, arith}
use Rattle.std.proofs.lemmas.List.{length-replicate}
use Rattle.std.proofs.lemmas.List.Elements.{All-head, All-tail}
use Rattle.vsd_terms.specs.declared.term.Term.{Term}
use Rattle.vsd_ast.specs.Scripts.{IsHost, IsLane, IsSite, IsThere, MayFollow}
use Rattle.vsd_ast.specs.declared.scripts.Host.{Host}
use Rattle.vsd_ast.specs.declared.scripts.Lane.{Lane}
use Rattle.vsd_ast.specs.declared.scripts.Op.{Op}
use Rattle.vsd_ast.specs.declared.scripts.Op.TheVariants.{Load, Unload, Call, Cast}
use Rattle.vsd_ast.specs.declared.scripts.Script.{Script}
use Rattle.vsd_ast.specs.declared.scripts.Site.{Site}
use Rattle.vsd_ast.specs.declared.scripts.Var.{Var}
use Rattle.vsd_ast.specs.declared.scripts.Var.TheVariants as var
use Rattle.vsd_rule.specs.Lists.{entry}
use Rattle.vsd_answers.specs.Answers.{CanAnswer, World, answers_after, answers_of, named_type, type_of_root}
use Rattle.vsd_answers.specs.Held.{held_after}
use Rattle.vsd_answers.proofs.Lanes.{AreKept, IsKept, kept_plain, keeps}
use Rattle.vsd_lines.specs.Lines.{call_line, cast_line, host_names, lane_text, lanes_text, name_of, op_text, site_names, target_text, text_of, verdict}
use Rattle.vsd_lines.specs.Said.{Agrees, IsCallLine, IsCastLine, IsLaneText, IsLanesText, IsScriptText, Names}

-- what stands at a place
at_place : {A : Type 0} (xs : List A) (i : ℕ) → i < length xs → (x : A) × (slice_get xs i ≡ Some x)
at_place [] i below = absurd (omega arith)
at_place (x ∷ xs) zero below = (x, refl)
at_place (x ∷ xs) (suc i) below = at_place xs i (omega arith)

all_at : {A : Type 0} (P : A → Type 0) (xs : List A) (i : ℕ) (x : A) → All P xs → slice_get xs i ≡ Some x → P x
all_at P [] i x all is = absurd (let no : None ≡ Some x = is in cc)
all_at P (y ∷ ys) zero x all is = (let e : Some y ≡ Some x = is in let same : y ≡ x = cc in subst P same (All-head P y ys all))
all_at P (y ∷ ys) (suc i) x all is = all_at P ys i x (All-tail P y ys all) is

mapped_at : {A : Type 0} (f : A → List ℕ) (xs : List A) (i : ℕ) (x : A) → slice_get xs i ≡ Some x → get_or (map f xs) i [] ≡ f x
mapped_at f [] i x is = absurd (let no : None ≡ Some x = is in cc)
mapped_at f (y ∷ ys) zero x is = (let e : Some y ≡ Some x = is in let same : y ≡ x = cc in ap f same)
mapped_at f (y ∷ ys) (suc i) x is = mapped_at f ys i x is

root_at : (hosts : List Host) (i : ℕ) (h : Host) → slice_get hosts i ≡ Some h → slice_get (map (λ (x : Host). x.root) hosts) i ≡ Some h.root
root_at [] i h is = absurd (let no : None ≡ Some h = is in cc)
root_at (x ∷ xs) zero h is = (let e : Some x ≡ Some h = is in let same : x ≡ h = cc in ap (λ (y : Host). Some y.root) same)
root_at (x ∷ xs) (suc i) h is = root_at xs i h is

module _ (script : Script) where
  -- a variable that is there names a type, whose number is that of its root
  record Named (types : List ℕ) (before : List Op) (v : Var) : Type 0 where
    type : Term
    names : Names script before v type
    number : named_type script.hosts types before v ≡ slice_index types names.root

  module _ (types tokens : List ℕ) (lawful_hosts : All (IsHost (length script.roots)) script.hosts) (types_count : length types ≡ length script.roots) where
    named : (sites names : ℕ) (before : List Op) (held live : List ℕ) → ((v : ℕ) → Contains live v → IsKept types before held v) → (v : Var)
        → IsThere (length types) sites (length script.hosts) names live v → Named types before v
    named sites names before held live kept (var.Host h) there =
        let host = at_place script.hosts h there in
        let root : slice_get (map (λ (x : Host). x.root) script.hosts) h ≡ Some host.0.root = root_at script.hosts h host.0 host.1 in
        let t = at_place script.roots host.0.root (all_at (IsHost (length script.roots)) script.hosts h host.0 lawful_hosts host.1).root in
        record {
          type = t.0;
          names = record { root = host.0.root; latest = root; type = t.1 };
          number = ap (type_of_root script.hosts types) root;
        }
    named sites names before held live kept (var.Own v) there =
        let k = kept v there.1 in
        let t = at_place script.roots k.root (subst (λ n. k.root < n) types_count k.there) in
        record {
          type = t.0;
          names = record { root = k.root; latest = k.latest; type = t.1 };
          number = ap (type_of_root script.hosts types) k.latest;
        }

module _ (Says : Term → Term → ℕ → List ℕ → Type 0) (Fits : Term → Term → Type 0) (w : World) (script : Script) (types tokens : List ℕ) (method slot : ℕ → List ℕ)
    (agrees : Agrees Says Fits script w types tokens method slot) (can : CanAnswer w script types tokens) where
  call_is : (names : ℕ) (digits : List ℕ) (variables : List (List ℕ)) (before : List Op) (held live : List ℕ) → ((v : ℕ) → Contains live v → IsKept types before held v)
      → (number : ℕ) (object : Var) → number < length tokens → IsThere (length types) (length tokens) (length script.hosts) names live object
      → IsCallLine Says Fits script digits before number object
      (op_text (site_names script) (host_names script) tokens method slot digits variables (Call number object) (entry w.sel w.tokens (named_type script.hosts types before object) (slice_index tokens number)))
  call_is names digits variables before held live kept number object below there =
      let site = at_place script.sites number (subst (λ n. number < n) can.tokens_count below) in
      let interface = at_place script.roots site.0.root (all_at (IsSite (length script.roots)) script.sites number site.0 can.well_formed.sites site.1).root in
      let n = named script types tokens can.well_formed.hosts can.types_count (length tokens) names before held live kept object there in
      let token = slice_index tokens number in
      record {
        site = site.0;
        there = site.1;
        interface = interface.0;
        named = interface.1;
        type = n.type;
        names = n.names;
        target = target_text method (slot token) (entry w.sel w.tokens (slice_index types n.names.root) token);
        says = agrees.calls n.names.root number n.type interface.0 site.0 n.names.type site.1 interface.1;
        line_is =
            ap (λ name. call_line digits name (target_text method (slot token) (entry w.sel w.tokens (named_type script.hosts types before object) token)))
            (mapped_at (λ (s : Site). s.name) script.sites number site.0 site.1)
            ∙ ap (λ t. call_line digits site.0.name (target_text method (slot token) (entry w.sel w.tokens t token))) n.number;
      }

  cast_is : (names : ℕ) (digits : List ℕ) (variables : List (List ℕ)) (before : List Op) (held live : List ℕ) → ((v : ℕ) → Contains live v → IsKept types before held v)
      → (source target : Var) → IsThere (length types) (length tokens) (length script.hosts) names live source
      → IsThere (length types) (length tokens) (length script.hosts) names live target
      → IsCastLine Says Fits script digits variables before source target
      (op_text (site_names script) (host_names script) tokens method slot digits variables (Cast source target)
      (entry w.cmp w.types (named_type script.hosts types before source) (named_type script.hosts types before target)))
  cast_is names digits variables before held live kept source target source_there target_there =
      let s = named script types tokens can.well_formed.hosts can.types_count (length tokens) names before held live kept source source_there in
      let t = named script types tokens can.well_formed.hosts can.types_count (length tokens) names before held live kept target target_there in
      let line = λ (x y : ℕ). cast_line digits (name_of (host_names script) variables source) (name_of (host_names script) variables target) (verdict (entry w.cmp w.types x y)) in
      record {
        source_type = s.type;
        source_names = s.names;
        target_type = t.type;
        target_names = t.names;
        answer = verdict (entry w.cmp w.types (slice_index types s.names.root) (slice_index types t.names.root));
        is = agrees.casts s.names.root t.names.root s.type t.type s.names.type t.names.type;
        line_is = ap (λ x. line x (named_type script.hosts types before target)) s.number ∙ ap (line (slice_index types s.names.root)) t.number;
      }

  lane_is : (digits : List ℕ) (variables : List (List ℕ)) (before ops : List Op) (held : List ℕ) → AreKept (length tokens) (length script.hosts) types before ops held (length variables)
      → IsLaneText Says Fits script digits variables before ops
      (lane_text (site_names script) (host_names script) tokens method slot digits variables ops (answers_after script.hosts types w tokens before ops))
  lane_is digits variables before [] held a = refl
  lane_is digits variables before (Load v root ∷ ops) held a = (
    [],
    lane_text (site_names script) (host_names script) tokens method slot digits variables ops (answers_after script.hosts types w tokens (before ++ Load v root ∷ []) ops),
    refl,
    lane_is digits variables (before ++ Load v root ∷ []) ops (held_after types held (Load v root)) (keeps script.hosts types tokens (length variables) before (Load v root) ops held a),
    refl,
  )
  lane_is digits variables before (Unload v ∷ ops) held a = (
    [],
    lane_text (site_names script) (host_names script) tokens method slot digits variables ops (answers_after script.hosts types w tokens (before ++ Unload v ∷ []) ops),
    refl,
    lane_is digits variables (before ++ Unload v ∷ []) ops held (keeps script.hosts types tokens (length variables) before (Unload v) ops held a),
    refl,
  )
  lane_is digits variables before (Call number object ∷ ops) held a = (
    op_text (site_names script) (host_names script) tokens method slot digits variables (Call number object) (entry w.sel w.tokens (named_type script.hosts types (before ++ Call number object ∷ []) object) (slice_index tokens number)),
    lane_text (site_names script) (host_names script) tokens method slot digits variables ops (answers_after script.hosts types w tokens (before ++ Call number object ∷ []) ops),
    call_is (length variables) digits variables (before ++ Call number object ∷ []) held a.live
        (λ v lives. kept_plain types before (Call number object) held v (λ u. refl) (a.kept v lives)) number object a.lawful.0.0 a.lawful.0.1,
    lane_is digits variables (before ++ Call number object ∷ []) ops held (keeps script.hosts types tokens (length variables) before (Call number object) ops held a),
    refl,
  )
  lane_is digits variables before (Cast source target ∷ ops) held a = (
    op_text (site_names script) (host_names script) tokens method slot digits variables (Cast source target)
        (entry w.cmp w.types (named_type script.hosts types (before ++ Cast source target ∷ []) source) (named_type script.hosts types (before ++ Cast source target ∷ []) target)),
    lane_text (site_names script) (host_names script) tokens method slot digits variables ops (answers_after script.hosts types w tokens (before ++ Cast source target ∷ []) ops),
    cast_is (length variables) digits variables (before ++ Cast source target ∷ []) held a.live
        (λ v lives. kept_plain types before (Cast source target) held v (λ u. refl) (a.kept v lives)) source target a.lawful.0.0 a.lawful.0.1,
    lane_is digits variables (before ++ Cast source target ∷ []) ops held (keeps script.hosts types tokens (length variables) before (Cast source target) ops held a),
    refl,
  )

  none_in_empty : (v : ℕ) → Contains [] v → ⊥
  none_in_empty v none = let no = none.1 in omega (arith, no)

  -- before its first operation nothing of a lane lives
  at_start : (lane : Lane) → IsLane (length script.roots) (length script.sites) (length script.hosts) lane
      → AreKept (length tokens) (length script.hosts) types [] lane.ops (replicate (length lane.names) 0) (length lane.names)
  at_start lane is =
      let over_roots : MayFollow (length types) (length script.sites) (length script.hosts) (length lane.names) [] lane.ops =
      subst (λ n. MayFollow n (length script.sites) (length script.hosts) (length lane.names) [] lane.ops) (sym can.types_count) is.ops in
      let over_sites : MayFollow (length types) (length tokens) (length script.hosts) (length lane.names) [] lane.ops =
      subst (λ n. MayFollow (length types) n (length script.hosts) (length lane.names) [] lane.ops) (sym can.tokens_count) over_roots in
      record { live = []; lawful = over_sites; size = length-replicate (length lane.names) 0; kept = λ v none. elim (none_in_empty v none) [ ] }

  lanes_are : (number : ℕ) (lanes : List Lane) → All (IsLane (length script.roots) (length script.sites) (length script.hosts)) lanes
      → IsLanesText Says Fits script number lanes
      (lanes_text (site_names script) (host_names script) tokens method slot number lanes (map (λ (lane : Lane). answers_after script.hosts types w tokens [] lane.ops) lanes))
  lanes_are number [] are = refl
  lanes_are number (lane ∷ lanes) are =
      let P = IsLane (length script.roots) (length script.sites) (length script.hosts) in (
        lane_text (site_names script) (host_names script) tokens method slot (decimal number) lane.names lane.ops (answers_after script.hosts types w tokens [] lane.ops),
        lanes_text (site_names script) (host_names script) tokens method slot (number + 1) lanes (map (λ (l : Lane). answers_after script.hosts types w tokens [] l.ops) lanes),
        lane_is (decimal number) lane.names [] lane.ops (replicate (length lane.names) 0) (at_start lane (All-head P lane lanes are)),
        lanes_are (number + 1) lanes (All-tail P lane lanes are),
        refl,
      )

  -- the text that is written is the one by types
  pub text_is : IsScriptText Says Fits script (text_of script tokens method slot (answers_of w script types tokens))
  text_is = lanes_are 0 script.lanes can.well_formed.lanes
