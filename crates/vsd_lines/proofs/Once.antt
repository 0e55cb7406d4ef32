-- A script has one text by types, where calls say one thing.
use Rattle.std.proofs.Common.{◌≡◌, inl, inr, ℕ, ◌+◌, List, [], ◌∷◌, ◌++◌, decimal, Some, slice_get, sym, ap, subst, ◌∙◌}
use Rattle.vsd_terms.specs.declared.term.Term.{Term}
use Rattle.vsd_ast.specs.declared.scripts.Lane.{Lane}
use Rattle.vsd_ast.specs.declared.scripts.Op.{Op}
use Rattle.vsd_ast.specs.declared.scripts.Op.TheVariants.{Load, Unload, Call, Cast}
use Rattle.vsd_ast.specs.declared.scripts.Script.{Script}
use Rattle.vsd_ast.specs.declared.scripts.Site.{Site}
use Rattle.vsd_ast.specs.declared.scripts.Var.{Var}
use Rattle.vsd_lines.specs.Lines.{call_line, cast_line, host_names, name_of}
use Rattle.vsd_lines.specs.Said.{IsCallLine, IsCastLine, IsLaneText, IsLanesText, IsLine, IsScriptText, IsVerdict, Names}

same_root : (a b : ℕ) → Some a ≡ Some b → a ≡ b
same_root a b e = cc

same_term : (t u : Term) → Some t ≡ Some u → t ≡ u
same_term t u e = cc

same_site : (s t : Site) → Some s ≡ Some t → s ≡ t
same_site s t e = cc

module _ (script : Script) (before : List Op) (v : Var) where
  one_name : (t u : Term) → Names script before v t → Names script before v u → t ≡ u
  one_name t u a b =
      let root : a.root ≡ b.root = same_root a.root b.root (sym a.latest ∙ b.latest) in
      same_term t u (sym a.type ∙ (ap (slice_get script.roots) root ∙ b.type))

module _ (Says : Term → Term → ℕ → List ℕ → Type 0) (Fits : Term → Term → Type 0) (script : Script)
    (once : (t j : Term) (m : ℕ) (a b : List ℕ) → Says t j m a → Says t j m b → a ≡ b) where
  one_verdict : (t u : Term) (a b : List ℕ) → IsVerdict Says Fits script t u a → IsVerdict Says Fits script t u b → a ≡ b
  one_verdict t u a b (inl x) (inl y) = x.1 ∙ sym y.1
  one_verdict t u a b (inl x) (inr y) = absurd (y.0 x.0)
  one_verdict t u a b (inr x) (inl y) = absurd (x.0 y.0)
  one_verdict t u a b (inr x) (inr y) = x.1 ∙ sym y.1

  one_call : (digits : List ℕ) (before : List Op) (number : ℕ) (object : Var) (x y : List ℕ) → IsCallLine Says Fits script digits before number object x
      → IsCallLine Says Fits script digits before number object y → x ≡ y
  one_call digits before number object x y a b =
      let site : a.site ≡ b.site = same_site a.site b.site (sym a.there ∙ b.there) in
      let interface : a.interface ≡ b.interface = same_term a.interface b.interface (sym a.named ∙ (ap (λ (s : Site). slice_get script.roots s.root) site ∙ b.named)) in
      let type : a.type ≡ b.type = one_name script before object a.type b.type a.names b.names in
      let by_type : Says b.type a.interface a.site.slot a.target = subst (λ t. Says t a.interface a.site.slot a.target) type a.says in
      let by_interface : Says b.type b.interface a.site.slot a.target = subst (λ j. Says b.type j a.site.slot a.target) interface by_type in
      let by_site : Says b.type b.interface b.site.slot a.target = subst (λ (s : Site). Says b.type b.interface s.slot a.target) site by_interface in
      let target : a.target ≡ b.target = once b.type b.interface b.site.slot a.target b.target by_site b.says in
      a.line_is ∙ (ap (λ (s : Site). call_line digits s.name a.target) site ∙ (ap (call_line digits b.site.name) target ∙ sym b.line_is))

  one_cast : (digits : List ℕ) (variables : List (List ℕ)) (before : List Op) (source target : Var) (x y : List ℕ)
      → IsCastLine Says Fits script digits variables before source target x → IsCastLine Says Fits script digits variables before source target y → x ≡ y
  one_cast digits variables before source target x y a b =
      let first : a.source_type ≡ b.source_type = one_name script before source a.source_type b.source_type a.source_names b.source_names in
      let second : a.target_type ≡ b.target_type = one_name script before target a.target_type b.target_type a.target_names b.target_names in
      let by_first : IsVerdict Says Fits script b.source_type a.target_type a.answer = subst (λ t. IsVerdict Says Fits script t a.target_type a.answer) first a.is in
      let by_second : IsVerdict Says Fits script b.source_type b.target_type a.answer = subst (λ u. IsVerdict Says Fits script b.source_type u a.answer) second by_first in
      let answer : a.answer ≡ b.answer = one_verdict b.source_type b.target_type a.answer b.answer by_second b.is in
      a.line_is
      ∙ (ap (cast_line digits (name_of (host_names script) variables source) (name_of (host_names script) variables target)) answer ∙ sym b.line_is)

  one_line : (digits : List ℕ) (variables : List (List ℕ)) (before : List Op) (op : Op) (x y : List ℕ) → IsLine Says Fits script digits variables before op x
      → IsLine Says Fits script digits variables before op y → x ≡ y
  one_line digits variables before (Load v root) x y a b = a ∙ sym b
  one_line digits variables before (Unload v) x y a b = a ∙ sym b
  one_line digits variables before (Call number object) x y a b = one_call digits before number object x y a b
  one_line digits variables before (Cast source target) x y a b = one_cast digits variables before source target x y a b

  one_lane : (digits : List ℕ) (variables : List (List ℕ)) (before ops : List Op) (x y : List ℕ) → IsLaneText Says Fits script digits variables before ops x
      → IsLaneText Says Fits script digits variables before ops y → x ≡ y
  one_lane digits variables before [] x y a b = a ∙ sym b
  one_lane digits variables before (op ∷ ops) x y a b =
      a.4 ∙ (ap (λ line. line ++ a.1) (one_line digits variables (before ++ op ∷ []) op a.0 b.0 a.2 b.2)
      ∙ (ap (λ rest. b.0 ++ rest) (one_lane digits variables (before ++ op ∷ []) ops a.1 b.1 a.3 b.3) ∙ sym b.4))

  one_lanes : (number : ℕ) (lanes : List Lane) (x y : List ℕ) → IsLanesText Says Fits script number lanes x → IsLanesText Says Fits script number lanes y → x ≡ y
  one_lanes number [] x y a b = a ∙ sym b
  one_lanes number (lane ∷ lanes) x y a b =
      a.4 ∙ (ap (λ lines. lines ++ a.1) (one_lane (decimal number) lane.names [] lane.ops a.0 b.0 a.2 b.2)
      ∙ (ap (λ rest. b.0 ++ rest) (one_lanes (number + 1) lanes a.1 b.1 a.3 b.3) ∙ sym b.4))

  pub one_text : (x y : List ℕ) → IsScriptText Says Fits script x → IsScriptText Says Fits script y → x ≡ y
  one_text x y a b = one_lanes 0 script.lanes x y a b
