-- What the rule says, without its ghost functions: of the words, and of any two seats.
use Rattle.std.proofs.Common.{◌≡◌, ◌≢◌, ℕ, zero, suc, ◌+◌, ◌*◌, ◌%◌, ◌<◌, ◌≤◌, Option, Some, None, List, [], ◌∷◌, get_or, ap, sym, refl, ◌∙◌, subst, arith}
use mathlib.Core.Option.{some, some-injective, some-ne-none}
use lib.ListN.{get_elem?}
use Rattle.atomic_table.proofs.Lists.{at_map}
use Rattle.std.specs.Int.{from_bool}
use Rattle.vsd_words.specs.declared.handle.Handle.{Handle}
use Rattle.vsd_words.specs.declared.cast_word.CastWord.{CastWord}
use Rattle.vsd_words.specs.declared.cell_word.CellWord.TheVariants.{Dispatch}
use Rattle.vsd_words.specs.declared.handle_word.HandleWord.{HandleWord}
use Rattle.vsd_words.specs.Handle.{IsHandlePacking}
use Rattle.vsd_words.specs.CastWord.{IsCastPacking}
use Rattle.vsd_words.specs.HandleWord.{IsHandleWordPacking}
use Rattle.vsd_words.proofs.Packings.{handle_packing-one_to_one, packed_cell-one_to_one, cast_packing-one_to_one, handle_word_packing-one_to_one}
use Rattle.vsd_rule.specs.declared.key.Key.{Key}
use Rattle.vsd_rule.specs.declared.row_view.Evidence.{Evidence}
use Rattle.vsd_rule.specs.declared.row_view.ProtectedRow.{ProtectedRow}
use Rattle.vsd_rule.specs.declared.row_view.Keeping.{Keeping}
use Rattle.vsd_rule.specs.declared.row_view.Keeping.TheVariants.{Elsewhere, Private, Unlinked, Retired}
use Rattle.vsd_rule.specs.declared.cast_view.CastEvidence.{CastEvidence}
use Rattle.vsd_rule.specs.declared.view.View.{View}
use Rattle.vsd_rule.specs.Zones.{Zones}
use Rattle.vsd_rule.specs.Layout.{cast_rows}
use Rattle.vsd_rule.specs.Lists.{target_of, compatible, site_token}
use Rattle.vsd_rule.specs.Handles.{IsBinding, binding_for}
use Rattle.vsd_rule.specs.Rows.{RowState, free, kept, Agrees, AreEvidences, WasPublished, KeepsAsTold, keeping_of}
use Rattle.vsd_rule.specs.Casts.{CastAgrees, AreCastEvidences, version_of}
use Rattle.vsd_rule.specs.Rule.{Whole, handle_seat, row_seat, cast_view}
use Rattle.vsd_rule.specs.Facts.{Knows}
use Rattle.vsd_rule.proofs.Steps.{binding_of_known}
use Rattle.vsd_rule.proofs.RowFrames.{protects_at}

-- an evidence that a list has is one of the rule's
pub evidence_there : (k : Key) (gen : ℕ → ℕ) (name : ℕ → ℕ → ℕ) (xs : List Evidence) → AreEvidences k gen name xs → (i : ℕ) (x : Evidence) → get_elem? xs i ≡ some x → Agrees k gen name x.handle x.token x.target
evidence_there k gen name [] all i x is = absurd (some-ne-none x (sym is))
evidence_there k gen name (y ∷ ys) all zero x is = subst (λ (e : Evidence). Agrees k gen name e.handle e.token e.target) (some-injective y x is) all.0
evidence_there k gen name (y ∷ ys) all (suc i) x is = evidence_there k gen name ys all.1 i x is

pub cast_evidence_there : (k : Key) (gen : ℕ → ℕ) (name : ℕ → ℕ → ℕ) (xs : List CastEvidence) → AreCastEvidences k gen name xs → (i : ℕ) (x : CastEvidence) → get_elem? xs i ≡ some x → CastAgrees k gen name x.source x.target x.yes
cast_evidence_there k gen name [] all i x is = absurd (some-ne-none x (sym is))
cast_evidence_there k gen name (y ∷ ys) all zero x is = subst (λ (e : CastEvidence). CastAgrees k gen name e.source e.target e.yes) (some-injective y x is) all.0
cast_evidence_there k gen name (y ∷ ys) all (suc i) x is = cast_evidence_there k gen name ys all.1 i x is

-- the seat keeps the row
abbrev pub IsKept : Keeping → Type 0
IsKept Elsewhere = ⊥
IsKept (Private words) = Unit {0}
IsKept Unlinked = Unit {0}
IsKept (Retired epoch) = Unit {0}

kept_there : (seat : ℕ) (state : RowState) (keeping : Keeping) → IsKept keeping → KeepsAsTold seat state keeping → state ≡ kept seat keeping
kept_there seat state Elsewhere is has = absurd is
kept_there seat state (Private words) is has = has
kept_there seat state Unlinked is has = has
kept_there seat state (Retired epoch) is has = has

published_not_free : (state : RowState) → WasPublished state → state ≢ free
published_not_free state published is = subst WasPublished is published

module _ (k : Key) (z : Zones) (views : List View) (w : Whole k z views) where
  module _ (seat : ℕ) (v : View) (at : get_elem? views seat ≡ some v) where
    knows_binding : (h : Handle) (number : ℕ) → Knows v.handles h number → IsBinding k w.gen w.name (binding_for h number)
    knows_binding h number knows = binding_of_known k w.gen w.name v.handles.bindings (w.handles.each seat (handle_seat v) (at_map handle_seat views seat v at)).bindings knows.0 (binding_for h number) knows.1

    -- a known binding is of a generation from 1 to the present one, and the present one's is in the handle word
    pub known_is_old : (h : Handle) (number : ℕ) (word : HandleWord) → Knows v.handles h number → IsHandleWordPacking word (get_or z.handles h.row 0)
        → (0 < h.generation) × (h.generation ≤ word.generation) × (h.generation ≡ word.generation → number ≡ word.number)
    known_is_old h number word knows packs =
        let x = knows_binding h number knows in
        let same = handle_word_packing-one_to_one (get_or z.handles h.row 0) (w.handles.handle_word_of h.row) word (w.handles.word h.row x.bound.row) packs in
        let r = w.handles.row h.row x.bound.row in
        let present : w.gen h.row ≡ word.generation = sym r.generation ∙ ap (λ (q : HandleWord). q.generation) same in
        let old = x.bound.old in
        let some_generation = x.bound.some in (
          some_generation,
          omega arith,
          λ is. x.number ∙ (ap (w.name h.row) (is ∙ sym present) ∙ (sym (r.number (omega arith)) ∙ ap (λ (q : HandleWord). q.number) same)),
        )

    -- a protected row is claimed
    pub protected_claimed : (i : ℕ) (x : ProtectedRow) → 0 < v.rows.pinned → get_elem? v.rows.protected i ≡ some x → get_or z.rows (4 * x.row) 0 ≡ 1
    protected_claimed i x pinned sees =
        let p = protects_at k w.rows.state w.rows.content v.rows.pinned v.rows.protected ((w.rows.each seat (row_seat v) (at_map row_seat views seat v at)).protects pinned) i x sees in
        (w.rows.row x.row p.row).claimed (published_not_free (w.rows.state x.row) p.published)

    -- two seats never keep one row
    pub one_keeper : (other row : ℕ) (u : View) → get_elem? views other ≡ some u → row < k.sizes.rows → IsKept (keeping_of row v.rows.kept) → IsKept (keeping_of row u.rows.kept) → seat ≡ other
    one_keeper other row u there small mine theirs =
        let a = kept_there seat (w.rows.state row) (keeping_of row v.rows.kept) mine ((w.rows.each seat (row_seat v) (at_map row_seat views seat v at)).keepings row small) in
        let b = kept_there other (w.rows.state row) (keeping_of row u.rows.kept) theirs ((w.rows.each other (row_seat u) (at_map row_seat views other u there)).keepings row small) in
        let same = sym a ∙ b in cc

    module _ (other : ℕ) (u : View) (there : get_elem? views other ≡ some u) where
      their_binding : (h : Handle) (number : ℕ) → Knows u.handles h number → IsBinding k w.gen w.name (binding_for h number)
      their_binding h number knows = binding_of_known k w.gen w.name u.handles.bindings (w.handles.each other (handle_seat u) (at_map handle_seat views other u there)).bindings knows.0 (binding_for h number) knows.1

      -- all that know a binding of one handle know the same
      pub bindings_agree : (h : Handle) (number number' : ℕ) → Knows v.handles h number → Knows u.handles h number' → number ≡ number'
      bindings_agree h number number' knows knows' = (knows_binding h number knows).number ∙ sym (their_binding h number' knows').number

      -- each evidence of a call agrees with each binding that anyone knows of its handle
      pub evidence_agrees : (i number : ℕ) (x : Evidence) → get_elem? v.rows.evidences i ≡ some x → Knows u.handles x.handle number → x.target ≡ target_of k number x.token
      evidence_agrees i number x has knows =
          let e = evidence_there k w.gen w.name v.rows.evidences (w.rows.each seat (row_seat v) (at_map row_seat views seat v at)).evidences i x has in
          e.answer ∙ ap (λ (t : ℕ). target_of k t x.token) (sym (their_binding x.handle number knows).number)

      -- each evidence of a cast agrees with each two bindings that anyone knows of its handles
      pub cast_evidence_agrees : (i number number' : ℕ) (x : CastEvidence) → get_elem? v.casts.evidences i ≡ some x → Knows u.handles x.source number → Knows u.handles x.target number' → from_bool x.yes ≡ compatible k number number'
      cast_evidence_agrees i number number' x has knows knows' =
          let e = cast_evidence_there k w.gen w.name v.casts.evidences (w.casts.each seat (cast_view v) (at_map cast_view views seat v at)).evidences i x has in
          e.answer ∙ sym (λ c. compatible k ((their_binding x.source number knows).number c) ((their_binding x.target number' knows').number c))

  module _ (seat : ℕ) (v : View) (at : get_elem? views seat ≡ some v) where
    -- The target of a row that a cell names is the world's, for the site's token and each binding that anyone knows of the row's handle
    pub cell_target : (site row number : ℕ) (h : Handle) → site < k.sizes.sites → get_or z.cells site 0 ≡ 2 + row → IsHandlePacking h (get_or z.rows (4 * row + 1) 0) → Knows v.handles h number
        → get_or z.rows (4 * row + 3) 0 ≡ target_of k number (site_token k site)
    cell_target site row number h small names_row packs knows =
        let r = w.rows in
        let dispatches : r.cell_word site ≡ Dispatch row = packed_cell-one_to_one (r.cell_word site) (Dispatch row) (sym (r.cell site small).packed ∙ names_row) in
        let there = r.cell_names site row small dispatches in
        let token = (r.cell_named site row there.0 there.1).2 in
        let q = r.row row there.0 in
        let agrees = q.agrees (subst WasPublished (sym there.1) tt) in
        let same : (r.content row).handle ≡ h = handle_packing-one_to_one (get_or z.rows (4 * row + 1) 0) (r.content row).handle h q.handle packs in
        let is = knows_binding seat v at h number knows in
        q.target ∙ (agrees.answer ∙ ((λ c. target_of k (w.name (same c).row (same c).generation) (token c)) ∙ ap (λ (t : ℕ). target_of k t (site_token k site)) (sym is.number)))

    -- The answer of a cast row that is not being written is the world's, for each two bindings that anyone knows of its handles
    pub cast_row_answer : (row number number' : ℕ) (source : Handle) (word : CastWord) → row < cast_rows k.sizes → version_of z.casts row % 2 ≡ 0 → 0 < version_of z.casts row
        → IsHandlePacking source (get_or z.casts (3 * row + 1) 0) → IsCastPacking word (get_or z.casts (3 * row + 2) 0) → Knows v.handles source number → Knows v.handles word.target number'
        → from_bool word.yes ≡ compatible k number number'
    cast_row_answer row number number' source word small even written packs packs' knows knows' =
        let r = w.casts in
        let q = r.row row small in
        let agrees = q.agrees (nobody_writes (r.writer row) refl) written in
        let same : (r.content row).source ≡ source = handle_packing-one_to_one (get_or z.casts (3 * row + 1) 0) (r.content row).source source q.source packs in
        let same' : (r.content row).word ≡ word = cast_packing-one_to_one (get_or z.casts (3 * row + 2) 0) (r.content row).word word q.word packs' in
        let is = knows_binding seat v at source number knows in
        let is' = knows_binding seat v at word.target number' knows' in
        ap (λ (x : CastWord). from_bool x.yes) (sym same')
        ∙ (agrees.answer
        ∙ ((λ c. compatible k (w.name (same c).row (same c).generation) (w.name (same' c).target.row (same' c).target.generation))
        ∙ sym (λ c. compatible k (is.number c) (is'.number c))))
      where
        nobody_writes : (writer : Option ℕ) → w.casts.writer row ≡ writer → w.casts.writer row ≡ None
        nobody_writes None is = is
        nobody_writes (Some other) is = let odd = (w.casts.row row small).odd other is in absurd (omega arith)
