-- The rule on cast rows after looks at them, and after the region grows.
use Rattle.std.proofs.Common.{◌≡◌, ◌≢◌, ℕ, ◌%◌, ◌<◌, Bool, true, false, cond, ◌&&◌, nat_eq, nat_lt, List, [], ◌∷◌, ◌++◌, Option, Some, None, set, ap, sym, refl, ◌∙◌, subst, ⊎_elim, arith, length-set, eqb-true, ltb-true}
use Rattle.std.specs.Prelude.{IfSome}
use mathlib.Core.Option.{some}
use lib.ListN.{get_elem?}
use Rattle.atomic_table.proofs.Lists.{at_set}
use Rattle.vsd_words.specs.declared.handle.Handle.{Handle}
use Rattle.vsd_words.specs.declared.cast_word.CastWord.{CastWord}
use Rattle.vsd_rule.specs.declared.key.Key.{Key}
use Rattle.vsd_rule.specs.declared.cast_view.CastEvidence.{CastEvidence}
use Rattle.vsd_rule.specs.declared.cast_view.CastView.{CastView}
use Rattle.vsd_rule.specs.declared.cast_view.Probe.{Probe}
use Rattle.vsd_rule.specs.Layout.{cast_rows}
use Rattle.vsd_rule.specs.Casts.{Casts, CastContent, CastAgrees, AreCastEvidences, Probed, TrueCastView, version_of}
use Rattle.vsd_rule.specs.CastSteps.{probing, probe_gains, gains, with_source, with_word, hit_by, is_stable, hit_of, hits}

pub cast_evidences_more : (k : Key) (gen : ℕ → ℕ) (name : ℕ → ℕ → ℕ) (xs ys : List CastEvidence) → AreCastEvidences k gen name xs → AreCastEvidences k gen name ys → AreCastEvidences k gen name (xs ++ ys)
cast_evidences_more k gen name [] ys all more = more
cast_evidences_more k gen name (x ∷ xs) ys all more = (all.0, cast_evidences_more k gen name xs ys all.1 more)

-- both parts of a test that is met
both : (a b : Bool) → (a && b) ≡ true → (a ≡ true) × (b ≡ true)
both true b is = (refl, is)
both false b is = absurd (cc)

module _ (k : Key) {gen : ℕ → ℕ} {name : ℕ → ℕ → ℕ} {region : ℕ} {words : List ℕ} {seats : List CastView} (c : Casts k gen name region words seats) (id : ℕ) (d : CastView) (at : get_elem? seats id ≡ some d) where
  -- no word of a cast row changes, and the seat's view is true
  pub looked : (region' : ℕ) → region' < k.sizes.regions → (d' : CastView) → TrueCastView k gen name c.writer c.content words id d' → Casts k gen name region' words (set seats id d')
  looked region' lawful d' mine = record {
    writer = c.writer;
    content = c.content;
    region_in = lawful;
    row = c.row;
    keeper = λ row seat small is. subst (λ (n : ℕ). seat < n) (sym (length-set seats id d')) (c.keeper row seat small is);
    each = λ seat e there. ⊎_elim
        (λ (t : (seat ≡ id) × (d' ≡ e)). subst (λ (q : ℕ × CastView). TrueCastView k gen name c.writer c.content words q.0 q.1) (λ i. (sym t.0 i, t.1 i)) mine)
        (λ (t : (seat ≢ id) × (get_elem? seats seat ≡ some e)). c.each seat e t.1)
        (at_set seats id seat d' e there);
  }

  pub region_keeps : (region' : ℕ) → region' < k.sizes.regions → Casts k gen name region' words (set seats id d)
  region_keeps region' lawful = looked region' lawful d (c.each id d at)

  abbrev mine : TrueCastView k gen name c.writer c.content words id d
  mine = c.each id d at

  pub version_keeps : (row version : ℕ) → row < cast_rows k.sizes → version ≡ version_of words row → Casts k gen name region words (set seats id (probing d row version))
  version_keeps row version small is = looked region c.region_in (probing d row version) (record {
    probe = record { row = small; version = let e = is in omega arith; source = λ _ _. tt; word = λ _ _. tt };
    writes = mine.writes;
    evidences = mine.evidences;
  })

  gains_keep : (row : ℕ) (loaded : Probe → Probe) → ((p : Probe) → p.row ≡ row → Probed k c.writer c.content words p → Probed k c.writer c.content words (loaded p)) → Casts k gen name region words (set seats id (gains d row loaded))
  gains_keep row loaded more = looked region c.region_in (gains d row loaded) (record { probe = go d.probe mine.probe; writes = mine.writes; evidences = mine.evidences })
    where
      at_row : (p : Probe) → Probed k c.writer c.content words p → (b : Bool) → nat_eq p.row row ≡ b → Probed k c.writer c.content words (cond b (loaded p) p)
      at_row p is true same = more p (eqb-true p.row row same) is
      at_row p is false apart = is

      go : (o : Option Probe) → IfSome o (Probed k c.writer c.content words) → IfSome (probe_gains row loaded o) (Probed k c.writer c.content words)
      go None is = tt
      go (Some p) is = at_row p is (nat_eq p.row row) refl

  pub source_keeps : (row : ℕ) (h : Handle) → h ≡ (c.content row).source → Casts k gen name region words (set seats id (gains d row (with_source h)))
  source_keeps row h is = gains_keep row (with_source h) (λ p same b. record {
    row = b.row;
    version = b.version;
    source = λ _ _. is ∙ ap (λ (n : ℕ). (c.content n).source) (sym same);
    word = b.word;
  })

  pub cast_word_keeps : (row : ℕ) (w : CastWord) → w ≡ (c.content row).word → Casts k gen name region words (set seats id (gains d row (with_word w)))
  cast_word_keeps row w is = gains_keep row (with_word w) (λ p same b. record {
    row = b.row;
    version = b.version;
    source = b.source;
    word = λ _ _. is ∙ ap (λ (n : ℕ). (c.content n).word) (sym same);
  })

  -- ---- the version again: a hit is an evidence

  -- an even version says that nobody writes the row
  pub unwritten : (row : ℕ) → row < cast_rows k.sizes → version_of words row % 2 ≡ 0 → c.writer row ≡ None
  unwritten row small even = go (c.writer row) refl
    where
      go : (o : Option ℕ) → c.writer row ≡ o → c.writer row ≡ None
      go None is = is
      go (Some seat) is = absurd (let odd = (c.row row small).odd seat is in omega arith)

  hit_agrees : (p : Probe) → Probed k c.writer c.content words p → p.version ≡ version_of words p.row → p.version % 2 ≡ 0 → 0 < p.version → (h : Handle) → p.source ≡ Some h → (w : CastWord) → p.word ≡ Some w
      → CastAgrees k gen name h w.target w.yes
  hit_agrees p b now even some_version h a w e =
      let row : ℕ = p.row in
      let is_source : h ≡ (c.content row).source = subst (λ (o : Option Handle). IfSome o (λ (g : Handle). g ≡ (c.content row).source)) a (b.source now even) in
      let is_word : w ≡ (c.content row).word = subst (λ (o : Option CastWord). IfSome o (λ (x : CastWord). x ≡ (c.content row).word)) e (b.word now even) in
      let present : 0 < version_of words row = subst (λ (n : ℕ). 0 < n) now some_version in
      subst (λ (q : CastContent). CastAgrees k gen name q.source q.word.target q.word.yes) (λ i. record { source = sym is_source i; word = sym is_word i })
      ((c.row row b.row).agrees (unwritten row b.row (subst (λ (n : ℕ). n % 2 ≡ 0) now even)) present)

  pub hit_evidence : (row again : ℕ) → again ≡ version_of words row → AreCastEvidences k gen name (hit_of row again d.probe)
  hit_evidence row again is = go d.probe mine.probe
    where
      by_words : (p : Probe) → Probed k c.writer c.content words p → p.version ≡ version_of words p.row → p.version % 2 ≡ 0 → 0 < p.version → (s : Option Handle) → p.source ≡ s → (w : Option CastWord) → p.word ≡ w
          → AreCastEvidences k gen name (hit_by s w)
      by_words p b now even some_version None a w e = tt
      by_words p b now even some_version (Some h) a None e = tt
      by_words p b now even some_version (Some h) a (Some w) e = (hit_agrees p b now even some_version h a w e, tt)

      by_test : (p : Probe) → Probed k c.writer c.content words p → (t : Bool) → (nat_eq p.row row && is_stable p.version again) ≡ t → AreCastEvidences k gen name (cond t (hit_by p.source p.word) [])
      by_test p b false no_hit = tt
      by_test p b true hit =
          let one = both (nat_eq p.row row) (is_stable p.version again) hit in
          let two = both (nat_eq p.version again) (nat_eq (p.version % 2) 0 && nat_lt 0 p.version) one.1 in
          let three = both (nat_eq (p.version % 2) 0) (nat_lt 0 p.version) two.1 in
          let same : p.row ≡ row = eqb-true p.row row one.0 in
          let equal : p.version ≡ again = eqb-true p.version again two.0 in
          by_words p b (equal ∙ (is ∙ ap (version_of words) (sym same))) (eqb-true (p.version % 2) 0 three.0) (ltb-true 0 p.version three.1) p.source refl p.word refl

      go : (o : Option Probe) → IfSome o (Probed k c.writer c.content words) → AreCastEvidences k gen name (hit_of row again o)
      go None b = tt
      go (Some p) b = by_test p b (nat_eq p.row row && is_stable p.version again) refl

  pub version_again_keeps : (row again : ℕ) → again ≡ version_of words row → Casts k gen name region words (set seats id (hits d row again))
  version_again_keeps row again is = looked region c.region_in (hits d row again) (record {
    probe = mine.probe;
    writes = mine.writes;
    evidences = cast_evidences_more k gen name (hit_of row again d.probe) d.evidences (hit_evidence row again is) mine.evidences;
  })
