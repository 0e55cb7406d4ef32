-- A cast row is written by one seat at a time, and stays while its version is even, by the rule.
use Rattle.std.proofs.Common.{◌≡◌, ℕ, zero, suc, ◌+◌, ◌*◌, ◌%◌, ◌<◌, ◌≤◌, List, [], ◌∷◌, length, map, Option, Some, None, IfSome, slice_index, refl, sym, ◌∙◌, ap, subst, arith}
use Rattle.std.proofs.lemmas.List.{length-map}
use mathlib.Core.Option.{some}
use lib.ListN.{get_elem?}
use Rattle.atomic_table.proofs.Lists.{at_map}
use Rattle.vsd_words.specs.declared.handle.Handle.{Handle}
use Rattle.vsd_words.specs.declared.cast_word.CastWord.{CastWord}
use Rattle.vsd_words.specs.Handle.{IsHandlePacking}
use Rattle.vsd_words.specs.CastWord.{IsCastPacking}
use Rattle.vsd_rule.specs.declared.key.Key.{Key}
use Rattle.vsd_rule.specs.declared.cast_view.Probe.{Probe}
use Rattle.vsd_rule.specs.declared.cast_view.Written.{Written}
use Rattle.vsd_rule.specs.declared.view.View.{View}
use Rattle.vsd_rule.specs.Layout.{cast_rows}
use Rattle.vsd_rule.specs.Casts.{CastContent, Probed, WritesAsTold, CastRow, TrueCastView, version_of, write_of}
use Rattle.vsd_rule.specs.Zones.{Zones, zones}
use Rattle.vsd_rule.specs.Rule.{Whole, cast_view}
use Rattle.vsd_core.specs.CastRows.{AreInRow, Writes, IsWriter, IsLook, CastRowStays, CastRowsStay}

-- an element stands at each place of a list
element : {A : Type 0} (l : List A) (i : ℕ) → i < length l → (x : A) × (get_elem? l i ≡ some x)
element [] i small = absurd (omega arith)
element (x ∷ xs) zero small = (x, refl)
element (x ∷ xs) (suc i) small = element xs i (omega arith)

-- the words that the rule has are the ones in the table
source_there : (s : Option Handle) (h : Handle) (word : ℕ) → IfSome s (λ g. g ≡ h) → IsHandlePacking h word → IfSome s (λ g. IsHandlePacking g word)
source_there None h word is packs = tt
source_there (Some g) h word is packs = subst (λ (q : Handle). IsHandlePacking q word) (sym is) packs

word_there : (s : Option CastWord) (x : CastWord) (word : ℕ) → IfSome s (λ g. g ≡ x) → IsCastPacking x word → IfSome s (λ g. IsCastPacking g word)
word_there None x word is packs = tt
word_there (Some g) x word is packs = subst (λ (q : CastWord). IsCastPacking q word) (sym is) packs

module _ (k : Key) (z : Zones) (views : List View) (w : Whole k z views) (row : ℕ) (small : row < cast_rows k.sizes) where
  view_told : (seat : ℕ) (v : View) → get_elem? views seat ≡ some v → TrueCastView k w.gen w.name w.casts.writer w.casts.content z.casts seat v.casts
  view_told seat v at = w.casts.each seat v.casts (at_map cast_view views seat v at)

  told : (seat : ℕ) (x : Written) → Writes views row seat x → WritesAsTold k w.casts.writer w.casts.content z.casts seat row (Some x)
  told seat x writes = subst (WritesAsTold k w.casts.writer w.casts.content z.casts seat row) writes.2 ((view_told seat writes.0 writes.1).writes row small)

  in_row : (source : Option Handle) (word : Option CastWord) → IfSome source (λ h. h ≡ (w.casts.content row).source) → IfSome word (λ x. x ≡ (w.casts.content row).word) → AreInRow z.casts row source word
  in_row source word source_is word_is =
      let r = w.casts.row row small in
      record {
        source = source_there source (w.casts.content row).source (slice_index z.casts (3 * row + 1)) source_is r.source;
        word = word_there word (w.casts.content row).word (slice_index z.casts (3 * row + 2)) word_is r.word;
      }

  pub is_writer : (seat : ℕ) (x : Written) → Writes views row seat x → IsWriter z.casts views row seat x
  is_writer seat x writes =
      let mine = told seat x writes in
      record {
        version = mine.1;
        odd = ap (λ (n : ℕ). n % 2) (sym mine.1) ∙ (w.casts.row row small).odd seat mine.0;
        stored = in_row x.source x.word mine.2 mine.3;
        alone = λ other y theirs. let same = sym mine.0 ∙ (told other y theirs).0 in cc;
      }

  nobody : (seat : ℕ) (written : Option Written) → WritesAsTold k w.casts.writer w.casts.content z.casts seat row written → w.casts.writer row ≡ Some seat → ((x : Written) → written ≡ Some x → ⊥) → ⊥
  nobody seat None as_told is none = as_told is
  nobody seat (Some x) as_told is none = none x refl

  rests : ((seat : ℕ) (x : Written) → Writes views row seat x → ⊥) → (writer : Option ℕ) → w.casts.writer row ≡ writer → version_of z.casts row % 2 ≡ 0
  rests none None is = (w.casts.row row small).even is
  rests none (Some seat) is =
      let inside = w.casts.keeper row seat small is in
      let there = element views seat (omega (arith, length-map views cast_view)) in
      absurd (nobody seat (write_of row there.0.casts.writes) ((view_told seat there.0 there.1).writes row small) is (λ x writes. none seat x (there.0, there.1, writes)))

  is_look : (seat : ℕ) (v : View) (p : Probe) → get_elem? views seat ≡ some v → v.casts.probe ≡ Some p → p.row ≡ row → IsLook z.casts views p
  is_look seat v p at probes is =
      let seen : Probed k w.casts.writer w.casts.content z.casts p = subst (λ (q : Option Probe). IfSome q (Probed k w.casts.writer w.casts.content z.casts)) probes (view_told seat v at).probe in
      record {
        version = seen.version;
        loaded = λ same even. subst (λ (n : ℕ). AreInRow z.casts n p.source p.word) (sym is)
            (in_row p.source p.word (subst (λ (n : ℕ). IfSome p.source (λ h. h ≡ (w.casts.content n).source)) is (seen.source same even)) (subst (λ (n : ℕ). IfSome p.word (λ x. x ≡ (w.casts.content n).word)) is (seen.word same even)));
        unwritten = λ same even other x writes.
            let theirs = is_writer other x (subst (λ (n : ℕ). Writes views n other x) is writes) in
            let version = ap (version_of z.casts) is in
            let clash : p.version % 2 ≡ 1 = ap (λ (n : ℕ). n % 2) (same ∙ (version ∙ theirs.version)) ∙ theirs.odd in
            let both = sym even ∙ clash in absurd (omega arith);
      }

  pub row_stays : CastRowStays z.casts views row
  row_stays = record { writer = is_writer; unwritten = λ none. rests none (w.casts.writer row) refl; look = is_look }

pub casts_stay : CastRowsStay
casts_stay k words views row rule small = row_stays k (zones k.sizes words) views rule.whole row small
