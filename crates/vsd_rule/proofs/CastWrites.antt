-- The rule on cast rows after a write of one of a cast row's words.
use Rattle.std.proofs.Common.{◌≡◌, ◌≢◌, ℕ, ◌+◌, ◌*◌, ◌%◌, ◌<◌, ◌≤◌, ◌^◌, cond, List, ◌∷◌, Option, Some, None, length, get_or, set, ap, sym, refl, ◌∙◌, subst, ⊎_elim, arith, length-set, get_or-set_same, get_or-set_other, eq-eqb, ne_eqb}
use Rattle.std.specs.Prelude.{IfSome}
use mathlib.Core.Logic.{dite}
use mathlib.Core.Option.{some}
use native.Mathlib.Decide.{ℕ_discrete}
use lib.ListN.{get_elem?}
use Rattle.atomic_table.proofs.Lists.{at_set}
use Rattle.vsd_words.specs.declared.handle.Handle.{Handle}
use Rattle.vsd_words.specs.declared.cast_word.CastWord.{CastWord}
use Rattle.vsd_words.specs.Handle.{IsHandlePacking}
use Rattle.vsd_words.specs.CastWord.{IsCastPacking}
use Rattle.vsd_rule.specs.declared.key.Key.{Key}
use Rattle.vsd_rule.specs.declared.cast_view.CastRowWrite.{CastRowWrite}
use Rattle.vsd_rule.specs.declared.cast_view.CastView.{CastView}
use Rattle.vsd_rule.specs.declared.cast_view.Probe.{Probe}
use Rattle.vsd_rule.specs.declared.cast_view.Written.{Written}
use Rattle.vsd_rule.specs.Layout.{cast_rows}
use Rattle.vsd_rule.specs.Casts.{Casts, CastRow, CastContent, CastAgrees, IsOld, WritesAsTold, Probed, TrueCastView, version_of, write_of}
use Rattle.vsd_rule.specs.CastSteps.{writes_row, nothing_written, writing_source, writing_word}
use Rattle.vsd_rule.proofs.Points.{put, put_here, put_else}
use Rattle.vsd_rule.proofs.RowMoves.{there_below}
use Rattle.vsd_rule.proofs.CastLooks.{unwritten}

pub write_here : (row : ℕ) (w : Option Written) (xs : List CastRowWrite) → write_of row (record { row = row; written = w } ∷ xs) ≡ w
write_here row w xs = ap (λ b. cond b w (write_of row xs)) (eq-eqb row row refl)

pub write_else : (row other : ℕ) (w : Option Written) (xs : List CastRowWrite) → other ≢ row → write_of other (record { row = row; written = w } ∷ xs) ≡ write_of other xs
write_else row other w xs apart = ap (λ b. cond b w (write_of other xs)) (ne_eqb row other (λ e. apart (sym e)))

module _ (k : Key) {gen : ℕ → ℕ} {name : ℕ → ℕ → ℕ} {region : ℕ} {words : List ℕ} {seats : List CastView} (c : Casts k gen name region words seats) (id : ℕ) (d : CastView) (at : get_elem? seats id ≡ some d) where
  -- a store in one of the row's three words, by the one seat that writes the row or by one that begins to
  pub record Writes (row : ℕ) (writer' : Option ℕ) (content' : CastContent) (i x : ℕ) (written : Option Written) : Type 0 where
    pub small : row < cast_rows k.sizes
    pub first : 3 * row ≤ i
    pub last : i < 3 * row + 3
    pub here : CastRow k gen name (λ _. writer') (λ _. content') (set words i x) row
    pub from : (seat : ℕ) → seat ≢ id → c.writer row ≢ Some seat
    pub to : (seat : ℕ) → seat ≢ id → writer' ≢ Some seat
    pub grown : version_of words row ≤ version_of (set words i x) row
    -- no look at the row that began before sees an even version that is the present one
    pub later : (version : ℕ) → version ≤ version_of words row → version ≡ version_of (set words i x) row → version % 2 ≡ 0 → ⊥
    pub mine : WritesAsTold k (λ _. writer') (λ _. content') (set words i x) id row written

  module _ (row : ℕ) (writer' : Option ℕ) (content' : CastContent) (i x : ℕ) (written : Option Written) (w : Writes row writer' content' i x written) where
    abbrev words' : List ℕ
    words' = set words i x

    abbrev writers : ℕ → Option ℕ
    writers = put c.writer row writer'

    abbrev contents : ℕ → CastContent
    contents = put c.content row content'

    -- the words of another row
    other_word : (other j : ℕ) → other ≢ row → j < 3 → get_or words' (3 * other + j) 0 ≡ get_or words (3 * other + j) 0
    other_word other j apart below = let f = w.first in let l = w.last in get_or-set_other words i (3 * other + j) x 0 (λ e. apart (omega arith))

    other_version : (other : ℕ) → other ≢ row → version_of words' other ≡ version_of words other
    other_version other apart = let f = w.first in let l = w.last in get_or-set_other words i (3 * other) x 0 (λ e. apart (omega arith))

    rows_written : (other : ℕ) → other < cast_rows k.sizes → CastRow k gen name writers contents words' other
    rows_written other small = dite (ℕ_discrete other row)
        (λ same.
        let h = w.here in
        let wr : writers other ≡ writer' = ap writers same ∙ put_here c.writer row writer' in
        let co : content' ≡ contents other = sym (ap contents same ∙ put_here c.content row content') in
        let back : row ≡ other = sym same in
        record {
          even = λ none. subst (λ (n : ℕ). version_of words' n % 2 ≡ 0) back (h.even (sym wr ∙ none));
          odd = λ seat is. subst (λ (n : ℕ). version_of words' n % 2 ≡ 1) back (h.odd seat (sym wr ∙ is));
          small = subst (λ (n : ℕ). version_of words' n ≤ 2 ^ 62) back h.small;
          source = subst (λ (q : ℕ × CastContent). IsHandlePacking q.1.source (get_or words' (3 * q.0 + 1) 0)) (λ j. (back j, co j)) h.source;
          word = subst (λ (q : ℕ × CastContent). IsCastPacking q.1.word (get_or words' (3 * q.0 + 2) 0)) (λ j. (back j, co j)) h.word;
          source_old = subst (λ (q : CastContent). IsOld k gen name q.source) co h.source_old;
          target_old = subst (λ (q : CastContent). IsOld k gen name q.word.target) co h.target_old;
          agrees = λ none some_version. subst (λ (q : CastContent). CastAgrees k gen name q.source q.word.target q.word.yes) co
              (h.agrees (sym wr ∙ none) (subst (λ (n : ℕ). 0 < version_of words' n) same some_version));
        })
        (λ apart.
        let o = c.row other small in
        let wr : writers other ≡ c.writer other = put_else c.writer row writer' other apart in
        let co : c.content other ≡ contents other = sym (put_else c.content row content' other apart) in
        let v : version_of words' other ≡ version_of words other = other_version other apart in
        record {
          even = λ none. ap (λ (n : ℕ). n % 2) v ∙ o.even (sym wr ∙ none);
          odd = λ seat is. ap (λ (n : ℕ). n % 2) v ∙ o.odd seat (sym wr ∙ is);
          small = subst (λ (n : ℕ). n ≤ 2 ^ 62) (sym v) o.small;
          source = subst (λ (q : ℕ × CastContent). IsHandlePacking q.1.source q.0) (λ j. (sym (other_word other 1 apart (omega arith)) j, co j)) o.source;
          word = subst (λ (q : ℕ × CastContent). IsCastPacking q.1.word q.0) (λ j. (sym (other_word other 2 apart (omega arith)) j, co j)) o.word;
          source_old = subst (λ (q : CastContent). IsOld k gen name q.source) co o.source_old;
          target_old = subst (λ (q : CastContent). IsOld k gen name q.word.target) co o.target_old;
          agrees = λ none some_version. subst (λ (q : CastContent). CastAgrees k gen name q.source q.word.target q.word.yes) co
              (o.agrees (sym wr ∙ none) (subst (λ (n : ℕ). 0 < n) v some_version));
        })

    probe_written : (o : Option Probe) → IfSome o (Probed k c.writer c.content words) → IfSome o (Probed k writers contents words')
    probe_written None is = tt
    probe_written (Some p) b = dite (ℕ_discrete p.row row)
        (λ same.
        let now : version_of words' p.row ≡ version_of words' row = ap (version_of words') same in
        let was : version_of words p.row ≡ version_of words row = ap (version_of words) same in
        let old = b.version in
        let none : (p.version ≡ version_of words' p.row) → (p.version % 2 ≡ 0) → ⊥ = λ e even. w.later p.version (omega arith) (e ∙ now) even in
        record {
          row = b.row;
          version = let g = w.grown in omega arith;
          source = λ e even. absurd (none e even);
          word = λ e even. absurd (none e even);
        })
        (λ apart.
        let v : version_of words' p.row ≡ version_of words p.row = other_version p.row apart in
        let co : c.content p.row ≡ contents p.row = sym (put_else c.content row content' p.row apart) in
        record {
          row = b.row;
          version = let o = b.version in omega arith;
          source = λ e even. subst (λ (q : CastContent). IfSome p.source (λ (h : Handle). h ≡ q.source)) co (b.source (e ∙ v) even);
          word = λ e even. subst (λ (q : CastContent). IfSome p.word (λ (y : CastWord). y ≡ q.word)) co (b.word (e ∙ v) even);
        })

    -- how a seat writes another row
    writes_else : (seat other : ℕ) → other ≢ row → (o : Option Written) → WritesAsTold k c.writer c.content words seat other o → WritesAsTold k writers contents words' seat other o
    writes_else seat other apart None not = λ is. not (sym (put_else c.writer row writer' other apart) ∙ is)
    writes_else seat other apart (Some y) is = let co : c.content other ≡ contents other = sym (put_else c.content row content' other apart) in (
      put_else c.writer row writer' other apart ∙ is.0,
      other_version other apart ∙ is.1,
      subst (λ (q : CastContent). IfSome y.source (λ (h : Handle). h ≡ q.source)) co is.2,
      subst (λ (q : CastContent). IfSome y.word (λ (z : CastWord). z ≡ q.word)) co is.3,
    )

    -- no other seat writes the row
    writes_none : (seat : ℕ) → seat ≢ id → (o : Option Written) → WritesAsTold k c.writer c.content words seat row o → WritesAsTold k writers contents words' seat row o
    writes_none seat apart None not = λ is. w.to seat apart (sym (put_here c.writer row writer') ∙ is)
    writes_none seat apart (Some y) is = absurd (w.from seat apart is.0)

    writes_mine : (o : Option Written) → WritesAsTold k (λ _. writer') (λ _. content') words' id row o → WritesAsTold k writers contents words' id row o
    writes_mine None not = λ is. not (sym (put_here c.writer row writer') ∙ is)
    writes_mine (Some y) is = let co : content' ≡ contents row = sym (put_here c.content row content') in (
      put_here c.writer row writer' ∙ is.0,
      is.1,
      subst (λ (q : CastContent). IfSome y.source (λ (h : Handle). h ≡ q.source)) co is.2,
      subst (λ (q : CastContent). IfSome y.word (λ (z : CastWord). z ≡ q.word)) co is.3,
    )

    pub writes_keep : Casts k gen name region (set words i x) (set seats id (writes_row d row written))
    writes_keep = let d' : CastView = writes_row d row written in let t = c.each id d at in record {
      writer = writers;
      content = contents;
      region_in = c.region_in;
      row = rows_written;
      keeper = λ other seat small is. subst (λ (n : ℕ). seat < n) (sym (length-set seats id d')) (dite (ℕ_discrete other row)
          (λ same. dite (ℕ_discrete seat id)
          (λ e. subst (λ (n : ℕ). n < length seats) (sym e) (there_below seats id d at))
          (λ apart. absurd (w.to seat apart (sym (put_here c.writer row writer') ∙ (ap writers (sym same) ∙ is)))))
          (λ apart. c.keeper other seat small (sym (put_else c.writer row writer' other apart) ∙ is)));
      each = λ seat e there. ⊎_elim
          (λ (u : (seat ≡ id) × (d' ≡ e)). subst (λ (q : ℕ × CastView). TrueCastView k gen name writers contents words' q.0 q.1) (λ j. (sym u.0 j, u.1 j)) (record {
            probe = probe_written d.probe t.probe;
            writes = λ other small. dite (ℕ_discrete other row)
                (λ same. subst (λ (n : ℕ). WritesAsTold k writers contents words' id n (write_of n d'.writes)) (sym same)
                (subst (WritesAsTold k writers contents words' id row) (sym (write_here row written d.writes)) (writes_mine written w.mine)))
                (λ apart. subst (WritesAsTold k writers contents words' id other) (sym (write_else row other written d.writes apart)) (writes_else id other apart (write_of other d.writes) (t.writes other small)));
            evidences = t.evidences;
          }))
          (λ (u : (seat ≢ id) × (get_elem? seats seat ≡ some e)). let o = c.each seat e u.1 in record {
            probe = probe_written e.probe o.probe;
            writes = λ other small. dite (ℕ_discrete other row)
                (λ same. subst (λ (n : ℕ). WritesAsTold k writers contents words' seat n (write_of n e.writes)) (sym same) (writes_none seat u.0 (write_of row e.writes) (o.writes row w.small)))
                (λ apart. writes_else seat other apart (write_of other e.writes) (o.writes other small));
            evidences = o.evidences;
          })
          (at_set seats id seat d' e there);
    }

  -- ---- the kinds

  module _ (row : ℕ) (small : row < cast_rows k.sizes) (long : length words ≡ 3 * cast_rows k.sizes) where
    abbrev old : CastRow k gen name c.writer c.content words row
    old = c.row row small

    version_now : (x : ℕ) → version_of (set words (3 * row) x) row ≡ x
    version_now x = get_or-set_same words (3 * row) x 0 (omega arith)

    -- the row when its version alone is stored
    versioned : (writer' : Option ℕ) (x : ℕ) → (writer' ≡ None → x % 2 ≡ 0) → ((seat : ℕ) → writer' ≡ Some seat → x % 2 ≡ 1) → x ≤ 2 ^ 62
        → (writer' ≡ None → CastAgrees k gen name (c.content row).source (c.content row).word.target (c.content row).word.yes)
        → CastRow k gen name (λ _. writer') (λ _. c.content row) (set words (3 * row) x) row
    versioned writer' x even odd fits agrees = record {
      even = λ none. ap (λ (n : ℕ). n % 2) (version_now x) ∙ even none;
      odd = λ seat is. ap (λ (n : ℕ). n % 2) (version_now x) ∙ odd seat is;
      small = subst (λ (n : ℕ). n ≤ 2 ^ 62) (sym (version_now x)) fits;
      source = subst (IsHandlePacking (c.content row).source) (sym (get_or-set_other words (3 * row) (3 * row + 1) x 0 (λ e. omega arith))) old.source;
      word = subst (IsCastPacking (c.content row).word) (sym (get_or-set_other words (3 * row) (3 * row + 2) x 0 (λ e. omega arith))) old.word;
      source_old = old.source_old;
      target_old = old.target_old;
      agrees = λ none _. agrees none;
    }

    -- an exchange makes an even version odd
    pub take_keeps : (version : ℕ) → version ≡ version_of words row → version % 2 ≡ 0 → version < 2 ^ 62
        → Casts k gen name region (set words (3 * row) (version + 1)) (set seats id (writes_row d row (Some (nothing_written (version + 1)))))
    take_keeps version is even fits =
        let none : c.writer row ≡ None = unwritten k c id d at row small (subst (λ (n : ℕ). n % 2 ≡ 0) is even) in
        let now : version_of (set words (3 * row) (version + 1)) row ≡ version + 1 = version_now (version + 1) in
        writes_keep row (Some id) (c.content row) (3 * row) (version + 1) (Some (nothing_written (version + 1))) (record {
          small = small;
          first = omega arith;
          last = omega arith;
          here = versioned (Some id) (version + 1) (λ e. absurd (cc)) (λ seat e. omega arith) (omega arith) (λ e. absurd (cc));
          from = λ seat apart e. absurd (cc);
          to = λ seat apart e. apart (let same : id ≡ seat = cc in sym same);
          grown = omega arith;
          later = λ v below e even'. omega arith;
          mine = (refl, now, tt, tt);
        })

    -- ---- while the seat writes the row

    module _ (w : Written) (mine : write_of row d.writes ≡ Some w) where
      writing : WritesAsTold k c.writer c.content words id row (Some w)
      writing = subst (WritesAsTold k c.writer c.content words id row) mine ((c.each id d at).writes row small)

      odd_now : version_of words row % 2 ≡ 1
      odd_now = old.odd id writing.0

      -- a store of one of the other two words
      stored_keeps : (content' : CastContent) (i x : ℕ) (w' : Written) → 3 * row < i → i < 3 * row + 3 → w'.version ≡ w.version
          → IsHandlePacking content'.source (get_or (set words i x) (3 * row + 1) 0) → IsCastPacking content'.word (get_or (set words i x) (3 * row + 2) 0)
          → IsOld k gen name content'.source → IsOld k gen name content'.word.target
          → IfSome w'.source (λ (h : Handle). h ≡ content'.source) → IfSome w'.word (λ (y : CastWord). y ≡ content'.word)
          → Casts k gen name region (set words i x) (set seats id (writes_row d row (Some w')))
      stored_keeps content' i x w' after before same source word source_old target_old has_source has_word =
          let v : version_of (set words i x) row ≡ version_of words row = get_or-set_other words i (3 * row) x 0 (λ e. omega arith) in
          let is : c.writer row ≡ Some id = writing.0 in
          let odd = odd_now in
          writes_keep row (Some id) content' i x (Some w') (record {
            small = small;
            first = omega arith;
            last = before;
            here = record {
              even = λ e. absurd (cc);
              odd = λ seat e. ap (λ (n : ℕ). n % 2) v ∙ odd;
              small = subst (λ (n : ℕ). n ≤ 2 ^ 62) (sym v) old.small;
              source = source;
              word = word;
              source_old = source_old;
              target_old = target_old;
              agrees = λ e _. absurd (cc);
            };
            from = λ seat apart e. apart (let s : id ≡ seat = cc in sym s);
            to = λ seat apart e. apart (let s : id ≡ seat = cc in sym s);
            grown = omega arith;
            later = λ n below e even. omega arith;
            mine = (refl, v ∙ (writing.1 ∙ sym same), has_source, has_word);
          })

      pub set_source_keeps : (h : Handle) (x : ℕ) → IsHandlePacking h x → IsOld k gen name h → Casts k gen name region (set words (3 * row + 1) x) (set seats id (writes_row d row (Some (writing_source h w))))
      set_source_keeps h x packing is_old = stored_keeps (record (c.content row) { source = h }) (3 * row + 1) x (writing_source h w) (omega arith) (omega arith) refl
          (subst (IsHandlePacking h) (sym (get_or-set_same words (3 * row + 1) x 0 (omega arith))) packing)
          (subst (IsCastPacking (c.content row).word) (sym (get_or-set_other words (3 * row + 1) (3 * row + 2) x 0 (λ e. omega arith))) old.word)
          is_old old.target_old refl writing.3

      pub set_cast_keeps : (y : CastWord) (x : ℕ) → IsCastPacking y x → IsOld k gen name y.target → Casts k gen name region (set words (3 * row + 2) x) (set seats id (writes_row d row (Some (writing_word y w))))
      set_cast_keeps y x packing is_old = stored_keeps (record (c.content row) { word = y }) (3 * row + 2) x (writing_word y w) (omega arith) (omega arith) refl
          (subst (IsHandlePacking (c.content row).source) (sym (get_or-set_other words (3 * row + 2) (3 * row + 1) x 0 (λ e. omega arith))) old.source)
          (subst (IsCastPacking y) (sym (get_or-set_same words (3 * row + 2) x 0 (omega arith))) packing)
          old.source_old is_old writing.2 refl

      -- a store of the next even version, over a source and a cast word that are an evidence
      pub publish_keeps : (h : Handle) (y : CastWord) → w.source ≡ Some h → w.word ≡ Some y → CastAgrees k gen name h y.target y.yes
          → Casts k gen name region (set words (3 * row) (w.version + 1)) (set seats id (writes_row d row None))
      publish_keeps h y has_source has_word agrees =
          let is : c.writer row ≡ Some id = writing.0 in
          let v : version_of words row ≡ w.version = writing.1 in
          let odd = odd_now in
          let fits = old.small in
          let now : version_of (set words (3 * row) (w.version + 1)) row ≡ w.version + 1 = version_now (w.version + 1) in
          let s : h ≡ (c.content row).source = subst (λ (o : Option Handle). IfSome o (λ (g : Handle). g ≡ (c.content row).source)) has_source writing.2 in
          let z : y ≡ (c.content row).word = subst (λ (o : Option CastWord). IfSome o (λ (g : CastWord). g ≡ (c.content row).word)) has_word writing.3 in
          writes_keep row None (c.content row) (3 * row) (w.version + 1) None (record {
            small = small;
            first = omega arith;
            last = omega arith;
            here = versioned None (w.version + 1) (λ _. omega arith) (λ seat e. absurd (cc)) (omega arith)
                (λ _. subst (λ (q : CastContent). CastAgrees k gen name q.source q.word.target q.word.yes) (λ i. record { source = s i; word = z i }) agrees);
            from = λ seat apart e. apart (let e' : id ≡ seat = cc in sym e');
            to = λ seat apart e. absurd (cc);
            grown = omega arith;
            later = λ n below e even. omega arith;
            mine = λ e. absurd (cc);
          })
