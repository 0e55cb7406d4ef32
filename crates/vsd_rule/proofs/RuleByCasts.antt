-- What each step on the region and on cast rows keeps of the whole rule: it changes what its seat knows of casts alone.
use Rattle.std.proofs.Common.{◌≡◌, ◌≢◌, ℕ, ◌+◌, ◌*◌, ◌%◌, ◌<◌, ◌≤◌, ◌^◌, Bool, cond, List, Option, Some, None, map, get_or, set, ap, sym, refl, ◌∙◌, subst, ⊎_elim, arith, length-set, eq-eqb, ne_eqb}
use Rattle.std.proofs.lemmas.List.{map-set}
use mathlib.Core.Option.{some}
use lib.ListN.{get_elem?}
use Rattle.atomic_table.proofs.Lists.{at_set, at_map}
use Rattle.vsd_words.specs.declared.handle.Handle.{Handle}
use Rattle.vsd_words.specs.declared.cast_word.CastWord.{CastWord}
use Rattle.vsd_words.specs.Handle.{IsHandlePacking}
use Rattle.vsd_words.specs.CastWord.{IsCastPacking}
use Rattle.vsd_words.proofs.Packings.{handle_packing-one_to_one, cast_packing-one_to_one}
use Rattle.vsd_rule.specs.declared.key.Key.{Key}
use Rattle.vsd_rule.specs.declared.cast_view.CastView.{CastView}
use Rattle.vsd_rule.specs.declared.cast_view.Written.{Written}
use Rattle.vsd_rule.specs.declared.step.Act.{Act}
use Rattle.vsd_rule.specs.declared.view.View.{View}
use Rattle.vsd_rule.specs.Layout.{region_at, casts_from, cast_rows, cast_row}
use Rattle.vsd_rule.specs.Zones.{Zones, zones}
use Rattle.vsd_rule.specs.Lists.{compatible}
use Rattle.vsd_rule.specs.Seats.{Seats}
use Rattle.vsd_rule.specs.Handles.{Handles, binding_for}
use Rattle.vsd_rule.specs.Rows.{Rows}
use Rattle.vsd_rule.specs.Casts.{Casts, CastAgrees, version_of, write_of}
use Rattle.vsd_rule.specs.Rule.{Whole, Rule, who_of, handle_seat, row_seat, cast_view}
use Rattle.vsd_rule.specs.Evidence.{KnowsAnswer, HasCastEvidence, CastsAgree}
use Rattle.vsd_rule.specs.CastSteps.{after_casts, after_region, after_grow, after_version, after_source, after_cast_word, after_version_again, after_set_source, after_set_cast, after_publish, begins_write, writes_row, nothing_written, stores_written, written_in, writing_source, writing_word}
use Rattle.vsd_rule.proofs.Points.{unseen_set}
use Rattle.vsd_rule.proofs.Windows.{casts_length, cast_at, cast_written, region_written}
use Rattle.vsd_rule.proofs.Steps.{binding_of_known}
use Rattle.vsd_rule.proofs.Laws.{cast_evidence_there}
use Rattle.vsd_rule.proofs.CastLooks.{region_keeps, version_keeps, source_keeps, cast_word_keeps, version_again_keeps}
use Rattle.vsd_rule.proofs.CastWrites.{take_keeps, set_source_keeps, set_cast_keeps, publish_keeps}

module _ (k : Key) (words : List ℕ) (views : List View) (r : Rule k words views) (id : ℕ) (v : View) (at : get_elem? views id ≡ some v) where
  abbrev w : Whole k (zones k.sizes words) views
  w = r.whole

  abbrev z : Zones
  z = zones k.sizes words

  abbrev seats : List CastView
  seats = map cast_view views

  abbrev c : Casts k w.gen w.name z.region z.casts seats
  c = w.casts

  at_cast_view : get_elem? seats id ≡ some v.casts
  at_cast_view = at_map cast_view views id v at

  -- a step that changes words of these zones, and what its seat knows of casts
  whole_by_casts : (region : ℕ) (casts : List ℕ) (d : CastView) (act : Act) (found : ℕ) → Casts k w.gen w.name region casts (set seats id d)
      → Whole k (record z { region = region; casts = casts }) (set views id (after_casts v d act found))
  whole_by_casts region casts d act found true_casts =
      let v' : View = after_casts v d act found in
      record {
        lawful = w.lawful;
        gen = w.gen;
        name = w.name;
        keyed = λ seat e there. ⊎_elim
            (λ (t : (seat ≡ id) × (v' ≡ e)). ap (λ (x : View). x.key) (sym t.1) ∙ w.keyed id v at)
            (λ (t : (seat ≢ id) × (get_elem? views seat ≡ some e)). w.keyed seat e t.1)
            (at_set views id seat v' e there);
        seats = subst (Seats k.sizes) (sym (unseen_set who_of views id v v' at refl)) w.seats;
        handles = subst (Handles k w.gen w.name z.handles) (sym (unseen_set handle_seat views id v v' at refl)) w.handles;
        rows = subst (Rows k w.gen w.name z.epoch z.pins z.cells z.rows z.buckets) (sym (unseen_set row_seat views id v v' at refl)) w.rows;
        casts = subst (Casts k w.gen w.name region casts) (sym (map-set cast_view views id v')) true_casts;
      }

  by_casts : (d : CastView) (act : Act) (found : ℕ) → Casts k w.gen w.name z.region z.casts (set seats id d) → Rule k words (set views id (after_casts v d act found))
  by_casts d act found true_casts = record { sized = r.sized; whole = whole_by_casts z.region z.casts d act found true_casts }

  -- a step that leaves the view of casts as it is
  pub unchanged_keeps : (act : Act) (found : ℕ) → Rule k words (set views id (after_casts v v.casts act found))
  unchanged_keeps act found = by_casts v.casts act found (region_keeps k c id v.casts at_cast_view z.region c.region_in)

  -- ---- the region

  pub region_lawful : z.region < k.sizes.regions
  region_lawful = c.region_in

  pub load_region_keeps : (found : ℕ) → Rule k words (set views id (after_region v found))
  load_region_keeps found = unchanged_keeps _ found

  pub grow_keeps : (region found : ℕ) → region + 1 < k.sizes.regions → Rule k (set words (region_at k.sizes) (region + 1)) (set views id (after_grow v region found))
  grow_keeps region found lawful = record {
    sized = length-set words (region_at k.sizes) (region + 1) ∙ r.sized;
    whole = subst (λ (q : Zones). Whole k q (set views id (after_grow v region found))) (sym (region_written k.sizes words (region + 1) r.sized))
        (whole_by_casts (region + 1) z.casts v.casts _ found (region_keeps k c id v.casts at_cast_view (region + 1) lawful));
  }

  -- ---- what evidences of casts say

  pub cast_evidence_is : (source target : Handle) (given : Bool) → HasCastEvidence v source target given → CastAgrees k w.gen w.name source target given
  cast_evidence_is source target given has = ⊎_elim
      (λ (x : KnowsAnswer v source target given).
      let mine = w.handles.each id (handle_seat v) (at_map handle_seat views id v at) in
      let a = binding_of_known k w.gen w.name v.handles.bindings mine.bindings x.knows_source.0 (binding_for source x.number) x.knows_source.1 in
      let b = binding_of_known k w.gen w.name v.handles.bindings mine.bindings x.knows_target.0 (binding_for target x.other) x.knows_target.1 in
      let key : v.key ≡ k = w.keyed id v at in
      record {
        source_bound = a.bound;
        target_bound = b.bound;
        answer = x.answer ∙ (ap (λ (q : Key). compatible q x.number x.other) key
            ∙ (ap (λ (n : ℕ). compatible k n x.other) a.number ∙ ap (compatible k (w.name source.row source.generation)) b.number));
      })
      (λ (x : (i : ℕ) × (get_elem? v.casts.evidences i ≡ some (record { source = source; target = target; yes = given }))).
      cast_evidence_there k w.gen w.name v.casts.evidences (c.each id v.casts at_cast_view).evidences x.0 (record { source = source; target = target; yes = given }) x.1)
      has

  -- and what they say is what the seat knows
  pub casts_agree : CastsAgree v
  casts_agree source target given number other has knows_source knows_target =
      let e = cast_evidence_is source target given has in
      let mine = w.handles.each id (handle_seat v) (at_map handle_seat views id v at) in
      let a = binding_of_known k w.gen w.name v.handles.bindings mine.bindings knows_source.0 (binding_for source number) knows_source.1 in
      let b = binding_of_known k w.gen w.name v.handles.bindings mine.bindings knows_target.0 (binding_for target other) knows_target.1 in
      let key : v.key ≡ k = w.keyed id v at in
      e.answer ∙ (ap (λ (n : ℕ). compatible k n (w.name target.row target.generation)) (sym a.number)
      ∙ (ap (compatible k number) (sym b.number) ∙ ap (λ (q : Key). compatible q number other) (sym key)))

  -- ---- a cast row

  module _ (region row : ℕ) (small : cast_row region row < cast_rows k.sizes) where
    abbrev number : ℕ
    number = cast_row region row

    -- the index of the row's version; its source and its cast word lie next to it
    abbrev pub index : ℕ
    index = casts_from k.sizes + 3 * number

    pub version_is : get_or words index 0 ≡ version_of z.casts number
    version_is = sym (cast_at k.sizes words (3 * number) (omega arith))

    pub source_packing : IsHandlePacking (c.content number).source (get_or words (casts_from k.sizes + (3 * number + 1)) 0)
    source_packing = subst (IsHandlePacking (c.content number).source) (cast_at k.sizes words (3 * number + 1) (omega arith)) (c.row number small).source

    pub word_packing : IsCastPacking (c.content number).word (get_or words (casts_from k.sizes + (3 * number + 2)) 0)
    word_packing = subst (IsCastPacking (c.content number).word) (cast_at k.sizes words (3 * number + 2) (omega arith)) (c.row number small).word

    pub version_small : get_or words index 0 ≤ 2 ^ 62
    version_small = subst (λ (n : ℕ). n ≤ 2 ^ 62) (sym version_is) (c.row number small).small

    pub load_version_keeps : Rule k words (set views id (after_version v region row (get_or words index 0)))
    load_version_keeps = by_casts _ _ _ (version_keeps k c id v.casts at_cast_view number (get_or words index 0) small version_is)

    pub load_source_keeps : (h : Handle) → IsHandlePacking h (get_or words (casts_from k.sizes + (3 * number + 1)) 0) → Rule k words (set views id (after_source v region row h))
    load_source_keeps h packing = by_casts _ _ _ (source_keeps k c id v.casts at_cast_view number h
        (handle_packing-one_to_one (get_or words (casts_from k.sizes + (3 * number + 1)) 0) h (c.content number).source packing source_packing))

    pub load_cast_keeps : (x : CastWord) → IsCastPacking x (get_or words (casts_from k.sizes + (3 * number + 2)) 0) → Rule k words (set views id (after_cast_word v region row x))
    load_cast_keeps x packing = by_casts _ _ _ (cast_word_keeps k c id v.casts at_cast_view number x
        (cast_packing-one_to_one (get_or words (casts_from k.sizes + (3 * number + 2)) 0) x (c.content number).word packing word_packing))

    pub load_version_again_keeps : Rule k words (set views id (after_version_again v region row (get_or words index 0)))
    load_version_again_keeps = by_casts _ _ _ (version_again_keeps k c id v.casts at_cast_view number (get_or words index 0) version_is)

    -- a write of one of its words
    by_write : (i x : ℕ) (d : CastView) (act : Act) (found : ℕ) → i < 3 → Casts k w.gen w.name z.region (set z.casts (3 * number + i) x) (set seats id d)
        → Rule k (set words (casts_from k.sizes + (3 * number + i)) x) (set views id (after_casts v d act found))
    by_write i x d act found below true_casts = record {
      sized = length-set words (casts_from k.sizes + (3 * number + i)) x ∙ r.sized;
      whole = subst (λ (q : Zones). Whole k q (set views id (after_casts v d act found))) (sym (cast_written k.sizes words (3 * number + i) x (omega arith)))
          (whole_by_casts z.region (set z.casts (3 * number + i) x) d act found true_casts);
    }

    -- an exchange from an even version to the next
    pub take_won : (version : ℕ) (act : Act) → version % 2 ≡ 0 → version < 2 ^ 62 → get_or words index 0 ≡ version
        → Rule k (set words index (version + 1)) (set views id (after_casts v (begins_write v.casts number version (get_or words index 0)) act (get_or words index 0)))
    take_won version act even fits found =
        let d : CastView = writes_row v.casts number (Some (nothing_written (version + 1))) in
        let won : begins_write v.casts number version (get_or words index 0) ≡ d = ap (λ b. cond b d v.casts) (eq-eqb (get_or words index 0) version found) in
        let zero_more : 3 * number + 0 ≡ 3 * number = omega arith in
        subst (λ (q : CastView). Rule k (set words index (version + 1)) (set views id (after_casts v q act (get_or words index 0)))) (sym won)
        (subst (λ (n : ℕ). Rule k (set words (casts_from k.sizes + n) (version + 1)) (set views id (after_casts v d act (get_or words index 0)))) zero_more
        (by_write 0 (version + 1) d act (get_or words index 0) (omega arith)
        (subst (λ (n : ℕ). Casts k w.gen w.name z.region (set z.casts n (version + 1)) (set seats id d)) (sym zero_more)
        (take_keeps k c id v.casts at_cast_view number small (casts_length k.sizes words r.sized) version (sym found ∙ version_is) even fits))))

    pub take_lost : (version : ℕ) (act : Act) → get_or words index 0 ≢ version
        → Rule k words (set views id (after_casts v (begins_write v.casts number version (get_or words index 0)) act (get_or words index 0)))
    take_lost version act apart =
        let lost : begins_write v.casts number version (get_or words index 0) ≡ v.casts =
        ap (λ b. cond b (writes_row v.casts number (Some (nothing_written (version + 1)))) v.casts) (ne_eqb (get_or words index 0) version apart) in
        subst (λ (q : CastView). Rule k words (set views id (after_casts v q act (get_or words index 0)))) (sym lost) (unchanged_keeps act (get_or words index 0))

    -- ---- while the seat writes the row

    module _ (written : Written) (mine : write_of number v.casts.writes ≡ Some written) where
      -- what was written, as the view has it
      as_told : (f : Written → Written) → stores_written v.casts number f ≡ writes_row v.casts number (Some (f written))
      as_told f = ap (λ (o : Option Written). writes_row v.casts number (Some (f (written_in o)))) mine

      pub store_source_keeps : (h target : Handle) (given : Bool) (x : ℕ) → IsHandlePacking h x → HasCastEvidence v h target given
          → Rule k (set words (casts_from k.sizes + (3 * number + 1)) x) (set views id (after_set_source v region row h))
      store_source_keeps h target given x packing has =
          let a = cast_evidence_is h target given has in
          let bound = a.source_bound in
          by_write 1 x (stores_written v.casts number (writing_source h)) _ 0 (omega arith)
          (subst (λ (d : CastView). Casts k w.gen w.name z.region (set z.casts (3 * number + 1) x) (set seats id d)) (sym (as_told (writing_source h)))
          (set_source_keeps k c id v.casts at_cast_view number small (casts_length k.sizes words r.sized) written mine h x packing (record { row = bound.row; old = bound.old })))

      pub store_cast_keeps : (source : Handle) (y : CastWord) (x : ℕ) → IsCastPacking y x → HasCastEvidence v source y.target y.yes
          → Rule k (set words (casts_from k.sizes + (3 * number + 2)) x) (set views id (after_set_cast v region row y))
      store_cast_keeps source y x packing has =
          let a = cast_evidence_is source y.target y.yes has in
          let bound = a.target_bound in
          by_write 2 x (stores_written v.casts number (writing_word y)) _ 0 (omega arith)
          (subst (λ (d : CastView). Casts k w.gen w.name z.region (set z.casts (3 * number + 2) x) (set seats id d)) (sym (as_told (writing_word y)))
          (set_cast_keeps k c id v.casts at_cast_view number small (casts_length k.sizes words r.sized) written mine y x packing (record { row = bound.row; old = bound.old })))

      pub store_version_keeps : (h : Handle) (y : CastWord) → written.source ≡ Some h → written.word ≡ Some y → HasCastEvidence v h y.target y.yes
          → Rule k (set words index (written.version + 1)) (set views id (after_publish v region row (written.version + 1)))
      store_version_keeps h y has_source has_word has =
          let d : CastView = writes_row v.casts number None in
          let zero_more : 3 * number + 0 ≡ 3 * number = omega arith in
          subst (λ (n : ℕ). Rule k (set words (casts_from k.sizes + n) (written.version + 1)) (set views id (after_publish v region row (written.version + 1)))) zero_more
          (by_write 0 (written.version + 1) d _ 0 (omega arith)
          (subst (λ (n : ℕ). Casts k w.gen w.name z.region (set z.casts n (written.version + 1)) (set seats id d)) (sym zero_more)
          (publish_keeps k c id v.casts at_cast_view number small (casts_length k.sizes words r.sized) written mine h y has_source has_word (cast_evidence_is h y.target y.yes has))))
