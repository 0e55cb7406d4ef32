-- Each step on cells and counters may be made.
use Rattle.std.proofs.Common.{◌≡◌, ℕ, ◌+◌, ◌<◌, ◌%◌, ◌^◌, List, get_or, set, ap, sym, refl, ◌∙◌, subst, arith}
use mathlib.Core.Option.{some}
use lib.ListN.{get_elem?}
use Rattle.vsd_words.specs.declared.cell_word.CellWord.{CellWord}
use Rattle.vsd_words.specs.declared.cell_word.CellWord.TheVariants.{Lookup, Resolve, Dispatch}
use Rattle.vsd_words.specs.CellWord.{packed_cell, IsCellPacking}
use Rattle.vsd_words.proofs.Packings.{packed_cell-one_to_one}
use Rattle.vsd_rule.specs.declared.key.Key.{Key}
use Rattle.vsd_rule.specs.declared.view.View.{View}
use Rattle.vsd_rule.specs.Layout.{counts_from, cells_from}
use Rattle.vsd_rule.specs.Lists.{site_token}
use Rattle.vsd_rule.specs.Rule.{Rule}
use Rattle.vsd_rule.specs.RowSteps.{after_cell, after_to_dispatch, after_to_resolve, after_to_lookup, after_count}
use Rattle.vsd_rule.specs.RowFacts.{IsFilledFor, CellInTable}
use Rattle.vsd_rule.proofs.RuleByCells.{cell_packing, cell_in_table, load_cell_keeps, to_dispatch_won, to_dispatch_lost, to_resolve_won, to_resolve_lost, to_lookup_won, to_lookup_lost, count_keeps}
use Rattle.vsd_table.specs.CellKinds.{load_cell, to_dispatch, to_resolve, to_lookup, count, SiteAndRow, Exchanged}
use Rattle.vsd_table.specs.Seating.{key_of, view_of, Belongs}
use Rattle.vsd_table.specs.Stepping.{MayLoad, MayExchange, MayAdd}
use Rattle.vsd_table.specs.declared.shared.Shared.{Shared}
use Rattle.vsd_table.specs.declared.seated.Seated.{Seated}
use Rattle.vsd_table.proofs.Kept.{Unique, may_load, may_exchange, may_add}

load_unique : Unique load_cell
load_unique s v x y word a b fits fits' = omega arith

to_dispatch_unique : Unique to_dispatch
to_dispatch_unique s v x y word a b fits fits' = let site : x.site ≡ y.site = omega arith in let row : x.row ≡ y.row = omega arith in λ c. record { site = site c; row = row c }

to_resolve_unique : Unique to_resolve
to_resolve_unique s v x y word a b fits fits' = let site : x.site ≡ y.site = omega arith in let row : x.row ≡ y.row = omega arith in λ c. record { site = site c; row = row c }

to_lookup_unique : Unique to_lookup
to_lookup_unique s v x y word a b fits fits' = let site : x.site ≡ y.site = omega arith in let row : x.row ≡ y.row = omega arith in λ c. record { site = site c; row = row c }

count_unique : Unique count
count_unique s v x y word a b fits fits' = omega arith

-- a word packs one cell
same_cell : (n : ℕ) (a b : CellWord) → IsCellPacking a n → IsCellPacking b n → a ≡ b
same_cell n a b p q = packed_cell-one_to_one a b (sym p.packed ∙ q.packed)

-- what an exchange tells, by the one cell that its word packs
exchanged_by : (makes : View → ℕ → ℕ → CellWord → View) (v : View) (x : SiteAndRow) (n : ℕ) (w : CellWord) → IsCellPacking w n → Exchanged makes v x n (makes v x.site x.row w)
exchanged_by makes v x n w packing = record {
  packs = (w, packing);
  view = λ u other. ap (makes v x.site x.row) (same_cell n w u packing other);
}

module _ (table : Shared) (seated : Seated) (belongs : Belongs table seated) (site index : ℕ) (small : site < (key_of table).sizes.sites) (there : index ≡ cells_from (key_of table).sizes + site) where
  abbrev k : Key
  k = key_of table

  abbrev v : View
  v = view_of seated

  abbrev id : ℕ
  id = seated.seat.id

  module _ (words : List ℕ) (views : List View) (rule : Rule k words views) (at : get_elem? views id ≡ some v) where
    abbrev w : CellWord
    w = rule.whole.rows.cell_word site

    packing : IsCellPacking w (get_or words index 0)
    packing = subst (λ (i : ℕ). IsCellPacking w (get_or words i 0)) (sym there) (cell_packing k words views rule id v at site small)

    found_there : (n : ℕ) → get_or words index 0 ≡ n → get_or words (cells_from k.sizes + site) 0 ≡ n
    found_there n is = ap (λ (i : ℕ). get_or words i 0) (sym there) ∙ is

  pub may_load_cell : MayLoad load_cell table seated index
  may_load_cell = may_load load_cell load_unique table seated index site belongs there tt refl refl (λ words views rule at.
      let n : ℕ = get_or words index 0 in
      let c : CellWord = rule.whole.rows.cell_word site in
      record {
        after = after_cell v site c;
        same = record { key = refl; who = refl };
        stepped = (_, refl, λ split. split);
        rule = load_cell_keeps k words views rule id v at site small;
        tells = record {
          packs = (c, packing words views rule at);
          view = λ u other. ap (after_cell v site) (same_cell n c u (packing words views rule at) other);
          in_table = λ u other. subst (CellInTable v) (same_cell n c u (packing words views rule at) other)
              (λ row is. subst (λ (q : Key). row < q.sizes.rows) (sym belongs.key) (cell_in_table k words views rule id v at site small row is));
        };
      })

  module _ (row old new : ℕ) (inside : row < k.sizes.rows) where
    abbrev x : SiteAndRow
    x = record { site = site; row = row }

    pub may_to_dispatch : old ≡ packed_cell Lookup → new ≡ packed_cell (Dispatch row) → IsFilledFor v row site → MayExchange to_dispatch table seated index old new
    may_to_dispatch is_old is_new filled = may_exchange to_dispatch to_dispatch_unique table seated index x belongs there tt old new (sym is_old) (sym is_new)
        (λ words views rule at found. record {
          after = after_to_dispatch v site row Lookup;
          same = record { key = refl; who = refl };
          stepped = (_, refl, λ split. split);
          rule = subst (λ (q : ℕ × ℕ). Rule k (set words q.0 q.1) (set views id (after_to_dispatch v site row Lookup))) (λ c. (sym there c, sym is_new c))
              (to_dispatch_won k words views rule id v at site small row inside filled.handle (site_token v.key site) filled.target filled.filled.stored filled.filled.evidence
              (ap (λ (q : Key). site_token q site) belongs.key) (found_there words views rule at 0 (found ∙ is_old)));
          tells = exchanged_by after_to_dispatch v x (get_or words index 0) Lookup (record { in_range = tt; packed = found ∙ is_old });
        })
        (λ words views rule at other.
        let c : CellWord = rule.whole.rows.cell_word site in
        let p : IsCellPacking c (get_or words index 0) = packing words views rule at in
        record {
          after = after_to_dispatch v site row c;
          same = record { key = refl; who = refl };
          stepped = (_, refl, λ split. split);
          rule = to_dispatch_lost k words views rule id v at site small row inside c (λ e. other (p.packed ∙ (e ∙ sym is_old)));
          tells = exchanged_by after_to_dispatch v x (get_or words index 0) c p;
        })

    pub may_to_resolve : old ≡ packed_cell (Dispatch row) → new ≡ packed_cell Resolve → MayExchange to_resolve table seated index old new
    may_to_resolve is_old is_new = may_exchange to_resolve to_resolve_unique table seated index x belongs there tt old new (sym is_old) (sym is_new)
        (λ words views rule at found. record {
          after = after_to_resolve v site row (Dispatch row);
          same = record { key = refl; who = refl };
          stepped = (_, refl, λ split. split);
          rule = subst (λ (q : ℕ × ℕ). Rule k (set words q.0 q.1) (set views id (after_to_resolve v site row (Dispatch row)))) (λ c. (sym there c, sym is_new c))
              (to_resolve_won k words views rule id v at site small row inside (found_there words views rule at (2 + row) (found ∙ is_old)));
          tells = exchanged_by after_to_resolve v x (get_or words index 0) (Dispatch row) (record { in_range = few rule; packed = found ∙ is_old });
        })
        (λ words views rule at other.
        let c : CellWord = rule.whole.rows.cell_word site in
        let p : IsCellPacking c (get_or words index 0) = packing words views rule at in
        record {
          after = after_to_resolve v site row c;
          same = record { key = refl; who = refl };
          stepped = (_, refl, λ split. split);
          rule = to_resolve_lost k words views rule id v at site small row inside c (λ e. other (p.packed ∙ (e ∙ sym is_old)));
          tells = exchanged_by after_to_resolve v x (get_or words index 0) c p;
        })
      where
        few : {words : List ℕ} {views : List View} → Rule k words views → row < 1024
        few rule = let lawful = rule.whole.lawful.sizes.rows.rows in omega arith

    pub may_to_lookup : old ≡ packed_cell (Dispatch row) → new ≡ packed_cell Lookup → MayExchange to_lookup table seated index old new
    may_to_lookup is_old is_new = may_exchange to_lookup to_lookup_unique table seated index x belongs there tt old new (sym is_old) (sym is_new)
        (λ words views rule at found. record {
          after = after_to_lookup v site row (Dispatch row);
          same = record { key = refl; who = refl };
          stepped = (_, refl, λ split. split);
          rule = subst (λ (q : ℕ × ℕ). Rule k (set words q.0 q.1) (set views id (after_to_lookup v site row (Dispatch row)))) (λ c. (sym there c, sym is_new c))
              (to_lookup_won k words views rule id v at site small row inside (found_there words views rule at (2 + row) (found ∙ is_old)));
          tells = exchanged_by after_to_lookup v x (get_or words index 0) (Dispatch row) (record { in_range = few rule; packed = found ∙ is_old });
        })
        (λ words views rule at other.
        let c : CellWord = rule.whole.rows.cell_word site in
        let p : IsCellPacking c (get_or words index 0) = packing words views rule at in
        record {
          after = after_to_lookup v site row c;
          same = record { key = refl; who = refl };
          stepped = (_, refl, λ split. split);
          rule = to_lookup_lost k words views rule id v at site small row inside c (λ e. other (p.packed ∙ (e ∙ sym is_old)));
          tells = exchanged_by after_to_lookup v x (get_or words index 0) c p;
        })
      where
        few : {words : List ℕ} {views : List View} → Rule k words views → row < 1024
        few rule = let lawful = rule.whole.lawful.sizes.rows.rows in omega arith

pub may_count : (table : Shared) (seated : Seated) → Belongs table seated → (token index : ℕ) → token < (key_of table).sizes.tokens → index ≡ counts_from (key_of table).sizes + token → MayAdd count table seated index 1
may_count table seated belongs token index small there = may_add count count_unique table seated index token belongs there tt 1 refl refl (λ words views rule at.
    let n : ℕ = get_or words index 0 in
    let v : View = view_of seated in
    record {
      after = after_count v token n;
      same = record { key = refl; who = refl };
      stepped = (_, refl, λ split. split);
      rule = subst (λ (i : ℕ). Rule (key_of table) (set words i ((n + 1) % 2 ^ 64)) (set views seated.seat.id (after_count v token n))) (sym there)
          (count_keeps (key_of table) words views rule seated.seat.id v at token ((n + 1) % 2 ^ 64) n small);
      tells = refl;
    })
