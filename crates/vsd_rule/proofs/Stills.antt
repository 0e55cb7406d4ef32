-- The rule on rows and the rule on cast rows stay when generations grow and each handle that was bound keeps its type.
use Rattle.std.proofs.Common.{ℕ, List, [], ◌∷◌, ap, sym, ◌∙◌, arith}
use Rattle.vsd_words.specs.declared.handle.Handle.{Handle}
use Rattle.vsd_rule.specs.declared.key.Key.{Key}
use Rattle.vsd_rule.specs.declared.row_view.Evidence.{Evidence}
use Rattle.vsd_rule.specs.declared.cast_view.CastView.{CastView}
use Rattle.vsd_rule.specs.declared.cast_view.CastEvidence.{CastEvidence}
use Rattle.std.proofs.Common.{Bool, Option}
use Rattle.vsd_rule.specs.Lists.{target_of, compatible}
use Rattle.vsd_rule.specs.Rows.{RowSeat, Rows, Row, TrueRowView, Agrees, AreEvidences, RowState, Content}
use Rattle.vsd_rule.specs.Casts.{Casts, CastRow, CastContent, CastAgrees, AreCastEvidences, IsOld}
use Rattle.vsd_rule.proofs.HandleSteps.{Grows, bound_grows}

module _ (k : Key) {gen : ℕ → ℕ} {name : ℕ → ℕ → ℕ} {gen' : ℕ → ℕ} {name' : ℕ → ℕ → ℕ} (grows : Grows gen name gen' name') where
  -- ---- rows

  pub agrees_still : {h : Handle} {token target : ℕ} → Agrees k gen name h token target → Agrees k gen' name' h token target
  agrees_still {h} {token} {target} a = record {
    bound = bound_grows k grows a.bound;
    token_in = a.token_in;
    answer = a.answer ∙ ap (λ (number : ℕ). target_of k number token) (sym (grows.named h.row h.generation a.bound.old));
  }

  pub evidences_still : (xs : List Evidence) → AreEvidences k gen name xs → AreEvidences k gen' name' xs
  evidences_still [] all = tt
  evidences_still (x ∷ xs) all = (agrees_still all.0, evidences_still xs all.1)

  row_still : {state : ℕ → RowState} {content : ℕ → Content} {words : List ℕ} {row : ℕ} → Row k gen name state content words row → Row k gen' name' state content words row
  row_still {content = content} {row = row} r = let g = grows.generation (content row).handle.row in let o = r.old in record {
    unclaimed = r.unclaimed;
    claimed = r.claimed;
    handle = r.handle;
    token = r.token;
    target = r.target;
    handle_row = r.handle_row;
    old = omega arith;
    token_fits = r.token_fits;
    target_fits = r.target_fits;
    agrees = λ published. agrees_still (r.agrees published);
  }

  row_view_still : {state : ℕ → RowState} {content : ℕ → Content} {epoch : ℕ} {pins : List ℕ} {seat : ℕ} {d : RowSeat} → TrueRowView k gen name state content epoch pins seat d → TrueRowView k gen' name' state content epoch pins seat d
  row_view_still {d = d} m = record {
    pin = m.pin;
    pinned = m.pinned;
    loaded = m.loaded;
    cursor = m.cursor;
    keepings = m.keepings;
    stored = m.stored;
    limbo = m.limbo;
    once = m.once;
    room = m.room;
    passed = m.passed;
    protects = m.protects;
    evidences = evidences_still d.rows.evidences m.evidences;
  }

  pub rows_still : {epoch : ℕ} {pins cells words buckets : List ℕ} {seats : List RowSeat} → Rows k gen name epoch pins cells words buckets seats → Rows k gen' name' epoch pins cells words buckets seats
  rows_still r = record {
    state = r.state;
    content = r.content;
    cell_word = r.cell_word;
    epoch_small = r.epoch_small;
    row = λ row small. row_still (r.row row small);
    keeper = r.keeper;
    cell = r.cell;
    cell_names = r.cell_names;
    cell_named = r.cell_named;
    bucket_names = r.bucket_names;
    bucket_named = r.bucket_named;
    each = λ seat d at. row_view_still (r.each seat d at);
    swept = r.swept;
  }

  -- ---- cast rows

  pub cast_agrees_still : {source target : Handle} {yes : Bool} → CastAgrees k gen name source target yes → CastAgrees k gen' name' source target yes
  cast_agrees_still {source} {target} a = record {
    source_bound = bound_grows k grows a.source_bound;
    target_bound = bound_grows k grows a.target_bound;
    answer = a.answer ∙ sym (
        ap (λ (number : ℕ). compatible k number (name' target.row target.generation)) (grows.named source.row source.generation a.source_bound.old)
        ∙ ap (compatible k (name source.row source.generation)) (grows.named target.row target.generation a.target_bound.old));
  }

  pub cast_evidences_still : (xs : List CastEvidence) → AreCastEvidences k gen name xs → AreCastEvidences k gen' name' xs
  cast_evidences_still [] all = tt
  cast_evidences_still (x ∷ xs) all = (cast_agrees_still all.0, cast_evidences_still xs all.1)

  old_still : {h : Handle} → IsOld k gen name h → IsOld k gen' name' h
  old_still {h} o = let g = grows.generation h.row in let b = o.old in record { row = o.row; old = omega arith }

  cast_row_still : {writer : ℕ → Option ℕ} {content : ℕ → CastContent} {words : List ℕ} {row : ℕ} → CastRow k gen name writer content words row → CastRow k gen' name' writer content words row
  cast_row_still r = record {
    even = r.even;
    odd = r.odd;
    small = r.small;
    source = r.source;
    word = r.word;
    source_old = old_still r.source_old;
    target_old = old_still r.target_old;
    agrees = λ none some_version. cast_agrees_still (r.agrees none some_version);
  }

  pub casts_still : {region : ℕ} {words : List ℕ} {seats : List CastView} → Casts k gen name region words seats → Casts k gen' name' region words seats
  casts_still r = record {
    writer = r.writer;
    content = r.content;
    region_in = r.region_in;
    row = λ row small. cast_row_still (r.row row small);
    keeper = r.keeper;
    each = λ seat d at. let m = r.each seat d at in record { probe = m.probe; writes = m.writes; evidences = cast_evidences_still d.evidences m.evidences };
  }
