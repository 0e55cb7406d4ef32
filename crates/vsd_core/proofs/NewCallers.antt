-- What a caller that has made no step knows.
use Rattle.std.proofs.Common.{◌≡◌, ℕ, zero, suc, ◌+◌, ◌<◌, List, [], ◌∷◌, length, replicate, slice_index, ap, ◌∙◌, arith}
use mathlib.Core.Option.{some}
use lib.ListN.{get_elem?}
use Rattle.std.specs.Int.{from_bool}
use Rattle.std.proofs.lemmas.List.Folds.{sum_by-replicate}
use Rattle.vsd_words.specs.declared.handle_word.HandleWord.{HandleWord}
use Rattle.vsd_rule.specs.declared.view.View.{View}
use Rattle.vsd_rule.specs.Handles.{blank_word, handle, binding_for}
use Rattle.vsd_rule.specs.Moves.{host_bindings}
use Rattle.vsd_table.specs.declared.shared.Shared.{Shared}
use Rattle.vsd_table.specs.Seating.{key_of, IsNew}
use Rattle.vsd_core.specs.declared.caller.Caller.{Caller}
use Rattle.vsd_core.specs.Owning.{live_in, loads_in}
use Rattle.vsd_core.specs.Callers.{seat_of, known_by, IsNewCaller}
use Rattle.vsd_core.proofs.Resting.{new_log}

-- each host's handle is bound from the start
host_there : (from : ℕ) (numbers : List ℕ) (i row : ℕ) → row ≡ from + i → i < length numbers → get_elem? (host_bindings from numbers) i ≡ some (binding_for (handle row 1) (slice_index numbers i))
host_there from [] i row is small = absurd (omega arith)
host_there from (n ∷ ns) zero row is small = let same : from ≡ row = omega arith in ap (λ (r : ℕ). some (binding_for (handle r 1) n)) same
host_there from (n ∷ ns) (suc i) row is small = host_there (from + 1) ns i row (omega arith) (omega arith)

pub new_caller : (table : Shared) (c : Caller) → IsNew table (seat_of c) → IsNewCaller table c
new_caller table c new_ =
    let blank : (known_by c).handles.owned ≡ replicate 64 blank_word = ap (λ (v : View). v.handles.owned) new_.view in
    let none = sum_by-replicate (λ (w : HandleWord). from_bool w.live) 64 blank_word in
    let zeros = sum_by-replicate (λ (w : HandleWord). w.generation) 64 blank_word in
    record {
      seat = new_;
      log = new_log table (seat_of c) new_;
      blank = blank;
      live = ap live_in blank ∙ none;
      loads = ap loads_in blank ∙ zeros;
      hosts = λ host small. (host, ap (λ (v : View). get_elem? v.handles.bindings host) new_.view ∙ host_there 0 (key_of table).world.host_types host host (omega arith) small);
    }
