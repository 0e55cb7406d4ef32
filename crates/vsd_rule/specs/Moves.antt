-- The views at opening, and what each step makes of its seat's view.
use Rattle.std.specs.Prelude.{ℕ, suc, ◌+◌, ◌-◌, ◌*◌, ◌/◌, true, false, cond, List, [], ◌∷◌, slice_set, replicate, None}
use Rattle.vsd_words.specs.declared.handle_word.HandleWord.{HandleWord}
use Rattle.vsd_words.specs.HandleWord.{packed_handle_word}
use Rattle.vsd_rule.specs.declared.key.Key.{Key}
use Rattle.vsd_rule.specs.declared.handle_view.Binding.{Binding}
use Rattle.vsd_rule.specs.declared.handle_view.HandleView.{HandleView}
use Rattle.vsd_rule.specs.declared.row_view.RowView.{RowView}
use Rattle.vsd_rule.specs.declared.cast_view.CastView.{CastView}
use Rattle.vsd_rule.specs.declared.step.Act.{Act}
use Rattle.vsd_rule.specs.declared.step.Act.TheVariants.{Split, LoadHandle, Bind, Unbind}
use Rattle.vsd_rule.specs.declared.step.Step.{Step}
use Rattle.vsd_rule.specs.declared.view.View.{View}
use Rattle.vsd_rule.specs.declared.view.Who.TheVariants.{Root, Caller}
use Rattle.vsd_rule.specs.Layout.{first_row}
use Rattle.vsd_rule.specs.Seats.{caller_of}
use Rattle.vsd_rule.specs.Handles.{blank_word, own_word, handle, binding_for}

-- the types that the hosts' handles are bound to, from the host `from` on
abbrev pub host_bindings : ℕ → List ℕ → List Binding
host_bindings from [] = []
host_bindings from (number ∷ numbers) = binding_for (handle from 1) number ∷ host_bindings (from + 1) numbers

abbrev pub opening_handle_view : Key → HandleView
opening_handle_view k = record { bindings = host_bindings 0 k.world.host_types; owned = replicate 64 blank_word }

abbrev pub opening_row_view : ℕ → RowView
opening_row_view cursor = record { pinned = 0; epoch = None; cursor = cursor; protected = []; kept = []; limbo = []; passed = 0; evidences = [] }

abbrev pub opening_cast_view : CastView
opening_cast_view = record { probe = None; writes = []; evidences = [] }

-- a caller's search for free rows begins at its share of the rows
abbrev pub opening_cursor : Key → ℕ → ℕ
opening_cursor k caller = caller * k.sizes.rows / k.sizes.callers

-- the view of the first seat
abbrev pub root_view : Key → View
root_view k = record { key = k; who = Root 0; handles = opening_handle_view k; rows = opening_row_view 0; casts = opening_cast_view; steps = [] }

-- the view of a caller that has made no step
abbrev pub caller_view : Key → ℕ → View
caller_view k caller = record { key = k; who = Caller caller; handles = opening_handle_view k; rows = opening_row_view (opening_cursor k caller); casts = opening_cast_view; steps = [] }

-- the list of steps after one more, with the fields that decide steps as they stood before it
abbrev pub noted : View → Act → ℕ → List Step
noted v act found = record { act = act; found = found; cursor = v.rows.cursor; limbo = v.rows.limbo } ∷ v.steps

-- the root after a split
abbrev pub after_split : View → View
after_split v = record v { who = Root (suc (caller_of v.who)); steps = noted v Split 0 }

-- the view of the seat that was split off
abbrev pub split_off : View → View
split_off v = caller_view v.key (caller_of v.who)

-- the index of a handle row among the caller's own 64
abbrev pub own_index : View → ℕ → ℕ
own_index v row = row - first_row v.key.sizes (caller_of v.who)

-- a binding is learnt from a word that is live
abbrev pub learnt : List Binding → ℕ → HandleWord → List Binding
learnt bindings row w = cond w.live (binding_for (handle row w.generation) w.number ∷ bindings) bindings

abbrev pub after_load_handle : View → ℕ → HandleWord → View
after_load_handle v row w = record v { handles = record v.handles { bindings = learnt v.handles.bindings row w }; steps = noted v (LoadHandle row) (packed_handle_word w) }

abbrev pub after_bind : View → ℕ → ℕ → ℕ → View
after_bind v row generation number = record v {
  handles = record {
    bindings = binding_for (handle row generation) number ∷ v.handles.bindings;
    owned = slice_set v.handles.owned (own_index v row) (own_word generation number true);
  };
  steps = noted v (Bind row generation number) 0;
}

abbrev pub after_unbind : View → ℕ → ℕ → ℕ → View
after_unbind v row generation number = record v {
  handles = record v.handles { owned = slice_set v.handles.owned (own_index v row) (own_word generation number false) };
  steps = noted v (Unbind row generation number) 0;
}
