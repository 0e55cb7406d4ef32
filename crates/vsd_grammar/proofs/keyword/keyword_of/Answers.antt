use Rattle.std.proofs.Common.{◌≡◌, ◌∙◌, map, get_or, refl, ap}
use Rattle.std.specs.List.{slice_get}
use Rattle.vsd_grammar.specs.declared.keyword.TheConstants.{WORDS, SLOTS}
use Rattle.vsd_grammar.specs.Words.{words, key_by}
use Rattle.vsd_grammar.proofs.Keys.{slot_entry, key_found}
use Rattle.vsd_grammar.proofs.keyword.keyword_of.Goals as goal

-- the table in the code is that of the definition
same_table : map (λ entry. (entry.0.now, entry.1)) WORDS ≡ words
unfolding words
same_table = refl

pub returns : goal.returns
unfolding slot_entry
returns c =
    let word = c.args.word.now in
    c.key_in.ensures ∙ ap (λ table. key_by (slice_get table (get_or SLOTS c.slot_of.result 0)) word) same_table
    ∙ ap (λ k. key_by (slice_get words (get_or SLOTS k 0)) word) c.slot_of.ensures.value ∙ key_found word
