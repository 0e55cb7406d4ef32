-- A caller's own handle words.
use Rattle.std.specs.Prelude.{◌≡◌, List}
use Rattle.vsd_words.specs.declared.handle_word.HandleWord.{HandleWord}
use Rattle.vsd_rows.specs.declared.hand.Hand.{Hand}
use Rattle.vsd_table.specs.Seating.{view_of}

-- the words are those that the hand's view knows of its 64 rows
abbrev pub AreWordsOf : List HandleWord → Hand → Type 0
AreWordsOf words hand = words ≡ (view_of hand.seated).handles.owned
