-- The words of the command line.
use Rattle.std.specs.Prelude.{◌≡◌, ℕ, List, [], ◌∷◌, map, codes, String, string_bytes}
use Rattle.std.specs.declared.alloc.Global.{Global}

-- how the words are spelled
abbrev pub spellings : List (String Global) → List (List ℕ)
spellings words = map string_bytes words

-- the one command
abbrev pub IsCommand : List (List ℕ) → Type 0
IsCommand words = words ≡ codes "run" ∷ []

-- what is written for words that are no command
abbrev pub words_line : List ℕ
words_line = codes "refused words\n"
