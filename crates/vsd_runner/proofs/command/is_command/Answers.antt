use Rattle.std.proofs.Common.{◌≡◌, ◌≤◌, ◌<◌, List, [], ◌∷◌, length, get_or, sym, ap, ◌∙◌, arith}
use Rattle.std.proofs.lemmas.Slice.Eq.{bytes_eq-Decides}
use Rattle.vsd_runner.specs.Command.{spellings}
use Rattle.vsd_runner.proofs.command.is_command.Goals as goal

-- a list of one element
one_of : {S : Type 0} (words : List S) (word : S) → word ≡ get_or words 0 word → 1 ≤ length words → length words < 2 → words ≡ word ∷ []
one_of [] word is some few = absurd (omega arith)
one_of (w ∷ []) word is some few = ap (λ x. x ∷ []) (sym is)
one_of (w ∷ v ∷ vs) word is some few = absurd (omega arith)

pub returns-in-len1 : goal.returns-in-len1
returns-in-len1 c =
    let run = 114 ∷ 117 ∷ 110 ∷ [] in
    let equal = bytes_eq-Decides c.as_str.result.now run in
    let one = one_of c.args.words.now c.word-item.result c.word-item.is c.in-len1.len_at_least c.in-len1.len_below in
    let spelled = ap spellings one in (
      λ yes. spelled ∙ ap (λ w. w ∷ []) (sym c.as_str.ensures.value ∙ equal.0 (sym c.eq.ensures ∙ yes)),
      λ good. c.eq.ensures ∙ equal.1 (c.as_str.ensures.value ∙ (cc (sym spelled ∙ good))),
    )
