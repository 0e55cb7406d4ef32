-- Elements that are read where they are.
use Rattle.std.proofs.Common.{◌≡◌, ℕ, ◌<◌, List, length, get_or, ap, ◌∙◌}
use Rattle.std.proofs.lemmas.Option.{slice_get-get_or}

-- an element that is there, whatever stands for those that are not
pub read_any : {A : Type 0} (xs : List A) (i : ℕ) (d e : A) → i < length xs → get_or xs i d ≡ get_or xs i e
read_any xs i d e within =
    let a = slice_get-get_or xs i d within in
    let b = slice_get-get_or xs i e within in
    cc

-- an element that is read where it is there
pub read-at : {A : Type 0} (xs ys : List A) (i : ℕ) (x d : A) → i < length ys → x ≡ get_or xs i x → xs ≡ ys → x ≡ get_or ys i d
read-at xs ys i x d within is same = is ∙ ap (λ l. get_or l i x) same ∙ read_any ys i x d within
