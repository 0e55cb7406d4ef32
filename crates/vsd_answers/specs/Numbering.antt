-- Numbers of dispatch tokens: pairs of an interface's type and a slot, in order of first appearance.
use Rattle.std.specs.Prelude.{◌≡◌, ℕ, ◌+◌, ◌<◌, ◌&&◌, Bool, true, false, cond, nat_eq, List, [], ◌∷◌, ◌++◌, map, fold, length, slice_index, slice_index_or}
use Rattle.vsd_ast.specs.declared.scripts.Site.{Site}

-- the number of an interface's type, and a slot
abbrev pub Pair : Type 0
Pair = ℕ × ℕ

-- the pair of each site, where roots have these types
abbrev pub site_pairs : List Site → List ℕ → List Pair
site_pairs sites types = map (λ (site : Site). (slice_index types site.root, site.slot)) sites

abbrev pub same_pair : Pair → Pair → Bool
same_pair p q = nat_eq p.0 q.0 && nat_eq p.1 q.1

abbrev pub is_listed : List Pair → Pair → Bool
is_listed [] p = false
is_listed (q ∷ qs) p = cond (same_pair q p) true (is_listed qs p)

-- the place of a pair in a list; the list's length where it isn't there
abbrev pub place_of_pair : List Pair → Pair → ℕ
place_of_pair [] p = 0
place_of_pair (q ∷ qs) p = cond (same_pair q p) 0 (place_of_pair qs p + 1)

-- the list with a pair at its end, where it isn't there yet
abbrev pub with_pair : List Pair → Pair → List Pair
with_pair tokens p = cond (is_listed tokens p) tokens (tokens ++ p ∷ [])

-- the tokens of the sites that have these pairs, in order of first appearance
abbrev pub tokens_of : List Pair → List Pair
tokens_of pairs = fold with_pair [] pairs

-- the token of each site
abbrev pub site_tokens_of : List Pair → List ℕ
site_tokens_of pairs = map (place_of_pair (tokens_of pairs)) pairs

-- What numbering says, in other words: no pair has two tokens, each site's token is its pair's, and a token comes only after
-- all tokens below it have come.
pub record IsNumbering (pairs tokens : List Pair) (sites : List ℕ) : Type 0 where
  pub distinct : (i j : ℕ) → i < length tokens → j < length tokens → slice_index_or tokens i (0, 0) ≡ slice_index_or tokens j (0, 0) → i ≡ j
  pub count : length sites ≡ length pairs
  pub within : (site : ℕ) → site < length pairs → slice_index sites site < length tokens
  pub own : (site : ℕ) → site < length pairs → slice_index_or tokens (slice_index sites site) (0, 0) ≡ slice_index_or pairs site (0, 0)
  pub used : (token : ℕ) → token < length tokens → (site : ℕ) × (site < length pairs) × (slice_index sites site ≡ token)
  pub in_order : (site token : ℕ) → site < length pairs → token < slice_index sites site → (earlier : ℕ) × (earlier < site) × (slice_index sites earlier ≡ token)
