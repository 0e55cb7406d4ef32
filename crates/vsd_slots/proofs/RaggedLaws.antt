-- Lists in one run: how many there are, the k-th of them, and more.
use Rattle.std.proofs.Common.{◌≡◌, ℕ, zero, suc, ◌+◌, ◌-◌, ◌<◌, ◌≤◌, List, [], ◌∷◌, ◌++◌, length, take, drop, get_or, refl, sym, ap, ◌∙◌, subst, arith}
use Rattle.std.specs.List.{slice_range}
use Rattle.std.proofs.lemmas.List.{drop-append-le, drop_all, length-append, length-drop, take-append-le, take_rest}
use Rattle.vsd_slots.specs.Ragged.{AreStarts, Gains, cut, with_more}
use Rattle.vsd_slots.specs.declared.entries.Entry.{Entry}

pub cut-length : (starts : List ℕ) (es : List Entry) → length (cut starts es) ≡ length starts
cut-length [] es = refl
cut-length (s ∷ starts) es = ap suc (cut-length starts es)

pub cut-read : (starts : List ℕ) (es : List Entry) (k : ℕ) → k < length starts → get_or (cut starts es) k [] ≡ slice_range es (get_or starts k 0) (get_or starts (suc k) (length es))
cut-read [] es k within = absurd (omega (arith, within))
cut-read (s ∷ starts) es zero within = refl
cut-read (s ∷ starts) es (suc k) within = cut-read starts es k (omega (arith, within))

first_within : (starts : List ℕ) (end : ℕ) → AreStarts starts end → get_or starts 0 end ≤ end
first_within [] end are = omega arith
first_within (s ∷ starts) end are = are.1

pub starts-within : (starts : List ℕ) (end k : ℕ) → AreStarts starts end → k < length starts → (get_or starts k 0 ≤ get_or starts (suc k) end) × (get_or starts (suc k) end ≤ end)
starts-within [] end k are within = absurd (omega (arith, within))
starts-within (s ∷ starts) end zero are within = (are.0, first_within starts end are.2)
starts-within (s ∷ starts) end (suc k) are within = starts-within starts end k are.2 (omega (arith, within))

-- the k-th list goes to where the next begins, and no further than the run
pub bounds : (starts : List ℕ) (end k : ℕ) → AreStarts starts end → k < length starts → (get_or starts k 0 ≤ get_or starts (k + 1) end) × (get_or starts (k + 1) end ≤ end)
bounds starts end k are within =
    let next : suc k ≡ k + 1 = omega arith in
    subst (λ n. (get_or starts k 0 ≤ get_or starts n end) × (get_or starts n end ≤ end)) next (starts-within starts end k are within)

pub cut-at : (starts : List ℕ) (es : List Entry) (k end : ℕ) → k < length starts → end ≡ get_or starts (k + 1) (length es) → slice_range es (get_or starts k 0) end ≡ get_or (cut starts es) k []
cut-at starts es k end within is =
    let next : k + 1 ≡ suc k = omega arith in
    ap (slice_range es (get_or starts k 0)) (is ∙ ap (λ n. get_or starts n (length es)) next) ∙ sym (cut-read starts es k within)

pub starts-more : (starts : List ℕ) (end more : ℕ) → AreStarts starts end → end ≤ more → AreStarts starts more
starts-more [] end more are le = tt
starts-more (s ∷ []) end more are le = let low : s ≤ more = omega (arith, are.1, le) in (low, low, tt)
starts-more (s ∷ t ∷ starts) end more are le = (are.0, omega (arith, are.1, le), starts-more (t ∷ starts) end more are.2 le)

pub starts-begin : (starts : List ℕ) (end start : ℕ) → AreStarts starts end → start ≡ end → AreStarts (starts ++ start ∷ []) end
starts-begin [] end start are is = let low : start ≤ end = omega (arith, is) in (low, low, tt)
starts-begin (s ∷ []) end start are is = (omega (arith, are.1, is), are.1, starts-begin [] end start tt is)
starts-begin (s ∷ t ∷ starts) end start are is = (are.0, are.1, starts-begin (t ∷ starts) end start are.2 is)

pub starts-grown : (starts : List ℕ) (es more : List Entry) → AreStarts starts (length es) → AreStarts starts (length (es ++ more))
starts-grown starts es more are = starts-more starts (length es) (length (es ++ more)) are (omega (arith, length-append es more))

last_all : (es more : List Entry) (s : ℕ) → s ≤ length es → slice_range (es ++ more) s (length (es ++ more)) ≡ slice_range es s (length es) ++ more
last_all es more s low = take_rest (es ++ more) s ∙ drop-append-le s es more low ∙ ap (λ (l : List Entry). l ++ more) (sym (take_rest es s))

earlier_same : (es more : List Entry) (s t : ℕ) → s ≤ t → t ≤ length es → slice_range (es ++ more) s t ≡ slice_range es s t
earlier_same es more s t low high =
    let room : t - s ≤ length (drop s es) = omega (arith, length-drop s es, low, high) in
    ap (take (t - s)) (drop-append-le s es more (omega (arith, low, high))) ∙ take-append-le (t - s) (drop s es) more room

-- entries at the end of the run are at the end of the last list
pub more-cut : (starts : List ℕ) (es more : List Entry) → AreStarts starts (length es) → cut starts (es ++ more) ≡ with_more (cut starts es) more
more-cut [] es more are = refl
more-cut (s ∷ []) es more are = ap (λ (l : List Entry). l ∷ []) (last_all es more s are.1)
more-cut (s ∷ t ∷ starts) es more are =
    let first = earlier_same es more s t are.0 are.2.1 in
    ap (λ (l : List Entry). l ∷ cut (t ∷ starts) (es ++ more)) first ∙ ap (λ (ls : List (List Entry)). slice_range es s t ∷ ls) (more-cut (t ∷ starts) es more are.2)

nothing_after : (es : List Entry) → slice_range es (length es) (length es) ≡ []
nothing_after es = take_rest es (length es) ∙ drop_all (length es) es (omega arith)

begin_at : (starts : List ℕ) (es : List Entry) → cut (starts ++ length es ∷ []) es ≡ cut starts es ++ [] ∷ []
begin_at [] es = ap (λ (l : List Entry). l ∷ []) (nothing_after es)
begin_at (s ∷ []) es = ap (λ (ls : List (List Entry)). slice_range es s (length es) ∷ ls) (begin_at [] es)
begin_at (s ∷ t ∷ starts) es = ap (λ (ls : List (List Entry)). slice_range es s t ∷ ls) (begin_at (t ∷ starts) es)

-- a list that begins at the end of the run is empty
pub begin-cut : (starts : List ℕ) (es : List Entry) (start : ℕ) → start ≡ length es → cut (starts ++ start ∷ []) es ≡ cut starts es ++ [] ∷ []
begin-cut starts es start is = ap (λ n. cut (starts ++ n ∷ []) es) is ∙ begin_at starts es

pub listed : (starts : List ℕ) (es : List Entry) (lists : List (List Entry)) (k : ℕ) → cut starts es ≡ lists → k < length lists → k < length starts
listed starts es lists k is within = omega (arith, within, cut-length starts es, ap length is)

pub more-last : (before : List (List Entry)) (list more : List Entry) → with_more (before ++ list ∷ []) more ≡ before ++ (list ++ more) ∷ []
more-last [] list more = refl
more-last (b ∷ []) list more = refl
more-last (b ∷ c ∷ before) list more = ap (λ (ls : List (List Entry)). b ∷ ls) (more-last (c ∷ before) list more)

-- a list gains entries while it is the last
pub gains-more : (P Q : List Entry → Type 0) (old mid new : List (List Entry)) (more : List Entry) → Gains P old mid → new ≡ with_more mid more → ((list : List Entry) → P list → Q (list ++ more)) → Gains Q old new
gains-more P Q old mid new more gains is step = record {
  list = gains.list ++ more;
  is = is ∙ ap (λ (ls : List (List Entry)). with_more ls more) gains.is ∙ more-last old gains.list more;
  holds = step gains.list gains.holds;
}

pub gains-weaker : (P Q : List Entry → Type 0) (old new : List (List Entry)) → ((list : List Entry) → P list → Q list) → Gains P old new → Gains Q old new
gains-weaker P Q old new step gains = record { list = gains.list; is = gains.is; holds = step gains.list gains.holds }
