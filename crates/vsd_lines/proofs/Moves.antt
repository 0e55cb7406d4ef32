-- Bytes on their way, one piece after another.
use Rattle.std.proofs.Common.{◌≡◌, ℕ, ◌-◌, List, [], ◌++◌, length, Option, None, Some, refl, sym, ap, subst, ◌∙◌, arith, append_assoc, append-nil, length-append}
use Rattle.std.specs.Io.KnownBytes.{append_known}
use Rattle.vsd_lines.specs.Moving.{Carries, CutShort, Front}

append_known-append : (o : Option (List ℕ)) (xs ys : List ℕ) → append_known o (xs ++ ys) ≡ append_known (append_known o xs) ys
append_known-append None xs ys = refl
append_known-append (Some zs) xs ys = ap Some (sym (append_assoc zs xs ys))

append_known-nil : (o : Option (List ℕ)) → append_known o [] ≡ o
append_known-nil None = refl
append_known-nil (Some xs) = ap Some (append-nil xs)

-- nothing was written yet
pub carries_nothing : (o : Option (List ℕ)) (room : ℕ → Type 0) (waited : List ℕ) → Carries o o room room waited waited []
carries_nothing o room waited = record {
  written = [];
  taken = sym (append_known-nil o);
  whole = sym (append-nil waited);
  room_left = λ size r. let e : size ≡ size - 0 = omega arith in subst room e r;
}

-- the two pieces of what was taken
joined : (o m n : Option (List ℕ)) (xs ys : List ℕ) → m ≡ append_known o xs → n ≡ append_known m ys → n ≡ append_known o (xs ++ ys)
joined o m n xs ys e f = f ∙ (ap (λ known. append_known known ys) e ∙ sym (append_known-append o xs ys))

-- the pieces before a middle and after it
around : (first second waits middle waited done text : List ℕ) → first ++ middle ≡ waited ++ done → second ++ waits ≡ middle ++ text
    → (first ++ second) ++ waits ≡ waited ++ (done ++ text)
around first second waits middle waited done text e f =
    append_assoc first second waits ∙ (ap (λ l. first ++ l) f ∙ (sym (append_assoc first middle text) ∙ (ap (λ l. l ++ text) e ∙ append_assoc waited done text)))

module _ (o m : Option (List ℕ)) (room left : ℕ → Type 0) (waited waits done : List ℕ) (a : Carries o m room left waited waits done) where
  -- a line comes to the page
  pub carries_line : (page line : List ℕ) → page ≡ waits ++ line → Carries o m room left waited page (done ++ line)
  carries_line page line is = record {
    written = a.written;
    taken = a.taken;
    whole =
        ap (λ l. a.written ++ l) is
        ∙ (sym (append_assoc a.written waits line) ∙ (ap (λ l. l ++ line) a.whole ∙ append_assoc waited done line));
    room_left = a.room_left;
  }

  pub carries_more : (n : Option (List ℕ)) (last : ℕ → Type 0) (page text : List ℕ) → Carries m n left last waits page text → Carries o n room last waited page (done ++ text)
  carries_more n last page text b = record {
    written = a.written ++ b.written;
    taken = joined o m n a.written b.written a.taken b.taken;
    whole = around a.written b.written page waits waited done text a.whole b.whole;
    room_left = λ size r.
        let e : (size - length a.written) - length b.written ≡ size - length (a.written ++ b.written) = omega (arith, length-append a.written b.written) in
        subst last e (b.room_left (size - length a.written) (a.room_left size r));
  }

  -- what was taken so far is a front of what is to come
  pub front_at : (more text : List ℕ) → done ++ more ≡ text → Front o m (waited ++ text)
  front_at more text e = record {
    prefix = a.written;
    rest = waits ++ more;
    grows = a.taken;
    whole =
        sym (append_assoc a.written waits more)
        ∙ (ap (λ l. l ++ more) a.whole ∙ (append_assoc waited done more ∙ ap (λ l. waited ++ l) e));
  }

  pub front_more : (n : Option (List ℕ)) (piece more text : List ℕ) → Front m n (waits ++ piece) → done ++ (piece ++ more) ≡ text → Front o n (waited ++ text)
  front_more n piece more text f e = record {
    prefix = a.written ++ f.prefix;
    rest = f.rest ++ more;
    grows = joined o m n a.written f.prefix a.taken f.grows;
    whole =
        sym (append_assoc (a.written ++ f.prefix) f.rest more)
        ∙ (ap (λ l. l ++ more) (around a.written f.prefix f.rest waits waited done piece a.whole f.whole)
        ∙ (append_assoc waited (done ++ piece) more ∙ ap (λ l. waited ++ l) (append_assoc done piece more ∙ e)));
  }

  pub cut_more : (n : Option (List ℕ)) (piece more text : List ℕ) → CutShort m n left (waits ++ piece) → done ++ (piece ++ more) ≡ text → CutShort o n room (waited ++ text)
  cut_more n piece more text f e = record {
    part = record {
      prefix = a.written ++ f.part.prefix;
      rest = f.part.rest ++ more;
      grows = joined o m n a.written f.part.prefix a.taken f.part.grows;
      whole =
          sym (append_assoc (a.written ++ f.part.prefix) f.part.rest more)
          ∙ (ap (λ l. l ++ more) (around a.written f.part.prefix f.part.rest waits waited done piece a.whole f.part.whole)
          ∙ (append_assoc waited (done ++ piece) more ∙ ap (λ l. waited ++ l) (append_assoc done piece more ∙ e)));
      cut = let cut = f.part.cut in omega (arith, length-append f.part.rest more);
    };
    sure = λ size r.
        let less = f.sure (size - length a.written) (a.room_left size r) in
        let sizes : length (a.written ++ waits) ≡ length (waited ++ done) = ap length a.whole in
        let whole : length (done ++ (piece ++ more)) ≡ length text = ap length e in
        omega (arith, length-append a.written waits, length-append waited done, length-append waits piece, length-append done (piece ++ more), length-append piece more, length-append waited text);
  }

-- the page is written, and nothing waits any more
pub finished : (o m n : Option (List ℕ)) (room left last : ℕ → Type 0) (waits page done : List ℕ) → Carries o m room left [] waits done → Carries m n left last waits page []
    → page ≡ [] → (size : ℕ) → room size → last (size - length done)
finished o m n room left last waits page done a b empty size r =
    let c = carries_more o m room left [] waits done a n last page [] b in
    let all : c.written ≡ done =
    sym (append-nil c.written) ∙ (ap (λ l. c.written ++ l) (sym empty) ∙ (c.whole ∙ append-nil done)) in
    subst (λ bytes. last (size - length bytes)) all (c.room_left size r)

-- the page wasn't written
pub unfinished : (o m n : Option (List ℕ)) (room left : ℕ → Type 0) (waits done text : List ℕ) → Carries o m room left [] waits done → CutShort m n left waits
    → done ≡ text → CutShort o n room text
unfinished o m n room left waits done text a f e =
    let cut : CutShort m n left (waits ++ []) = subst (λ l. CutShort m n left l) (sym (append-nil waits)) f in
    cut_more o m room left [] waits done a n [] [] text cut (append-nil done ∙ e)
