-- Known bytes that come or go in two pieces.
use Rattle.std.proofs.Common.{◌≡◌, ℕ, ◌+◌, List, [], ◌++◌, Option, None, Some, take, drop, refl, sym, ap, ◌∙◌, append_assoc, append-nil}
use Rattle.std.proofs.Math.Seq.{take-add}
use Rattle.std.specs.Io.KnownBytes.{prepend_known, append_known}

prepend_known-append : (xs ys : List ℕ) (o : Option (List ℕ)) → prepend_known (xs ++ ys) o ≡ prepend_known xs (prepend_known ys o)
prepend_known-append xs ys None = refl
prepend_known-append xs ys (Some zs) = ap Some (append_assoc xs ys zs)

append_known-append : (o : Option (List ℕ)) (xs ys : List ℕ) → append_known o (xs ++ ys) ≡ append_known (append_known o xs) ys
append_known-append None xs ys = refl
append_known-append (Some zs) xs ys = ap Some (sym (append_assoc zs xs ys))

append_known-nil : (o : Option (List ℕ)) → append_known o [] ≡ o
append_known-nil None = refl
append_known-nil (Some xs) = ap Some (append-nil xs)

-- a read gave a piece, which was added to what came before
pub given_more : (old mid new : Option (List ℕ)) (first piece all : List ℕ)
    → old ≡ prepend_known first mid → mid ≡ prepend_known piece new → all ≡ first ++ piece → old ≡ prepend_known all new
given_more old mid new first piece all e f g =
    e ∙ (ap (prepend_known first) f ∙ (sym (prepend_known-append first piece new) ∙ ap (λ bytes. prepend_known bytes new) (sym g)))

-- a write took the next n bytes, after those at the front
pub taken_more : (old mid new : Option (List ℕ)) (bytes : List ℕ) (at n : ℕ)
    → mid ≡ append_known old (take at bytes) → new ≡ append_known mid (take n (drop at bytes)) → new ≡ append_known old (take (at + n) bytes)
taken_more old mid new bytes at n e f =
    f ∙ (ap (λ known. append_known known (take n (drop at bytes))) e
    ∙ (sym (append_known-append old (take at bytes) (take n (drop at bytes))) ∙ ap (append_known old) (sym (take-add at n bytes))))

-- a write that failed took nothing, after those bytes
pub taken_none : (old mid new : Option (List ℕ)) (bytes : List ℕ)
    → mid ≡ append_known old bytes → new ≡ append_known mid [] → new ≡ append_known old bytes
taken_none old mid new bytes e f = f ∙ (append_known-nil mid ∙ e)
