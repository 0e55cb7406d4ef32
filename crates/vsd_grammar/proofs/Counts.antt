-- What each step of the counts keeps to, the whole of a production keeps to.
use Rattle.std.proofs.Common.{◌≡◌, ℕ, zero, suc, Bool, List, [], ◌∷◌, IsTrue, Result, Ok, Err, MatchResult, subst}
use Rattle.vsd_grammar.specs.declared.token_class.TokenClass.{TokenClass}
use Rattle.vsd_grammar.specs.declared.cause.Cause.{Cause}
use Rattle.vsd_grammar.specs.Input.{Input, State, next}
use Rattle.vsd_grammar.specs.Grammar.{G, ret, refuse, refuse_at, lookahead, pass, count, bind, separated, until, MoreItems, Items, Turns, Derives}
use Rattle.vsd_grammar.specs.Laws.{Behaves}

module _ (test : Cause → Bool) (keeps : State → State → Bool) (here : (s : State) → IsTrue (keeps s s)) (on : (s t u : State) → IsTrue (keeps s t) → IsTrue (keeps t u) → IsTrue (keeps s u)) where
  stays : (i j : Input) → i ≡ j → IsTrue (keeps i.state j.state)
  stays i j e = subst (λ k. IsTrue (keeps i.state k.state)) e (here i.state)

  counted_step : {A : Type 0} (s : State) (r : Result (A × State) Cause) (x : A) (t : State) → MatchResult r (λ v. IsTrue (keeps s v.1)) (λ cause. IsTrue (test cause)) → r ≡ Ok (x, t) → IsTrue (keeps s t)
  counted_step s (Ok v) x t h e = let same : v ≡ (x, t) = cc in subst (λ w. IsTrue (keeps s w.1)) same h
  counted_step s (Err cause) x t h e = absurd cc

  more_keep : {A : Type 0} (Item : Input → A → Input → Type 0) → ((i : Input) (x : A) (j : Input) → Item i x j → IsTrue (keeps i.state j.state))
      → (xs : List A) (i j : Input) → MoreItems Item xs i j → IsTrue (keeps i.state j.state)
  more_keep Item h [] i j d = stays i j d
  more_keep Item h (x ∷ xs) i j d = on i.state d.1.state j.state (h (next i) x d.1 d.2) (more_keep Item h xs d.1 j d.3)

  items_keep : {A : Type 0} (Item : Input → A → Input → Type 0) → ((i : Input) (x : A) (j : Input) → Item i x j → IsTrue (keeps i.state j.state))
      → (xs : List A) (i j : Input) → Items Item xs i j → IsTrue (keeps i.state j.state)
  items_keep Item h [] i j d = absurd d
  items_keep Item h (x ∷ xs) i j d = on i.state d.0.state j.state (h i x d.0 d.1) (more_keep Item h xs d.0 j d.2)

  turns_keep : {S : Type 0} (stop : TokenClass → S → Bool) (Item : S → Input → S → Input → Type 0)
      → ((s : S) (i : Input) (t : S) (j : Input) → Item s i t j → IsTrue (keeps i.state j.state))
      → (n : ℕ) (s : S) (i : Input) (t : S) (j : Input) → Turns stop Item n s i t j → IsTrue (keeps i.state j.state)
  turns_keep stop Item h zero s i t j d = stays i j d.2
  turns_keep stop Item h (suc n) s i t j d = on i.state d.2.state j.state (h s i d.1 d.2 d.3) (turns_keep stop Item h n d.1 d.2 t j d.5)

  pub keeps_to : (A : Type 0) (g : G A) (i : Input) (x : A) (j : Input) → Behaves test keeps A g → Derives A g i x j → IsTrue (keeps i.state j.state)
  keeps_to _ (ret A a) i x j b d = stays i j d.1
  keeps_to _ (refuse A cause) i x j b d = absurd d
  keeps_to _ (refuse_at A index cause) i x j b d = absurd d
  keeps_to _ lookahead i x j b d = stays i j d.1
  keeps_to _ pass i x j b d = stays (next i) j d.1
  keeps_to _ (count A step) i x j b d = on i.state d.0 j.state (counted_step i.state (step i.state) x d.0 (b i.state) d.1) (stays (record i { state = d.0 }) j d.2)
  keeps_to _ (bind A B p f) i y j b d = on i.state d.1.state j.state (keeps_to A p i d.0 d.1 b.0 d.2) (keeps_to B (f d.0) d.1 y j (b.1 d.0) d.3)
  keeps_to _ (separated A first many p room) i xs j b d = items_keep (Derives A p) (λ k x m e. keeps_to A p k x m b.0 e) xs i j d.1
  keeps_to _ (until S stop step s) i t j b d = turns_keep stop (λ u. Derives S (step u)) (λ u k v m e. keeps_to S (step u) k v m (b.1 u) e) d.0 s i t j d.1
