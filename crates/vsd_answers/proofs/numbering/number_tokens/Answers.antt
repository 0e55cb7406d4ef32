use Rattle.std.proofs.Common.{◌≡◌, ◌+◌, true, All, [], ◌∷◌, ◌++◌, map, take, get_or, sym, ap, subst, ◌∙◌, arith}
use Rattle.std.proofs.lemmas.List.{map_push, take_all, take_more}
use Rattle.std.proofs.lemmas.List.Elements.{All-push, All-weaker}
use Rattle.std.proofs.lemmas.List.Sums.{fold_more}
use Rattle.vsd_answers.specs.Numbering.{is_listed, place_of_pair, tokens_of, with_pair}
use Rattle.vsd_answers.proofs.Pairs.{places_stay, with_pair-listed, with_pair-own}
use Rattle.vsd_answers.proofs.numbering.number_tokens.Goals as goal

pub loop-pair-preserved : goal.loop-pair-preserved
loop-pair-preserved c =
    let pairs = c.args.pairs.now in
    let i = c.loop-pair.pair-index in
    let old = c.loop-pair.list.items in
    let p = get_or pairs i (0, 0) in
    let new = c.number_of.new.list.items in
    let is : new ≡ with_pair old p = c.in_ok-number_of.ensures.list in
    let seen : take (i + 1) pairs ≡ take i pairs ++ p ∷ [] = take_more pairs i (0, 0) c.loop-pair-test.true in
    let own = with_pair-own old p in
    let stay : map (place_of_pair new) (take i pairs) ≡ map (place_of_pair old) (take i pairs) =
    ap (λ l. map (place_of_pair l) (take i pairs)) is ∙ places_stay old p (take i pairs) c.loop-pair.invariant.listed in
    let here : place_of_pair new p ≡ c.in_ok-number_of.field-0 =
    ap (λ l. place_of_pair l p) is ∙ (own.0 ∙ sym c.in_ok-number_of.ensures.number) in
    let listed : All (λ q. is_listed new q ≡ true) (take i pairs) =
    All-weaker (λ q. is_listed old q ≡ true) (λ q. is_listed new q ≡ true) (λ q found. ap (λ l. is_listed l q) is ∙ with_pair-listed old p q found) (take i pairs) c.loop-pair.invariant.listed in
    record {
      list = is ∙ (ap (λ l. with_pair l p) c.loop-pair.invariant.list ∙ sym (fold_more with_pair [] pairs i (0, 0) c.loop-pair-test.true));
      sites =
          c.in_ok-push.ensures.items
          ∙ (ap (λ l. l ++ c.in_ok-number_of.field-0 ∷ []) (c.loop-pair.invariant.sites ∙ sym stay)
          ∙ (ap (λ n. map (place_of_pair new) (take i pairs) ++ n ∷ []) (sym here)
          ∙ (sym (map_push (place_of_pair new) (take i pairs) p) ∙ ap (map (place_of_pair new)) (sym seen))));
      listed = subst (λ l. All (λ q. is_listed new q ≡ true) l) (sym seen) (All-push (λ q. is_listed new q ≡ true) (take i pairs) p listed (ap (λ l. is_listed l p) is ∙ own.1));
      few = omega (arith, c.in_ok-number_of.ensures.one_more, c.loop-pair.invariant.few);
    }

pub returns : goal.returns
returns c =
    let pairs = c.args.pairs.now in
    let i = c.loop-pair.pair-index in
    let all : take i pairs ≡ pairs = take_all i pairs c.loop-pair-test.false in
    let list : c.loop-pair.list.items ≡ tokens_of pairs = c.loop-pair.invariant.list ∙ ap tokens_of all in
    record {
      tokens = list;
      sites = c.loop-pair.invariant.sites ∙ (ap (λ l. map (place_of_pair l) (take i pairs)) list ∙ ap (map (place_of_pair (tokens_of pairs))) all);
    }
