use Rattle.std.proofs.Common.{◌≡◌, ℕ, List, length, take, Option, Some, ap, inl, inr, subst, ⊎_elim, arith}
use Rattle.vsd_runner.specs.Outcomes.{Interrupted, read_limit, text_read}
use Rattle.vsd_runner.proofs.Runs.{unless_fault}
use Rattle.vsd_runner.proofs.in_memory.run_in_memory.Goals as goal

same_known : (xs ys : List ℕ) → Some xs ≡ Some ys → xs ≡ ys
same_known xs ys same = cc

-- the text is what the source held
handed : (words : List (List ℕ)) (xs ys : List ℕ) (left old new : Option (List ℕ)) → xs ≡ ys → Interrupted words (Some xs) left old new
    → (rest : Option (List ℕ)) × Interrupted words (Some ys) rest old new
handed words xs ys left old new is part = (left, subst (λ bytes. Interrupted words (Some bytes) left old new) is part)

pub returns : goal.returns
returns c = record {
  complete = λ status bytes defined none fits.
      let told : text_read (Some c.new.result) ≡ Some (take read_limit c.args.text.items) = ap (λ text. Some (take read_limit text)) c.new.ensures.whole in
      let ended = c.run.ensures.as_defined _ status bytes told defined in
      let no_read = c.run.ensures.sure_source c.new.ensures.sure in
      let no_write = c.run.ensures.sure_sink _ status bytes (length bytes) told defined (none, fits) (omega arith) in
      ⊎_elim (λ (same, taken). inl (same, same_known _ _ taken)) (λ out. inr out) (unless_fault (Some c.args.sink.now.taken) (Some c.run.new.sink.taken) status bytes _ ended no_read no_write);
  no_read_fault = c.run.ensures.sure_source c.new.ensures.sure;
  write_fault = λ is. (c.run.ensures.write_fault is).0;
  bad_words = λ bad. (c.run.ensures.bad_words bad).0;
  memory = λ out.
      let told = (c.run.ensures.memory out).1 in
      ⊎_elim (λ same. inl same) (λ part. inr (handed _ _ _ _ _ _ c.new.ensures.whole part)) told;
}
