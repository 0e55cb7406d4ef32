use Rattle.std.proofs.Common.{◌≡◌, true, inl, inr, sym, subst}
use Rattle.vsd_text.specs.Bytes.{is_of_class}
use Rattle.vsd_text.proofs.Classes.{letter_runs, digit_runs, no_run_by_class}
use Rattle.vsd_text.proofs.bytes.RunByteByteTest.passes.Goals as goal

pub returns-in-Letter : goal.returns-in-Letter
unfolding is_of_class
returns-in-Letter c =
    elim c.in-Letter.is [
      | inl letter ↦ sym (letter_runs c.args.byte (subst (λ class. is_of_class class c.args.byte ≡ true) letter c.class_of.ensures))
      | inr digit ↦ sym (digit_runs c.args.byte (subst (λ class. is_of_class class c.args.byte ≡ true) digit c.class_of.ensures))
    ]

pub returns-in_default : goal.returns-in_default
returns-in_default c =
    sym (no_run_by_class c.class_of.result c.args.byte c.class_of.ensures c.in_default.not-Letter c.in_default.not-Digit)
