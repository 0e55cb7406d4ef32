use Rattle.std.proofs.Common.{true, get_or, refl, arith}
use Rattle.std.proofs.lemmas.Bool.{agree_below_at}
use Rattle.vsd_text.specs.declared.bytes.ByteClass.TheVariants.{Letter}
use Rattle.vsd_text.specs.declared.bytes.TheConstants.{CLASSES}
use Rattle.vsd_text.specs.Bytes.{is_of_class, is_separator, is_line_feed, is_digit, is_letter, is_run_byte, is_printable, is_twin, is_opening}
use Rattle.vsd_text.proofs.bytes.class_of.Goals as goal

-- each byte is of its class in the table
pub returns : goal.returns
unfolding is_of_class is_separator is_line_feed is_digit is_letter is_run_byte is_printable is_twin is_opening
returns c = agree_below_at (λ b. is_of_class (get_or CLASSES b Letter) b) (λ _. true) 256 c.args.byte refl (omega arith)
