-- Why no answers come: the refusal of a stage, unless it is want of memory.
use Rattle.vsd_text.specs.declared.tokens.LexError.{LexError}
use Rattle.vsd_text.specs.declared.tokens.LexError.TheVariants as lex
use Rattle.vsd_decls.specs.declared.errors.DeclError.{DeclError}
use Rattle.vsd_decls.specs.declared.errors.DeclError.TheVariants as decl
use Rattle.vsd_check.specs.declared.refusal.CheckError.{CheckError}
use Rattle.vsd_check.specs.declared.refusal.CheckError.TheVariants as check
use Rattle.vsd_script.specs.declared.error.ScriptError.{ScriptError}
use Rattle.vsd_script.specs.declared.error.ScriptError.TheVariants as script
use Rattle.vsd_types.specs.declared.error.CloseError.{CloseError}
use Rattle.vsd_types.specs.declared.error.CloseError.TheVariants as close
use Rattle.vsd_itable.specs.declared.error.BuildError.{BuildError}
use Rattle.vsd_itable.specs.declared.error.BuildError.TheVariants as build
use Rattle.vsd_refusals.specs.declared.refusal.Refusal.TheVariants as refusal
use Rattle.vsd_stages.specs.declared.stopping.Stopped.{Stopped}
use Rattle.vsd_stages.specs.declared.stopping.Stopped.TheVariants.{Refused, Memory}

abbrev pub stopped_lex : LexError → Stopped
stopped_lex lex.Memory = Memory
stopped_lex error = Refused (refusal.Lex error)

abbrev pub stopped_decl : DeclError → Stopped
stopped_decl decl.Memory = Memory
stopped_decl error = Refused (refusal.Decl error)

abbrev pub stopped_check : CheckError → Stopped
stopped_check check.Memory = Memory
stopped_check error = Refused (refusal.Check error)

abbrev pub stopped_script : ScriptError → Stopped
stopped_script script.Memory = Memory
stopped_script error = Refused (refusal.Script error)

abbrev pub stopped_close : CloseError → Stopped
stopped_close close.Memory = Memory
stopped_close error = Refused (refusal.Close error)

abbrev pub stopped_build : BuildError → Stopped
stopped_build build.Memory = Memory
stopped_build error = Refused (refusal.Build error)
