-- The lines that are written for refused texts.
use Rattle.std.specs.Prelude.{ℕ, List, ◌++◌, codes, decimal, Option, Some, None}
use Rattle.vsd_text.specs.declared.tokens.LexError.{LexError}
use Rattle.vsd_text.specs.declared.tokens.LexError.TheVariants as lex
use Rattle.vsd_decls.specs.Texts.{form_text, counted_text}
use Rattle.vsd_decls.specs.declared.errors.DeclError.{DeclError}
use Rattle.vsd_decls.specs.declared.errors.DeclError.TheVariants as decl
use Rattle.vsd_check.specs.declared.refusal.CheckError.{CheckError}
use Rattle.vsd_check.specs.declared.refusal.CheckError.TheVariants as check
use Rattle.vsd_script.specs.Texts.{listed_text}
use Rattle.vsd_script.specs.declared.error.ScriptError.{ScriptError}
use Rattle.vsd_script.specs.declared.error.ScriptError.TheVariants as script
use Rattle.vsd_types.specs.declared.error.CloseError.{CloseError}
use Rattle.vsd_types.specs.declared.error.CloseError.TheVariants as close
use Rattle.vsd_itable.specs.declared.error.BuildError.{BuildError}
use Rattle.vsd_itable.specs.declared.error.BuildError.TheVariants as build
use Rattle.vsd_refusals.specs.declared.refusal.Refusal.{Refusal}
use Rattle.vsd_refusals.specs.declared.refusal.Refusal.TheVariants.{Lex, Decl, Check, Script, Close, Build}

-- a line of the text, or 0 where none is meant; the refusal's number; and what is wrong
abbrev pub refused : ℕ → ℕ → List ℕ → List ℕ
refused line number what =
    codes "refused " ++ decimal line ++ codes " " ++ decimal number ++ codes " " ++ what ++ codes "\n"

abbrev pub lex_line : LexError → Option (List ℕ)
lex_line (lex.BadByte line) = Some (refused line 1 (codes "bad byte"))
lex_line (lex.OpenComment line) = Some (refused line 2 (codes "open comment"))
lex_line (lex.OpenQuote line) = Some (refused line 3 (codes "open quote"))
lex_line lex.TooLong = Some (refused 0 4 (codes "too long"))
lex_line lex.Memory = None

abbrev pub decl_line : DeclError → Option (List ℕ)
decl_line (decl.Unexpected line) = Some (refused line 10 (codes "unexpected"))
decl_line (decl.Unsupported line what) = Some (refused line 11 (form_text what))
decl_line (decl.TooMany line what) = Some (refused line 12 (codes "too many " ++ counted_text what))
decl_line (decl.TooDeep line) = Some (refused line 13 (codes "too deep"))
decl_line decl.Memory = None

abbrev pub check_line : CheckError → Option (List ℕ)
check_line (check.Twice line) = Some (refused line 30 (codes "twice"))
check_line (check.UnknownType line) = Some (refused line 31 (codes "unknown type"))
check_line (check.Arity line) = Some (refused line 32 (codes "arity"))
check_line (check.Cycle line) = Some (refused line 33 (codes "cycle"))
check_line (check.BadBase line) = Some (refused line 34 (codes "bad base"))
check_line (check.BadInterface line) = Some (refused line 35 (codes "bad interface"))
check_line (check.VarianceMisplaced line) = Some (refused line 36 (codes "variance misplaced"))
check_line (check.VariantClass line) = Some (refused line 37 (codes "variant class"))
check_line (check.OverridesFinal line) = Some (refused line 38 (codes "overrides final"))
check_line (check.AbstractInConcrete line) = Some (refused line 39 (codes "abstract in concrete"))
check_line (check.OverrideUnknown line) = Some (refused line 40 (codes "override unknown"))
check_line (check.OverrideTwice line) = Some (refused line 41 (codes "override twice"))
check_line check.Memory = None

abbrev pub script_line : ScriptError → Option (List ℕ)
script_line (script.Unexpected line) = Some (refused line 20 (codes "unexpected"))
script_line (script.UnknownName line) = Some (refused line 21 (codes "unknown name"))
script_line (script.Twice line) = Some (refused line 22 (codes "twice"))
script_line (script.TooManyLive line) = Some (refused line 23 (codes "too many live"))
script_line (script.TooManyOps line) = Some (refused line 24 (codes "too many operations"))
script_line (script.TooMany line what) = Some (refused line 25 (codes "too many " ++ listed_text what))
script_line (script.NotConcrete line) = Some (refused line 26 (codes "not concrete"))
script_line (script.UnknownMethod line) = Some (refused line 27 (codes "unknown method"))
script_line (script.Arity line) = Some (refused line 28 (codes "arity"))
script_line (script.TooDeep line) = Some (refused line 29 (codes "too deep"))
script_line script.Memory = None

-- Types are closed over the whole text, so no line of it is meant.
abbrev pub close_line : CloseError → Option (List ℕ)
close_line close.TooManyTypes = Some (refused 0 50 (codes "too many types"))
close_line close.TooDeep = Some (refused 0 51 (codes "too deep"))
close_line close.Memory = None

-- what a class lacks: its closed type, and the slot by the closed interface
abbrev pub missing_text : List ℕ → List ℕ → List ℕ → List ℕ
missing_text class interface method = codes "missing " ++ class ++ codes " " ++ interface ++ codes "::" ++ method

abbrev pub build_line : BuildError → Option (List ℕ)
build_line (build.MissingImplementation line class interface method) = Some (refused line 60 (missing_text class interface method))
build_line (build.TooManySlots line) = Some (refused line 61 (codes "too many slots"))
build_line build.Memory = None

-- the line that is written for a refused text; want of memory has none
abbrev pub refusal_line : Refusal → Option (List ℕ)
refusal_line (Lex error) = lex_line error
refusal_line (Decl error) = decl_line error
refusal_line (Check error) = check_line error
refusal_line (Script error) = script_line error
refusal_line (Close error) = close_line error
refusal_line (Build error) = build_line error
