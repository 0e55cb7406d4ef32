-- What a token at a type's place begins, and what a token after a type shows.
use Rattle.std.specs.Prelude.{ℕ, Bool, true, false, if◌then◌else◌, ◌==◌, List, Option, Some, None, codes}
use Rattle.std.specs.Str.{bytes_eq}
use Rattle.vsd_terms.specs.declared.term.Builtin.{Builtin}
use Rattle.vsd_terms.specs.declared.term.Builtin.TheVariants as builtin
use Rattle.vsd_grammar.specs.declared.keyword.Keyword.{Keyword}
use Rattle.vsd_grammar.specs.declared.keyword.Keyword.TheVariants as key
use Rattle.vsd_grammar.specs.declared.token_class.TokenClass.{TokenClass}
use Rattle.vsd_grammar.specs.declared.token_class.TokenClass.TheVariants as class
use Rattle.vsd_grammar.specs.declared.cause.Cause.TheVariants.{Unexpected, Unsupported}
use Rattle.vsd_grammar.specs.declared.cause.Form.{Form}
use Rattle.vsd_grammar.specs.declared.cause.Form.TheVariants as form
use Rattle.vsd_type_syntax.specs.declared.starts.Start.{Start}
use Rattle.vsd_type_syntax.specs.declared.starts.Start.TheVariants as start
use Rattle.vsd_type_syntax.specs.declared.starts.Special.{Special}
use Rattle.vsd_type_syntax.specs.declared.starts.Special.TheVariants as special

-- what a word begins
abbrev pub word_start : Keyword → Start
word_start key.Class = start.Keyworded
word_start key.ValueType = start.Keyworded
word_start key.Object = start.Builtin builtin.Object
word_start key.String = start.Builtin builtin.String
word_start key.Bool = start.Builtin builtin.Bool
word_start key.Char = start.Builtin builtin.Char
word_start key.Int8 = start.Builtin builtin.Int8
word_start key.Int16 = start.Builtin builtin.Int16
word_start key.Int32 = start.Builtin builtin.Int32
word_start key.Int64 = start.Builtin builtin.Int64
word_start key.Uint8 = start.Builtin builtin.Uint8
word_start key.Uint16 = start.Builtin builtin.Uint16
word_start key.Uint32 = start.Builtin builtin.Uint32
word_start key.Uint64 = start.Builtin builtin.Uint64
word_start key.Float32 = start.Builtin builtin.Float32
word_start key.Float64 = start.Builtin builtin.Float64
word_start key.Unsigned = start.Unsigned
word_start key.Native = start.Refused (Unsupported form.NativeInt)
word_start key.TypedReference = start.Refused (Unsupported form.TypedReference)
word_start key.Method = start.Refused (Unsupported form.Pointer)
word_start _ = start.Name

abbrev pub symbol_start : ℕ → Start
symbol_start b = if b == 33 then start.Parameter else (if b == 91 then start.Scope else start.Refused Unexpected)

abbrev pub start_of : TokenClass → Start
start_of (class.Word k) = word_start k
start_of class.Quoted = start.Name
start_of (class.Symbol b) = symbol_start b
start_of _ = start.Refused Unexpected

-- a built-in that may stand where a named type has to
abbrev pub is_class : Builtin → Bool
is_class builtin.Object = true
is_class builtin.String = true
is_class builtin.ValueType = true
is_class _ = false

-- what begins there where only a named type, `object`, `string` or `System.ValueType` may stand
abbrev pub named_start : Start → Start
named_start start.Parameter = start.Refused Unexpected
named_start start.Unsigned = start.Refused Unexpected
named_start (start.Builtin b) = if is_class b then start.Builtin b else start.Refused Unexpected
named_start s = s

abbrev pub start_at : Bool → TokenClass → Start
start_at named q = if named then named_start (start_of q) else start_of q

-- the type that `unsigned` and this word name
abbrev pub unsigned_of : TokenClass → Option Builtin
unsigned_of (class.Word key.Int8) = Some builtin.Uint8
unsigned_of (class.Word key.Int16) = Some builtin.Uint16
unsigned_of (class.Word key.Int32) = Some builtin.Uint32
unsigned_of (class.Word key.Int64) = Some builtin.Uint64
unsigned_of _ = None

-- the names that have a meaning of their own, with a scope or without
unfoldable pub special_of : List ℕ → Special
special_of name =
    if bytes_eq name (codes "System.Object") then special.Builtin builtin.Object
    else (if bytes_eq name (codes "System.String") then special.Builtin builtin.String
    else (if bytes_eq name (codes "System.ValueType") then special.Builtin builtin.ValueType
    else (if bytes_eq name (codes "System.Enum") then special.Refused form.Enum
    else (if bytes_eq name (codes "System.MulticastDelegate") then special.Refused form.Delegate
    else (if bytes_eq name (codes "System.Delegate") then special.Refused form.Delegate
    else special.Nothing)))))

-- the form that a token after a type shows
abbrev pub symbol_suffix : ℕ → Option Form
symbol_suffix b = if b == 91 then Some form.Array else (if b == 38 then Some form.Pointer else (if b == 42 then Some form.Pointer else None))

abbrev pub suffix_of : TokenClass → Option Form
suffix_of (class.Symbol b) = symbol_suffix b
suffix_of (class.Word key.ModifierRequired) = Some form.Modifier
suffix_of (class.Word key.ModifierOptional) = Some form.Modifier
suffix_of (class.Word key.Marshal) = Some form.Marshal
suffix_of _ = None
