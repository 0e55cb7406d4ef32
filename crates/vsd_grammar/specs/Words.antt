-- The words of the grammar and of the forms that it refuses, and the key of a Word token.
use Rattle.std.specs.Prelude.{◌≡◌, ◌==◌, ℕ, ◌+◌, ◌-◌, ◌*◌, ◌%◌, length, slice_index, Bool, false, if◌then◌else◌, List, [], ◌∷◌, map, codes, Option, Some, None}
use Rattle.std.specs.Str.{bytes_eq}
use Rattle.vsd_grammar.specs.declared.keyword.Keyword.{Keyword}
use Rattle.vsd_grammar.specs.declared.keyword.Keyword.TheVariants as key

-- each word with its key
unfoldable pub words : List (List ℕ × Keyword)
words =
    (codes ".class", key.DotClass) ∷
    (codes ".assembly", key.DotAssembly) ∷
    (codes ".module", key.DotModule) ∷
    (codes ".imagebase", key.DotImageBase) ∷
    (codes ".file", key.DotFile) ∷
    (codes ".stackreserve", key.DotStackReserve) ∷
    (codes ".subsystem", key.DotSubsystem) ∷
    (codes ".corflags", key.DotCorFlags) ∷
    (codes ".custom", key.DotCustom) ∷
    (codes ".field", key.DotField) ∷
    (codes ".method", key.DotMethod) ∷
    (codes ".data", key.DotData) ∷
    (codes ".mresource", key.DotManifestResource) ∷
    (codes ".permissionset", key.DotPermissionSet) ∷
    (codes ".language", key.DotLanguage) ∷
    (codes ".line", key.DotLine) ∷
    (codes ".vtfixup", key.DotVtableFixup) ∷
    (codes ".property", key.DotProperty) ∷
    (codes ".event", key.DotEvent) ∷
    (codes ".pack", key.DotPack) ∷
    (codes ".size", key.DotSize) ∷
    (codes ".param", key.DotParam) ∷
    (codes ".interfaceimpl", key.DotInterfaceImpl) ∷
    (codes ".namespace", key.DotNamespace) ∷
    (codes ".override", key.DotOverride) ∷
    (codes ".ctor", key.DotConstructor) ∷
    (codes ".cctor", key.DotClassConstructor) ∷
    (codes "...", key.Ellipsis) ∷
    (codes "vsd", key.Vsd) ∷
    (codes "extern", key.Extern) ∷
    (codes "nested", key.Nested) ∷
    (codes "public", key.Public) ∷
    (codes "private", key.Private) ∷
    (codes "abstract", key.Abstract) ∷
    (codes "sealed", key.Sealed) ∷
    (codes "interface", key.Interface) ∷
    (codes "auto", key.Auto) ∷
    (codes "sequential", key.Sequential) ∷
    (codes "explicit", key.Explicit) ∷
    (codes "ansi", key.Ansi) ∷
    (codes "unicode", key.Unicode) ∷
    (codes "autochar", key.AutoChar) ∷
    (codes "beforefieldinit", key.BeforeFieldInit) ∷
    (codes "serializable", key.Serializable) ∷
    (codes "specialname", key.SpecialName) ∷
    (codes "rtspecialname", key.RuntimeSpecialName) ∷
    (codes "import", key.Import) ∷
    (codes "extends", key.Extends) ∷
    (codes "implements", key.Implements) ∷
    (codes "family", key.Family) ∷
    (codes "assembly", key.Assembly) ∷
    (codes "famorassem", key.FamilyOrAssembly) ∷
    (codes "famandassem", key.FamilyAndAssembly) ∷
    (codes "privatescope", key.PrivateScope) ∷
    (codes "static", key.Static) ∷
    (codes "final", key.Final) ∷
    (codes "virtual", key.Virtual) ∷
    (codes "strict", key.Strict) ∷
    (codes "hidebysig", key.HideBySignature) ∷
    (codes "newslot", key.NewSlot) ∷
    (codes "reqsecobj", key.RequireSecurityObject) ∷
    (codes "instance", key.Instance) ∷
    (codes "default", key.Default) ∷
    (codes "void", key.Void) ∷
    (codes "vararg", key.Vararg) ∷
    (codes "in", key.In) ∷
    (codes "out", key.Out) ∷
    (codes "opt", key.Optional) ∷
    (codes "class", key.Class) ∷
    (codes "valuetype", key.ValueType) ∷
    (codes "object", key.Object) ∷
    (codes "string", key.String) ∷
    (codes "bool", key.Bool) ∷
    (codes "char", key.Char) ∷
    (codes "unsigned", key.Unsigned) ∷
    (codes "int8", key.Int8) ∷
    (codes "int16", key.Int16) ∷
    (codes "int32", key.Int32) ∷
    (codes "int64", key.Int64) ∷
    (codes "uint8", key.Uint8) ∷
    (codes "uint16", key.Uint16) ∷
    (codes "uint32", key.Uint32) ∷
    (codes "uint64", key.Uint64) ∷
    (codes "float32", key.Float32) ∷
    (codes "float64", key.Float64) ∷
    (codes "method", key.Method) ∷
    (codes "native", key.Native) ∷
    (codes "typedref", key.TypedReference) ∷
    (codes "modreq", key.ModifierRequired) ∷
    (codes "modopt", key.ModifierOptional) ∷
    (codes "marshal", key.Marshal) ∷
    (codes "with", key.With) ∷
    (codes "site", key.Site) ∷
    (codes "host", key.Host) ∷
    (codes "lane", key.Lane) ∷
    (codes "load", key.Load) ∷
    (codes "unload", key.Unload) ∷
    (codes "call", key.Call) ∷
    (codes "cast", key.Cast) ∷
    (codes "repeat", key.Repeat) ∷
    []

-- the key of a word in a table, and Other where the table has it not
abbrev pub lookup : List (List ℕ × Keyword) → List ℕ → Keyword
lookup [] word = key.Other
lookup (w ∷ ws) word = if bytes_eq w.0 word then w.1 else lookup ws word

-- the key of an entry of the table, if it is there and is this word
abbrev pub key_by : Option (List ℕ × Keyword) → List ℕ → Keyword
key_by None word = key.Other
key_by (Some w) word = if bytes_eq w.0 word then w.1 else key.Other

-- the slot that a word would have in a table without collisions
unfoldable pub slot_of : List ℕ → ℕ
slot_of word = (101 * length word + 424 * slice_index word 0 + 191 * slice_index word 1 + 190 * slice_index word (length word - 1)) % 512

-- the key of a Word
unfoldable pub keyword_of : List ℕ → Keyword
keyword_of word = lookup words word

-- each word has its key
abbrev pub WordsHaveKeys : Type 0
WordsHaveKeys = map (λ w. keyword_of w.0) words ≡ map (λ w. w.1) words

-- words that differ have keys that differ, unless the grammar has neither
abbrev pub KeysAreOwn : Type 0
KeysAreOwn = (a b : List ℕ) → keyword_of a ≡ keyword_of b → (keyword_of a ≡ key.Other → ⊥) → a ≡ b

abbrev pub begins_with_point : List ℕ → Bool
begins_with_point [] = false
begins_with_point (b ∷ bs) = b == 46
