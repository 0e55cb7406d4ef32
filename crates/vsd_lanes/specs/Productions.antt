-- The productions of a lane, each of which gives the lane after it.
use Rattle.std.specs.Prelude.{ℕ, zero, suc, ◌-◌, Bool, List, [], ◌∷◌, ◌++◌, length, map, Option, Some, None, Result, Ok, Err}
use Rattle.vsd_terms.specs.declared.term.Term.{Term}
use Rattle.vsd_ast.specs.declared.declarations.Decls.{Decls}
use Rattle.vsd_grammar.specs.declared.token_class.TokenClass.{TokenClass}
use Rattle.vsd_grammar.specs.declared.token_class.TokenClass.TheVariants as class
use Rattle.vsd_grammar.specs.declared.keyword.Keyword.TheVariants as key
use Rattle.vsd_grammar.specs.declared.cause.Cause.TheVariants.{Unexpected, TooDeep}
use Rattle.vsd_grammar.specs.Input.{Lookahead, same_class}
use Rattle.vsd_grammar.specs.Grammar.{G, ret, refuse, refuse_at, lookahead, pass, bind, until}
use Rattle.vsd_grammar.specs.Productions.{expect, spelled_number, then_pass}
use Rattle.vsd_type_syntax.specs.Types.{written}
use Rattle.vsd_lanes.specs.declared.tree.Written.{Written}
use Rattle.vsd_lanes.specs.declared.tree.Written.TheVariants as kind
use Rattle.vsd_lanes.specs.declared.tree.Item.{Item}
use Rattle.vsd_lanes.specs.declared.tree.Item.TheVariants.{Once, Repeat}
use Rattle.vsd_lanes.specs.declared.tree.Running.{Running}
use Rattle.vsd_lanes.specs.declared.tree.Refusal.{Refusal}
use Rattle.vsd_lanes.specs.declared.reading.Reading.{Reading}
use Rattle.vsd_lanes.specs.declared.reading.Fresh.{Fresh}
use Rattle.vsd_lanes.specs.declared.reading.Own.{Own}
use Rattle.vsd_lanes.specs.declared.reading.Object.{Object}
use Rattle.vsd_lanes.specs.declared.reading.Role.TheVariants as role
use Rattle.vsd_lanes.specs.declared.repeats.Body.{Body}
use Rattle.vsd_lanes.specs.declared.repeats.Verb.{Verb}
use Rattle.vsd_lanes.specs.declared.repeats.Verb.TheVariants as verb
use Rattle.vsd_lanes.specs.Types.{rules_of, is_concrete}
use Rattle.vsd_lanes.specs.Setting.{Setting}
use Rattle.vsd_lanes.specs.Meaning.{does, makes, times_of, joined, written_of}
use Rattle.vsd_lanes.specs.Names.{begun, fresh_name, own_name, object_name, site_name}

abbrev pub equals : TokenClass
equals = class.Symbol 61

abbrev pub semicolon : TokenClass
semicolon = class.Symbol 59

abbrev pub opening : TokenClass
opening = class.Symbol 123

abbrev pub closing : TokenClass
closing = class.Symbol 125

-- the lane after an operation or a repeat, and that as it is written
abbrev pub Step : Type 0
Step = Reading × Item

-- ---- operations

-- "=" term ";"
unfoldable pub assigned : Decls → G Term
assigned d = bind (Unit {0}) Term (expect equals) (λ _. bind Term Term (written (rules_of d) Bool.false) (λ t. bind (Unit {0}) Term (expect semicolon) (λ _. ret Term t)))

abbrev pub performed : Reading → Written → Step
performed s w = (record s { running = does w s.running }, Once w)

abbrev pub with_root : Reading → Term → Reading
with_root s t = record s { roots = s.roots ++ t ∷ [] }

abbrev pub loaded : Setting → ℕ → Fresh → Term → Step
loaded e word f t = performed (with_root f.lane t) (kind.Load word f.at f.variable (length f.lane.roots) (is_concrete e.decls.list t))

-- "load" name "=" term ";"
unfoldable pub load : Setting → Reading → G Step
load e s = bind ℕ Step (begun e s) (λ word. bind Fresh Step (fresh_name e s) (λ f. bind Term Step (assigned e.decls) (λ t. ret Step (loaded e word f t))))

-- the operation, after a ";"
abbrev pub ended : Reading → Written → G Step
ended s w = bind (Unit {0}) Step (expect semicolon) (λ _. ret Step (performed s w))

-- "unload" name ";"
unfoldable pub unload : Setting → Reading → G Step
unload e s = bind ℕ Step (begun e s) (λ word. bind Own Step (own_name e s) (λ o. ended s (kind.Unload word o.at o.variable)))

-- "call" name name ";"
unfoldable pub call : Setting → Reading → G Step
call e s = bind ℕ Step (begun e s) (λ word. bind ℕ Step (site_name e) (λ site. bind Object Step (object_name e s role.Call) (λ o.
    ended s (kind.Call word site o.at o.object))))

-- "cast" name name ";"
unfoldable pub cast : Setting → Reading → G Step
cast e s = bind ℕ Step (begun e s) (λ word. bind Object Step (object_name e s role.Cast) (λ o. bind Object Step (object_name e s role.Cast) (λ p.
    ended s (kind.Cast word o.at o.object p.at p.object))))

-- ---- repeats

abbrev pub verb_of : TokenClass → Option Verb
verb_of (class.Word key.Load) = Some verb.Load
verb_of (class.Word key.Unload) = Some verb.Unload
verb_of (class.Word key.Call) = Some verb.Call
verb_of (class.Word key.Cast) = Some verb.Cast
verb_of (class.Word key.Repeat) = Some verb.Repeat
verb_of _ = None

-- a Number from 1 to 200,000, in at most six digits
unfoldable pub times : G ℕ
times = bind ℕ ℕ (spelled_number 1 200000 6) (λ n. then_pass ℕ n)

abbrev pub with_item : Body → Step → Body
with_item b p = record { lane = p.0; items = b.items ++ p.1 ∷ [] }

-- an operation or a repeat more
unfoldable pub one_more : (Reading → G Step) → Body → G Body
one_more op b = bind Step Body (op b.lane) (λ p. ret Body (with_item b p))

-- { op } up to a "}"
unfoldable pub more : (Reading → G Step) → Body → G Body
more op b = until Body (λ q c. same_class closing q) (one_more op) b

-- op { op } up to a "}"
unfoldable pub some : (Reading → G Step) → Reading → G Body
some op s = bind Body Body (one_more op (record { lane = s; items = [] })) (more op)

-- what so many rounds of the items do
abbrev pub again : ℕ → ℕ → List Item → Running → Result Running Refusal
again room n items s = makes room (times_of n (joined (map written_of items))) s

abbrev pub settled : Reading → Result Running Refusal → G Reading
settled s (Ok r) = ret Reading (record s { running = r })
settled s (Err r) = refuse_at Reading r.at r.cause

-- the rounds after the first, then "}"
unfoldable pub closed : Setting → ℕ → Body → G Step
closed e n b = bind Reading Step (settled b.lane (again e.room (n - 1) b.items b.lane.running)) (λ s.
    bind (Unit {0}) Step (expect closing) (λ _. ret Step (s, Repeat n b.items)))

-- "repeat" Number "{" op { op } "}"
unfoldable pub repeated : Setting → (Reading → G Step) → Reading → G Step
repeated e op s = bind (Unit {0}) Step pass (λ _. bind ℕ Step times (λ n. bind (Unit {0}) Step (expect opening) (λ _. bind Body Step (some op s) (closed e n))))

abbrev pub op_by : Setting → (Reading → G Step) → Reading → Option Verb → G Step
op_by e again s None = refuse Step Unexpected
op_by e again s (Some verb.Load) = load e s
op_by e again s (Some verb.Unload) = unload e s
op_by e again s (Some verb.Call) = call e s
op_by e again s (Some verb.Cast) = cast e s
op_by e again s (Some verb.Repeat) = again s

abbrev pub too_deep : Reading → G Step
too_deep s = refuse Step TooDeep

-- an operation, or a repeat that is read so
unfoldable pub op_with : Setting → (Reading → G Step) → Reading → G Step
op_with e again s = bind Lookahead Step lookahead (λ h. op_by e again s (verb_of h.class))

-- a repeat, where repeats may nest so deep
unfoldable pub deeper : Setting → ℕ → Reading → G Step
deeper e zero s = too_deep s
deeper e (suc room) s = repeated e (op_with e (deeper e room)) s

-- an operation or a repeat, where repeats may nest so deep
abbrev pub op : Setting → ℕ → Reading → G Step
op e room = op_with e (deeper e room)

-- ---- a lane

abbrev pub most_deep : ℕ
most_deep = 8

-- a lane without operations, after these roots
abbrev pub empty : List Term → Body
empty roots = record { lane = record { variables = []; roots = roots; running = record { live = []; ops = [] } }; items = [] }

-- "lane" "{" { op } "}"
unfoldable pub lane : Setting → List Term → G Body
lane e roots = bind (Unit {0}) Body pass (λ _. bind (Unit {0}) Body (expect opening) (λ _. bind Body Body (more (op e most_deep) (empty roots)) (λ b.
    bind (Unit {0}) Body (expect closing) (λ _. ret Body b))))
