-- The productions of a script, each of which gives the script after it.
use Rattle.std.specs.Prelude.{ℕ, ◌-◌, nat_lt, Bool, true, false, if◌then◌else◌, List, [], ◌∷◌, ◌++◌, length, Option, Some, None, Result, Ok, Err}
use Rattle.vsd_terms.specs.declared.term.Term.{Term}
use Rattle.vsd_ast.specs.declared.declarations.Decl.{Decl}
use Rattle.vsd_ast.specs.declared.declarations.Decls.{Decls}
use Rattle.vsd_ast.specs.declared.scripts.Host.{Host}
use Rattle.vsd_ast.specs.declared.scripts.Lane.{Lane}
use Rattle.vsd_ast.specs.declared.scripts.Script.{Script}
use Rattle.vsd_ast.specs.declared.scripts.Site.{Site}
use Rattle.vsd_grammar.specs.declared.token_class.TokenClass.{TokenClass}
use Rattle.vsd_grammar.specs.declared.token_class.TokenClass.TheVariants as class
use Rattle.vsd_grammar.specs.declared.keyword.Keyword.TheVariants as key
use Rattle.vsd_grammar.specs.declared.cause.Cause.{Cause}
use Rattle.vsd_grammar.specs.declared.cause.Cause.TheVariants.{Unexpected, Twice, TooManyListed, UnknownMethod}
use Rattle.vsd_grammar.specs.declared.cause.Listed.{Listed}
use Rattle.vsd_grammar.specs.declared.cause.Listed.TheVariants as listed
use Rattle.vsd_grammar.specs.Input.{Lookahead, is_end}
use Rattle.vsd_grammar.specs.Grammar.{G, ret, refuse, lookahead, pass, bind, until}
use Rattle.vsd_grammar.specs.Productions.{expect, eat, spelled_name, spelled_number, then_pass, checked}
use Rattle.vsd_type_syntax.specs.Types.{written, written_open}
use Rattle.vsd_lanes.specs.declared.repeats.Body.{Body}
use Rattle.vsd_lanes.specs.Types.{rules_of}
use Rattle.vsd_lanes.specs.Setting.{setting, site_in, host_in}
use Rattle.vsd_lanes.specs.Names.{shows}
use Rattle.vsd_lanes.specs.Productions.{assigned, equals, semicolon, lane}
use Rattle.vsd_script.specs.declared.term.ReadTerm.{ReadTerm}
use Rattle.vsd_script.specs.declared.script.Word.{Word}
use Rattle.vsd_script.specs.declared.script.Word.TheVariants as word
use Rattle.vsd_script.specs.Methods.{slot_of}

-- fewer than the most
abbrev pub few : ℕ → ℕ → Listed → Option Cause
few count most what = if nat_lt count most then None else Some (TooManyListed what)

-- the word of a statement of which there may be so many
unfoldable pub begun : ℕ → ℕ → Listed → G (Unit {0})
begun count most what = bind (Unit {0}) (Unit {0}) (shows (few count most what)) (λ _. pass)

-- a name that is there already
abbrev pub taken : Option ℕ → Option Cause
taken (Some place) = Some Twice
taken None = None

unfoldable pub site_name : List Site → G (List ℕ)
site_name sites = bind (List ℕ) (List ℕ) spelled_name (λ name. bind (Unit {0}) (List ℕ) (shows (taken (site_in sites name))) (λ _. then_pass (List ℕ) name))

unfoldable pub host_name : List Host → G (List ℕ)
host_name hosts = bind (List ℕ) (List ℕ) spelled_name (λ name. bind (Unit {0}) (List ℕ) (shows (taken (host_in hosts name))) (λ _. then_pass (List ℕ) name))

-- ---- which method

abbrev pub a_method : Option ℕ → Result ℕ Cause
a_method None = Err UnknownMethod
a_method (Some slot) = Ok slot

-- a name of a method that the term's interface has
unfoldable pub method_name : List Decl → Term → G (List ℕ)
method_name ds t = bind (List ℕ) (List ℕ) spelled_name (λ name. bind ℕ (List ℕ) (checked ℕ (a_method (slot_of ds t name 1))) (λ _. then_pass (List ℕ) name))

-- a Number from 1 to 256, in at most six digits: which of the methods of this name
unfoldable pub counted_slot : List Decl → Term → List ℕ → G ℕ
counted_slot ds t name = bind ℕ ℕ (spelled_number 1 256 6) (λ n. bind ℕ ℕ (checked ℕ (a_method (slot_of ds t name n))) (λ slot. then_pass ℕ slot))

abbrev pub slot_if : List Decl → Term → List ℕ → Bool → G ℕ
slot_if ds t name true = counted_slot ds t name
slot_if ds t name false = checked ℕ (a_method (slot_of ds t name 1))

-- name [ "#" Number ]
unfoldable pub slot : List Decl → Term → G ℕ
slot ds t = bind (List ℕ) ℕ (method_name ds t) (λ name. bind Bool ℕ (eat (class.Symbol 35)) (slot_if ds t name))

-- ---- statements

abbrev pub with_site : Script → List ℕ → Term → ℕ → Script
with_site s name t slot = record s { roots = s.roots ++ t ∷ []; sites = s.sites ++ record { name = name; root = length s.roots; slot = slot } ∷ [] }

-- "site" name "=" term "::" name [ "#" Number ] ";"
unfoldable pub site : Decls → Script → G Script
site d s = bind (Unit {0}) Script (begun (length s.sites) 256 listed.Sites) (λ _. bind (List ℕ) Script (site_name s.sites) (λ name.
    bind (Unit {0}) Script (expect equals) (λ _. bind Term Script (written (rules_of d) false) (λ t. bind (Unit {0}) Script (expect class.Colons) (λ _.
    bind ℕ Script (slot d.list t) (λ n. bind (Unit {0}) Script (expect semicolon) (λ _. ret Script (with_site s name t n))))))))

abbrev pub with_host : Script → List ℕ → Term → Script
with_host s name t = record s { roots = s.roots ++ t ∷ []; hosts = s.hosts ++ record { name = name; root = length s.roots } ∷ [] }

-- "host" name "=" term ";"
unfoldable pub host : Decls → Script → G Script
host d s = bind (Unit {0}) Script (begun (length s.hosts) 256 listed.Hosts) (λ _. bind (List ℕ) Script (host_name s.hosts) (λ name.
    bind Term Script (assigned d) (λ t. ret Script (with_host s name t))))

-- for how many operations there is room after these lanes
abbrev pub room_after : ℕ → List Lane → ℕ
room_after room [] = room
room_after room (l ∷ ls) = room_after (room - length l.ops) ls

-- the most operations of all lanes
abbrev pub most_operations : ℕ
most_operations = 200000

abbrev pub with_lane : List Site → List Host → List Lane → Body → Script
with_lane sites hosts lanes b = record {
  roots = b.lane.roots;
  sites = sites;
  hosts = hosts;
  lanes = lanes ++ record { names = b.lane.variables; ops = b.lane.running.ops } ∷ [];
}

-- a lane among these sites and hosts, after these lanes
abbrev pub lane_in : Decls → List Site → List Host → List Lane → List Term → G Body
lane_in d sites hosts lanes roots = lane (setting d sites hosts (room_after most_operations lanes)) roots

-- "lane" "{" { op } "}"
unfoldable pub lane_of : Decls → Script → G Script
lane_of d s = bind (Unit {0}) Script (shows (few (length s.lanes) 64 listed.Lanes)) (λ _.
    bind Body Script (lane_in d s.sites s.hosts s.lanes s.roots) (λ b. ret Script (with_lane s.sites s.hosts s.lanes b)))

-- ---- the whole

abbrev pub word_of : TokenClass → Option Word
word_of (class.Word key.Site) = Some word.Site
word_of (class.Word key.Host) = Some word.Host
word_of (class.Word key.Lane) = Some word.Lane
word_of _ = None

abbrev pub statement_by : Decls → Script → Option Word → G Script
statement_by d s None = refuse Script Unexpected
statement_by d s (Some word.Site) = site d s
statement_by d s (Some word.Host) = host d s
statement_by d s (Some word.Lane) = lane_of d s

unfoldable pub statement : Decls → Script → G Script
statement d s = bind Lookahead Script lookahead (λ h. statement_by d s (word_of h.class))

abbrev pub empty : Script
empty = record { roots = []; sites = []; hosts = []; lanes = [] }

-- { site | host | lane } up to the end
unfoldable pub script : Decls → G Script
script d = until Script (λ q s. is_end q) (statement d) empty

-- one term, which a `[` may follow, and the index of the token after it
unfoldable pub term_at : Decls → G ReadTerm
term_at d = bind Term ReadTerm (written_open (rules_of d)) (λ t. bind Lookahead ReadTerm lookahead (λ h. ret ReadTerm (record { term = t; next = h.index })))
