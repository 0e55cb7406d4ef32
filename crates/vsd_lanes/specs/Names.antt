-- The names in a lane's operations, and which of them are known where.
use Rattle.std.specs.Prelude.{ℕ, if◌then◌else◌, List, position, Option, Some, None, Result, Ok, Err}
use Rattle.std.specs.Str.{bytes_eq}
use Rattle.vsd_ast.specs.declared.scripts.Var.{Var}
use Rattle.vsd_ast.specs.declared.scripts.Var.TheVariants.{Host, Own}
use Rattle.vsd_grammar.specs.declared.cause.Cause.{Cause}
use Rattle.vsd_grammar.specs.declared.cause.Cause.TheVariants.{UnknownName, Twice, NotConcrete}
use Rattle.vsd_grammar.specs.Input.{Lookahead}
use Rattle.vsd_grammar.specs.Grammar.{G, ret, refuse, lookahead, bind}
use Rattle.vsd_grammar.specs.Productions.{spelled_name, then_pass, checked}
use Rattle.vsd_lanes.specs.declared.tree.Running.{Running}
use Rattle.vsd_lanes.specs.declared.reading.Reading.{Reading}
use Rattle.vsd_lanes.specs.declared.reading.Fresh.{Fresh}
use Rattle.vsd_lanes.specs.declared.reading.Own.{Own as OwnName}
use Rattle.vsd_lanes.specs.declared.reading.Object.{Object}
use Rattle.vsd_lanes.specs.declared.reading.Role.{Role}
use Rattle.vsd_lanes.specs.declared.reading.Role.TheVariants as role
use Rattle.vsd_lanes.specs.Variables.{number_in, added}
use Rattle.vsd_lanes.specs.Meaning.{begins, fresh, known, castable, callable}
use Rattle.vsd_lanes.specs.Setting.{Setting, site_number, host_number, is_concrete_host}

-- no refusal, or one of the token at hand
abbrev pub shows : Option Cause → G (Unit {0})
shows None = ret (Unit {0}) tt
shows (Some cause) = refuse (Unit {0}) cause

-- the index of the word of an operation
unfoldable pub begun : Setting → Reading → G ℕ
begun e s = bind Lookahead ℕ lookahead (λ h. bind (Unit {0}) ℕ (shows (begins e.room s.running)) (λ _. then_pass ℕ h.index))

-- ---- a variable that is loaded

-- hosts and variables share their names
abbrev pub fresh_cause_by : Option ℕ → Option Cause → Option Cause
fresh_cause_by (Some host) cause = Some Twice
fresh_cause_by None cause = cause

abbrev pub fresh_cause : Setting → Reading → List ℕ → Option Cause
fresh_cause e s name = fresh_cause_by (host_number e.hosts name) (fresh s.running.live (number_in s.variables name))

abbrev pub fresh_of : Reading → ℕ → List ℕ → Fresh
fresh_of s at name = record { lane = record s { variables = added s.variables name }; at = at; variable = number_in s.variables name }

unfoldable pub fresh_name : Setting → Reading → G Fresh
fresh_name e s = bind Lookahead Fresh lookahead (λ h. bind (List ℕ) Fresh spelled_name (λ name.
    bind (Unit {0}) Fresh (shows (fresh_cause e s name)) (λ _. then_pass Fresh (fresh_of s h.index name))))

-- ---- a variable that is named

abbrev pub if_none : {A : Type 0} → A → Option Cause → Result A Cause
if_none a None = Ok a
if_none a (Some cause) = Err cause

abbrev pub own_by : Running → Option ℕ → Option ℕ → Result ℕ Cause
own_by s (Some host) variable = Err UnknownName
own_by s None None = Err UnknownName
own_by s None (Some variable) = if_none variable (known s.live variable)

abbrev pub own_of : Setting → Reading → List ℕ → Result ℕ Cause
own_of e s name = own_by s.running (host_number e.hosts name) (position (bytes_eq name) s.variables)

unfoldable pub own_name : Setting → Reading → G OwnName
own_name e s = bind Lookahead OwnName lookahead (λ h. bind (List ℕ) OwnName spelled_name (λ name.
    bind ℕ OwnName (checked ℕ (own_of e s name)) (λ variable. then_pass OwnName (record { at = h.index; variable = variable }))))

-- ---- an object that is named

-- a name is that of a host, or of a variable of this lane
abbrev pub meant_by : Option ℕ → Option ℕ → Option Var
meant_by (Some host) variable = Some (Host host)
meant_by None (Some variable) = Some (Own variable)
meant_by None None = None

abbrev pub meant : Setting → Reading → List ℕ → Option Var
meant e s name = meant_by (host_number e.hosts name) (position (bytes_eq name) s.variables)

abbrev pub host_cause : Setting → Reading → Role → ℕ → Option Cause
host_cause e s role.Cast host = None
host_cause e s role.Call host = if is_concrete_host e s.roots host then None else Some NotConcrete

abbrev pub live_cause : Running → Role → Var → Option Cause
live_cause s role.Cast object = castable s.live object
live_cause s role.Call object = callable s.live object

abbrev pub object_cause : Setting → Reading → Role → Var → Option Cause
object_cause e s r (Host host) = host_cause e s r host
object_cause e s r (Own variable) = live_cause s.running r (Own variable)

abbrev pub object_by : Setting → Reading → Role → Option Var → Result Var Cause
object_by e s r None = Err UnknownName
object_by e s r (Some object) = if_none object (object_cause e s r object)

abbrev pub object_of : Setting → Reading → Role → List ℕ → Result Var Cause
object_of e s r name = object_by e s r (meant e s name)

unfoldable pub object_name : Setting → Reading → Role → G Object
object_name e s r = bind Lookahead Object lookahead (λ h. bind (List ℕ) Object spelled_name (λ name.
    bind Var Object (checked Var (object_of e s r name)) (λ object. then_pass Object (record { at = h.index; object = object }))))

-- ---- a site that is named

abbrev pub found : Option ℕ → Result ℕ Cause
found None = Err UnknownName
found (Some n) = Ok n

unfoldable pub site_name : Setting → G ℕ
site_name e = bind (List ℕ) ℕ spelled_name (λ name. bind ℕ ℕ (checked ℕ (found (site_number e.sites name))) (λ site. then_pass ℕ site))
