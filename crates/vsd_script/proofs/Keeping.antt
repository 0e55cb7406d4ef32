-- A script that is read keeps the limits, its numbers name what is there, and its terms are closed and lawful.
use Rattle.std.proofs.Common.{◌≡◌, ℕ, zero, suc, ◌+◌, ◌-◌, ◌<◌, ◌≤◌, Bool, true, false, cond, eqb, ltb, List, [], ◌∷◌, ◌++◌, length, take, map, All, Contains, Option, Some, None, Ok, refl, ap, sym, subst, ◌∙◌, length-append, arith}
use Rattle.std.specs.List.{slice_get, sum_by}
use Rattle.std.proofs.Math.ListN.{get_or-append}
use Rattle.std.proofs.lemmas.Bool.{ltb-true}
use Rattle.std.proofs.lemmas.List.{append-nil, length_push, map-append, take_all, take-append-le}
use Rattle.std.proofs.lemmas.List.Elements.{All-nil, All-head, All-tail, All-append, All-push, All-weaker}
use Rattle.std.proofs.lemmas.List.Sums.{sum_by-cons, sum_by-append}
use Rattle.std.proofs.lemmas.Option.{slice_get_within, slice_get-get_or, get_or_from_slice_get}
use Rattle.std.specs.Str.{bytes_eq}
use Rattle.vsd_terms.specs.declared.term.Term.{Term}
use Rattle.vsd_ast.specs.declared.declarations.Decl.{Decl}
use Rattle.vsd_ast.specs.declared.declarations.Decls.{Decls}
use Rattle.vsd_ast.specs.declared.declarations.Method.{Method}
use Rattle.vsd_ast.specs.declared.scripts.Host.{Host}
use Rattle.vsd_ast.specs.declared.scripts.Lane.{Lane}
use Rattle.vsd_ast.specs.declared.scripts.Op.{Op}
use Rattle.vsd_ast.specs.declared.scripts.Script.{Script}
use Rattle.vsd_ast.specs.declared.scripts.Site.{Site}
use Rattle.vsd_ast.specs.declared.scripts.Var.{Var}
use Rattle.vsd_ast.specs.declared.scripts.Var.TheVariants as var
use Rattle.vsd_ast.specs.Lookup.{Head, named, parameter, built_in, head_of, declared}
use Rattle.vsd_ast.specs.WellFormed.{IsName, IsDeclaration, AreWellFormed}
use Rattle.vsd_ast.specs.Scripts.{IsHost, IsLane, IsSite, IsWellFormedScript}
use Rattle.vsd_grammar.specs.declared.cause.Cause.{Cause}
use Rattle.vsd_grammar.specs.declared.cause.Cause.TheVariants.{TooManyListed}
use Rattle.vsd_grammar.specs.declared.cause.Listed.{Listed}
use Rattle.vsd_grammar.specs.declared.cause.Listed.TheVariants as listed
use Rattle.vsd_grammar.specs.Input.{Input, is_end}
use Rattle.vsd_grammar.specs.Grammar.{Derives, Turns}
use Rattle.vsd_grammar.specs.Productions.{checked}
use Rattle.vsd_lanes.specs.Setting.{setting, place_from}
use Rattle.vsd_lanes.specs.Types.{IsRoot}
use Rattle.vsd_lanes.proofs.AllowedLemmas.{lane_allowed, lane_fits}
use Rattle.vsd_lanes.proofs.Meant.{shows_none, checked_ok}
use Rattle.vsd_lanes.proofs.RangeLemmas.{spelled_is_name, assigned_root, lane_names, lane_adds, lane_apart, lane_no_hosts}
use Rattle.vsd_lanes.proofs.RootLemmas.{written_root}
use Rattle.vsd_lanes.specs.Naming.{AreApart, IsNoHost, host_names}
use Rattle.vsd_lanes.specs.Objects.{IsConcreteObject, CallsConcrete}
use Rattle.vsd_lanes.proofs.NamingLemmas.{apart_push, none_apart, not_placed}
use Rattle.vsd_lanes.proofs.ObjectLemmas.{lane_calls}
use Rattle.vsd_lanes.proofs.Telling.{kept_root, new_root, kept_concrete}
use Rattle.vsd_script.proofs.CountingLemmas.{slot_found}
use Rattle.vsd_script.proofs.Widening.{lane_wider}
use Rattle.vsd_script.specs.declared.script.Word.{Word}
use Rattle.vsd_script.specs.declared.script.Word.TheVariants as word
use Rattle.vsd_script.specs.Formed.{HasSlot, NamesMethod}
use Rattle.vsd_script.specs.Named.{site_names, NamesItsOwn, HasOwnNames, CallsOnlyConcrete}
use Rattle.vsd_script.specs.Methods.{nth_from, slot_of}
use Rattle.vsd_script.specs.Productions as spec

-- ---- limits

few_is : (count most : ℕ) (what : Listed) → spec.few count most what ≡ None → count < most
few_is count most what e = ltb-true count most (go (ltb count most) e)
  where
    go : (b : Bool) → ◌≡◌ {A = Option Cause} (cond b None (Some (TooManyListed what))) None → b ≡ true
    go true e = refl
    go false e = absurd cc

begun_few : (count most : ℕ) (what : Listed) (i : Input) (u : Unit {0}) (j : Input) → Derives (Unit {0}) (spec.begun count most what) i u j → count < most
unfolding spec.begun
begun_few count most what i u j d = few_is count most what (shows_none (spec.few count most what) i d.0 d.1 d.2)

-- how many operations the lanes have together
abbrev operations : List Lane → ℕ
operations ls = sum_by (λ (l : Lane). length l.ops) ls

room_is : (room : ℕ) (ls : List Lane) → spec.room_after room ls ≡ room - operations ls
room_is room [] = omega arith
room_is room (l ∷ ls) =
    let rest = room_is (room - length l.ops) ls in
    let all = sum_by-cons (λ (m : Lane). length m.ops) l ls in
    omega (arith, rest, all)

operations_push : (ls : List Lane) (l : Lane) → operations (ls ++ l ∷ []) ≡ operations ls + length l.ops
operations_push ls l =
    let all = sum_by-append (λ (m : Lane). length m.ops) ls (l ∷ []) in
    let one = sum_by-cons (λ (m : Lane). length m.ops) l [] in
    omega (arith, all, one)

-- ---- methods that sites name

nth_within : (place n : ℕ) (ms : List Method) (name : List ℕ) (slot : ℕ) → nth_from place n ms name ≡ Some slot → slot < place + length ms
unfolding nth_from
nth_within place n [] name slot e = absurd cc
nth_within place n (m ∷ ms) name slot e = go (λ k. nth_within (place + 1) k ms name slot) (bytes_eq m.name name) (eqb n 1) e
  where
    later : ((k : ℕ) → nth_from (place + 1) k ms name ≡ Some slot → slot < place + 1 + length ms) → (k : ℕ) → nth_from (place + 1) k ms name ≡ Some slot → slot < place + suc (length ms)
    later rest k f = let h = rest k f in omega (arith, h)

    go : ((k : ℕ) → nth_from (place + 1) k ms name ≡ Some slot → slot < place + 1 + length ms) → (b c : Bool)
        → cond b (cond c (Some place) (nth_from (place + 1) (n - 1) ms name)) (nth_from (place + 1) n ms name) ≡ Some slot → slot < place + suc (length ms)
    go rest true true f = let same : place ≡ slot = cc in omega (arith, same)
    go rest true false f = later rest (n - 1) f
    go rest false c f = later rest n f

slot_is_there : (ds : List Decl) (t : Term) (name : List ℕ) (n slot : ℕ) → slot_of ds t name n ≡ Some slot → HasSlot ds t slot
slot_is_there ds t name n slot e =
    let f = slot_found ds t name n slot e in
    record {
      number = f.number;
      head = f.head;
      interface = f.interface;
      found = f.found;
      is_interface = f.is_interface;
      within = let w = nth_within 0 n f.interface.methods name slot f.nth in omega (arith, w);
    }

a_method_some : (o : Option ℕ) (slot : ℕ) → spec.a_method o ≡ Ok slot → o ≡ Some slot
a_method_some None slot e = absurd cc
a_method_some (Some n) slot e = let same : n ≡ slot = cc in ap Some same

checked_slot : (ds : List Decl) (t : Term) (name : List ℕ) (n : ℕ) (i : Input) (slot : ℕ) (j : Input) → Derives ℕ (checked ℕ (spec.a_method (slot_of ds t name n))) i slot j → HasSlot ds t slot
checked_slot ds t name n i slot j g = slot_is_there ds t name n slot (a_method_some (slot_of ds t name n) slot (checked_ok ℕ (spec.a_method (slot_of ds t name n)) i slot j g))

counted_has_slot : (ds : List Decl) (t : Term) (name : List ℕ) (i : Input) (slot : ℕ) (j : Input) → Derives ℕ (spec.counted_slot ds t name) i slot j → HasSlot ds t slot
unfolding spec.counted_slot
counted_has_slot ds t name i slot j g = subst (HasSlot ds t) g.3.3.3.0 (checked_slot ds t name g.0 g.1 g.3.0 g.3.1 g.3.2)

slot_is : (ds : List Decl) (t : Term) (i : Input) (slot : ℕ) (j : Input) → Derives ℕ (spec.slot ds t) i slot j → HasSlot ds t slot
unfolding spec.slot
slot_is ds t i slot j g = go g.3.0 g.3.1 g.3.3
  where
    go : (b : Bool) (k : Input) → Derives ℕ (spec.slot_if ds t g.0 b) k slot j → HasSlot ds t slot
    go true k h = counted_has_slot ds t g.0 k slot j h
    go false k h = checked_slot ds t g.0 1 k slot j h

-- what holds of each declaration holds of the one that a name means
declared_all : (P : Decl → Type 0) (ds : List Decl) (name : ℕ) (x : Decl) → All P ds → declared ds name ≡ Some x → P x
unfolding declared
declared_all P [] name x all e = absurd cc
declared_all P (y ∷ ys) name x all e = go (declared_all P ys name x (All-tail P y ys all)) (eqb y.name name) e
  where
    go : (declared ys name ≡ Some x → P x) → (b : Bool) → cond b (Some y) (declared ys name) ≡ Some x → P x
    go rest true f = let same : y ≡ x = cc in subst P same (All-head P y ys all)
    go rest false f = rest f

few_slots : (d : Decls) (t : Term) (slot : ℕ) → AreWellFormed d → HasSlot d.list t slot → slot < 256
few_slots d t slot w h =
    let x = declared_all (IsDeclaration (length d.names)) d.list h.number h.interface w.each h.found in
    let few = x.few_methods in
    let within = h.within in
    omega (arith, few, within)

-- ---- scripts so far

record Keeps (d : Decls) (s : Script) : Type 0 where
  formed : IsWellFormedScript s
  names : HasOwnNames s
  calls : CallsOnlyConcrete d s
  roots : All (IsRoot d.list) s.roots
  slots : All (NamesMethod d.list s.roots) s.sites

kept_place : (xs more : List Host) (n : ℕ) (h : Host) → slice_get xs n ≡ Some h → slice_get (xs ++ more) n ≡ Some h
kept_place xs more n h e =
    let within = slice_get_within xs n h e in
    let long = length-append xs more in
    slice_get-get_or (xs ++ more) n h (omega (arith, within, long)) ∙ ap Some (get_or-append xs more h n within ∙ get_or_from_slice_get xs n h h e)

-- a lane names its own where there are more roots, sites and hosts
own_wider : (m n : ℕ) → m ≤ n → (p q : ℕ) → p ≤ q → (hosts more : List Host) → (l : Lane) → NamesItsOwn m p hosts l → NamesItsOwn n q (hosts ++ more) l
own_wider m n h p q g hosts more l k =
    let within = k.within in
    let long = length-append hosts more in
    record {
      apart = k.apart;
      before = k.before;
      within = omega (arith, within, long);
      knows = lane_wider m n p q k.before k.before h g (omega arith) l k.knows;
      no_host = subst (λ (hs : List Host). All (IsNoHost hs) l.names) (sym (take-append-le k.before hosts more within)) k.no_host;
    }

-- calls are made on such objects where there are more roots and hosts
module _ (ds : List Decl) (roots more_roots : List Term) (hosts more_hosts : List Host) where
  object_wider : (ops : List Op) (o : Var) → IsConcreteObject ds roots hosts ops o → IsConcreteObject ds (roots ++ more_roots) (hosts ++ more_hosts) ops o
  object_wider ops (var.Host n) k = (k.0, kept_place hosts more_hosts n k.0 k.1, kept_concrete ds roots more_roots k.0.root k.2)
  object_wider ops (var.Own v) k = (k.0, k.1, kept_concrete ds roots more_roots k.0 k.2)

  calls_wider : (l : Lane) → CallsConcrete ds roots hosts l.ops → CallsConcrete ds (roots ++ more_roots) (hosts ++ more_hosts) l.ops
  calls_wider l k before after site object is = object_wider before object (k before after site object is)

site_wider : (m n : ℕ) → m ≤ n → (s : Site) → IsSite m s → IsSite n s
site_wider m n h s k = let r = k.root in record { name = k.name; root = omega (arith, h, r); slot = k.slot }

host_wider : (m n : ℕ) → m ≤ n → (s : Host) → IsHost m s → IsHost n s
host_wider m n h s k = let r = k.root in record { name = k.name; root = omega (arith, h, r) }

slot_kept : (ds : List Decl) (roots more : List Term) (s : Site) → NamesMethod ds roots s → NamesMethod ds (roots ++ more) s
slot_kept ds roots more s k = record { term = k.term; root = kept_root roots more s.root k.term k.root; slot = k.slot }

module _ (d : Decls) (w : AreWellFormed d) where
  -- the script with further roots
  abbrev with_roots : Script → List Term → Script
  with_roots s more = record s { roots = s.roots ++ more }

  roots_keep : (s : Script) (more : List Term) → All (IsRoot d.list) more → Keeps d s → Keeps d (with_roots s more)
  roots_keep s more new k =
      let f = k.formed in
      let n = length s.roots in
      let m = length (s.roots ++ more) in
      let l = length-append s.roots more in
      let long : n ≤ m = omega (arith, l) in
      record {
        formed = record {
          few_sites = f.few_sites;
          few_hosts = f.few_hosts;
          few_lanes = f.few_lanes;
          few_ops = f.few_ops;
          sites = All-weaker (IsSite n) (IsSite m) (site_wider n m long) s.sites f.sites;
          hosts = All-weaker (IsHost n) (IsHost m) (host_wider n m long) s.hosts f.hosts;
          lanes = All-weaker (IsLane n (length s.sites) (length s.hosts)) (IsLane m (length s.sites) (length s.hosts))
              (lane_wider n m (length s.sites) (length s.sites) (length s.hosts) (length s.hosts) long (omega arith) (omega arith)) s.lanes f.lanes;
        };
        names = record {
          sites = k.names.sites;
          hosts = k.names.hosts;
          lanes = All-weaker (NamesItsOwn n (length s.sites) s.hosts) (NamesItsOwn m (length s.sites) s.hosts)
              (λ l o. subst (λ (hs : List Host). NamesItsOwn m (length s.sites) hs l) (append-nil s.hosts) (own_wider n m long (length s.sites) (length s.sites) (omega arith) s.hosts [] l o)) s.lanes k.names.lanes;
        };
        calls = All-weaker (λ (l : Lane). CallsConcrete d.list s.roots s.hosts l.ops) (λ (l : Lane). CallsConcrete d.list (s.roots ++ more) s.hosts l.ops)
            (λ l o. subst (λ (hs : List Host). CallsConcrete d.list (s.roots ++ more) hs l.ops) (append-nil s.hosts) (calls_wider d.list s.roots more s.hosts [] l o)) s.lanes k.calls;
        roots = All-append (IsRoot d.list) s.roots more k.roots new;
        slots = All-weaker (NamesMethod d.list s.roots) (NamesMethod d.list (s.roots ++ more)) (slot_kept d.list s.roots more) s.sites k.slots;
      }

  one_root : (t : Term) → IsRoot d.list t → All (IsRoot d.list) (t ∷ [])
  one_root t r = All-push (IsRoot d.list) [] t (All-nil (IsRoot d.list)) r

  site_name_is : (sites : List Site) (i : Input) (name : List ℕ) (j : Input) → Derives (List ℕ) (spec.site_name sites) i name j → IsName name
  unfolding spec.site_name
  site_name_is sites i name j g = subst IsName g.3.3.3.0 (spelled_is_name i g.0 g.1 g.2)

  host_name_is : (hosts : List Host) (i : Input) (name : List ℕ) (j : Input) → Derives (List ℕ) (spec.host_name hosts) i name j → IsName name
  unfolding spec.host_name
  host_name_is hosts i name j g = subst IsName g.3.3.3.0 (spelled_is_name i g.0 g.1 g.2)

  not_taken : (o : Option ℕ) → spec.taken o ≡ None → o ≡ None
  not_taken None e = refl
  not_taken (Some n) e = absurd cc

  site_name_new : (sites : List Site) (i : Input) (name : List ℕ) (j : Input) → Derives (List ℕ) (spec.site_name sites) i name j → ¬ Contains (site_names sites) name
  unfolding spec.site_name
  site_name_new sites i name j g =
      let free = not_taken (place_from 0 (site_names sites) g.0) (shows_none (spec.taken (place_from 0 (site_names sites) g.0)) g.1 g.3.0 g.3.1 g.3.2) in
      subst (λ n. ¬ Contains (site_names sites) n) g.3.3.3.0 (not_placed (site_names sites) g.0 free)

  host_name_new : (hosts : List Host) (i : Input) (name : List ℕ) (j : Input) → Derives (List ℕ) (spec.host_name hosts) i name j → ¬ Contains (host_names hosts) name
  unfolding spec.host_name
  host_name_new hosts i name j g =
      let free = not_taken (place_from 0 (host_names hosts) g.0) (shows_none (spec.taken (place_from 0 (host_names hosts) g.0)) g.1 g.3.0 g.3.1 g.3.2) in
      subst (λ n. ¬ Contains (host_names hosts) n) g.3.3.3.0 (not_placed (host_names hosts) g.0 free)

  with_site_keeps : (s : Script) (name : List ℕ) (t : Term) (slot : ℕ) → length s.sites < 256 → IsName name → ¬ Contains (site_names s.sites) name → IsRoot d.list t → HasSlot d.list t slot → Keeps d s → Keeps d (spec.with_site s name t slot)
  with_site_keeps s name t slot room spelled fresh root has k =
      let k2 = roots_keep s (t ∷ []) (one_root t root) k in
      let f = k2.formed in
      let n = length (s.roots ++ t ∷ []) in
      let long = length_push s.roots t in
      let site : Site = record { name = name; root = length s.roots; slot = slot } in
      let one_more = length_push s.sites site in
      let is : IsSite n site = record { name = spelled; root = omega (arith, long); slot = few_slots d t slot w has } in
      let names : NamesMethod d.list (s.roots ++ t ∷ []) site = record { term = t; root = new_root s.roots t; slot = has } in
      record {
        formed = record {
          few_sites = omega (arith, room, one_more);
          few_hosts = f.few_hosts;
          few_lanes = f.few_lanes;
          few_ops = f.few_ops;
          sites = All-push (IsSite n) s.sites site f.sites is;
          hosts = f.hosts;
          lanes = All-weaker (IsLane n (length s.sites) (length s.hosts)) (IsLane n (length (s.sites ++ site ∷ [])) (length s.hosts))
              (lane_wider n n (length s.sites) (length (s.sites ++ site ∷ [])) (length s.hosts) (length s.hosts) (omega arith) (omega (arith, one_more)) (omega arith)) s.lanes f.lanes;
        };
        names = record {
          sites = subst AreApart (sym (map-append (λ (x : Site). x.name) s.sites (site ∷ []))) (apart_push (site_names s.sites) name fresh k2.names.sites);
          hosts = k2.names.hosts;
          lanes = All-weaker (NamesItsOwn n (length s.sites) s.hosts) (NamesItsOwn n (length (s.sites ++ site ∷ [])) s.hosts)
              (λ l o. subst (λ (hs : List Host). NamesItsOwn n (length (s.sites ++ site ∷ [])) hs l) (append-nil s.hosts)
              (own_wider n n (omega arith) (length s.sites) (length (s.sites ++ site ∷ [])) (omega (arith, one_more)) s.hosts [] l o)) s.lanes k2.names.lanes;
        };
        calls = k2.calls;
        roots = k2.roots;
        slots = All-push (NamesMethod d.list (s.roots ++ t ∷ [])) s.sites site k2.slots names;
      }

  with_host_keeps : (s : Script) (name : List ℕ) (t : Term) → length s.hosts < 256 → IsName name → ¬ Contains (host_names s.hosts) name → IsRoot d.list t → Keeps d s → Keeps d (spec.with_host s name t)
  with_host_keeps s name t room spelled fresh root k =
      let k2 = roots_keep s (t ∷ []) (one_root t root) k in
      let f = k2.formed in
      let n = length (s.roots ++ t ∷ []) in
      let long = length_push s.roots t in
      let host : Host = record { name = name; root = length s.roots } in
      let one_more = length_push s.hosts host in
      let is : IsHost n host = record { name = spelled; root = omega (arith, long) } in
      record {
        formed = record {
          few_sites = f.few_sites;
          few_hosts = omega (arith, room, one_more);
          few_lanes = f.few_lanes;
          few_ops = f.few_ops;
          sites = f.sites;
          hosts = All-push (IsHost n) s.hosts host f.hosts is;
          lanes = All-weaker (IsLane n (length s.sites) (length s.hosts)) (IsLane n (length s.sites) (length (s.hosts ++ host ∷ [])))
              (lane_wider n n (length s.sites) (length s.sites) (length s.hosts) (length (s.hosts ++ host ∷ [])) (omega arith) (omega arith) (omega (arith, one_more))) s.lanes f.lanes;
        };
        names = record {
          sites = k2.names.sites;
          hosts = subst AreApart (sym (map-append (λ (x : Host). x.name) s.hosts (host ∷ []))) (apart_push (host_names s.hosts) name fresh k2.names.hosts);
          lanes = All-weaker (NamesItsOwn n (length s.sites) s.hosts) (NamesItsOwn n (length s.sites) (s.hosts ++ host ∷ []))
              (own_wider n n (omega arith) (length s.sites) (length s.sites) (omega arith) s.hosts (host ∷ [])) s.lanes k2.names.lanes;
        };
        calls = All-weaker (λ (l : Lane). CallsConcrete d.list (s.roots ++ t ∷ []) s.hosts l.ops) (λ (l : Lane). CallsConcrete d.list (s.roots ++ t ∷ []) (s.hosts ++ host ∷ []) l.ops)
            (λ l o. subst (λ (rs : List Term). CallsConcrete d.list rs (s.hosts ++ host ∷ []) l.ops) (append-nil (s.roots ++ t ∷ [])) (calls_wider d.list (s.roots ++ t ∷ []) [] s.hosts (host ∷ []) l o)) s.lanes k2.calls;
        roots = k2.roots;
        slots = k2.slots;
      }

  with_lane_keeps : (s : Script) (l : Lane) → length s.lanes < 64 → operations s.lanes + length l.ops ≤ 200000 → IsLane (length s.roots) (length s.sites) (length s.hosts) l
      → NamesItsOwn (length s.roots) (length s.sites) s.hosts l → CallsConcrete d.list s.roots s.hosts l.ops → Keeps d s → Keeps d (record s { lanes = s.lanes ++ l ∷ [] })
  with_lane_keeps s l room fits is own made k =
      let f = k.formed in
      let one_more = length_push s.lanes l in
      let all = operations_push s.lanes l in
      record {
        formed = record {
          few_sites = f.few_sites;
          few_hosts = f.few_hosts;
          few_lanes = omega (arith, room, one_more);
          few_ops = omega (arith, fits, all);
          sites = f.sites;
          hosts = f.hosts;
          lanes = All-push (IsLane (length s.roots) (length s.sites) (length s.hosts)) s.lanes l f.lanes is;
        };
        names = record {
          sites = k.names.sites;
          hosts = k.names.hosts;
          lanes = All-push (NamesItsOwn (length s.roots) (length s.sites) s.hosts) s.lanes l k.names.lanes own;
        };
        calls = All-push (λ (x : Lane). CallsConcrete d.list s.roots s.hosts x.ops) s.lanes l k.calls made;
        roots = k.roots;
        slots = k.slots;
      }

  -- ---- statements

  site_keeps : (s : Script) (i : Input) (t : Script) (j : Input) → Keeps d s → Derives Script (spec.site d s) i t j → Keeps d t
  unfolding spec.site
  site_keeps s i t j k g =
      let name = g.3.0 in
      let term = g.3.3.3.0 in
      let slot = g.3.3.3.3.3.0 in
      let room = begun_few (length s.sites) 256 listed.Sites i g.0 g.1 g.2 in
      let spelled = site_name_is s.sites g.1 name g.3.1 g.3.2 in
      let root = written_root d false g.3.3.1 term g.3.3.3.1 g.3.3.3.2 in
      let has = slot_is d.list term g.3.3.3.3.1 slot g.3.3.3.3.3.1 g.3.3.3.3.3.2 in
      subst (Keeps d) g.3.3.3.3.3.3.3.0 (with_site_keeps s name term slot room spelled (site_name_new s.sites g.1 name g.3.1 g.3.2) root has k)

  host_keeps : (s : Script) (i : Input) (t : Script) (j : Input) → Keeps d s → Derives Script (spec.host d s) i t j → Keeps d t
  unfolding spec.host
  host_keeps s i t j k g =
      let name = g.3.0 in
      let term = g.3.3.0 in
      let room = begun_few (length s.hosts) 256 listed.Hosts i g.0 g.1 g.2 in
      let spelled = host_name_is s.hosts g.1 name g.3.1 g.3.2 in
      let root = assigned_root (setting d s.sites s.hosts 0) g.3.1 term g.3.3.1 g.3.3.2 in
      subst (Keeps d) g.3.3.3.0 (with_host_keeps s name term room spelled (host_name_new s.hosts g.1 name g.3.1 g.3.2) root k)

  lane_keeps : (s : Script) (i : Input) (t : Script) (j : Input) → Keeps d s → Derives Script (spec.lane_of d s) i t j → Keeps d t
  unfolding spec.lane_of
  lane_keeps s i t j k g =
      let b = g.3.0 in
      let e = setting d s.sites s.hosts (spec.room_after 200000 s.lanes) in
      let room = few_is (length s.lanes) 64 listed.Lanes (shows_none (spec.few (length s.lanes) 64 listed.Lanes) i g.0 g.1 g.2) in
      let adds = lane_adds e s.roots g.1 b g.3.1 g.3.2 in
      let k2 : Keeps d (record s { roots = b.lane.roots }) = subst (λ (rs : List Term). Keeps d (record s { roots = rs })) (sym adds.1) (roots_keep s adds.0 adds.2 k) in
      let l : Lane = record { names = b.lane.variables; ops = b.lane.running.ops } in
      let fits = lane_fits e s.roots g.1 b g.3.1 g.3.2 in
      let left = room_is 200000 s.lanes in
      let before = k.formed.few_ops in
      let is : IsLane (length b.lane.roots) (length s.sites) (length s.hosts) l = record { names = lane_names e s.roots g.1 b g.3.1 g.3.2; ops = lane_allowed e s.roots g.1 b g.3.1 g.3.2 } in
      let few = k.formed.few_hosts in
      let names = lane_no_hosts e s.roots g.1 b g.3.1 g.3.2 (omega (arith, few)) in
      let own : NamesItsOwn (length b.lane.roots) (length s.sites) s.hosts l = record {
        apart = lane_apart e s.roots g.1 b g.3.1 g.3.2;
        before = length s.hosts;
        within = omega arith;
        knows = is;
        no_host = subst (λ (hs : List Host). All (IsNoHost hs) l.names) (sym (take_all (length s.hosts) s.hosts (omega arith))) names;
      } in
      let made = lane_calls e s.roots g.1 b g.3.1 g.3.2 in
      subst (Keeps d) g.3.3.0 (with_lane_keeps (record s { roots = b.lane.roots }) l room (omega (arith, fits, left, before)) is own made k2)

  statement_keeps : (s : Script) (i : Input) (t : Script) (j : Input) → Keeps d s → Derives Script (spec.statement d s) i t j → Keeps d t
  unfolding spec.statement
  statement_keeps s i t j k g = go (spec.word_of g.0.class) g.3
    where
      go : (v : Option Word) → Derives Script (spec.statement_by d s v) g.1 t j → Keeps d t
      go None h = absurd h
      go (Some word.Site) h = site_keeps s g.1 t j k h
      go (Some word.Host) h = host_keeps s g.1 t j k h
      go (Some word.Lane) h = lane_keeps s g.1 t j k h

  turns_keep : (n : ℕ) (s : Script) (i : Input) (t : Script) (j : Input) → Keeps d s → Turns (λ q s. is_end q) (λ s. Derives Script (spec.statement d s)) n s i t j → Keeps d t
  turns_keep zero s i t j k g = subst (Keeps d) g.1 k
  turns_keep (suc n) s i t j k g = turns_keep n g.1 g.2 t j (statement_keeps s i g.1 g.2 k g.3) g.5

  nothing_kept : Keeps d spec.empty
  nothing_kept = record {
    formed = record {
      few_sites = omega arith;
      few_hosts = omega arith;
      few_lanes = omega arith;
      few_ops = omega arith;
      sites = All-nil (IsSite 0);
      hosts = All-nil (IsHost 0);
      lanes = All-nil (IsLane 0 0 0);
    };
    names = record { sites = none_apart; hosts = none_apart; lanes = All-nil (NamesItsOwn 0 0 []) };
    calls = All-nil (λ (l : Lane). CallsConcrete d.list [] [] l.ops);
    roots = All-nil (IsRoot d.list);
    slots = All-nil (NamesMethod d.list []);
  }

  script_keeps : (i : Input) (s : Script) (j : Input) → Derives Script (spec.script d) i s j → Keeps d s
  unfolding spec.script
  script_keeps i s j g = turns_keep g.0 spec.empty i s j nothing_kept g.1

  pub script_formed : (i : Input) (s : Script) (j : Input) → Derives Script (spec.script d) i s j → IsWellFormedScript s
  script_formed i s j g = (script_keeps i s j g).formed

  pub script_names : (i : Input) (s : Script) (j : Input) → Derives Script (spec.script d) i s j → HasOwnNames s
  script_names i s j g = (script_keeps i s j g).names

  pub script_calls : (i : Input) (s : Script) (j : Input) → Derives Script (spec.script d) i s j → CallsOnlyConcrete d s
  script_calls i s j g = (script_keeps i s j g).calls

  pub script_roots : (i : Input) (s : Script) (j : Input) → Derives Script (spec.script d) i s j → All (IsRoot d.list) s.roots
  script_roots i s j g = (script_keeps i s j g).roots

  pub script_slots : (i : Input) (s : Script) (j : Input) → Derives Script (spec.script d) i s j → All (NamesMethod d.list s.roots) s.sites
  script_slots i s j g = (script_keeps i s j g).slots
