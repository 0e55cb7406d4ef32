-- The parts of a cast, put together, and its entry in the log.
use Rattle.std.proofs.Common.{◌≡◌, ℕ, Bool, true, false, nat_eq, List, ◌∷◌, Result, Ok, Err, sym, ap, subst}
use Rattle.vsd_words.specs.declared.handle.Handle.{Handle}
use Rattle.vsd_rule.specs.declared.key.Key.{Key}
use Rattle.vsd_rule.specs.declared.view.View.{View}
use Rattle.vsd_rule.specs.Lists.{compatible}
use Rattle.vsd_table.specs.declared.seated.Seated.{Seated}
use Rattle.vsd_table.specs.Seating.{view_of}
use Rattle.vsd_trails.specs.declared.answers.CastAnswer.{CastAnswer}
use Rattle.vsd_trails.specs.declared.answers.Unloaded.{Unloaded}
use Rattle.vsd_trails.specs.declared.casting.Miss.{Miss}
use Rattle.vsd_trails.specs.declared.casting.Find.{Find}
use Rattle.vsd_trails.specs.declared.casting.Find.TheVariants as find
use Rattle.vsd_trails.specs.declared.casting.Put.{Put}
use Rattle.vsd_trails.specs.Programs.{TrailStep, Runs}
use Rattle.vsd_trails.specs.RowTrails.{typing}
use Rattle.vsd_trails.specs.CastTrails.{finding_cast, putting_cast, asking, typing_target, typing_source, casting_by, casting}
use Rattle.vsd_trails.specs.Operations.{cast_to}
use Rattle.vsd_trails.specs.Laws.{HasLog}
use Rattle.vsd_trails.proofs.Runs.{is_bounded}
use Rattle.vsd_trails.proofs.CallBounds.{at_casting}
use Rattle.vsd_trails.proofs.Entries.{adds_cast}
use Rattle.vsd_rows.specs.Makes.{steps_of, fields_of, Makes}
use Rattle.vsd_rows.specs.Logged.{LogsOne}
use Rattle.vsd_rows.specs.Leaving.{Goes}
use Rattle.vsd_rows.proofs.Makes.{joined, then_makes, makes_none}
use Rattle.vsd_ccache.specs.declared.finding.First.TheVariants as first
use Rattle.vsd_ccache.specs.declared.finding.FirstMiss.{FirstMiss}
use Rattle.vsd_ccache.specs.Looks.{WritesCasts}
use Rattle.vsd_ccache.specs.Begun.{BeginsLook}
use Rattle.vsd_casts.specs.Parts.{EndsLook}

module _ (k : Key) (source target : Handle) where
  abbrev pub by_hit : Bool → Result CastAnswer Unloaded
  by_hit given = Ok (record { yes = given; walked = false })

  abbrev pub by_walk : Bool → Result CastAnswer Unloaded
  by_walk given = Ok (record { yes = given; walked = true })

  pub ends_hit : (given : Bool) (s : Seated) → Makes s s (casting_by k source target (find.Hit given)) (by_hit given)
  unfolding casting_by
  ends_hit given s = makes_none s (by_hit given)

  pub casts_hit : (given : Bool) (old new : Seated) → Makes old new (finding_cast source target) (find.Hit given) → Makes old new (casting k source target) (by_hit given)
  unfolding casting casting_by
  casts_hit given old new first = joined (casting_by k source target) first (makes_none new (by_hit given))

  -- a look, and what follows on what it found
  pub casts_found : (found : Find) (old one new : Seated) (a : Result CastAnswer Unloaded) → Makes old one (finding_cast source target) found → Makes one new (casting_by k source target found) a → Makes old new (casting k source target) a
  unfolding casting
  casts_found found old one new a first second = joined (casting_by k source target) first second

  -- a first probe that missed, and the rest
  pub casts_on : (m : FirstMiss) (old one new : Seated) (a : Result CastAnswer Unloaded) → BeginsLook old one source target (first.Miss m) → EndsLook one new k source target m a → Makes old new (casting k source target) a
  casts_on m old one new a begins ends = casts_found ends.found old ends.now new a (begins ends.now ends.found ends.looks) ends.goes

  module _ (m : Miss) where
    pub walks_no_source : (u : Unloaded) (old one : Seated) → Makes old one (typing source) (Err u) → Makes old one (casting_by k source target (find.Miss m)) (Err u)
    unfolding casting_by typing_source
    walks_no_source u old one first = joined (typing_source k source target m) first (makes_none one (Err u))

    pub walks_no_target : (number : ℕ) (u : Unloaded) (old one two : Seated) → Makes old one (typing source) (Ok number) → Makes one two (typing target) (Err u)
        → Makes old two (casting_by k source target (find.Miss m)) (Err u)
    unfolding casting_by typing_source typing_target
    walks_no_target number u old one two first second = joined (typing_source k source target m) first (joined (typing_target k source target m number) second (makes_none two (Err u)))

    pub walks : (number other : ℕ) (given : Bool) (a : Put) (old one two new : Seated) → given ≡ nat_eq (compatible k number other) 1 → Makes old one (typing source) (Ok number) → Makes one two (typing target) (Ok other)
        → Makes two new (putting_cast k m source target given) a → Makes old new (casting_by k source target (find.Miss m)) (by_walk given)
    unfolding casting_by typing_source typing_target asking
    walks number other given a old one two new is first second third =
        let world = nat_eq (compatible k number other) 1 in
        let putted = subst (λ (b : Bool). Makes two new (putting_cast k m source target b) a) is third in
        subst (λ (b : Bool). Makes old new (casting_by k source target (find.Miss m)) (by_walk b)) (sym is)
        (joined (typing_source k source target m) first (joined (typing_target k source target m number) second (then_makes putted (makes_none new (by_walk world)))))

  -- ---- the entry

  pub logs_cast : (old new : Seated) (a : Result CastAnswer Unloaded) → (view_of old).key ≡ k → Makes old new (casting k source target) a → LogsOne k old new (cast_to source target a) 39
  logs_cast old new a key makes =
      let runs : Runs k (fields_of old) (casting k source target) makes.trail a = subst (λ (q : Key). Runs q (fields_of old) (casting k source target) makes.trail a) key makes.runs in
      record {
        trail = makes.trail;
        made = makes.made;
        few = is_bounded 39 k (fields_of old) (casting k source target) makes.trail a (at_casting k source target).few runs;
        logged = λ entries log. subst (λ (l : List TrailStep). HasLog k l (record { event = cast_to source target a; trail = makes.trail; fields = fields_of old } ∷ entries)) (sym makes.made)
            (adds_cast k source target (fields_of old) makes.trail a entries (steps_of old) log runs);
      }

-- ---- what stays

pub writes_go : (v w : View) → WritesCasts v w → Goes v w
writes_go v w writes = record { pinned = ap (λ (x : View). x.rows.pinned) writes; handles = ap (λ (x : View). x.handles) writes }
