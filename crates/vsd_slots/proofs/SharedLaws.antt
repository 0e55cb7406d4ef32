-- Columns that a class has as its base has them.
use Rattle.std.proofs.Common.{◌≡◌, true, Option, Some, None, refl}
use Rattle.std.specs.Option.{option_or}
use Rattle.vsd_slots.specs.Entries.{IsCombined}
use Rattle.vsd_slots.specs.declared.entries.ClosedMethod.{ClosedMethod}
use Rattle.vsd_slots.specs.declared.entries.Entry.{Entry}

or_some : (a b : Option ClosedMethod) (m : ClosedMethod) → a ≡ Some m → a ≡ option_or a b
or_some None b m is = absurd cc
or_some (Some x) b m is = refl

or_none : (a b : Option ClosedMethod) → a ≡ None → b ≡ None → a ≡ option_or a b
or_none None None is none = refl
or_none None (Some x) is none = absurd cc
or_none (Some x) b is none = absurd cc

-- what implements a method still does where the class names the interface
pub implemented-stays : (e : Entry) (m : ClosedMethod) → e.implementation ≡ Some m → IsCombined None None true e e
implemented-stays e m is = record { implementation = or_some e.implementation e.nearest m is; nearest = refl }

-- and where there is no method by name, nothing comes to
pub unnamed-stays : (e : Entry) → e.implementation ≡ None → e.nearest ≡ None → IsCombined None None true e e
unnamed-stays e is none = record { implementation = or_none e.implementation e.nearest is none; nearest = refl }
