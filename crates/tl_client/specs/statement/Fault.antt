-- The reasons why there is no new client.
use Rattle.std.specs.Prelude.{◌≡◌, Option, Some, None}
use Rattle.tl_params.specs.declared.config.NewFault.{NewFault}
use Rattle.tl_params.specs.declared.config.NewFault.TheVariants as fault
use Rattle.tl_params.specs.declared.level.Level.{Level}
use Rattle.tl_params.specs.declared.level.Level.TheVariants as level

-- the first limit that is broken, or that there is no memory
abbrev pub IsFault : Option NewFault → NewFault → Type 0
IsFault None f = f ≡ fault.Memory
IsFault (Some first) f = f ≡ first

-- why there is no client of this level: the first limit that is broken, and at level C that or want of memory, for a
-- plain client takes none
abbrev pub IsFaultAt : Level → Option NewFault → NewFault → Type 0
IsFaultAt level.C first fault = IsFault first fault
IsFaultAt _ first fault = first ≡ Some fault
