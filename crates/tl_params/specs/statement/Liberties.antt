-- Liberties, which allow a link more than the first profile does, and sets of them.
use Rattle.std.specs.Prelude.{ℕ, Bool, true, false, ◌||◌, List, codes}
use Rattle.tl_params.specs.declared.liberties.Liberties.{Liberties}
use Rattle.tl_params.specs.declared.liberties.Liberty.{Liberty}
use Rattle.tl_params.specs.declared.liberties.Liberty.TheVariants.{Ids, Sinks, Writer, Early, Drops, Reports, Denied}
use Rattle.tl_params.specs.declared.liberties.Liberty.TheVariants.{Uncorrupt}
use Rattle.tl_params.specs.declared.profile.Profile.{Profile}
use Rattle.tl_params.specs.declared.profile.Profile.TheVariants as profile

-- the name of a liberty in a header and on the command line
abbrev pub liberty_name : Liberty → List ℕ
liberty_name Ids = codes "ids"
liberty_name Sinks = codes "sinks"
liberty_name Writer = codes "writer"
liberty_name Early = codes "early"
liberty_name Drops = codes "drops"
liberty_name Reports = codes "reports"
liberty_name Denied = codes "denied"
liberty_name Uncorrupt = codes "uncorrupt"

-- the liberty is one of these
abbrev pub allows : Liberties → Liberty → Bool
allows l Ids = l.ids
allows l Sinks = l.sinks
allows l Writer = l.writer
allows l Early = l.early
allows l Drops = l.drops
allows l Reports = l.reports
allows l Denied = l.denied
allows l Uncorrupt = l.uncorrupt

-- no liberty
abbrev pub no_liberties : Liberties
no_liberties = record {
  ids = false;
  sinks = false;
  writer = false;
  early = false;
  drops = false;
  reports = false;
  denied = false;
  uncorrupt = false;
}

-- the liberties that the specification allows: all but Uncorrupt
abbrev pub standard_liberties : Liberties
standard_liberties = record {
  ids = true;
  sinks = true;
  writer = true;
  early = true;
  drops = true;
  reports = true;
  denied = true;
  uncorrupt = false;
}

-- the second profile, under which an AcquireBlock NtoB may be granted toT
abbrev pub is_second : Profile → Bool
is_second profile.One = false
is_second profile.Two = true

-- the liberties of a profile
abbrev pub liberties_of : Profile → Liberties
liberties_of p = record {
  ids = false;
  sinks = false;
  writer = is_second p;
  early = false;
  drops = false;
  reports = false;
  denied = false;
  uncorrupt = false;
}

-- these and one more
abbrev pub with_liberty : Liberty → Liberties → Liberties
with_liberty Ids l = record { ids = true; sinks = l.sinks; writer = l.writer; early = l.early; drops = l.drops; reports = l.reports; denied = l.denied; uncorrupt = l.uncorrupt }
with_liberty Sinks l = record { ids = l.ids; sinks = true; writer = l.writer; early = l.early; drops = l.drops; reports = l.reports; denied = l.denied; uncorrupt = l.uncorrupt }
with_liberty Writer l = record { ids = l.ids; sinks = l.sinks; writer = true; early = l.early; drops = l.drops; reports = l.reports; denied = l.denied; uncorrupt = l.uncorrupt }
with_liberty Early l = record { ids = l.ids; sinks = l.sinks; writer = l.writer; early = true; drops = l.drops; reports = l.reports; denied = l.denied; uncorrupt = l.uncorrupt }
with_liberty Drops l = record { ids = l.ids; sinks = l.sinks; writer = l.writer; early = l.early; drops = true; reports = l.reports; denied = l.denied; uncorrupt = l.uncorrupt }
with_liberty Reports l = record { ids = l.ids; sinks = l.sinks; writer = l.writer; early = l.early; drops = l.drops; reports = true; denied = l.denied; uncorrupt = l.uncorrupt }
with_liberty Denied l = record { ids = l.ids; sinks = l.sinks; writer = l.writer; early = l.early; drops = l.drops; reports = l.reports; denied = true; uncorrupt = l.uncorrupt }
with_liberty Uncorrupt l = record { ids = l.ids; sinks = l.sinks; writer = l.writer; early = l.early; drops = l.drops; reports = l.reports; denied = l.denied; uncorrupt = true }

-- the liberties that are in one of two sets, or in both
abbrev pub united : Liberties → Liberties → Liberties
united l m = record {
  ids = l.ids || m.ids;
  sinks = l.sinks || m.sinks;
  writer = l.writer || m.writer;
  early = l.early || m.early;
  drops = l.drops || m.drops;
  reports = l.reports || m.reports;
  denied = l.denied || m.denied;
  uncorrupt = l.uncorrupt || m.uncorrupt;
}
