-- The liberties that a manager grants its clients.
use Rattle.std.specs.Prelude.{ℕ, Bool, false, not, ◌||◌, if◌then◌else◌, List, Option, Some, None, replicate}
use Rattle.tl_params.specs.declared.liberties.Liberties.{Liberties}
use Rattle.tl_partner.specs.declared.terms.Terms.{Terms}

-- the liberties of a link, by its client's terms
abbrev pub granted : Terms → Liberties
granted terms = record {
  ids = terms.ids;
  sinks = false;
  writer = false;
  early = false;
  drops = terms.drops;
  reports = terms.reports;
  denied = false;
  uncorrupt = false;
}

-- no liberties
abbrev pub no_terms : Terms
no_terms = record { ids = false; drops = false; reports = false; sources = replicate 16 0 }

-- a manager can grant these: each is one of its clients' liberties, or `writer`, which is its profile
abbrev pub may_grant : Liberties → Bool
may_grant l = not (l.sinks || (l.early || (l.denied || l.uncorrupt)))

-- the terms for clients with these liberties, with these sources of Probes; None if a manager can't grant them
abbrev pub terms_of : Liberties → List ℕ → Option Terms
terms_of l sources =
    if may_grant l
    then Some (record { ids = l.ids; drops = l.drops; reports = l.reports; sources = sources })
    else None
