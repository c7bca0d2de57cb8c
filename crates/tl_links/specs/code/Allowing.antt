-- What is known while it is looked for which liberties would allow the first beat at fault.
use Rattle.std.specs.Prelude.{◌≡◌, ℕ, false, List, [], ◌∷◌, ◌++◌, Option, Some, None}
use Rattle.tl_allowed.specs.code.Known as wider
use Rattle.tl_beat.specs.declared.beat.Beat.{Beat}
use Rattle.tl_beat.specs.declared.beat.Link.{Link}
use Rattle.tl_beat.specs.statement.Line.{Spells}
use Rattle.tl_allowed.specs.statement.Allowed.{allowed_under}
use Rattle.tl_lines.specs.declared.fault.Fault.{Fault}
use Rattle.tl_links.specs.declared.allow_lines.AllowLines.{AllowLines}
use Rattle.tl_links.specs.declared.allow_lines.Watching.{Watching}
use Rattle.tl_links.specs.declared.allow_lines.Watching.TheVariants.{Waiting, Four, Eight, Sixteen}
use Rattle.tl_links.specs.declared.allow_lines.Watch.{Watch}
use Rattle.tl_lines.specs.statement.LinksHeader.{NamesAllowed}
use Rattle.tl_links.specs.statement.Allowed.{Allowed, AllowedAfter}
use Rattle.tl_monitor.specs.statement.Knows.{KnowsUnder}
use Rattle.tl_params.specs.declared.level.Level.{Level}
use Rattle.tl_params.specs.declared.liberties.Liberties.{Liberties}
use Rattle.tl_params.specs.declared.liberties.Liberty.{Liberty}
use Rattle.tl_params.specs.declared.rule.Rule.{Rule}
use Rattle.tl_params.specs.declared.width.Width.{Width}
use Rattle.tl_rules.specs.statement.Conformance.{Trace}
use Rattle.tl_rules.specs.statement.Liberties.{broken_on_link_under}

-- the monitor of these links, and those with a liberty more, know the beats of a trace; none is found yet
pub record KnowsBeats {w : ℕ} (v : Watch w) (levels : List Level) (may : Liberties) (t : Trace w) : Type 0 where
  pub monitor_knows : KnowsUnder v.monitor levels may t false
  pub allowances_know : wider.Knows v.allowances levels may t
  pub none_found : v.allowing.items ≡ []

-- a beat was taken, or it is at fault and these liberties would allow it
abbrev pub TakesBeat : {w : ℕ} → Watch w → Watch w → Link → Beat w → Option Fault → Type 0
TakesBeat {w} old new link beat None =
    (levels : List Level) (may : Liberties) (t : Trace w) → KnowsBeats old levels may t
    → (broken_on_link_under may levels (link, beat) t ≡ None) × KnowsBeats new levels may ((link, beat) ∷ t)
TakesBeat {w} old new link beat (Some fault) =
    (levels : List Level) (may : Liberties) (t : Trace w) → KnowsBeats old levels may t
    → (rule : Rule) × (broken_on_link_under may levels (link, beat) t ≡ Some rule)
    × (new.allowing.items ≡ allowed_under may levels (link, beat) t)

-- what is found of the next line: it spells a beat that isn't at fault, and is known; or it spells one that is, which
-- these liberties would allow; or none
abbrev pub Watches : {w : ℕ} → Watch w → Watch w → List ℕ → Option Fault → Type 0
Watches {w} old new line None =
    (levels : List Level) (may : Liberties) (t : Trace w) → KnowsBeats old levels may t
    → (link : Link) × (beat : Beat w) × Spells line link beat
    × (broken_on_link_under may levels (link, beat) t ≡ None) × KnowsBeats new levels may ((link, beat) ∷ t)
Watches {w} old new line (Some fault) =
    (levels : List Level) (may : Liberties) (t : Trace w) → KnowsBeats old levels may t
    → (more : List (List ℕ)) → AllowedAfter levels may t (line ∷ more) new.allowing.items

-- these lines, a header and beats that aren't at fault, were read: what is found after them is found of all
pub record KnowsTrace {w : ℕ} (allow : Liberties) (v : Watch w) (lines : List (List ℕ)) : Type 0 where
  pub levels : List Level
  pub may : Liberties
  pub trace : Trace w
  pub known : KnowsBeats v levels may trace
  pub before : (more : List (List ℕ)) (allowing : List Liberty) → AllowedAfter levels may trace more allowing
      → Allowed allow (lines ++ more) allowing

abbrev pub KnowsWatching : Liberties → Watching → List (List ℕ) → Type 0
KnowsWatching allow (Waiting alloc) lines = lines ≡ []
KnowsWatching allow (Four v) lines = KnowsTrace allow v lines
KnowsWatching allow (Eight v) lines = KnowsTrace allow v lines
KnowsWatching allow (Sixteen v) lines = KnowsTrace allow v lines

abbrev pub KnowsLines : AllowLines → List (List ℕ) → List ℕ → Type 0
KnowsLines h lines text = KnowsWatching h.allow h.watching lines

-- what was found
abbrev pub found_by : Watching → List Liberty
found_by (Waiting alloc) = []
found_by (Four v) = v.allowing.items
found_by (Eight v) = v.allowing.items
found_by (Sixteen v) = v.allowing.items

abbrev pub found_in : AllowLines → List Liberty
found_in h = found_by h.watching

-- it is what is found of these lines
abbrev pub EndsLines : AllowLines → List (List ℕ) → Type 0
EndsLines h lines = Allowed h.allow lines (found_in h)

-- what the first line begins: a watch after a header, or none if it is no header
abbrev pub Begins : Liberties → List ℕ → Option Watching → Type 0
Begins allow line None = (width : Width) (may : Liberties) (levels : List Level)
    → ¬ NamesAllowed allow line width may levels
Begins allow line (Some watching) = KnowsWatching allow watching (line ∷ [])
