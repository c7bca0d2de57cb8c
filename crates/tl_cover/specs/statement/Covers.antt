-- The knowledge of a covering about the trace of the beats that it took.
use Rattle.std.specs.Prelude.{ℕ, Bool, true, false, ◌≡◌, ◌+◌, List, [], ◌∷◌, length, Result, Ok, Err, ⊤}
use Rattle.std.specs.Prelude.{Option, Some, None, map, option_map, slice_get}
use Rattle.std.specs.List.{flat_map}
use Rattle.tl_beat.specs.declared.beat.Beat.{Beat}
use Rattle.tl_beat.specs.declared.beat.Link.{Link}
use Rattle.tl_cover.specs.code.Covering.{KnowPasts}
use Rattle.tl_cover.specs.declared.covering.Covering.{Covering}
use Rattle.tl_cover.specs.declared.past.LinkPast.{LinkPast}
use Rattle.tl_cover.specs.declared.row.LinkBin.{LinkBin}
use Rattle.tl_cover.specs.declared.row.Row.{Row}
use Rattle.tl_cover.specs.statement.Covered.{cell, covered, link_bin}
use Rattle.tl_monitor.specs.declared.fault.MonitorFault.{MonitorFault}
use Rattle.tl_monitor.specs.declared.fault.MonitorFault.TheVariants as monitor
use Rattle.tl_monitor.specs.statement.Knows.{KnowsUnder}
use Rattle.tl_params.specs.declared.level.Level.{Level}
use Rattle.tl_params.specs.declared.liberties.Liberties.{Liberties}
use Rattle.tl_params.specs.statement.Config.{IsCount}
use Rattle.tl_rules.specs.statement.Conformance.{Trace}

-- the rows of a covering
abbrev pub rows_in : {w : ℕ} → Covering w → List Row
rows_in c = c.rows.items

-- the table of a link in a past, and in a covering; none of a link that it hasn't
abbrev pub rows_of : Option LinkPast → List Row
rows_of None = []
rows_of (Some p) = p.rows.items

abbrev pub table_in : {w : ℕ} → Covering w → ℕ → List Row
table_in c i = rows_of (slice_get c.pasts.items i)

-- the bin with this number in a past, and of a link in a covering; None if there is no such link or no such bin
abbrev pub bin_of : ℕ → Liberties → ℕ → LinkPast → Option LinkBin
bin_of w l number p = option_map (link_bin w l p.level) (slice_get p.rows.items number)

abbrev pub bin_from : ℕ → Liberties → ℕ → Option LinkPast → Option LinkBin
bin_from w l number None = None
bin_from w l number (Some p) = bin_of w l number p

abbrev pub bin_in : {w : ℕ} → Covering w → ℕ → ℕ → Option LinkBin
bin_in {w} c i number = bin_from w c.liberties number (slice_get c.pasts.items i)

-- the counts of all bins of a link in a past, and of all links in a covering
abbrev pub cells_of : ℕ → Liberties → LinkPast → List (Option ℕ)
cells_of w l p = map (cell w l p.level) p.rows.items

abbrev pub cells_in : {w : ℕ} → Covering w → List (Option ℕ)
cells_in {w} c = flat_map (cells_of w c.liberties) c.pasts.items

-- the rows and the pasts are those of the trace of n links, with the newest beat first
pub record Follows {w : ℕ} (c : Covering w) (n : ℕ) (l : Liberties) (t : Trace w) : Type 0 where
  pub pasts_are : KnowPasts l n c.pasts.items t
  pub many : length c.pasts.items ≡ n
  pub count_is : c.count ≡ n
  pub rows_are : rows_in c ≡ covered l n t
  pub line_is : c.line ≡ length t + 1

-- The covering has these levels and liberties, and its rows are those of the trace. It is closed if a beat broke a
-- rule.
pub record Covers {w : ℕ} (c : Covering w) (levels : List Level) (l : Liberties) (t : Trace w) (closed : Bool) : Type 0
  where
    pub knows : KnowsUnder c.monitor levels l t closed
    pub follows : Follows c (length levels) l t
    pub levels_are : map (λ p. p.level) c.pasts.items ≡ levels
    pub liberties_are : c.liberties ≡ l

-- the result of making a covering: a new one, or the reason why there is none
abbrev pub IsNewCovering : {w : ℕ} → List Level → Liberties → Result (Covering w) MonitorFault → Type 0
IsNewCovering levels l (Ok c) = IsCount (length levels) × Covers c levels l [] false
IsNewCovering levels l (Err monitor.Levels) = ¬ IsCount (length levels)
IsNewCovering levels l (Err monitor.Memory) = IsCount (length levels)
IsNewCovering levels l (Err _) = ⊥

-- The knowledge of a covering after its answer to the beat x: the beat was taken, or refused by a rule. Nothing is
-- known after want of memory.
abbrev pub CoversAfter : {w : ℕ} → Result ⊤ MonitorFault → Covering w → List Level → Liberties → Link × Beat w → Trace w
    → Type 0
CoversAfter (Ok u) c levels l x t = Covers c levels l (x ∷ t) false
CoversAfter (Err monitor.Memory) c levels l x t = ⊤
CoversAfter (Err e) c levels l x t = Covers c levels l t true
