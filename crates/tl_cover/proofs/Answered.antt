-- What a covering knows after its monitor's answer.
use Rattle.std.proofs.Common.{◌≡◌, ◌≤◌, ℕ, Bool, true, false, List, length, refl, sym, ap, ap₂, ◌∙◌, ◌<◌, ◌+◌, arith, subst}
use Rattle.std.specs.List.{flat_map}
use Rattle.std.specs.Prelude.{Option, Some, None, Result, Ok, Err, ⊤, map, option_map, slice_get}
use Rattle.std.proofs.lemmas.Option.{get_or_from_slice_get, slice_get_past, slice_get_within, slice_get-map}
use Rattle.tl_beat.specs.declared.beat.Beat.{Beat}
use Rattle.tl_beat.specs.declared.beat.Link.{Link}
use Rattle.tl_cover.specs.declared.covering.Covering.{Covering}
use Rattle.tl_cover.proofs.Links.{cells_are}
use Rattle.tl_cover.specs.declared.past.LinkPast.{LinkPast}
use Rattle.tl_cover.specs.declared.row.Row.{Row}
use Rattle.tl_cover.specs.statement.Covered.{bin_at, bin_on, cells, link_bin, table}
use Rattle.tl_cover.specs.statement.Covers.{Covers, CoversAfter, Follows, bin_from, bin_in, cells_in, cells_of}
use Rattle.tl_monitor.specs.declared.fault.MonitorFault.{MonitorFault}
use Rattle.tl_monitor.specs.declared.fault.MonitorFault.TheVariants as monitor
use Rattle.tl_monitor.specs.declared.monitor.Monitor.{Monitor}
use Rattle.tl_monitor.specs.statement.Knows.{Answers, KnowsUnder, closed_after, fault_under, recorded_after}
use Rattle.tl_params.specs.declared.level.Level.{Level}
use Rattle.tl_params.specs.declared.liberties.Liberties.{Liberties}
use Rattle.tl_rules.specs.statement.Conformance.{Trace}

module _ {w : ℕ} (c : Covering w) (m : Monitor w) (levels : List Level) (l : Liberties) (x : Link × Beat w)
    (t : Trace w)
    (closed : Bool) (had : Covers c levels l t closed) where
  abbrev with_monitor : Covering w
  with_monitor = record c { monitor = m }

  pub follows_on : Follows with_monitor (length levels) l t
  follows_on = record {
    pasts_are = had.follows.pasts_are;
    many = had.follows.many;
    count_is = had.follows.count_is;
    rows_are = had.follows.rows_are;
    line_is = had.follows.line_is;
  }

  kept : (after : Bool) → KnowsUnder m levels l t after → Covers with_monitor levels l t after
  kept after knows = record {
    knows = knows;
    follows = follows_on;
    levels_are = had.levels_are;
    liberties_are = had.liberties_are;
  }

  -- the beat is refused
  pub refused : (fault : MonitorFault) (r : Result ⊤ MonitorFault) → r ≡ Err fault
      → KnowsUnder m levels l (recorded_after r x t) (closed_after r) → CoversAfter r with_monitor levels l x t
  refused fault (Ok u) e knows = absurd cc
  refused fault (Err monitor.Levels) e knows = kept true knows
  refused fault (Err (monitor.Broken rule)) e knows = kept true knows
  refused fault (Err monitor.Memory) e knows = tt
  refused fault (Err monitor.Closed) e knows = kept true knows

  -- a beat of a link without a level is not taken
  faulty : length levels ≤ x.0.0 → fault_under levels l t closed x ≡ None → ⊥
  faulty beyond none = go closed none
    where
      go : (b : Bool) → fault_under levels l t b x ≡ None → ⊥
      go true e = absurd cc
      go false e = let out : slice_get levels x.0.0 ≡ None = slice_get_past levels x.0.0 beyond in
          let e' = rw out at e in absurd cc

  pub beyond_all : (r : Result ⊤ MonitorFault) → length levels ≤ x.0.0 → Answers (fault_under levels l t closed x) r
      → KnowsUnder m levels l (recorded_after r x t) (closed_after r) → CoversAfter r with_monitor levels l x t
  beyond_all (Ok u) beyond answer knows = absurd (faulty beyond answer)
  beyond_all (Err fault) beyond answer knows = refused fault (Err fault) refl knows

-- the beat is taken
pub covers_more : {w : ℕ} (d : Covering w) (m : Monitor w) (levels : List Level) (l : Liberties) (t : Trace w)
    → d.monitor ≡ m
    → KnowsUnder m levels l t false → Follows d (length levels) l t → map (λ p. p.level) d.pasts.items ≡ levels
    → d.liberties ≡ l → Covers d levels l t false
covers_more d m levels l t is knows follows levels_are liberties_are = record {
  knows = subst (λ (k : Monitor _). KnowsUnder k levels l t false) (sym is) knows;
  follows = follows;
  levels_are = levels_are;
  liberties_are = liberties_are;
}

-- the counts of all bins are those of the trace
pub cells_covered : {w : ℕ} (c : Covering w) (levels : List Level) (l : Liberties) (t : Trace w) (closed : Bool)
    → Covers c levels l t closed → cells_in c ≡ cells l levels t
cells_covered {w = w} c levels l t closed had =
    ap (λ (may : Liberties). flat_map (cells_of w may) c.pasts.items) had.liberties_are
    ∙ cells_are l (length levels) 0 c.pasts.items levels t had.levels_are
    (λ m d lt. (had.follows.pasts_are m d lt).rows_are
    ∙ ap (λ (i : ℕ). table l (length levels) i t) (sym (none_more m)))
  where
    none_more : (m : ℕ) → 0 + m ≡ m
    none_more m = omega arith

-- so is the table of a link
pub table_covered : {w : ℕ} (c : Covering w) (levels : List Level) (l : Liberties) (t : Trace w) (closed : Bool) (i : ℕ)
    (p : LinkPast) → Covers c levels l t closed → slice_get c.pasts.items i ≡ Some p → i < length levels
    → p.rows.items ≡ table l (length levels) i t
table_covered c levels l t closed i p had is within =
    let short : i < length c.pasts.items = omega (arith, within, had.follows.many) in
    subst (λ (q : LinkPast). q.rows.items ≡ table l (length levels) i t)
    (get_or_from_slice_get c.pasts.items i p p is) (had.follows.pasts_are i p short).rows_are

-- so is each bin of a link
pub bin_covered : {w : ℕ} (c : Covering w) (levels : List Level) (l : Liberties) (t : Trace w) (closed : Bool)
    (i number : ℕ) → Covers c levels l t closed → bin_in c i number ≡ bin_on l levels i t number
bin_covered {w = w} c levels l t closed i number had = go (slice_get c.pasts.items i) refl
  where
    level_of : (found : Option LinkPast) → slice_get c.pasts.items i ≡ found
        → slice_get levels i ≡ option_map (λ (p : LinkPast). p.level) found
    level_of found is = ap (λ (all : List Level). slice_get all i) (sym had.levels_are)
        ∙ slice_get-map (λ (p : LinkPast). p.level) c.pasts.items i ∙ ap (option_map (λ (p : LinkPast). p.level)) is

    go : (found : Option LinkPast) → slice_get c.pasts.items i ≡ found
        → bin_from w c.liberties number found ≡ bin_on l levels i t number
    go None is = ap (bin_at l (length levels) i t number) (sym (level_of None is))
    go (Some p) is =
        let within : i < length levels =
        omega (arith, slice_get_within c.pasts.items i p is, had.follows.many) in
        ap₂ (λ (may : Liberties) (rows : List Row). option_map (link_bin w may p.level) (slice_get rows number))
        had.liberties_are (table_covered c levels l t closed i p had is within)
        ∙ ap (bin_at l (length levels) i t number) (sym (level_of (Some p) is))
