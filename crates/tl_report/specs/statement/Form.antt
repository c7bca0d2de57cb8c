-- The four forms that a trace may have, and the fault of a beat of each: narrow beats, wide ones, and either with commits
-- between them.
use Rattle.std.specs.Prelude.{◌≡◌, ◌⊎◌, ◌∷◌, ℕ, Bool, List, length, Option, Some, None, reverse}
use Rattle.tl_beat.specs.declared.beat.Beat.{Beat}
use Rattle.tl_beat.specs.declared.beat.Link.{Link}
use Rattle.tl_beat.specs.declared.fault.LineFault.{LineFault}
use Rattle.tl_beat.specs.statement.Line.{Spells, line_fault}
use Rattle.tl_lines.specs.declared.fault.Fault.{Fault}
use Rattle.tl_lines.specs.declared.fault.Fault.TheVariants.{Line}
use Rattle.tl_lines.specs.statement.JudgedLinks.{faults_by}
use Rattle.tl_params.specs.declared.level.Level.{Level}
use Rattle.tl_params.specs.declared.liberties.Liberties.{Liberties}
use Rattle.tl_commit_lines.specs.statement.MarkedHeader.{MarkedLinks}
use Rattle.tl_commit_lines.specs.statement.JudgedEvents.{fault_by}
use Rattle.tl_events.specs.declared.commit.Event.{Event}
use Rattle.tl_events.specs.statement.EventLine.{SpellsEvent, event_fault}
use Rattle.tl_report.specs.statement.Taken.{cell_of, event_cell_of, wide_cell_of, wide_event_cell_of}
use Rattle.tl_wide.specs.declared.beat.WideBeat.{WideBeat}
use Rattle.tl_wide.specs.statement.Line.{WideSpells, wide_line_fault}
use Rattle.tl_wide_event_lines.specs.statement.EventFaults.{wide_fault_by}
use Rattle.tl_wide_events.specs.declared.commit.WideEvent.{WideEvent}
use Rattle.tl_wide_events.specs.statement.WideEventLine.{SpellsWideEvent, wide_event_fault}
use Rattle.tl_wide_lines.specs.statement.JudgedTrace.{first_fault_of}

-- the terms of a trace: whether its links are judged together, their liberties, and their levels
pub record Terms : Type 0 where
  pub together : Bool
  pub may : Liberties
  pub levels : List Level

-- the terms of a trace with commits: the same, of links of which some may have the mark that all their stores are in
-- it, and whether memory was zero before it
pub record EventTerms : Type 0 where
  pub together : Bool
  pub may : Liberties
  pub links : MarkedLinks

-- A form of beats, or of beats and commits, each with its link. The newest beat of a trace is first.
pub record Form (X : Type 0) : Type 1 where
  -- the line is that of the beat
  pub spells : List ℕ → X → Type 0
  -- the fault of a line that spells no beat
  pub line_fault : List ℕ → Option LineFault
  -- after the beats of a trace the beat isn't at fault
  pub is_good : List X → X → Type 0
  -- after the beats of a trace the beat is at fault for this
  pub is_bad : List X → X → Fault → Type 0
  -- the cell in which the beat counts
  pub cell : X → ℕ

-- narrow beats: each is at fault after those of a trace as the rules say
abbrev pub narrow : (w : ℕ) → Terms → Form (Link × Beat w)
narrow w terms = record {
  spells = λ line x. Spells line x.0 x.1;
  line_fault = line_fault w;
  is_good = λ t x. faults_by terms.together w terms.levels terms.may x t ≡ None;
  is_bad = λ t x fault. faults_by terms.together w terms.levels terms.may x t ≡ Some fault;
  cell = λ x. cell_of x.0 x.1;
}

-- the place and the fault of the first beat at fault of a wide trace, of which the newest beat is first
abbrev pub first_fault_in : {w : ℕ} → Terms → List (Link × WideBeat w) → Option (ℕ × Fault)
first_fault_in terms t = first_fault_of terms.together terms.may terms.levels (reverse t)

-- Wide beats: each is at fault after those of a trace if, of the trace with it, it is the first that is at fault.
abbrev pub wide : (w : ℕ) → Terms → Form (Link × WideBeat w)
wide w terms = record {
  spells = λ line x. WideSpells line x.0 x.1;
  line_fault = wide_line_fault w;
  is_good = λ t x. first_fault_in terms (x ∷ t) ≡ None;
  is_bad = λ t x fault. first_fault_in terms (x ∷ t) ≡ Some (length t, fault);
  cell = λ x. wide_cell_of x.0 x.1;
}

-- beats and commits: each is at fault after those of a trace as the rules of both say
abbrev pub events : (w : ℕ) → EventTerms → Form (Link × Event w)
events w terms = record {
  spells = λ line x. SpellsEvent line x.0 x.1;
  line_fault = event_fault w;
  is_good = λ e x. fault_by w terms.together terms.links terms.may x.0 x.1 e ≡ None;
  is_bad = λ e x fault. fault_by w terms.together terms.links terms.may x.0 x.1 e ≡ Some fault;
  cell = λ x. event_cell_of x.0 x.1;
}

-- Wide beats and commits: each is at fault after those of a trace as the rules say of the events that it becomes, or if no
-- number is left for one of its names.
abbrev pub wide_events : (w : ℕ) → EventTerms → Form (Link × WideEvent w)
wide_events w terms = record {
  spells = λ line x. SpellsWideEvent line x.0 x.1;
  line_fault = wide_event_fault w;
  is_good = λ t x. wide_fault_by w terms.together terms.links terms.may x.0 x.1 t ≡ None;
  is_bad = λ t x fault. wide_fault_by w terms.together terms.links terms.may x.0 x.1 t ≡ Some fault;
  cell = λ x. wide_event_cell_of x.0 x.1;
}

-- The line is at fault for this after the beats of t. It spells no beat, or one that is at fault for it.
abbrev pub IsAtFault : {X : Type 0} → Form X → List X → List ℕ → Fault → Type 0
IsAtFault {X} form t line fault =
    ((of_line : LineFault) × (form.line_fault line ≡ Some of_line) × (fault ≡ Line of_line))
    ⊎ ((x : X) × form.spells line x × form.is_bad t x fault)
