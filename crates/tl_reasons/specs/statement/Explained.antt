-- The reasons for the verdict that a beat breaks a rule, on links with liberties.
use Rattle.std.specs.Prelude.{◌≡◌, ℕ, ◌+◌, Bool, true, false, List, ◌∷◌, ◌++◌, length, slice_get, Option, Some, None, ⊤, codes}
use Rattle.std.specs.Io.KnownBytes.{Consumes}
use Rattle.tl_beat.specs.declared.beat.Beat.{Beat}
use Rattle.tl_beat.specs.declared.beat.Beat.TheVariants as beat
use Rattle.tl_beat.specs.declared.beat.BeatD.{BeatD}
use Rattle.tl_beat.specs.declared.beat.Link.{Link}
use Rattle.tl_beat.specs.statement.Line.{Spells}
use Rattle.tl_burst.specs.statement.Messages.{channel_of}
use Rattle.tl_params.specs.declared.level.Level.{Level}
use Rattle.tl_params.specs.declared.liberties.Liberties.{Liberties}
use Rattle.tl_params.specs.declared.rule.Rule.{Rule}
use Rattle.tl_params.specs.declared.rule.Rule.TheVariants.{L1, L2, L3, L4, L5, L6, L7}
use Rattle.tl_params.specs.declared.width.Width.{Width}
use Rattle.tl_rules.specs.statement.Conformance.{Trace}
use Rattle.tl_rules.specs.statement.Liberties.{illegal_under}
use Rattle.tl_explain.specs.declared.reason.Reason.{Reason}
use Rattle.tl_explain.specs.statement.Reasons.{IsEvidenceUnder, convicted_under}
use Rattle.tl_explain.specs.statement.Sentences.{beat_line, memory_rule_line, rule_line}
use Rattle.tl_together.specs.declared.breach.Breach.TheVariants.{OfMemory}
use Rattle.tl_params.specs.declared.memory_rule.MemoryRule.{MemoryRule}
use Rattle.tl_together.specs.statement.Coherence.{broken_together}
use Rattle.tl_witness.specs.statement.Naming.{as_recorded}
use Rattle.tl_witness.specs.statement.Grounds.{grounds_text}
use Rattle.tl_lines.specs.statement.Lines.{lines_of}
use Rattle.tl_lines.specs.declared.fault.Fault.{Fault}
use Rattle.tl_lines.specs.declared.fault.Fault.TheVariants.{Rule as Breaks, MemoryRule as BreaksTogether}
use Rattle.tl_lines.specs.declared.status.Status.{Status}
use Rattle.tl_lines.specs.declared.status.Status.TheVariants.{Clean, Broken}
use Rattle.tl_lines.specs.statement.Fault.{fault_text}
use Rattle.tl_lines.specs.statement.JudgedLinks.{JudgedLinks}
use Rattle.tl_lines.specs.statement.LinksHeader.{NamesAllowed}
use Rattle.tl_lines.specs.statement.SpelledTrace.{AreLinesOf, SpellsTrace}
use Rattle.tl_lines.specs.statement.Width.{bytes_of}

-- the first lines of the reasons: the rule, and the beat of line n that breaks it
abbrev pub front_text : {w : ℕ} → Rule → ℕ → Link → Beat w → List ℕ
front_text rule n link beat = codes "  " ++ rule_line rule ++ beat_line n link beat

-- The input that was read shows that its line n breaks the rule, on links with the liberties that its header names and
-- those that are allowed. The lines before line n are a header and the beats of a trace, and line n spells the beat.
-- The claim of the reason is true of that trace. The rule follows from the reason, the liberties and the beat alone.
-- This holds for every continuation of the input. The reasons begin with the rule and that beat.
pub record IsExplained (allow : Liberties) (old new : Option (List ℕ)) (n : ℕ) (rule : Rule) (reasons : List ℕ) : Type 0
  where
    pub width : Width
    pub may : Liberties
    pub levels : List Level
    pub read : List ℕ
    pub consumed : Consumes old new read
    pub header : List ℕ
    pub names : NamesAllowed allow header width may levels
    pub bytes : ℕ
    pub of_width : bytes_of width ≡ bytes
    pub trace : Trace bytes
    pub before : List (List ℕ)
    pub spelled : AreLinesOf trace before
    pub line : List ℕ
    pub stands : (more : List ℕ) → (behind : List (List ℕ))
        × (lines_of (read ++ more) ≡ (header ∷ before) ++ line ∷ behind)
    pub number : n ≡ length trace + 2
    pub link : Link
    pub beat : Beat bytes
    pub spells : Spells line link beat
    pub reason : Reason
    pub evidence : IsEvidenceUnder may link.0 beat reason trace
    pub convicts : convicted_under may beat reason ≡ Some rule
    pub grounds : List ℕ
    pub begins : reasons ≡ front_text rule n link beat ++ grounds

-- the rule that a beat breaks by itself on a link of this level with these liberties; L1 if the link has no level
abbrev pub broken_alone : {w : ℕ} → Liberties → Option Level → Beat w → Option Rule
broken_alone may None beat = Some L1
broken_alone may (Some level) beat = illegal_under may level (channel_of beat) beat

-- The input that was read shows that its line n spells a beat that breaks the rule of legality by itself, on its link of
-- the header, which has the liberties that the header names and those that are allowed. This holds for every continuation
-- of the input. The reasons begin with the rule and that beat.
pub record IsNamed (allow : Liberties) (old new : Option (List ℕ)) (n : ℕ) (rule : Rule) (reasons : List ℕ) : Type 0
  where
    pub read : List ℕ
    pub consumed : Consumes old new read
    pub header : List ℕ
    pub width : Width
    pub may : Liberties
    pub levels : List Level
    pub names : NamesAllowed allow header width may levels
    pub before : List (List ℕ)
    pub line : List ℕ
    pub stands : (more : List ℕ) → (behind : List (List ℕ))
        × (lines_of (read ++ more) ≡ (header ∷ before) ++ line ∷ behind)
    pub number : n ≡ length before + 2
    pub bytes : ℕ
    pub of_width : bytes_of width ≡ bytes
    pub link : Link
    pub beat : Beat bytes
    pub spells : Spells line link beat
    pub breaks : broken_alone may (slice_get levels link.0) beat ≡ Some rule
    pub grounds : List ℕ
    pub begins : reasons ≡ front_text rule n link beat ++ grounds

-- the same for a rule of memory
abbrev pub memory_front_text : {w : ℕ} → MemoryRule → ℕ → Link → Beat w → List ℕ
memory_front_text rule n link beat = codes "  " ++ memory_rule_line rule ++ beat_line n link beat

-- The second reading shows that line n breaks the rule of memory, all links together. The lines before it are a header
-- and the beats of a trace. Line n spells a response that breaks this rule after that trace, and none of its link. The
-- reasons are the rule, that response, and the lines that the breach rests on, by definition.
pub record IsWitnessed (allow : Liberties) (old new : Option (List ℕ)) (n : ℕ) (rule : MemoryRule) (reasons : List ℕ)
    : Type 0 where
  pub read : List ℕ
  pub consumed : Consumes old new read
  pub judged : JudgedLinks true allow (lines_of read) (fault_text n (BreaksTogether rule)) Broken
  pub before : List (List ℕ)
  pub line : List ℕ
  pub behind : List (List ℕ)
  pub stands : lines_of read ≡ before ++ line ∷ behind
  pub number : n ≡ length before + 1
  pub bytes : ℕ
  pub levels : List Level
  pub may : Liberties
  pub trace : Trace bytes
  pub spelled : SpellsTrace allow before levels may trace
  pub link : Link
  pub response : BeatD bytes
  pub spells : Spells line link (beat.D response)
  pub breaks : broken_together levels may (link, beat.D response) trace ≡ Some (OfMemory rule)
  pub says : reasons ≡ memory_front_text rule n link (beat.D response)
      ++ grounds_text as_recorded rule (length levels) link.0 response trace

-- the rule isn't one of legality, which a beat breaks by itself
abbrev pub is_of_order : Rule → Bool
is_of_order L1 = false
is_of_order L2 = false
is_of_order L3 = false
is_of_order L4 = false
is_of_order L5 = false
is_of_order L6 = false
is_of_order L7 = false
is_of_order _ = true

-- the input that was read and the reasons explain the fault of line n, if a rule is broken
abbrev pub ExplainsFault : Liberties → Option (List ℕ) → Option (List ℕ) → ℕ → List ℕ → Fault → Type 0
ExplainsFault allow old new n reasons (Breaks rule) =
    (is_of_order rule ≡ true → IsExplained allow old new n rule reasons)
    × (is_of_order rule ≡ false → IsNamed allow old new n rule reasons)
ExplainsFault allow old new n reasons (BreaksTogether rule) = IsWitnessed allow old new n rule reasons
ExplainsFault allow old new n reasons _ = ⊤

-- the input that was read and the reasons explain the verdict, if a rule is broken
abbrev pub Explains : Liberties → Option (List ℕ) → Option (List ℕ) → List ℕ → List ℕ → Status → Type 0
Explains allow old new verdict reasons Clean = ⊤
Explains allow old new verdict reasons Broken = (n : ℕ) × (fault : Fault) × (verdict ≡ fault_text n fault)
    × ExplainsFault allow old new n reasons fault
