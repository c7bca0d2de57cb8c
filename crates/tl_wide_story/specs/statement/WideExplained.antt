-- The reasons for the verdict on a wide trace: those for the first part of its beat at fault that breaks the rule.
use Rattle.std.specs.Prelude.{◌≡◌, ◌+◌, ◌++◌, ℕ, Bool, true, false, List, [], ◌∷◌, length, slice_get, Option, Some, ⊤, codes}
use Rattle.std.specs.Fmt.{decimal}
use Rattle.std.specs.Io.KnownBytes.{Consumes}
use Rattle.tl_beat.specs.declared.beat.Beat.{Beat}
use Rattle.tl_beat.specs.declared.beat.Link.{Link}
use Rattle.tl_reasons.specs.declared.explain_fault.ExplainFault.{ExplainFault}
use Rattle.tl_reasons.specs.declared.explain_fault.ExplainFault.TheVariants.{Tool}
use Rattle.tl_lines.specs.declared.fault.Fault.{Fault}
use Rattle.tl_lines.specs.declared.fault.Fault.TheVariants.{Rule as Breaks, MemoryRule as BreaksTogether}
use Rattle.tl_lines.specs.declared.status.Status.{Status}
use Rattle.tl_lines.specs.declared.status.Status.TheVariants.{Clean, Broken}
use Rattle.tl_lines.specs.declared.status.ToolFault.TheVariants.{Write}
use Rattle.tl_lines.specs.statement.Fault.{fault_text}
use Rattle.tl_lines.specs.statement.Lines.{lines_of}
use Rattle.tl_lines.specs.statement.Parts.{AppendsShort}
use Rattle.tl_reasons.specs.statement.Unexplained.{GivesUpReading, ReachesBy}
use Rattle.tl_evidence.specs.statement.Convicted.{IsConvicted}
use Rattle.tl_explain.specs.statement.Sentences.{memory_rule_line, rule_line}
use Rattle.tl_params.specs.declared.level.Level.{Level}
use Rattle.tl_params.specs.declared.liberties.Liberties.{Liberties}
use Rattle.tl_params.specs.declared.rule.Rule.{Rule}
use Rattle.tl_rules.specs.statement.Conformance.{Trace}
use Rattle.tl_wide.specs.declared.beat.WideBeat.{WideBeat}
use Rattle.tl_wide.specs.declared.width.WideWidth.{WideWidth}
use Rattle.tl_wide.specs.statement.Line.{WideSpells}
use Rattle.tl_wide.specs.statement.Naming.{WideTrace}
use Rattle.tl_wide.specs.statement.Narrowed.{beats_of}
use Rattle.tl_wide.specs.statement.Width.{part_width, wide_bytes_of}
use Rattle.tl_wide_lines.specs.statement.Behind.{beats_taken, behind, with_parts}
use Rattle.tl_wide_lines.specs.statement.JudgedTrace.{BeginWith, JudgedTrace, TraceSoFar}
use Rattle.tl_wide_lines.specs.statement.WideHeader.{NamesWide}
use Rattle.tl_wide_lines.specs.statement.WideText.{wide_text_of}

-- ---- the text

-- the words of a wide beat, after the number of its line
unfoldable pub wide_beat_line : {w : ℕ} → ℕ → Link → WideBeat w → List ℕ
wide_beat_line n link x = codes "  " ++ decimal n ++ codes ": " ++ wide_text_of link x

-- the first lines of the reasons: the line of the rule, and the wide beat of line n, as it was written, that breaks it
abbrev pub wide_front_text : {w : ℕ} → List ℕ → ℕ → Link → WideBeat w → List ℕ
wide_front_text sentence n link x = codes "  " ++ sentence ++ wide_beat_line n link x

-- ---- why a part of a wide beat breaks a rule

-- A part of the wide beat breaks the rule, after the beats that the trace before it became and the parts before this
-- one.
pub record HasGuilty {w : ℕ} (rule : Rule) (may : Liberties) (levels : List Level) (trace : WideTrace w) (link : Link)
    (x : WideBeat w) : Type 0 where
  pub first : List (Beat (part_width w))
  pub part : Beat (part_width w)
  pub left : List (Beat (part_width w))
  pub parts_are : beats_of link x ((link, x) ∷ behind trace []) ≡ first ++ part ∷ left
  pub convicted : IsConvicted may (slice_get levels link.0) link rule part (with_parts link first (beats_taken trace))

-- ---- the reasons

-- a claim about a wide beat after a wide trace, on links with these liberties and levels
abbrev pub Claims : Type 1
Claims = (w : ℕ) → Liberties → List Level → WideTrace w → Link → WideBeat w → Type 0

-- Line n of the input that was read spells a wide beat of which this claim is true. The lines before it are a header and
-- a wide trace. The links have the liberties that the header names and those that are allowed. The reasons begin with
-- this line of a rule, and with that beat.
pub record IsShownWide (claims : Claims) (sentence : List ℕ) (allow : Liberties) (old new : Option (List ℕ)) (n : ℕ)
    (reasons : List ℕ) : Type 0 where
  pub width : WideWidth
  pub may : Liberties
  pub levels : List Level
  pub read : List ℕ
  pub consumed : Consumes old new read
  pub header : List ℕ
  pub names : NamesWide allow header width may levels
  pub bytes : ℕ
  pub of_width : wide_bytes_of width ≡ bytes
  pub trace : WideTrace bytes
  pub before : List (List ℕ)
  pub spelled : BeginWith trace before []
  pub line : List ℕ
  pub more : List (List ℕ)
  pub stands : lines_of read ≡ (header ∷ before) ++ line ∷ more
  pub number : n ≡ length trace + 2
  pub link : Link
  pub beat : WideBeat bytes
  pub spells : WideSpells line link beat
  pub claimed : claims bytes may levels trace link beat
  pub grounds : List ℕ
  pub begins : reasons ≡ wide_front_text sentence n link beat ++ grounds

-- the input that was read and the reasons explain the fault of line n, if a rule is broken; of a rule of memory only
-- the line is shown
abbrev pub ExplainsWideFault : Liberties → Option (List ℕ) → Option (List ℕ) → ℕ → List ℕ → Fault → Type 0
ExplainsWideFault allow old new n reasons (Breaks rule) =
    IsShownWide (λ w. HasGuilty {w = w} rule) (rule_line rule) allow old new n reasons
ExplainsWideFault allow old new n reasons (BreaksTogether rule) =
    IsShownWide (λ w may levels trace link x. ⊤) (memory_rule_line rule) allow old new n reasons
ExplainsWideFault allow old new n reasons _ = ⊤

-- the input that was read and the reasons explain the verdict, if a rule is broken
abbrev pub ExplainsWide : Liberties → Option (List ℕ) → Option (List ℕ) → List ℕ → List ℕ → Status → Type 0
ExplainsWide allow old new verdict reasons Clean = ⊤
ExplainsWide allow old new verdict reasons Broken = (n : ℕ) × (fault : Fault) × (verdict ≡ fault_text n fault)
    × ExplainsWideFault allow old new n reasons fault

-- ---- a file with two readers

-- The first reading, of each link by itself or of all together, reached its verdict.
abbrev pub ReachesWide : Bool → Liberties → Option (List ℕ) → Option (List ℕ) → List ℕ → Status → Type 0
ReachesWide together allow = ReachesBy (JudgedTrace together allow)

-- Both readings reached their ends, with this verdict and these reasons.
pub record ReachesBoth (together : Bool) (allow : Liberties) (had left had_again left_again : Option (List ℕ))
    (text : List ℕ) (status : Status) : Type 0 where
  pub verdict : List ℕ
  pub reasons : List ℕ
  pub reached : ReachesWide together allow had left verdict status
  pub explained : ExplainsWide allow had_again left_again verdict reasons status
  pub said : text ≡ verdict ++ reasons

-- An explanation ended with this fault. `Write`: both readings reached their ends, and the writer took only a front of
-- the text. Otherwise nothing was written: the first reading ended with the fault and the second didn't begin, or the
-- first reached its verdict and the second ended with the fault.
abbrev pub GivesUpWide : Bool → Liberties → Option (List ℕ) → Option (List ℕ) → Option (List ℕ) → Option (List ℕ)
    → Option (List ℕ) → Option (List ℕ) → ExplainFault → Type 0
GivesUpWide together allow had left had_again left_again held holds (Tool Write) =
    (text : List ℕ) × (status : Status) × ReachesBoth together allow had left had_again left_again text status
    × AppendsShort held holds text
GivesUpWide together allow had left had_again left_again held holds fault =
    GivesUpReading (TraceSoFar together allow) (JudgedTrace together allow) had left had_again left_again held holds fault
