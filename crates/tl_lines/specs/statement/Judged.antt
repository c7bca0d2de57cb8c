-- The judgement of a trace.
use Rattle.std.specs.Prelude.{◌≡◌, ◌⊎◌, ℕ, ◌+◌, List, [], ◌∷◌, ◌++◌, length, codes, Option, None, Some, option_map}
use Rattle.std.specs.Fmt.{decimal}
use Rattle.tl_beat.specs.declared.beat.Link.{Link}
use Rattle.tl_beat.specs.declared.beat.Beat.{Beat}
use Rattle.tl_beat.specs.declared.fault.LineFault.{LineFault}
use Rattle.tl_beat.specs.statement.Line.{Spells, line_fault}
use Rattle.tl_params.specs.declared.level.Level.{Level}
use Rattle.tl_params.specs.declared.profile.Profile.{Profile}
use Rattle.tl_rules.specs.statement.Conformance.{Trace, broken_on_link}
use Rattle.tl_params.specs.declared.width.Width.{Width}
use Rattle.tl_lines.specs.declared.fault.Fault.{Fault}
use Rattle.tl_lines.specs.declared.fault.Fault.TheVariants.{Header, Line, Rule as Breaks}
use Rattle.tl_lines.specs.declared.status.Status.{Status}
use Rattle.tl_lines.specs.declared.status.Status.TheVariants.{Clean, Broken}
use Rattle.tl_lines.specs.statement.Fault.{fault_text}
use Rattle.tl_lines.specs.statement.Trace.{SpellsHeader}
use Rattle.tl_lines.specs.statement.Width.{bytes_of}

-- The meaning of a header: the bytes of a beat, the liberties of the links, as a profile or in another form, and the
-- levels of the links.
abbrev pub Headers : Type 0 → Type 1
Headers May = List ℕ → Width → May → List Level → Type 0

-- The fault of a beat, if any, on links of these levels after the beats of a trace. The newest beat of the trace is
-- first.
abbrev pub FaultsOf : Type 0 → Type 0
FaultsOf May = (w : ℕ) → List Level → May → Link × Beat w → Trace w → Option Fault

-- the faults of beats on links with a profile
abbrev pub Faults : Type 0
Faults = FaultsOf Profile

-- The line is at fault for this after the beats of t. It spells no beat, or one that is at fault for it.
abbrev pub IsAtFault : {May : Type 0} {w : ℕ} → FaultsOf May → List Level → May → Trace w → List ℕ → Fault → Type 0
IsAtFault {w = w} faults levels p t line fault =
    ((of_line : LineFault) × (line_fault w line ≡ Some of_line) × (fault ≡ Line of_line))
    ⊎ ((link : Link) × (beat : Beat w) × Spells line link beat × (faults w levels p (link, beat) t ≡ Some fault))

-- The text and status of these lines, after a header and the beats of t. If each line spells a beat without a fault,
-- the text is the one for the number of all beats. Otherwise it is `line N X` for the first line at fault, for every
-- continuation. The header is line 1.
unfoldable pub JudgedAfter : {May : Type 0} {w : ℕ} → FaultsOf May → (ℕ → List ℕ) → List Level → May → Trace w
    → List (List ℕ) → List ℕ → Status → Type 0
JudgedAfter faults said levels p t [] text status = (text ≡ said (length t)) × (status ≡ Clean)
JudgedAfter {w = w} faults said levels p t (line ∷ lines) text status =
    ((link : Link) × (beat : Beat w) × Spells line link beat × (faults w levels p (link, beat) t ≡ None)
    × JudgedAfter faults said levels p ((link, beat) ∷ t) lines text status)
    ⊎ ((fault : Fault) × IsAtFault faults levels p t line fault × (text ≡ fault_text (length t + 2) fault)
    × (status ≡ Broken))

-- The text and status of a whole trace. Line 1 is at fault if it is missing or spells no header.
unfoldable pub JudgedBy : {May : Type 0} → Headers May → FaultsOf May → (ℕ → List ℕ) → List (List ℕ) → List ℕ → Status
    → Type 0
JudgedBy heads faults said [] text status = (text ≡ fault_text 1 Header) × (status ≡ Broken)
JudgedBy {May} heads faults said (line ∷ lines) text status =
    ((width : Width) × (p : May) × (levels : List Level) × heads line width p levels
    × JudgedAfter {w = bytes_of width} faults said levels p [] lines text status)
    ⊎ (((width : Width) (p : May) (levels : List Level) → ¬ heads line width p levels)
    × (text ≡ fault_text 1 Header) × (status ≡ Broken))

-- ---- each link by itself

-- `clean N`: none of N beats is at fault
unfoldable pub clean_text : ℕ → List ℕ
clean_text n = codes "clean " ++ decimal n ++ codes "\n"

-- a beat is at fault for the first rule that it breaks after the earlier beats of its own link
abbrev pub faults_of_links : Faults
faults_of_links w levels p x t = option_map Breaks (broken_on_link levels p x t)

-- the text and status of a trace that is judged link by link
abbrev pub Judged : List (List ℕ) → List ℕ → Status → Type 0
Judged = JudgedBy SpellsHeader faults_of_links clean_text
