-- The definition of a random schedule.
use Rattle.std.specs.Io.KnownBytes.{Appends}
use Rattle.std.specs.Prelude.{◌≡◌, ℕ, zero, suc, Bool, false, not, ◌&&◌, List, [], ◌++◌, length, nat_lt, Option, Some}
use Rattle.std.specs.Prelude.{None, ⊤, IsTrue}
use Rattle.tl_client.specs.statement.Ask.{breaks_b4, breaks_b5}
use Rattle.tl_client.specs.statement.Endpoint.{EndConfig}
use Rattle.tl_client.specs.declared.operation.Op.{Op}
use Rattle.tl_coherence.specs.declared.event.Event.{Event}
use Rattle.tl_coherence.specs.declared.event.Event.TheVariants.{Ask, Deliver}
use Rattle.tl_coherence.specs.statement.System.{terms_at}
use Rattle.tl_params.specs.declared.config.Config.{Config}
use Rattle.tl_params.specs.declared.header.Version.{Version}
use Rattle.tl_schedule.specs.declared.line.Line.{Line}
use Rattle.tl_schedule.specs.declared.line.Line.TheVariants as line_of
use Rattle.tl_schedule.specs.statement.EventLine.{SpellsLine, drain_line}
use Rattle.tl_schedule.specs.statement.Schedule.{schedule_line}
use Rattle.tl_lines.specs.statement.Parts.{AppendsPart}
use Rattle.tl_engine.specs.statement.Played.{HeadsSchedule}

-- ---- an event of a world

-- there is a client with these terms, its level has the operation (B4), and the operation is inside the map and well
-- formed (B5)
abbrev pub has_operation : {w : ℕ} → Option EndConfig → Op w → Bool
has_operation None op = false
has_operation (Some terms) op = not (breaks_b4 terms.level op) && not (breaks_b5 terms op)

-- the client exists and has the operation, or the link exists
abbrev pub is_event_of : {w : ℕ} → Config → Event w → Bool
is_event_of config (Ask client op) = has_operation (terms_at config client) op
is_event_of config (Deliver link channel) = nat_lt link.0 (length config.clients.items)

-- the line is an event of the world, or `drain`
abbrev pub IsSaidOf : {w : ℕ} → Config → Line w → Type 0
IsSaidOf config (line_of.Event event) = IsTrue (is_event_of config event)
IsSaidOf config line_of.Drain = ⊤

-- ---- the lines

-- the line, for beats of w bytes, spells such an event or `drain`
abbrev pub IsLineOf : ℕ → Config → List ℕ → Type 0
IsLineOf w config line = (said : Line w) × SpellsLine line said × IsSaidOf config said

-- the text grew by one such line
abbrev pub GrowsByLine : ℕ → Config → List ℕ → List ℕ → Type 0
GrowsByLine w config old new = (line : List ℕ) × (new ≡ old ++ line) × IsLineOf w config line

-- the text is n such lines
unfoldable pub AreLinesOf : ℕ → Config → ℕ → List ℕ → Type 0
AreLinesOf w config zero text = text ≡ []
AreLinesOf w config (suc n) text =
    (before line : List ℕ) × (text ≡ before ++ line) × AreLinesOf w config n before × IsLineOf w config line

-- ---- the whole

-- the header of a configuration
abbrev pub header_of : Version → Config → List ℕ
header_of version config = schedule_line version config.blocks config.trackers config.clients.items

-- the text is a header with the configuration, n lines of its world, and `drain`
pub record IsScheduleOf (w : ℕ) (version : Version) (config : Config) (n : ℕ) (text : List ℕ) : Type 0 where
  pub lines : List ℕ
  pub header_is : HeadsSchedule (header_of version config) version config
  pub lines_are : AreLinesOf w config n lines
  pub text_is : text ≡ header_of version config ++ (lines ++ drain_line)

-- the whole of such a schedule was written
abbrev pub WritesSchedule : ℕ → Version → Config → ℕ → Option (List ℕ) → Option (List ℕ) → Type 0
WritesSchedule w version config n old new = (text : List ℕ) × IsScheduleOf w version config n text
    × Appends old new text

-- a first part of such a schedule was written
abbrev pub WritesPart : ℕ → Version → Config → ℕ → Option (List ℕ) → Option (List ℕ) → Type 0
WritesPart w version config n old new = (text : List ℕ) × IsScheduleOf w version config n text
    × AppendsPart old new text
