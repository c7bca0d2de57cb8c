-- The calls of C on a manager and its beats to send, as the crate of ports states them. Bad input changes nothing.
use Rattle.std.specs.Prelude.{ℕ, ◌≡◌, ⊤, Option, Some, None, Result, Ok, Err, is_none}
use Rattle.tl_beat.specs.declared.beat.Beat.{Beat}
use Rattle.tl_beat.specs.declared.beat.Link.{Link}
use Rattle.tl_beat.specs.declared.channel.Channel.{Channel}
use Rattle.tl_burst.specs.statement.Messages.{channel_of}
use Rattle.tl_params.specs.declared.config.Config.{Config}
use Rattle.tl_params.specs.declared.rule.Rule.{Rule}
use Rattle.tl_manager.specs.declared.manager.admission.Admission.{Admission}
use Rattle.tl_manager.specs.declared.manager.admission.Admission.TheVariants as admission
use Rattle.tl_manager.specs.statement.End.{End}
use Rattle.tl_manager.specs.statement.Offer as offer
use Rattle.tl_partner.specs.declared.terms.Terms.{Terms}
use Rattle.tl_partner.specs.statement.Cleaning.{PartnerEnd}
use Rattle.tl_partner.specs.statement.Partner.{stalls_under}
use Rattle.tl_ports.specs.declared.manager.ManagerPort.{ManagerPort}
use Rattle.tl_ports.specs.statement.Manager.{AdmitTold, KnowsEnd, KnowsEndUnder, PoppedOn, next_beat_on}
use Rattle.tl_pictures.specs.declared.answer.Answer.{Answer}
use Rattle.tl_pictures.specs.declared.picture.Picture.{Picture}
use Rattle.tl_pictures.specs.statement.Answer.{ok, broken, no_memory, IsBad}
use Rattle.tl_pictures.specs.statement.Codes.{channel_at, link_at}
use Rattle.tl_pictures.specs.statement.Depicted.{flag, ShowsBeat}
use Rattle.tl_pictures.specs.statement.Picture.{shown}

-- ---- offered beats

-- the answer to an offered beat: ok, the broken rule, or out of memory
abbrev pub admit_answer : {E : Type 0} → Result (Result Admission Rule) E → Answer
admit_answer (Ok (Ok admission)) = ok
admit_answer (Ok (Err rule)) = broken rule
admit_answer (Err error) = no_memory

-- 1 if the beat is taken, 0 if it has to wait
abbrev pub admission_number : Admission → ℕ
admission_number admission.Waits = 0
admission_number admission.Passes = 1

-- that number after an offer, or the earlier number if the offer has no such result
abbrev pub taken_in : {E : Type 0} → Result (Result Admission Rule) E → ℕ → ℕ
taken_in (Ok (Ok admission)) was = admission_number admission
taken_in (Ok (Err rule)) was = was
taken_in (Err error) was = was

-- the beat was offered on its channel, and C gets the answer and that number
pub record IsAdmitted {w : ℕ} {E : Type 0} (old new : ManagerPort w) (link : Link) (x : Beat w) (was taken : ℕ)
    (answer : Answer) (told : Result (Result Admission Rule) E) : Type 0 where
  pub admits : AdmitTold old new link (channel_of x) x told
  pub answers : answer ≡ admit_answer told
  pub taken_is : taken ≡ taken_in told was

-- C offers the beat on the link; None of either is bad input
abbrev pub AdmittedBeat : {w : ℕ} → ManagerPort w → ManagerPort w → Option Link → Option (Beat w) → ℕ → ℕ → Answer
    → Type 0
AdmittedBeat old new (Some link) (Some x) was taken answer =
    (told : Result (Result Admission Rule) ⊤) × IsAdmitted old new link x was taken answer told
AdmittedBeat old new _ _ was taken answer = IsBad answer was taken × (new ≡ old)

-- C offers a manager the beat of this picture, on the link with this number
abbrev pub Admitted : (w : ℕ) → ManagerPort w → ManagerPort w → ℕ → Picture → ℕ → ℕ → Answer → Type 0
Admitted w old new link x was taken answer = AdmittedBeat old new (link_at link) (shown w x) was taken answer

-- the manager would stall the beat, as a flag; None of either is bad input
abbrev pub StallsBeatAt : {w : ℕ} → ManagerPort w → Option Link → Option (Beat w) → ℕ → ℕ → Answer → Type 0
StallsBeatAt {w} port (Some link) (Some x) was stalled answer = (answer ≡ ok)
    × ((config : Config) (e : End w) → KnowsEnd port config e
    → stalled ≡ flag (offer.stalls config link (channel_of x) x e))
    × ((terms : Terms) (config : Config) (e : PartnerEnd w) → KnowsEndUnder port terms config e
    → stalled ≡ flag (stalls_under terms config link (channel_of x) x e))
StallsBeatAt port _ _ was stalled answer = IsBad answer was stalled

-- the manager would stall the beat of this picture on the link with this number, as a flag
abbrev pub StallsAt : (w : ℕ) → ManagerPort w → ℕ → Picture → ℕ → ℕ → Answer → Type 0
StallsAt w port link x was stalled answer = StallsBeatAt port (link_at link) (shown w x) was stalled answer

-- ---- beats to send

-- the picture shows the next beat to send on the channel of the link; None of either is bad input
abbrev pub ShowsOnLink : {w : ℕ} → ManagerPort w → Option Link → Option Channel → Picture → Picture → Answer → Type 0
ShowsOnLink port (Some link) (Some ch) was picture answer = ShowsBeat (next_beat_on link.0 ch port) was picture answer
ShowsOnLink port _ _ was picture answer = IsBad answer was picture

-- the picture shows the next beat to send, on the channel with this code and the link with this number
abbrev pub ShowsAt : (w : ℕ) → ManagerPort w → ℕ → ℕ → Picture → Picture → Answer → Type 0
ShowsAt w port link channel was picture answer = ShowsOnLink port (link_at link) (channel_at channel) was picture answer

-- the first beat to send on the channel of the link is removed; None of either changes nothing
abbrev pub PopsOnLink : {w : ℕ} → ManagerPort w → ManagerPort w → Option Link → Option Channel → Type 0
PopsOnLink old new (Some link) (Some ch) = PoppedOn link.0 ch old new
PopsOnLink old new _ _ = new ≡ old

-- the picture shows the next beat to send on that channel of that link, and the beat is removed
abbrev pub PopsAt : (w : ℕ) → ManagerPort w → ManagerPort w → ℕ → ℕ → Picture → Picture → Answer → Type 0
PopsAt w old new link channel was picture answer =
    ShowsAt w old link channel was picture answer × PopsOnLink old new (link_at link) (channel_at channel)

-- ---- closed links

-- the link is closed, or the manager has no such link, as a flag; None is bad input
abbrev pub ClosedOnLink : {w : ℕ} → ManagerPort w → Option Link → ℕ → ℕ → Answer → Type 0
ClosedOnLink port None was closed answer = IsBad answer was closed
ClosedOnLink {w} port (Some link) was closed answer = (answer ≡ ok)
    × ((config : Config) (e : End w) → KnowsEnd port config e
    → closed ≡ flag (is_none (offer.open_level config link e)))
    × ((terms : Terms) (config : Config) (e : PartnerEnd w) → KnowsEndUnder port terms config e
    → closed ≡ flag (is_none (offer.open_level config link e.manager)))

-- the link with this number is closed, or the manager has no such link, as a flag
abbrev pub ClosedAt : (w : ℕ) → ManagerPort w → ℕ → ℕ → ℕ → Answer → Type 0
ClosedAt w port link was closed answer = ClosedOnLink port (link_at link) was closed answer
