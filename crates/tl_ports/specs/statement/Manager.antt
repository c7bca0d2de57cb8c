-- A manager with the beats that it has still to send, by the definition of a manager's end of its links.
use Rattle.std.specs.Prelude.{ℕ, List, [], ◌≡◌, ◌⊎◌, ◌++◌, drop, length, replicate, slice_get, Option, Some, None, Result, Ok, Err}
use Rattle.std.specs.Prelude.{if◌then◌else◌}
use Rattle.tl_beat.specs.declared.beat.Beat.{Beat}
use Rattle.tl_beat.specs.declared.beat.Link.{Link}
use Rattle.tl_beat.specs.declared.channel.Channel.{Channel}
use Rattle.tl_params.specs.declared.config.Config.{Config}
use Rattle.tl_params.specs.declared.config.NewFault.{NewFault}
use Rattle.tl_params.specs.declared.config.NewFault.TheVariants.{Memory}
use Rattle.tl_params.specs.declared.rule.Rule.{Rule}
use Rattle.tl_params.specs.statement.Config.{config_fault}
use Rattle.tl_manager.specs.code.Directories.{perm_of_bits}
use Rattle.tl_manager.specs.declared.manager.admission.Admission.{Admission}
use Rattle.tl_manager.specs.declared.manager.admission.Admission.TheVariants.{Waits, Passes}
use Rattle.tl_manager.specs.statement.End.{End}
use Rattle.tl_manager.specs.statement.Handing.{Handed}
use Rattle.tl_manager.specs.statement.Offer.{Reception, Refused, Stalled, Sent, offered}
use Rattle.tl_partner.specs.code.Cleanings.{KnowsPartner}
use Rattle.tl_partner.specs.declared.terms.Terms.{Terms}
use Rattle.tl_partner.specs.laws.Without.{GrantsNone}
use Rattle.tl_partner.specs.statement.Cleaning.{PartnerEnd, fresh_partner}
use Rattle.tl_partner.specs.statement.Partner.{offered_under}
use Rattle.tl_ports.specs.declared.manager.ManagerPort.{ManagerPort}
use Rattle.tl_ports.specs.statement.Waiting.{waiting, handed_all, is_place}

-- the manager has this configuration and this end of its links, whatever it grants
abbrev pub KnowsPort : {w : ℕ} → ManagerPort w → Config → PartnerEnd w → Type 0
KnowsPort port config e =
    KnowsPartner perm_of_bits port.partner.lenient.manager port.partner.cleanings.items config e

-- the manager grants its clients these terms, and has this configuration and this end of its links
abbrev pub KnowsEndUnder : {w : ℕ} → ManagerPort w → Terms → Config → PartnerEnd w → Type 0
KnowsEndUnder port terms config e = (port.partner.lenient.terms ≡ terms) × KnowsPort port config e

-- the end of a manager without any unfinished cleaning
abbrev pub alone : {w : ℕ} → Config → End w → PartnerEnd w
alone config e = record { manager = e; cleanings = replicate (length config.clients.items) [] }

-- the manager grants its clients no liberty, and has this configuration and this end of its links
abbrev pub KnowsEnd : {w : ℕ} → ManagerPort w → Config → End w → Type 0
KnowsEnd port config e = GrantsNone port.partner.lenient.terms × KnowsPort port config (alone config e)

-- the beats that wait on a channel of a link, the oldest first
abbrev pub to_send_on : {w : ℕ} → ℕ → Channel → ManagerPort w → List (Beat w)
to_send_on link ch port = waiting link ch port.outgoing

-- the next beat to send on a channel of a link
abbrev pub next_beat_on : {w : ℕ} → ℕ → Channel → ManagerPort w → Option (Beat w)
next_beat_on link ch port = slice_get (to_send_on link ch port) 0

-- these messages were handed out, each on its link: their beats wait after those that waited
abbrev pub HandedOutAll : {w : ℕ} → Handed w → ManagerPort w → ManagerPort w → Type 0
HandedOutAll handed old new =
    (link : ℕ) (ch : Channel) → to_send_on link ch new ≡ to_send_on link ch old ++ handed_all link ch handed

-- the manager and its waiting beats are as they were
abbrev pub UnchangedManager : {w : ℕ} → ManagerPort w → ManagerPort w → Type 0
UnchangedManager old new =
    (new.partner ≡ old.partner) × ((link : ℕ) (ch : Channel) → to_send_on link ch new ≡ to_send_on link ch old)

-- the answer to a beat, and the messages that are handed out for it
abbrev pub admission_in : {w : ℕ} → Reception w → Result Admission Rule
admission_in (Refused rule) = Err rule
admission_in Stalled = Ok Waits
admission_in (Sent handed) = Ok Passes

-- the messages that are handed out with an answer
abbrev pub handed_in : {w : ℕ} → Reception w → Handed w
handed_in (Refused rule) = []
handed_in Stalled = []
handed_in (Sent handed) = handed

-- the result of `offer` for a manager that grants no liberty: the definition's answer, and its messages are handed out
abbrev pub IsAnswered : {w : ℕ} → ManagerPort w → ManagerPort w → Link → Channel → Beat w → Result Admission Rule
    → Type 0
IsAnswered {w} old new link ch x told = (config : Config) (e : End w) → KnowsEnd old config e →
    (told ≡ admission_in (offered config link ch x e).0)
    × HandedOutAll (handed_in (offered config link ch x e).0) old new
    × KnowsEnd new config (offered config link ch x e).1

-- the same for a manager whose clients have liberties
abbrev pub IsAnsweredUnder : {w : ℕ} → ManagerPort w → ManagerPort w → Link → Channel → Beat w → Result Admission Rule
    → Type 0
IsAnsweredUnder {w} old new link ch x told = (terms : Terms) (config : Config) (e : PartnerEnd w)
    → KnowsEndUnder old terms config e →
    (told ≡ admission_in (offered_under terms config link ch x e).0)
    × HandedOutAll (handed_in (offered_under terms config link ch x e).0) old new
    × KnowsEndUnder new terms config (offered_under terms config link ch x e).1

-- The result of `offer`: the definition's answer, and its messages are handed out. The error means that there is no
-- memory; then nothing changes.
abbrev pub AdmitTold : {w : ℕ} {E : Type 0} → ManagerPort w → ManagerPort w → Link → Channel → Beat w
    → Result (Result Admission Rule) E
    → Type 0
AdmitTold old new link ch x (Err error) = UnchangedManager old new
AdmitTold old new link ch x (Ok told) = IsAnswered old new link ch x told × IsAnsweredUnder old new link ch x told

-- the first beat of the channel of the link is removed, and nothing else changes
abbrev pub PoppedOn : {w : ℕ} → ℕ → Channel → ManagerPort w → ManagerPort w → Type 0
PoppedOn at channel old new =
    (new.partner ≡ old.partner)
    × ((link : ℕ) (ch : Channel) → to_send_on link ch new
    ≡ (if is_place link ch at channel then drop 1 (to_send_on link ch old) else to_send_on link ch old))

-- A new manager grants its clients these terms, has taken and handed out nothing, and no beat waits. Otherwise the
-- error is the first limit that is broken, or `Memory`.
abbrev pub IsNewManager : {w : ℕ} → Config → Terms → Result (ManagerPort w) NewFault → Type 0
IsNewManager config terms (Ok port) =
    KnowsEndUnder port terms config (fresh_partner config)
    × ((link : ℕ) (ch : Channel) → to_send_on link ch port ≡ [])
IsNewManager config terms (Err fault) =
    (config_fault config ≡ Some fault) ⊎ ((config_fault config ≡ None) × (fault ≡ Memory))
