-- The outcome of an event, as a function of the event and the state.
use Rattle.std.specs.Prelude.{ℕ, Bool, true, false, List, [], ◌∷◌, if◌then◌else◌, Option, Some, None, Result, Ok, Err}
use Rattle.tl_beat.specs.declared.beat.Beat.{Beat}
use Rattle.tl_beat.specs.declared.channel.Channel.{Channel}
use Rattle.tl_beat.specs.declared.channel.Channel.TheVariants as channel
use Rattle.tl_burst.specs.declared.message.Message.{Message}
use Rattle.tl_params.specs.declared.config.Config.{Config}
use Rattle.tl_params.specs.declared.rule.Rule.{Rule}
use Rattle.tl_client.specs.declared.verdict.Verdict.{Verdict}
use Rattle.tl_client.specs.declared.verdict.Verdict.TheVariants as verdict
use Rattle.tl_client.specs.statement.Ask.{Asked, asked}
use Rattle.tl_client.specs.statement.Endpoint as client
use Rattle.tl_client.specs.statement.Offer.{Offered, offered}
use Rattle.tl_manager.specs.statement.Handing.{Handed}
use Rattle.tl_manager.specs.statement.End as manager_end
use Rattle.tl_manager.specs.statement.Offer as manager
use Rattle.tl_coherence.specs.declared.event.Event.{Event}
use Rattle.tl_coherence.specs.declared.event.Event.TheVariants.{Ask, Deliver}
use Rattle.tl_coherence.specs.declared.event.Outcome.{Outcome}
use Rattle.tl_coherence.specs.declared.event.Outcome.TheVariants as outcome
use Rattle.tl_coherence.specs.statement.System.{System, terms_at, with_client, with_manager, with_channel}
use Rattle.tl_coherence.specs.statement.System.{with_messages}

-- the outcome of an event, the messages that are handed out, and the state afterwards
pub record Step (w : ℕ) : Type 0 where
  pub outcome : Outcome w
  pub handed : Handed w
  pub after : System w

-- this outcome: no message is handed out
abbrev pub only : {w : ℕ} → Outcome w → System w → Step w
only o s = record { outcome = o; handed = []; after = s }

-- this outcome: these messages are handed out, and put on their channels
abbrev pub handing : {w : ℕ} → Outcome w → Handed w → System w → Step w
handing o handed s = record { outcome = o; handed = handed; after = with_messages handed s }

-- the message that a client hands out, with its link
abbrev pub handed_by : {w : ℕ} → ℕ → Option (Message w) → Handed w
handed_by link None = []
handed_by link (Some m) = (record { 0 = link }, m) ∷ []

-- ---- a client is asked

-- the step of a client that was asked: its reply, and its message on its channel
abbrev pub replied : {w : ℕ} → ℕ → Asked w → System w → Step w
replied link a s = handing (outcome.Replied a.reply) (handed_by link a.message) (with_client link a.after s)

-- ---- a beat is delivered; `rest` has the beats after it on its channel

-- the outcome of a client's verdict on a beat
abbrev pub outcome_of : {w : ℕ} → Beat w → Verdict → Outcome w
outcome_of x verdict.Stalled = outcome.Stalled
outcome_of x verdict.Taken = outcome.Moved x
outcome_of x (verdict.Done source finish) = outcome.Done x source finish

-- The step by a client's answer. A stall changes nothing. A beat that is refused stays on its channel, but that never
-- happens.
abbrev pub judged : {w : ℕ} → Result (Verdict × Option (Message w)) Rule → ℕ → Channel → Beat w → List (Beat w)
    → client.Endpoint w → System w → Step w
judged (Err rule) link ch x rest e s = only outcome.Stalled (with_client link e s)
judged (Ok (verdict.Stalled, m)) link ch x rest e s = only outcome.Stalled s
judged (Ok (v, m)) link ch x rest e s =
    handing (outcome_of x v) (handed_by link m) (with_client link e (with_channel link ch rest s))

-- the step of a client that was offered the first beat of a channel
abbrev pub client_took : {w : ℕ} → ℕ → Channel → Beat w → List (Beat w) → Offered w → System w → Step w
client_took link ch x rest o s = judged o.answer link ch x rest o.after s

-- the step of the manager that was offered the first beat of a channel
abbrev pub manager_took : {w : ℕ} → ℕ → Channel → Beat w → List (Beat w) → manager.Reception w × manager_end.End w
    → System w → Step w
manager_took link ch x rest (manager.Refused rule, e) s = only outcome.Stalled (with_manager e s)
manager_took link ch x rest (manager.Stalled, e) s = only outcome.Stalled s
manager_took link ch x rest (manager.Sent handed, e) s =
    handing (outcome.Moved x) handed (with_manager e (with_channel link ch rest s))

-- the client takes the beats of this channel; the manager takes those of the others
abbrev pub is_to_client : Channel → Bool
is_to_client channel.B = true
is_to_client channel.D = true
is_to_client _ = false

-- the step by which the first beat of a channel is offered to the end that takes it
abbrev pub delivered : {w : ℕ} → Config → client.EndConfig → ℕ → Channel → List (Beat w) → System w → Step w
delivered config terms link ch [] s = only outcome.Empty s
delivered config terms link ch (x ∷ rest) s =
    if is_to_client ch
    then client_took link ch x rest (offered terms ch x (s.clients link)) s
    else manager_took link ch x rest (manager.offered config (record { 0 = link }) ch x s.manager) s

-- ---- an event

-- the client that an event is about
abbrev pub client_of : {w : ℕ} → Event w → ℕ
client_of (Ask client operation) = client
client_of (Deliver link ch) = link.0

-- the step by an event, given the configuration of its client, if there is such a client
abbrev pub stepped_at : {w : ℕ} → Config → Option client.EndConfig → Event w → System w → Step w
stepped_at config None event s = only outcome.NoSuchClient s
stepped_at config (Some terms) (Ask client operation) s = replied client (asked terms operation (s.clients client)) s
stepped_at config (Some terms) (Deliver link ch) s = delivered config terms link.0 ch (s.channels link.0 ch) s

-- the step by an event
unfoldable pub stepped : {w : ℕ} → Config → Event w → System w → Step w
stepped config event s = stepped_at config (terms_at config (client_of event)) event s
