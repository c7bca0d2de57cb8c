-- The deliveries that move a beat, and the next of them.
use Rattle.std.specs.Prelude.{ℕ, zero, suc, Bool, false, not, List, ◌∷◌, ◌+◌, if◌then◌else◌, length, Option, Some, None}
use Rattle.tl_beat.specs.declared.beat.Beat.{Beat}
use Rattle.tl_beat.specs.declared.beat.Link.{Link}
use Rattle.tl_beat.specs.declared.channel.Channel.{Channel}
use Rattle.tl_beat.specs.declared.channel.Channel.TheVariants as channel
use Rattle.tl_params.specs.declared.config.Config.{Config}
use Rattle.tl_client.specs.statement.Endpoint.{EndConfig}
use Rattle.tl_client.specs.statement.Offer as client
use Rattle.tl_manager.specs.statement.Offer as manager
use Rattle.tl_coherence.specs.declared.event.Event.TheVariants.{Deliver}
use Rattle.tl_coherence.specs.statement.Log.{Log, system_after}
use Rattle.tl_coherence.specs.statement.Step.{is_to_client, stepped}
use Rattle.tl_coherence.specs.statement.System.{System, terms_at}

-- the end that takes the beats of a channel stalls this one
abbrev pub stalls : {w : ℕ} → Config → EndConfig → ℕ → Channel → Beat w → System w → Bool
stalls config terms link ch x s =
    if is_to_client ch
    then client.stalls terms ch x (s.clients link)
    else manager.stalls config (record { 0 = link }) ch x s.manager

-- there is a first beat on the channel, and it isn't stalled
abbrev pub moves : {w : ℕ} → Config → Option EndConfig → ℕ → Channel → List (Beat w) → System w → Bool
moves config (Some terms) link ch (x ∷ rest) s = not (stalls config terms link ch x s)
moves config _ link ch _ s = false

-- there is a beat on this channel of a client's link, and the first one isn't stalled
unfoldable pub is_movable : {w : ℕ} → Config → ℕ → Channel → System w → Bool
is_movable config link ch s = moves config (terms_at config link) link ch (s.channels link ch) s

-- the first delivery on this channel that can move a beat, on n links from `link` on
unfoldable pub first_movable : {w : ℕ} → Config → Channel → ℕ → ℕ → System w → Option (Link × Channel)
first_movable config ch link zero s = None
first_movable config ch link (suc n) s =
    if is_movable config link ch s then Some (record { 0 = link }, ch) else first_movable config ch (link + 1) n s

-- the first, if there is one, otherwise the later one
abbrev pub or_later : {X : Type 0} → Option X → Option X → Option X
or_later (Some x) later = Some x
or_later None later = later

-- the first delivery on this channel that can move a beat, on the lowest link
abbrev pub movable_on : {w : ℕ} → Config → Channel → System w → Option (Link × Channel)
movable_on config ch s = first_movable config ch 0 (length config.clients.items) s

-- the next delivery: the first that can move a beat, in the order E, D, C, B, A of the channels
unfoldable pub next_delivery : {w : ℕ} → Config → System w → Option (Link × Channel)
next_delivery config s =
    or_later (movable_on config channel.E s)
    (or_later (movable_on config channel.D s)
    (or_later (movable_on config channel.C s)
    (or_later (movable_on config channel.B s)
    (movable_on config channel.A s))))

-- ---- draining

-- the log with this delivery added, if there is one
abbrev pub with_delivery : {w : ℕ} → Config → Option (Link × Channel) → Log w → Log w
with_delivery config None log = log
with_delivery config (Some d) log =
    (Deliver d.0 d.1, (stepped config (Deliver d.0 d.1) (system_after config log)).outcome) ∷ log

-- the log after at most n more deliveries, each the next one
unfoldable pub drained : {w : ℕ} → Config → ℕ → Log w → Log w
drained config zero log = log
drained config (suc n) log =
    drained config n (with_delivery config (next_delivery config (system_after config log)) log)
