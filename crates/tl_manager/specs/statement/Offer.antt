-- The manager's answer to each beat that is offered: the specification's rules for slaves.
use Rattle.std.specs.Prelude.{ℕ, Bool, true, false, ◌∷◌, ◌&&◌, ◌||◌, if◌then◌else◌, length, nat_le, slice_get, Option}
use Rattle.std.specs.Prelude.{Some, None, option_map}
use Rattle.tl_beat.specs.declared.beat.Beat.{Beat}
use Rattle.tl_beat.specs.declared.beat.Beat.TheVariants as beat
use Rattle.tl_beat.specs.declared.beat.Link.{Link}
use Rattle.tl_beat.specs.declared.channel.Channel.{Channel}
use Rattle.tl_beat.specs.statement.First.{first_if}
use Rattle.tl_params.specs.declared.config.Config.{Config}
use Rattle.tl_params.specs.declared.level.Level.{Level}
use Rattle.tl_params.specs.declared.rule.Rule.{Rule}
use Rattle.tl_params.specs.declared.rule.Rule.TheVariants.{L1, S1, H1, A1, A2, A3}
use Rattle.tl_rules.specs.statement.Admission.{is_outside, is_spoiled}
use Rattle.tl_rules.specs.statement.Conformance.{Trace, on_link, broken_in_order}
use Rattle.tl_rules.specs.statement.History.{ends, block_at}
use Rattle.tl_rules.specs.statement.Legality.{illegal, is_one_of}
use Rattle.tl_manager.specs.statement.Service.{services, is_in_service}
use Rattle.tl_manager.specs.statement.Handing.{Handed, with_handed, Reaction}
use Rattle.tl_manager.specs.statement.Reaction.{reaction}
use Rattle.tl_manager.specs.statement.End.{End}

-- ---- judging

-- the level of a link, if there is such a link
abbrev pub level_of : Config → ℕ → Option Level
level_of config link = option_map (λ client. client.level) (slice_get config.clients.items link)

-- the level of a link, if there is such a link and it isn't closed
abbrev pub open_level : {w : ℕ} → Config → Link → End w → Option Level
open_level config link e = if is_one_of link.0 e.closed then None else level_of config link.0

-- the beat is of a channel on which clients send
abbrev pub is_from_client : {w : ℕ} → Beat w → Bool
is_from_client (beat.A x) = true
is_from_client (beat.B x) = false
is_from_client (beat.C x) = true
is_from_client (beat.D x) = false
is_from_client (beat.E x) = true

-- the L rule that a beat on this channel breaks; L1 if clients don't send it
abbrev pub unlawful : {w : ℕ} → Level → Channel → Beat w → Option Rule
unlawful l ch x = if is_from_client x then illegal l ch x else Some L1

-- the rule, if it is S1 or H1, which come before a stall
abbrev pub before_stall : Option Rule → Option Rule
before_stall (Some S1) = Some S1
before_stall (Some H1) = Some H1
before_stall _ = None

-- the beat completes a request, and its block is in service or no tracker is free
abbrev pub must_wait : {w : ℕ} → Config → Link → Beat w → Trace w → Bool
must_wait config link (beat.A x) t =
    ends (beat.A x) (on_link link.0 t) && (is_in_service (block_at x.address) (services t) || nat_le config.trackers
    (length (services t)))
must_wait config link _ t = false

-- the judgement of a beat
pub data Judgement : Type 0 where
  Breaks : Rule → Judgement
  Waits : Judgement
  Passes : Judgement

-- broken by this rule, if there is one, otherwise the rest
abbrev pub breaks_or : Option Rule → Judgement → Judgement
breaks_or None rest = rest
breaks_or (Some rule) rest = Breaks rule

-- stalled, if it must wait, otherwise the rest
abbrev pub waits_or : Bool → Judgement → Judgement
waits_or true rest = Waits
waits_or false rest = rest

-- the first that applies: the L rules, S1, H1, the stall, the other H rules, A1, A2
unfoldable pub judged_at : {w : ℕ} → Config → Level → Link → Channel → Beat w → Trace w → Judgement
judged_at config l link ch x t =
    breaks_or (unlawful l ch x)
    (breaks_or (before_stall (broken_in_order config.profile x (on_link link.0 t)))
    (waits_or (must_wait config link x t)
    (breaks_or (broken_in_order config.profile x (on_link link.0 t))
    (breaks_or (first_if (is_outside config.blocks x) A1 (first_if (is_spoiled x) A2 None)) Passes))))

-- the judgement of a beat on a link of this level; A3 if the link is closed or there is no such link
abbrev pub judged_on : {w : ℕ} → Config → Option Level → Link → Channel → Beat w → Trace w → Judgement
judged_on config None link ch x t = Breaks A3
judged_on config (Some l) link ch x t = judged_at config l link ch x t

-- the judgement of a beat that is offered to a manager
abbrev pub judged : {w : ℕ} → Config → Link → Channel → Beat w → End w → Judgement
judged config link ch x e = judged_on config (open_level config link e) link ch x e.trace

-- ---- a beat that is offered

-- the answer to a beat: it is refused, stalled, or taken and these messages are handed out
pub data Reception (w : ℕ) : Type 0 where
  Refused : Rule → Reception w
  Stalled : Reception w
  Sent : Handed w → Reception w

-- a refusal closes the link, and changes nothing else
abbrev pub refused : {w : ℕ} → Link → End w → End w
refused link e = record { trace = e.trace; closed = link.0 ∷ e.closed; memory = e.memory }

-- the end after a beat was taken, with this reaction
abbrev pub taken : {w : ℕ} → Link → Beat w → Reaction w → End w → End w
taken link x reaction e = record {
  trace = with_handed reaction.handed ((link, x) ∷ e.trace);
  closed =
      e.closed;
  memory = reaction.memory;
}

-- the answer to a beat with this judgement, and the end afterwards
abbrev pub offered_as : {w : ℕ} → Judgement → Config → Link → Beat w → End w → Reception w × End w
offered_as (Breaks rule) config link x e = (Refused rule, refused link e)
offered_as Waits config link x e = (Stalled, e)
offered_as Passes config link x e = (Sent (reaction config link x e).handed, taken link x (reaction config link x e) e)

-- the manager's answer to a beat on this channel of a link, and its end afterwards
unfoldable pub offered : {w : ℕ} → Config → Link → Channel → Beat w → End w → Reception w × End w
offered config link ch x e = offered_as (judged config link ch x e) config link x e

-- the judgement is that the beat waits
abbrev pub is_waiting : Judgement → Bool
is_waiting Waits = true
is_waiting _ = false

-- the manager would stall the beat
unfoldable pub stalls : {w : ℕ} → Config → Link → Channel → Beat w → End w → Bool
stalls config link ch x e = is_waiting (judged config link ch x e)
