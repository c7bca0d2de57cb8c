-- The requests in service, as a function of the beats taken and the messages handed out.
use Rattle.std.specs.Prelude.{ℕ, zero, suc, Bool, true, false, not, List, [], ◌∷◌, ◌==◌, ◌&&◌, ◌+◌, if◌then◌else◌}
use Rattle.std.specs.Prelude.{length, map, filter, find, Option, Some, None, is_some, option_map}
use Rattle.tl_beat.specs.declared.beat.Beat.{Beat}
use Rattle.tl_beat.specs.declared.beat.Beat.TheVariants as beat
use Rattle.tl_beat.specs.declared.beat.BeatD.{BeatD}
use Rattle.tl_beat.specs.declared.beat.BeatE.{BeatE}
use Rattle.tl_beat.specs.declared.beat.Link.{Link}
use Rattle.tl_beat.specs.declared.opcode.OpD.{OpD}
use Rattle.tl_beat.specs.declared.opcode.OpD.TheVariants as d
use Rattle.tl_burst.specs.declared.message.MessageA.{MessageA}
use Rattle.tl_burst.specs.statement.Messages.{channel_of, unfinished}
use Rattle.tl_rules.specs.statement.History.{ends, block_at, is_acquire}
use Rattle.tl_rules.specs.statement.Conformance.{Trace, on_link}
use Rattle.tl_rules.specs.statement.Legality.{is_one_of}
use Rattle.tl_manager.specs.statement.Request.{request_carried}

-- a request in service: the number of its tracker, its link, and the request
pub record Service (w : ℕ) : Type 0 where
  pub tracker : ℕ
  pub link : Link
  pub request : MessageA w

-- the first number from n on that isn't taken; after `more` numbers the next is returned untested
abbrev pub free_from : ℕ → ℕ → List ℕ → ℕ
free_from n zero taken = n
free_from n (suc more) taken = if is_one_of n taken then free_from (n + 1) more taken else n

-- the least number that isn't taken
unfoldable pub least_untaken : List ℕ → ℕ
least_untaken taken = free_from 0 (length taken) taken

-- the trackers in use
abbrev pub trackers_of : {w : ℕ} → List (Service w) → List ℕ
trackers_of services = map (λ s. s.tracker) services

-- the service of the request with these beats, the newest first
abbrev pub service_of : {w : ℕ} → Link → List (Beat w) → List (Service w) → Option (Service w)
service_of link beats services =
    option_map (λ m. record { tracker = least_untaken (trackers_of services); link = link; request = m })
    (request_carried beats)

-- the opcode answers an access
abbrev pub is_access_answer : OpD → Bool
is_access_answer d.AccessAck = true
is_access_answer d.AccessAckData = true
is_access_answer d.HintAck = true
is_access_answer _ = false

-- the beat answers this access
abbrev pub answers_access : {w : ℕ} → BeatD w → Service w → Bool
answers_access x s = is_access_answer x.opcode && (not (is_acquire s.request.opcode) && (s.request.source == x.source))

-- the GrantAck is for this service: its sink is the number of the service's tracker
abbrev pub acknowledges : {w : ℕ} → BeatE → Service w → Bool
acknowledges x s = is_acquire s.request.opcode && (s.tracker == x.sink)

-- the message that this beat completes ends the service: it answers the access, or is the GrantAck of the Acquire
abbrev pub is_ended_by : {w : ℕ} → Link × Beat w → Service w → Bool
is_ended_by (link, beat.D x) s = (s.link.0 == link.0) && answers_access x s
is_ended_by (link, beat.E x) s = (s.link.0 == link.0) && acknowledges x s
is_ended_by _ s = false

-- the services and this one, if there is one
abbrev pub with_service : {w : ℕ} → Option (Service w) → List (Service w) → List (Service w)
with_service None services = services
with_service (Some s) services = s ∷ services

-- the services after this beat completes a message; `burst` has the earlier beats of the message
abbrev pub services_after : {w : ℕ} → Link × Beat w → List (Beat w) → List (Service w) → List (Service w)
services_after (link, beat.A x) burst services = with_service (service_of link (beat.A x ∷ burst) services) services
services_after (link, x) burst services = filter (λ s. not (is_ended_by (link, x) s)) services

-- The requests in service, the newest first. A request is in service from its last beat on, until its answer is handed
-- out or, for an Acquire, until its GrantAck is taken.
unfoldable pub services : {w : ℕ} → Trace w → List (Service w)
services [] = []
services (x ∷ t) =
    if ends x.1 (on_link x.0.0 t)
    then services_after x (unfinished (channel_of x.1) (on_link x.0.0 t)) (services t)
    else services t

-- the service of a block, if there is one
abbrev pub service_of_block : {w : ℕ} → ℕ → List (Service w) → Option (Service w)
service_of_block block services = find (λ s. block_at s.request.address == block) services

-- a request for the block is in service
abbrev pub is_in_service : {w : ℕ} → ℕ → List (Service w) → Bool
is_in_service block services = is_some (service_of_block block services)
