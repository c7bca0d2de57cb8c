-- What holds of the manager's end after any beats that it is offered, from a fresh one on.
use Rattle.tl_beat.specs.declared.beat.Beat.TheVariants as beat
use Rattle.tl_beat.specs.declared.beat.BeatA.{BeatA}
use Rattle.std.specs.Prelude.{◌==◌, ◌&&◌, ◌||◌, nat_le, IfSome, length, ◌^◌, ℕ, Bool, true, false, List, [], ◌∷◌, ◌≡◌}
use Rattle.std.specs.Prelude.{◌<◌, ◌≤◌, map, Option, Some, None, ⊤}
use Rattle.tl_beat.specs.declared.beat.Beat.{Beat}
use Rattle.tl_beat.specs.declared.beat.Link.{Link}
use Rattle.tl_burst.specs.declared.message.Message.{Message}
use Rattle.tl_burst.specs.declared.message.Message.TheVariants as message
use Rattle.tl_burst.specs.statement.Burst.{beats_of, beat_of, IsBlankAfter}
use Rattle.tl_beat.specs.declared.channel.Channel.TheVariants as channel
use Rattle.tl_burst.specs.statement.Messages.{channel_of, unfinished}
use Rattle.tl_params.specs.declared.config.Config.{Config}
use Rattle.tl_params.specs.declared.level.Level.{Level}
use Rattle.tl_params.specs.declared.rule.Rule.{Rule}
use Rattle.tl_params.specs.declared.rule.Rule.TheVariants.{L1}
use Rattle.tl_rules.specs.statement.Admission.{is_outside, is_spoiled}
use Rattle.tl_rules.specs.statement.History.{block_at, is_acquire, pending}
use Rattle.tl_params.specs.declared.key.Key.TheVariants.{GrantSink}
use Rattle.tl_rules.specs.statement.Conformance.{on_link}
use Rattle.tl_rules.specs.statement.Legality.{illegal, illegal_message, is_one_of}
use Rattle.tl_rules.specs.laws.Typed.{HasBlock}
use Rattle.tl_manager.specs.statement.Handing.{Handed}
use Rattle.tl_manager.specs.laws.Pending.{IsSteady}
use Rattle.tl_manager.specs.code.Releases.{IsAnswered}
use Rattle.tl_manager.specs.statement.Service.{Service, services, trackers_of}
use Rattle.tl_manager.specs.statement.End.{End}
use Rattle.tl_manager.specs.statement.Offer.{Reception, Refused, Stalled, Sent, level_of}

abbrev pub Each : {X : Type 0} → (X → Type 0) → List X → Type 0
Each P [] = ⊤
Each P (x ∷ xs) = P x × Each P xs

-- no number comes twice
abbrev pub AreApart : List ℕ → Type 0
AreApart [] = ⊤
AreApart (n ∷ ns) = (is_one_of n ns ≡ false) × AreApart ns

-- each number is less than those after it
abbrev pub IsRising : List ℕ → Type 0
IsRising [] = ⊤
IsRising (n ∷ ns) = Each (λ k. n < k) ns × IsRising ns

-- the L rule that a beat, or a message, breaks on a link of this level, or of none
abbrev pub illegal_at : {w : ℕ} → Option Level → Beat w → Option Rule
illegal_at None x = Some L1
illegal_at (Some l) x = illegal l (channel_of x) x

abbrev pub illegal_message_at : {w : ℕ} → Option Level → Message w → Option Rule
illegal_message_at None m = Some L1
illegal_message_at (Some l) m = illegal_message l (channel_of (beat_of m 0)) m

-- the numbers of a beat of channel A are those of its type: 16 bits of mask, and a byte for each lane
abbrev pub IsTyped : {w : ℕ} → Beat w → Type 0
IsTyped {w} (beat.A x) = (x.mask < 2 ^ 16) × IfSome x.lanes (λ lanes. length lanes ≡ w)
IsTyped _ = ⊤

-- a beat that breaks no L rule at its link, is of a block of the map, and isn't corrupt or denied
pub record IsSound {w : ℕ} (config : Config) (x : Link × Beat w) : Type 0 where
  pub lawful : illegal_at (level_of config x.0.0) x.1 ≡ None
  pub inside : is_outside config.blocks x.1 ≡ false
  pub clean : is_spoiled x.1 ≡ false
  pub typed : IsTyped x.1

-- no beat of the message is corrupt, and it isn't denied
abbrev pub IsClean : {w : ℕ} → Message w → Type 0
IsClean (message.A m) = m.corrupt ≡ 0
IsClean (message.B m) = m.corrupt ≡ 0
IsClean (message.C m) = m.corrupt ≡ 0
IsClean (message.D m) = (m.corrupt ≡ 0) × (m.denied ≡ false)
IsClean (message.E m) = ⊤

-- messages that break no L rule at their links and are clean, with 64 bytes that are zero if no beat carries them
abbrev pub AreLawful : {w : ℕ} → Config → Handed w → Type 0
AreLawful config handed =
    Each (λ x. (illegal_message_at (level_of config x.0.0) x.1 ≡ None) × IsClean x.1 × HasBlock x.1
    × IsBlankAfter (beats_of x.1) x.1) handed

-- what the manager hands out in this answer is so
abbrev pub IsAnswerLawful : {w : ℕ} → Config → Reception w → Type 0
IsAnswerLawful config (Refused rule) = ⊤
IsAnswerLawful config Stalled = ⊤
IsAnswerLawful config (Sent handed) = AreLawful config handed

abbrev pub is_stalled : {w : ℕ} → Reception w → Bool
is_stalled Stalled = true
is_stalled _ = false

-- the beat has the control fields of x by which a request is judged
abbrev pub IsLike : {w : ℕ} → BeatA w → Beat w → Type 0
IsLike x (beat.A y) = (y.opcode ≡ x.opcode) × (y.size ≡ x.size) × (y.address ≡ x.address)
IsLike x _ = ⊥

-- beats of one request, the newest first
abbrev pub AreOfOne : {w : ℕ} → List (Beat w) → Type 0
AreOfOne [] = ⊤
AreOfOne (beat.A x ∷ beats) = Each (IsLike x) beats
AreOfOne (_ ∷ beats) = ⊥

-- a request that breaks no L rule at its link, has a payload of 64 bytes that is zero if no beat carries
-- anything, isn't corrupt, and is of a block of the map
pub record IsPerformable {w : ℕ} (config : Config) (s : Service w) : Type 0 where
  pub lawful : illegal_message_at (level_of config s.link.0) (message.A s.request) ≡ None
  pub blank : IsBlankAfter (beats_of (message.A s.request)) (message.A s.request)
  pub filled : length s.request.payload ≡ 64
  pub clean : s.request.corrupt ≡ 0
  pub inside : nat_le config.blocks (block_at s.request.address) ≡ false

abbrev pub blocks_of : {w : ℕ} → List (Service w) → List ℕ
blocks_of services = map (λ s. block_at s.request.address) services

-- an Acquire of this client that has this tracker is in service
abbrev pub is_granting : {w : ℕ} → ℕ → ℕ → List (Service w) → Bool
is_granting client sink [] = false
is_granting client sink (s ∷ services) = (is_acquire s.request.opcode && ((s.link.0 == client) && (s.tracker == sink)))
    || is_granting client sink services

pub record IsKept {w : ℕ} (config : Config) (e : End w) : Type 0 where
  -- each beat that was taken or handed out
  pub sound : Each (IsSound config) e.trace
  -- no message that was handed out is unfinished
  pub whole : (client : ℕ) → (unfinished channel.B (on_link client e.trace) ≡ [])
      × (unfinished channel.D (on_link client e.trace) ≡ [])
  -- the beats of a request that isn't complete
  pub bursts : (client : ℕ) → AreOfOne (unfinished channel.A (on_link client e.trace))
  -- the requests in service, their trackers and their blocks
  pub requests : Each (IsPerformable config) (services e.trace)
  pub tracked : Each (λ n. n < config.trackers) (trackers_of (services e.trace))
  pub trackers_apart : AreApart (trackers_of (services e.trace))
  pub blocks_apart : AreApart (blocks_of (services e.trace))
  -- a Grant whose GrantAck is missing is one of an Acquire in service
  pub sinks : (client sink : ℕ) → pending (GrantSink sink) (on_link client e.trace) ≡ true
      → is_granting client sink (services e.trace) ≡ true
  -- a Release is pending only while its burst is unfinished
  pub releases : (client : ℕ) → IsAnswered (on_link client e.trace)
  -- there is a tracker for each request in service
  pub few : length (services e.trace) ≤ config.trackers
  -- what else is pending, and what each request in service waits for
  pub steady : IsSteady config e.trace
