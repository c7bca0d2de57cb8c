-- What is kept of the whole: the protocol's invariant, and that ends, channels and memories are those of it.
use Rattle.std.specs.Prelude.{ℕ, Bool, true, false, List, [], ◌≡◌, ◌*◌, ◌^◌, ◌<◌, All, Option, Some, None, IfSome}
use Rattle.std.specs.Prelude.{length, ⊤}
use Rattle.tl_beat.specs.declared.beat.Beat.{Beat}
use Rattle.tl_beat.specs.declared.beat.Beat.TheVariants as beat
use Rattle.tl_beat.specs.declared.beat.BeatA.{BeatA}
use Rattle.tl_beat.specs.declared.channel.Channel.{Channel}
use Rattle.tl_beat.specs.declared.channel.Channel.TheVariants as channel
use Rattle.tl_burst.specs.declared.message.Message.{Message}
use Rattle.tl_burst.specs.declared.message.Message.TheVariants as message
use Rattle.tl_burst.specs.declared.message.MessageA.{MessageA}
use Rattle.tl_burst.specs.statement.Burst.{a_beat_of, beats_of, IsBlankAfter}
use Rattle.tl_burst.specs.statement.Messages.{unfinished}
use Rattle.tl_params.specs.declared.config.Config.{Config}
use Rattle.tl_params.specs.declared.level.Level.{Level}
use Rattle.tl_params.specs.declared.level.Level.TheVariants as level
use Rattle.tl_params.specs.declared.param.Cap.{Cap}
use Rattle.tl_params.specs.declared.param.Cap.TheVariants as cap
use Rattle.tl_params.specs.declared.param.Grow.TheVariants as grow
use Rattle.tl_params.specs.declared.perm.Perm.TheVariants as perm
use Rattle.tl_params.specs.declared.profile.Profile.{Profile}
use Rattle.tl_params.specs.declared.profile.Profile.TheVariants as profile
use Rattle.tl_rules.specs.statement.Conformance.{answers, same_perm}
use Rattle.tl_rules.specs.statement.Effect.{bytes_from}
use Rattle.tl_client.specs.laws.Accounted.{IsAccounted}
use Rattle.tl_client.specs.statement.EndpointInvariant as client
use Rattle.tl_manager.specs.code.Kept as manager
use Rattle.tl_manager.specs.code.Kept.{illegal_message_at}
use Rattle.tl_manager.specs.statement.Service.{is_access_answer}
use Rattle.tl_manager.specs.statement.Offer.{level_of}
use Rattle.tl_coherence.specs.protocol.Phase.{ClientBlock, AcquirePhase, AcquireOpen, is_whole}
use Rattle.tl_coherence.specs.protocol.Packet.{Acquire}
use Rattle.tl_coherence.specs.protocol.Protocol.{Service, Waits, GrantSent, Block, State, SourceState, SourceFree}
use Rattle.tl_coherence.specs.protocol.Protocol.{Asked, InService, Replied, Acquires}
use Rattle.tl_coherence.specs.protocol.Invariant.{IsInvariant}
use Rattle.tl_coherence.specs.refinement.PacketMessages.{AccessMessages, block_message}
use Rattle.tl_coherence.specs.refinement.ClientRelation.{ClientRelation}
use Rattle.tl_coherence.specs.refinement.ManagerRelation.{ManagerRelation}
use Rattle.tl_coherence.specs.refinement.SourceRelation.{OpenSourceRelation, ServedSourceRelation}
use Rattle.tl_coherence.specs.refinement.MemoryRelation.{MemoryRelation}
use Rattle.tl_coherence.specs.statement.Flow.{flow}
use Rattle.tl_coherence.specs.refinement.MonitorRelation.{MonitorRelation}
use Rattle.tl_coherence.specs.statement.Log.{Log}
use Rattle.tl_coherence.specs.statement.OneMemory.{one_memory_after}
use Rattle.tl_coherence.specs.refinement.ChannelRelation.{ChannelRelation}
use Rattle.tl_coherence.specs.statement.Delivery.{receiver}
use Rattle.tl_coherence.specs.statement.System.{System, terms_at}

abbrev pub is_c : Option Level → Bool
is_c (Some level.C) = true
is_c _ = false

-- the client keeps copies
abbrev pub is_caching : Config → ℕ → Bool
is_caching config c = is_c (level_of config c)

abbrev pub first_of : {w : ℕ} → Message w → Option (BeatA w)
first_of (message.A m) = Some (a_beat_of m 0)
first_of _ = None

-- the first beat of the open request with each source
abbrev pub asked_for : {w : ℕ} → SourceState → Message w → Message w → Option (BeatA w)
asked_for SourceFree request acquire = None
asked_for (Acquires n) request acquire = first_of acquire
asked_for _ request acquire = first_of request

abbrev pub block_used : SourceState → ℕ
block_used (Acquires n) = n
block_used _ = 0

abbrev pub asked_by : {w : ℕ} → AccessMessages w → State (List ℕ) → ℕ → ℕ → Option (BeatA w)
asked_by mail s c source = asked_for (s.uses c source) (mail.request c source)
    (block_message Acquire c (block_used (s.uses c source)) (s.block (block_used (s.uses c source))))

abbrev pub request_source : {w : ℕ} → Message w → Option ℕ
request_source (message.A m) = Some m.source
request_source _ = None

-- the lanes of a beat are as many as its width
abbrev pub AreLanes : {w : ℕ} → Beat w → Type 0
AreLanes {w} (beat.A x) = (x.mask < 2 ^ 16) × IfSome x.lanes (λ lanes. length lanes ≡ w)
AreLanes {w} (beat.B x) = IfSome x.lanes (λ lanes. length lanes ≡ w)
AreLanes {w} (beat.C x) = IfSome x.lanes (λ lanes. length lanes ≡ w)
AreLanes {w} (beat.D x) = IfSome x.lanes (λ lanes. length lanes ≡ w)
AreLanes {w} (beat.E x) = ⊤

-- an access that is under way, in service or answered is on channel A, has its source, and is zero where no beat
-- carries anything
abbrev pub IsRequest : {w : ℕ} → Config → ℕ → ℕ → Message w → Type 0
IsRequest config c source m = (request_source m ≡ Some source) × (illegal_message_at (level_of config c) m ≡ None)
    × IsBlankAfter (beats_of m) m

abbrev pub IsSourced : {w : ℕ} → Config → ℕ → ℕ → Message w → SourceState → Type 0
IsSourced config c source m Asked = IsRequest config c source m
IsSourced config c source m (InService n) = IsRequest config c source m
IsSourced config c source m Replied = IsRequest config c source m
IsSourced config c source m _ = ⊤

-- the Acquire that waits is the one that its client has open
abbrev pub IsAcquireOf : {w : ℕ} → ℕ → Block (List ℕ) → Service → MessageA w → Type 0
IsAcquireOf n b (Waits r true source k) m = block_message Acquire r n b ≡ message.A m
IsAcquireOf n b _ m = ⊤

-- the access that waits is the one with its source
abbrev pub IsServedWith : {w : ℕ} → AccessMessages w → Service → MessageA w → Type 0
IsServedWith mail (Waits r false source k) m = mail.request r source ≡ message.A m
IsServedWith mail _ m = ⊤

-- ---- what is on its way to a client

-- the answer is one to this access, whose source it has
abbrev pub IsAnswer : {w : ℕ} → ℕ → Message w → Message w → Type 0
IsAnswer source (message.A m) (message.D x) = (is_access_answer x.opcode ≡ true) × (answers x.opcode m.opcode ≡ true)
    × (x.source ≡ source) × (x.size ≡ m.size)
IsAnswer source _ _ = ⊥

abbrev pub IsAnswered : {w : ℕ} → ℕ → Message w → Message w → SourceState → Type 0
IsAnswered source request answer Replied = IsAnswer source request answer
IsAnswered source request answer _ = ⊤

-- under the first profile a Grant gives no more than was asked for
abbrev pub gives_asked : Profile → AcquirePhase → Cap → Bool
gives_asked profile.One (AcquireOpen whole grow.NtoB) cap.ToT = false
gives_asked _ _ _ = true

abbrev pub IsGivenAsked : Profile → Service → (ℕ → ClientBlock) → Type 0
IsGivenAsked p (GrantSent q d k) pair = gives_asked p (pair q).acquiring k ≡ true
IsGivenAsked p _ pair = ⊤

-- the bytes of each block
pub record AreSized (b : Block (List ℕ)) : Type 0 where
  pub truth : length b.truth ≡ 64
  pub waiting : (c : ℕ) → is_whole (b.pair c).acquiring ≡ true → length (b.waiting c) ≡ 64

-- What is kept of the whole after this log: `s` is the state of the protocol, `mail` the accesses and their answers,
-- and `request` the request that has each block in service.
pub record SimulationRelation {w : ℕ} (config : Config) (log : Log w) (mail : AccessMessages w) (request : ℕ
    → MessageA w) (s : State (List ℕ)) (sys : System w) : Type 0 where
  pub invariant : IsInvariant (is_caching config) s
  pub sized : (n : ℕ) → AreSized (s.block n)
  -- who isn't a client has nothing open
  pub strangers : (c source : ℕ) → terms_at config c ≡ None → s.uses c source ≡ SourceFree
  -- channels
  pub carried : ChannelRelation mail s sys
  pub sound : (c : ℕ) (ch : Channel) → All (λ x. manager.IsSound config (record { 0 = c }, x)) (sys.channels c ch)
  pub typed : (c : ℕ) (ch : Channel) → All AreLanes (sys.channels c ch)
  pub sourced : (c source : ℕ) → IsSourced config c source (mail.request c source) (s.uses c source)
  pub answered : (c source : ℕ) → IsAnswered source (mail.request c source) (mail.answer c source) (s.uses c source)
  pub given : (n : ℕ) → IsGivenAsked config.profile (s.block n).service (s.block n).pair
  -- clients
  pub known : (c : ℕ) → ClientRelation (asked_by mail s c) (unfinished channel.D (sys.clients c).past) c s
      (sys.clients c).past
  pub opened : (c : ℕ) → OpenSourceRelation (asked_by mail s c) c s (sys.clients c).past
  pub kept : (c : ℕ) → client.IsEndpointInvariant (sys.clients c)
  pub accounted : (c : ℕ) → IsAccounted (sys.clients c).past
  pub copies : (c n : ℕ) → same_perm ((s.block n).pair c).held perm.None ≡ false
      → (sys.clients c).copies n ≡ Some ((s.block n).copy c)
  pub waiting : (c n : ℕ) → is_whole ((s.block n).pair c).acquiring ≡ true
      → (sys.clients c).waiting n ≡ Some ((s.block n).waiting c)
  pub live : (c : ℕ) → (sys.clients c).closed ≡ false
  -- the manager
  pub managed : ManagerRelation request s sys.manager.trace
  pub served : ServedSourceRelation request s sys.manager.trace
  pub served_with : (n : ℕ) → IsServedWith mail (s.block n).service (request n)
  pub acquired : (n : ℕ) → IsAcquireOf n (s.block n) (s.block n).service (request n)
  pub manager_kept : manager.IsKept config sys.manager
  pub memory : (n : ℕ) → bytes_from sys.manager.memory (64 * n) 64 ≡ (s.block n).memory
  pub all_live : sys.manager.closed ≡ []
  -- one memory
  pub beside : MemoryRelation mail s (one_memory_after config log)

-- and what was delivered
abbrev pub MonitorRelations : {w : ℕ} → Log w → AccessMessages w → State (List ℕ) → System w → Type 0
MonitorRelations log mail s sys = (c : ℕ)
    → MonitorRelation (asked_by mail s c) (λ ch. unfinished ch (receiver ch c sys)) c s (flow c log)
