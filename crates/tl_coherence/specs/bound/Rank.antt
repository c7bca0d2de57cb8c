-- What is still owed: how many beats can still be moved for all that is open, by client and source.
use Rattle.std.specs.Prelude.{ℕ, zero, suc, Bool, true, false, ◌+◌, if◌then◌else◌, Option, Some, None, length}
use Rattle.tl_params.specs.declared.config.Config.{Config}
use Rattle.tl_params.specs.declared.perm.Perm.{Perm}
use Rattle.tl_params.specs.declared.perm.Perm.TheVariants as perm
use Rattle.tl_rules.specs.statement.Conformance.{same_perm}
use Rattle.tl_coherence.specs.statement.Delivery.{sources_of}
use Rattle.tl_coherence.specs.protocol.Phase.{ClientBlock, View, Own, Granting, ProbePhase, NoProbe, ProbeSent}
use Rattle.tl_coherence.specs.protocol.Phase.{ProbeAnswered, ReleasePhase, NoRelease, ReleaseSent, ReleaseAcked}
use Rattle.tl_coherence.specs.protocol.Protocol.{Block, State, SourceState, SourceFree, Asked, InService, Replied}
use Rattle.tl_coherence.specs.protocol.Protocol.{Acquires, view}
use Rattle.tl_coherence.specs.statement.System.{terms_at}
use Rattle.tl_manager.specs.laws.Pending.{one_if}
use Rattle.tl_coherence.specs.protocol.Packet.{Kind, Request, Acquire, ProbeAck, Release, Answer, Grant}

-- f 0 + .. + f (n - 1)
unfoldable pub total : ℕ → (ℕ → ℕ) → ℕ
total zero f = 0
total (suc n) f = total n f + f n

-- how many beats of a message that is on a channel the receiver hasn't taken, by client, kind, and source or block
abbrev pub Left : Type 0
Left = ℕ → Kind → ℕ → ℕ

-- ---- a block has n beats

-- a Probe is to be taken, and its report is one beat, or the block's where it comes from the writer
abbrev pub probing_weight : ℕ → ℕ → Perm → ProbePhase → ℕ
probing_weight n left recorded NoProbe = 0
probing_weight n left recorded (ProbeSent k) = 1 + (if same_perm recorded perm.Trunk then n else 1)
probing_weight n left recorded (ProbeAnswered r) = left

abbrev pub pair_weight : ℕ → Left → ℕ → ℕ → ClientBlock → ℕ
pair_weight n left block d p = probing_weight n (left d ProbeAck block) p.recorded p.probing

-- the Probes and reports of a block
abbrev pub probes_weight : {X : Type 0} → ℕ → ℕ → Left → ℕ → Block X → ℕ
probes_weight clients n left block b = total clients (λ d. pair_weight n left block d (b.pair d))

-- an Acquire that is on A: its beat, the block and the GrantAck, and fifteen Probes and reports; in service: what is
-- left
-- of these; granted: its Grant and the GrantAck
abbrev pub acquire_weight : ℕ → ℕ → ℕ → ℕ → View → ℕ
acquire_weight n asked granted probes Own = n + 1 + probes
acquire_weight n asked granted probes (Granting d k) = granted + 1
acquire_weight n asked granted probes _ = asked + n + 32

-- an access that is on A: its beats, its answer, and sixteen Probes and reports; in service: what is left of these;
-- answered: its answer
abbrev pub use_weight : {X : Type 0} → ℕ → ℕ → Left → (ℕ → ℕ → ℕ) → State X → ℕ → ℕ → SourceState → ℕ
use_weight clients n left answer s c source SourceFree = 0
use_weight clients n left answer s c source Asked = left c Request source + answer c source + 32
use_weight clients n left answer s c source (InService m) = answer c source + probes_weight clients n left m (s.block m)
use_weight clients n left answer s c source Replied = left c Answer source
use_weight clients n left answer s c source (Acquires m) =
    acquire_weight n (left c Acquire m) (left c Grant m) (probes_weight clients n left m (s.block m))
    (view (s.block m).service c)

-- a Release: its beats and its ReleaseAck
abbrev pub letting_weight : ℕ → ReleasePhase → ℕ
letting_weight left NoRelease = 0
letting_weight left (ReleaseSent r) = left + 1
letting_weight left ReleaseAcked = 1

abbrev pub let_weight : {X : Type 0} → Left → State X → ℕ → Option ℕ → ℕ
let_weight left s c None = 0
let_weight left s c (Some m) = letting_weight (left c Release m) ((s.block m).pair c).letting

-- ---- the whole: for each client its requests, its Releases and its GrantAcks

abbrev pub client_weight : {X : Type 0} → ℕ → ℕ → Left → (ℕ → ℕ → ℕ) → State X → ℕ → ℕ → ℕ
client_weight clients n left answer s sources c =
    total sources (λ i. use_weight clients n left answer s c i (s.uses c i)) + total sources
    (λ i. let_weight left s c (s.lets c i)) + length (s.link c).e

abbrev pub rank : {X : Type 0} → Config → ℕ → Left → (ℕ → ℕ → ℕ) → State X → ℕ
rank config n left answer s =
    total (length config.clients.items) (λ c. client_weight (length config.clients.items) n left answer s
    (sources_of (terms_at config c)) c)

-- ---- how much is open

abbrev pub is_used : SourceState → Bool
is_used SourceFree = false
is_used _ = true

abbrev pub is_let : Option ℕ → Bool
is_let None = false
is_let (Some n) = true

-- requests that are open and GrantAcks on their way, and Releases that are open
abbrev pub open_requests : {X : Type 0} → Config → State X → ℕ
open_requests config s =
    total (length config.clients.items)
    (λ c. total (sources_of (terms_at config c)) (λ i. one_if (is_used (s.uses c i))) + length (s.link c).e)

abbrev pub open_releases : {X : Type 0} → Config → State X → ℕ
open_releases config s =
    total (length config.clients.items)
    (λ c. total (sources_of (terms_at config c)) (λ i. one_if (is_let (s.lets c i))))
