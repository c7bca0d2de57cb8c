-- Which tokens of a block a link has.
use Rattle.std.specs.Prelude.{ℕ, Bool, true, false, ◌&&◌}
use Rattle.tl_coherence.specs.protocol.Phase.{ClientBlock, View, Own, Granting, Acknowledging}
use Rattle.tl_coherence.specs.protocol.Phase.{ProbePhase, ProbeSent, ProbeAnswered, ReleasePhase}
use Rattle.tl_coherence.specs.protocol.Phase.{ReleaseSent, ReleaseAcked, AcquirePhase, NoAcquire, AcquireOpen}
use Rattle.tl_coherence.specs.protocol.Packet.{Kind, Request, Acquire, Probe, ProbeAck, Release, Answer, Grant}
use Rattle.tl_coherence.specs.protocol.Packet.{ReleaseAck, GrantAck}
use Rattle.tl_coherence.specs.protocol.Protocol.{Block, view}

abbrev pub is_transfer : Kind → Bool
is_transfer Request = false
is_transfer Answer = false
is_transfer _ = true

abbrev pub is_wanting : AcquirePhase → Bool
is_wanting (AcquireOpen whole g) = true
is_wanting NoAcquire = false

abbrev pub is_unserved : View → Bool
is_unserved Own = false
is_unserved (Granting d k) = false
is_unserved _ = true

abbrev pub is_sent : ProbePhase → Bool
is_sent (ProbeSent k) = true
is_sent _ = false

abbrev pub is_answered : ProbePhase → Bool
is_answered (ProbeAnswered r) = true
is_answered _ = false

abbrev pub is_releasing : ReleasePhase → Bool
is_releasing (ReleaseSent r) = true
is_releasing _ = false

abbrev pub is_acked : ReleasePhase → Bool
is_acked ReleaseAcked = true
is_acked _ = false

abbrev pub is_granting : View → Bool
is_granting (Granting d k) = true
is_granting _ = false

abbrev pub is_acknowledging : View → Bool
is_acknowledging Acknowledging = true
is_acknowledging _ = false

abbrev pub shows : Kind → ClientBlock → View → Bool
shows Acquire p v = is_wanting p.acquiring && is_unserved v
shows Probe p v = is_sent p.probing
shows ProbeAck p v = is_answered p.probing
shows Release p v = is_releasing p.letting
shows ReleaseAck p v = is_acked p.letting
shows Grant p v = is_granting v
shows GrantAck p v = is_acknowledging v
shows _ p v = false

abbrev pub shown : {X : Type 0} → Kind → ℕ → Block X → Bool
shown k c b = shows k (b.pair c) (view b.service c)
