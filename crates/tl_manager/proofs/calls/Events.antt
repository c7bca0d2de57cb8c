-- What is done at each kind of beat.
use Rattle.tl_manager.proofs.Imports.{Beat, BeatA, BeatC, BeatE, Link, A, unfinished, Config, Cap, Trace, on_link}
use Rattle.tl_manager.proofs.Imports.{Memory, effect, answer_of, ends, block_at, is_acquire, is_probe_ack, is_release}
use Rattle.tl_manager.proofs.Imports.{nothing, probes, performed, grant, access_answer, release_ack, cap_probed, probed}
use Rattle.tl_manager.proofs.Imports.{is_settled, Service, services, service_of_block, reaction, written, End, IsServed}
use Rattle.std.proofs.Common.{◌≡◌, ℕ, Bool, true, false, List, [], ◌∷◌, Some, None, refl}
use Rattle.std.specs.Prelude.{if◌then◌else◌}
use Rattle.tl_beat.specs.declared.channel.Channel.{Channel}

-- nothing at a beat that isn't the last of its message
pub reaction-part : {w : ℕ} (config : Config) (link : Link) (x : Beat w) (e : End w)
    → ends x (on_link link.0 e.trace) ≡ false → reaction config link x e ≡ nothing e.memory
unfolding reaction
reaction-part config link x e part = rw part refl

-- ---- a request

-- the services are one more
pub services-request : {w : ℕ} (link : Link) (x : BeatA w) (s : Service w) (t : Trace w) → IsServed link x s t
    → services ((link, Beat.A x) ∷ t) ≡ s ∷ services t
unfolding services
services-request link x s t is = rw (is.last, is.made) refl

-- others are probed
pub reaction-probes : {w : ℕ} (config : Config) (link : Link) (x : BeatA w) (s : Service w) (k : Cap) (d : ℕ)
    (ds : List ℕ) (e : End w) → IsServed link x s e.trace
    → cap_probed s.request.opcode s.request.param ≡ Some k
    → probed config s k ((link, Beat.A x) ∷ e.trace) ≡ d ∷ ds
    → reaction config link (Beat.A x) e ≡ record {
      handed = probes (block_at s.request.address) k (d ∷ ds);
      memory =
          e.memory;
    }
unfolding reaction
reaction-probes config link x s k d ds e is asks someone = rw (is.last, is.made, asks, someone) refl

-- nobody holds too much
pub reaction-unprobed : {w : ℕ} (config : Config) (link : Link) (x : BeatA w) (s : Service w) (k : Cap) (e : End w)
    → IsServed link x s e.trace → cap_probed s.request.opcode s.request.param ≡ Some k
    → probed config s k ((link, Beat.A x) ∷ e.trace) ≡ []
    → reaction config link (Beat.A x) e ≡ performed config s ((link, Beat.A x) ∷ e.trace) e.memory
unfolding reaction
reaction-unprobed config link x s k e is asks nobody = rw (is.last, is.made, asks, nobody) refl

-- an Intent probes nobody
pub reaction-intent : {w : ℕ} (config : Config) (link : Link) (x : BeatA w) (s : Service w) (e : End w)
    → IsServed link x s e.trace → cap_probed s.request.opcode s.request.param ≡ None
    → reaction config link (Beat.A x) e ≡ performed config s ((link, Beat.A x) ∷ e.trace) e.memory
unfolding reaction
reaction-intent config link x s e is asks = rw (is.last, is.made, asks) refl

-- ---- a report or a Release

-- the memory with what the message of channel C carries
abbrev pub memory_with : {w : ℕ} → Link → BeatC w → End w → Memory
memory_with link x e = written x (Beat.C x ∷ unfinished Channel.C (on_link link.0 e.trace)) e.memory

pub reaction-release : {w : ℕ} (config : Config) (link : Link) (x : BeatC w) (e : End w)
    → ends (Beat.C x) (on_link link.0 e.trace) ≡ true → is_release x.opcode ≡ true
    → reaction config link (Beat.C x) e ≡ record {
      handed = (link, release_ack x.source) ∷ [];
      memory =
          memory_with link x e;
    }
unfolding reaction
reaction-release config link x e last release = rw (last, release) refl

-- other ProbeAcks are missing
pub reaction-report : {w : ℕ} (config : Config) (link : Link) (x : BeatC w) (e : End w)
    → ends (Beat.C x) (on_link link.0 e.trace) ≡ true → is_release x.opcode ≡ false → is_probe_ack x.opcode ≡ true
    → is_settled config (block_at x.address) ((link, Beat.C x) ∷ e.trace) ≡ false
    → reaction config link (Beat.C x) e ≡ nothing (memory_with link x e)
unfolding reaction
reaction-report config link x e last other report more = rw (last, other, report, more) refl

-- it was the last one
pub reaction-settled : {w : ℕ} (config : Config) (link : Link) (x : BeatC w) (s : Service w) (e : End w)
    → ends (Beat.C x) (on_link link.0 e.trace) ≡ true → is_release x.opcode ≡ false
    → is_probe_ack x.opcode ≡ true
    → is_settled config (block_at x.address) ((link, Beat.C x) ∷ e.trace) ≡ true
    → service_of_block (block_at x.address) (services ((link, Beat.C x) ∷ e.trace)) ≡ Some s
    → reaction config link (Beat.C x) e ≡ performed config s ((link, Beat.C x) ∷ e.trace) (memory_with link x e)
unfolding reaction
reaction-settled config link x s e last other report all found = rw (last, other, report, all, found) refl

-- ---- a GrantAck

pub reaction-ack : {w : ℕ} (config : Config) (link : Link) (x : BeatE) (e : End w)
    → reaction config link (Beat.E x) e ≡ nothing e.memory
unfolding reaction
reaction-ack {w} config link x e = go (ends {w = w} (Beat.E x) (on_link link.0 e.trace))
  where
    go : (b : Bool) → (if b then nothing {w = w} e.memory else nothing e.memory) ≡ nothing e.memory
    go true = refl
    go false = refl

-- ---- a request that is performed

pub performed-access : {w : ℕ} (config : Config) (s : Service w) (t : Trace w) (memory : Memory)
    → is_acquire s.request.opcode ≡ false
    → performed config s t memory ≡ record {
      handed =
          (s.link, access_answer s.request (answer_of (A s.request) (effect (A s.request) memory).1)) ∷ [];
      memory =
          (effect (A s.request) memory).0;
    }
performed-access config s t memory access = rw access refl

pub performed-acquire : {w : ℕ} (config : Config) (s : Service w) (t : Trace w) (memory : Memory)
    → is_acquire s.request.opcode ≡ true
    → performed config s t memory ≡ record { handed = (s.link, grant config s t memory) ∷ []; memory = memory }
performed-acquire config s t memory acquires = rw acquires refl
