-- What a link's past says, from what a manager keeps.
use Rattle.tl_manager.proofs.Imports.{Link, MessageA, History, RequestSource, AcquireOf, GrantSink, GrantAckOf, ProbeOf}
use Rattle.tl_manager.proofs.Imports.{Perm, on_link, comes_in_request, pending, held, tracker_at, Tracker, BlockState}
use Rattle.tl_manager.proofs.Imports.{LinkState, Config, End, IsBlockState, IsKept, Trace, Each, IsSound, unfinished, Channel}
use Rattle.tl_manager.{proofs.pending.Settled.silent-past}
use Rattle.tl_burst.specs.statement.Part.{is_empty}
use Rattle.std.proofs.Common.{◌≡◌, ℕ, ◌≤◌, Bool, true, false, ◌&&◌, ◌||◌, length, Option, None, refl, sym, ap, ◌∙◌}
use Rattle.std.specs.Prelude.{is_some, not}
use Rattle.tl_rules.specs.code.Open.{open_probe, has_open_grant}
use Rattle.tl_manager.{specs.code.Probed.probe_in, specs.code.Trackers.IsOfBlock, specs.code.Trackers.IsAsked}
use Rattle.tl_manager.{specs.code.LinkState.IsLinkPast, proofs.pending.LookedSources.source-looked}
use Rattle.tl_manager.{proofs.blocks.Outside.recorded-outside}
use Rattle.tl_manager.specs.code.Tracking.{awaits_grant, awaits_grant_ack, awaits_probe_ack, request_in}
use Rattle.tl_manager.proofs.pending.Looking.{AreLooked, acquiring-looked, granted-looked, missing-looked, sink-looked}
use Rattle.tl_manager.proofs.pending.Looking.{probe-looked}

pub looked-kept : {w : ℕ} {M : Type 0} (perm_of : M → ℕ → ℕ → Perm) (config : Config) (block_state : BlockState w M)
    (e : End w) → IsKept config e → IsBlockState perm_of config block_state e.trace e.memory
    → AreLooked block_state.trackers e.trace
looked-kept perm_of config block_state e kept is = record {
  tracked = λ n. is.tracked n tt;
  accounted = kept.steady.accounted;
  sinks = kept.sinks;
  blocks_apart = kept.blocks_apart;
  trackers_apart = kept.trackers_apart;
}

pub looked-past : {w : ℕ} {M : Type 0} (perm_of : M → ℕ → ℕ → Perm) (link : Link) (link_state : LinkState w)
    (block_state : BlockState w M) (t : History w) (p : IsLinkPast perm_of link link_state block_state t)
    → AreLooked block_state.trackers p.end.trace
looked-past perm_of link link_state block_state t p =
    looked-kept perm_of p.config block_state p.end p.kept p.block_state_is

pub held-outside : {w : ℕ} {M : Type 0} (perm_of : M → ℕ → ℕ → Perm) (link : Link) (link_state : LinkState w)
    (block_state : BlockState w M) (t : History w) (block : ℕ) → IsLinkPast perm_of link link_state block_state t
    → length block_state.blocks.bytes.items ≤ block → Perm.None ≡ held block t
held-outside perm_of link link_state block_state t block p past =
    sym (ap (held block) p.past ∙ recorded-outside p.config link.0 block p.end.trace p.kept.sound (rw p.size at past))

-- past the last link no message has begun
pub silent-report : {w : ℕ} (config : Config) (client : ℕ) (t : Trace w) → Each (IsSound config) t
    → length config.clients.items ≤ client → false ≡ not (is_empty (unfinished Channel.C (on_link client t)))
unfolding unfinished
silent-report config client t sound past = rw (silent-past config t client sound past) refl

-- ---- bursts

-- no Grant is unfinished
pub granted-whole : {w : ℕ} {M : Type 0} (perm_of : M → ℕ → ℕ → Perm) (link : Link) (link_state : LinkState w)
    (block_state : BlockState w M) (t : History w) (sink : ℕ) → (p : IsLinkPast perm_of link link_state block_state t)
    → pending (GrantSink sink) (on_link link.0 p.end.trace) ≡ has_open_grant sink t
granted-whole perm_of link link_state block_state t sink p =
    rw (p.past, (p.kept.whole link.0).1) (go (pending (GrantSink sink) (on_link link.0 p.end.trace)))
  where
    go : (b : Bool) → b ≡ (b && true)
    go true = refl
    go false = refl

-- ---- what is pending

pub source-past : {w : ℕ} {M : Type 0} (perm_of : M → ℕ → ℕ → Perm) (link : Link) (link_state : LinkState w)
    (block_state : BlockState w M) (t : History w) (source : ℕ) (o : Option (MessageA w))
    → IsLinkPast perm_of link link_state block_state t → IsAsked block_state.trackers link.0 source o
    → (comes_in_request source link_state.requests || is_some o) ≡ pending (RequestSource source) t
source-past perm_of link link_state block_state t source o p asked =
    ap (λ burst. comes_in_request source burst || is_some o) p.link_state_is.carried.requests
    ∙ source-looked block_state.trackers link.0 source o p.end.trace (looked-past perm_of link link_state block_state t
    p) asked ∙ ap (pending (RequestSource source)) (sym p.past)

pub acquire-past : {w : ℕ} {M : Type 0} (perm_of : M → ℕ → ℕ → Perm) (link : Link) (link_state : LinkState w)
    (block_state : BlockState w M) (t : History w) (block : ℕ) (tracker : Tracker w)
    → IsLinkPast perm_of link link_state block_state t → IsOfBlock block_state.trackers block tracker
    → awaits_grant link.0 tracker ≡ pending (AcquireOf block) t
acquire-past perm_of link link_state block_state t block tracker p of =
    acquiring-looked block_state.trackers block link.0 tracker p.end.trace
    (looked-past perm_of link link_state block_state t p) of ∙ ap (pending (AcquireOf block)) (sym p.past)

pub grant-past : {w : ℕ} {M : Type 0} (perm_of : M → ℕ → ℕ → Perm) (link : Link) (link_state : LinkState w)
    (block_state : BlockState w M) (t : History w) (block : ℕ) (tracker : Tracker w)
    → IsLinkPast perm_of link link_state block_state t → IsOfBlock block_state.trackers block tracker
    → awaits_grant_ack link.0 tracker ≡ pending (GrantAckOf block) t
grant-past perm_of link link_state block_state t block tracker p of =
    granted-looked block_state.trackers block link.0 tracker p.end.trace
    (looked-past perm_of link link_state block_state t p) of ∙ ap (pending (GrantAckOf block)) (sym p.past)

pub probe-past : {w : ℕ} {M : Type 0} (perm_of : M → ℕ → ℕ → Perm) (link : Link) (link_state : LinkState w)
    (block_state : BlockState w M) (t : History w) (block : ℕ) (tracker : Tracker w)
    → IsLinkPast perm_of link link_state block_state t → IsOfBlock block_state.trackers block tracker
    → awaits_probe_ack link.0 tracker ≡ pending (ProbeOf block) t
probe-past perm_of link link_state block_state t block tracker p of =
    missing-looked block_state.trackers block link.0 tracker p.end.trace
    (looked-past perm_of link link_state block_state t p) of ∙ ap (pending (ProbeOf block)) (sym p.past)

pub sink-past : {w : ℕ} {M : Type 0} (perm_of : M → ℕ → ℕ → Perm) (link : Link) (link_state : LinkState w)
    (block_state : BlockState w M) (t : History w) (sink : ℕ) → IsLinkPast perm_of link link_state block_state t
    → awaits_grant_ack link.0 (tracker_at block_state.trackers sink) ≡ pending (GrantSink sink) t
sink-past perm_of link link_state block_state t sink p = sink-looked block_state.trackers sink link.0 p.end.trace
    (looked-past perm_of link link_state block_state t p) ∙ ap (pending (GrantSink sink)) (sym p.past)

-- the Probe that is open
pub unprobed-past : {w : ℕ} {M : Type 0} (perm_of : M → ℕ → ℕ → Perm) (link : Link) (link_state : LinkState w)
    (block_state : BlockState w M) (t : History w) (block : ℕ) (tracker : Tracker w)
    → IsLinkPast perm_of link link_state block_state t → IsOfBlock block_state.trackers block tracker
    → awaits_probe_ack link.0 tracker ≡ false → None ≡ open_probe block t
unprobed-past perm_of link link_state block_state t block tracker p of e =
    rw (sym (probe-past perm_of link link_state block_state t block tracker p of), e) refl

pub probed-past : {w : ℕ} {M : Type 0} (perm_of : M → ℕ → ℕ → Perm) (link : Link) (link_state : LinkState w)
    (block_state : BlockState w M) (t : History w) (block : ℕ) (tracker : Tracker w)
    → IsLinkPast perm_of link link_state block_state t → IsOfBlock block_state.trackers block tracker
    → awaits_probe_ack link.0 tracker ≡ true → probe_in (request_in tracker) ≡ open_probe block t
probed-past perm_of link link_state block_state t block tracker p of e =
    probe-looked block_state.trackers block link.0 tracker p.end.trace
    (looked-past perm_of link link_state block_state t p) of e ∙ ap (open_probe block) (sym p.past)
