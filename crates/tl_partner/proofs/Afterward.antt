-- A beat that says that nothing is held is taken, once what was dropped is said.
use Rattle.std.proofs.Common.{◌≡◌, ℕ, true, false, [], ◌∷◌, refl, ap, ◌∙◌}
use Rattle.std.proofs.Common.{lit≤}
use Rattle.std.proofs.lemmas.Bool.{eq-eqb}
use Rattle.tl_beat.specs.declared.beat.Beat.{Beat}
use Rattle.tl_beat.specs.declared.beat.BeatC.{BeatC}
use Rattle.tl_beat.specs.declared.beat.BeatD.{BeatD}
use Rattle.tl_beat.specs.declared.beat.Link.{Link}
use Rattle.tl_beat.specs.declared.channel.Channel.{Channel}
use Rattle.tl_beat.specs.statement.Width.{IsWidth}
use Rattle.tl_beat.specs.declared.opcode.OpD.{OpD}
use Rattle.tl_burst.specs.declared.message.MessageD.{MessageD}
use Rattle.tl_burst.specs.statement.Burst.{beats_of}
use Rattle.tl_burst.specs.statement.Messages.{History, unfinished}
use Rattle.tl_params.specs.declared.config.Config.{Config}
use Rattle.tl_params.specs.declared.key.Key.{Key}
use Rattle.tl_params.specs.declared.key.Key.TheVariants.{ReleaseOf}
use Rattle.tl_params.specs.declared.perm.Perm.{Perm}
use Rattle.tl_rules.proofs.Handed.{probe_of-other}
use Rattle.tl_rules.proofs.Sent.{pending-quiet, unfinished-sent_other}
use Rattle.tl_rules.specs.statement.Conformance.{Trace, on_link}
use Rattle.tl_rules.specs.statement.Admission.{sent}
use Rattle.tl_rules.specs.statement.History.{closes, held, is_grant, is_release, is_release_ack, opens, pending}
use Rattle.tl_rules.specs.statement.History.{probe_of}
use Rattle.tl_manager.proofs.calls.Keeping.{kept-offered}
use Rattle.tl_manager.proofs.pending.Accesses.{services-release_ack}
use Rattle.tl_manager.proofs.pending.Handed.{after_sent, own_link, whole-taken}
use Rattle.tl_manager.proofs.pending.LinkHistories.{own_beat}
use Rattle.tl_manager.proofs.pending.Probing.{probe_of-c, services-c}
use Rattle.tl_manager.proofs.pending.Replies.{reply-quiet}
use Rattle.tl_manager.specs.code.Kept.{IsKept}
use Rattle.tl_manager.specs.statement.End.{End}
use Rattle.tl_manager.specs.statement.Handing.{no_payload, release_ack}
unfoldable use Rattle.tl_manager.specs.statement.Handing.{with_handed}
use Rattle.tl_manager.specs.statement.Holders.{recorded}
use Rattle.tl_manager.specs.statement.Service.{services}
use Rattle.tl_partner.specs.statement.Dropping.{after_drop, is_reporting, release_beat, release_of}
use Rattle.tl_partner.proofs.Drops.{IsDropped}
use Rattle.tl_partner.proofs.Said.{idle, reaction-is, recorded-drop, taken_whole}

-- the Release, as a beat of channel C
abbrev pub said : {w : ℕ} → Link → ℕ → End w → Trace w
said link k e = (link, release_beat k (recorded link.0 k e.trace)) ∷ e.trace

-- the answer to a Release with this source, as a message of channel D
abbrev pub ack_of : {w : ℕ} → ℕ → MessageD w
ack_of source = record {
  opcode = OpD.ReleaseAck;
  param = 0;
  size = 6;
  source = source;
  sink = 0;
  denied = false;
  payload = no_payload;
  corrupt = 0;
  small = lit≤ tt;
}

-- the history of the link with the Release
abbrev pub heard : {w : ℕ} → Link → ℕ → End w → History w
heard link k e = release_beat k (recorded link.0 k e.trace) ∷ on_link link.0 e.trace

-- the trace then: the Release, and its answer
pub trace-drop : {w : ℕ} (config : Config) (link : Link) (k : ℕ) (e : End w) → IsKept config e → IsDropped config link k e
    → is_reporting link e.trace ≡ false
    → (after_drop config link k e).trace ≡ after_sent link (release_ack 0) (said link k e)
unfolding with_handed
trace-drop config link k e kept is free =
    ap (λ r. r.1.trace) (taken_whole config link k e kept is free)
    ∙ ap (λ d. with_handed d.handed (said link k e)) (reaction-is config link k e free)

-- the history of the link then
pub history-drop : {w : ℕ} (config : Config) (link : Link) (k : ℕ) (e : End w) → IsKept config e
    → IsDropped config link k e → is_reporting link e.trace ≡ false
    → on_link link.0 (after_drop config link k e).trace
    ≡ sent (release_ack 0) (release_beat k (recorded link.0 k e.trace) ∷ on_link link.0 e.trace)
history-drop config link k e kept is free =
    ap (on_link link.0) (trace-drop config link k e kept is free)
    ∙ own_link link.0 link (release_ack 0) (said link k e) (eq-eqb link.0 link.0 refl)
    ∙ ap (sent (release_ack 0)) (own_beat link.0 link (release_beat k (recorded link.0 k e.trace)) e.trace
    (eq-eqb link.0 link.0 refl))

pub services-drop : {w : ℕ} (config : Config) (link : Link) (k : ℕ) (e : End w) → IsWidth w → IsKept config e
    → IsDropped config link k e → is_reporting link e.trace ≡ false
    → services (after_drop config link k e).trace ≡ services e.trace
services-drop config link k e width kept is free =
    ap services (trace-drop config link k e kept is free)
    ∙ services-release_ack link (ack_of 0) (said link k e) width
    (whole-taken link.0 link (release_beat k (recorded link.0 k e.trace)) e.trace refl (kept.whole link.0)).1 refl
    ∙ services-c link (release_of k (recorded link.0 k e.trace)) e.trace

pub requests-drop : {w : ℕ} (config : Config) (link : Link) (k : ℕ) (e : End w) → IsKept config e
    → IsDropped config link k e → is_reporting link e.trace ≡ false
    → unfinished Channel.A (on_link link.0 (after_drop config link k e).trace)
    ≡ unfinished Channel.A (on_link link.0 e.trace)
unfolding unfinished
requests-drop config link k e kept is free =
    ap (unfinished Channel.A) (history-drop config link k e kept is free)
    ∙ unfinished-sent_other Channel.A (release_ack 0) (heard link k e) refl

pub reports-drop : {w : ℕ} (config : Config) (link : Link) (k : ℕ) (e : End w) → IsKept config e
    → IsDropped config link k e → is_reporting link e.trace ≡ false
    → unfinished Channel.C (on_link link.0 (after_drop config link k e).trace) ≡ []
unfolding unfinished
reports-drop config link k e kept is free =
    ap (unfinished Channel.C) (history-drop config link k e kept is free)
    ∙ unfinished-sent_other Channel.C (release_ack 0) (heard link k e) refl ∙ rw (idle link e free) refl

-- ---- what is pending

-- a key that neither a Release nor its answer opens or closes
pub pending-drop : {w : ℕ} (config : Config) (link : Link) (k : ℕ) (e : End w) (j : Key) → IsWidth w → IsKept config e
    → IsDropped config link k e → is_reporting link e.trace ≡ false
    → ((x : BeatC w) (h : History w) → is_release x.opcode ≡ true → (opens j (Beat.C x) h ≡ false)
    × (closes j (Beat.C x) h ≡ false))
    → ((x : BeatD w) (h : History w) → is_release_ack x.opcode ≡ true → is_grant x.opcode ≡ false
    → (opens j (Beat.D x) h ≡ false) × (closes j (Beat.D x) h ≡ false))
    → pending j (on_link link.0 (after_drop config link k e).trace) ≡ pending j (on_link link.0 e.trace)
pending-drop {w} config link k e j width kept is free c d =
    let before = (whole-taken link.0 link (release_beat k (recorded link.0 k e.trace)) e.trace refl (kept.whole link.0)).1 in
    let h = on_link link.0 e.trace in
    let said-quiet = c (release_of k (recorded link.0 k e.trace)) h refl in
    ap (λ t. pending j (on_link link.0 t)) (trace-drop config link k e kept is free)
    ∙ reply-quiet j link (ack_of 0) (said link k e) link.0 width before (λ same. d _ (on_link link.0 (said link k e)) refl refl)
    ∙ ap (pending j) (own_beat link.0 link (release_beat k (recorded link.0 k e.trace)) e.trace
    (eq-eqb link.0 link.0 refl))
    ∙ pending-quiet j (release_beat k (recorded link.0 k e.trace)) h said-quiet.0 said-quiet.1

pub released-drop : {w : ℕ} (config : Config) (link : Link) (k : ℕ) (e : End w) → IsWidth w → IsKept config e
    → IsDropped config link k e → is_reporting link e.trace ≡ false
    → pending (ReleaseOf k) (on_link link.0 (after_drop config link k e).trace) ≡ false
released-drop config link k e width kept is free =
    let after = kept-offered config link Channel.C (release_beat k (recorded link.0 k e.trace)) e width tt kept in
    rw (reports-drop config link k e kept is free) at ((after.releases link.0).blocks k)

pub probe-drop : {w : ℕ} (config : Config) (link : Link) (k : ℕ) (e : End w) (j : ℕ) → IsKept config e
    → IsDropped config link k e → is_reporting link e.trace ≡ false
    → probe_of j (on_link link.0 (after_drop config link k e).trace) ≡ probe_of j (on_link link.0 e.trace)
probe-drop {w} config link k e j kept is free =
    ap (probe_of j) (history-drop config link k e kept is free)
    ∙ probe_of-other j (release_ack {w = w} 0) (heard link k e) (beats_of (release_ack {w = w} 0)) refl
    ∙ probe_of-c j (release_of k (recorded link.0 k e.trace)) (on_link link.0 e.trace)

pub held-drop : {w : ℕ} (config : Config) (link : Link) (k : ℕ) (e : End w) → IsWidth w → IsKept config e
    → IsDropped config link k e → is_reporting link e.trace ≡ false
    → held k (on_link link.0 (after_drop config link k e).trace) ≡ Perm.None
held-drop config link k e width kept is free =
    recorded-drop config link k e link.0 k width kept is free
    ∙ rw (eq-eqb link.0 link.0 refl, eq-eqb k k refl) refl
