-- What one more beat or message leaves alike of what is pending.
use Rattle.std.proofs.Common.{◌≡◌, ℕ, Bool, true, false, ◌&&◌, ◌==◌, [], ◌∷◌, Option, Some, refl, ap, sym, ◌∙◌}
use Rattle.std.specs.Prelude.{if◌then◌else◌}
use Rattle.tl_beat.specs.declared.beat.Beat.{Beat}
use Rattle.tl_beat.specs.declared.beat.BeatA.{BeatA}
use Rattle.tl_beat.specs.declared.beat.BeatB.{BeatB}
use Rattle.tl_beat.specs.declared.beat.BeatC.{BeatC}
use Rattle.tl_beat.specs.declared.beat.BeatE.{BeatE}
use Rattle.tl_beat.specs.declared.channel.Channel.{Channel}
use Rattle.tl_beat.specs.statement.Width.{IsWidth}
use Rattle.tl_burst.proofs.Splitting.{beats-positive}
use Rattle.tl_burst.specs.declared.message.Message.{Message}
use Rattle.tl_burst.specs.declared.message.MessageB.{MessageB}
use Rattle.tl_burst.specs.declared.message.MessageD.{MessageD}
use Rattle.tl_burst.specs.statement.Burst.{b_beat_of}
use Rattle.tl_burst.specs.statement.Messages.{History}
unfoldable use Rattle.tl_burst.specs.statement.Messages.{unfinished}
use Rattle.tl_params.specs.declared.key.Key.TheVariants.{AcquireOf, GrantSink, ProbeOf, RequestSource}
use Rattle.tl_rules.proofs.Handed.{pending-sent_b, pending-sent_d, probe_of-whole}
use Rattle.tl_rules.proofs.Sent.{pending-quiet, unfinished-sent, unfinished-sent_other}
use Rattle.tl_rules.specs.statement.Admission.{sent}
use Rattle.tl_rules.specs.statement.History.{begins, block_at, ends, is_probe, is_probe_ack, is_release}
use Rattle.tl_rules.specs.statement.History.{request_of}
unfoldable use Rattle.tl_rules.specs.statement.History.{pending, probe_of}
use Rattle.tl_manager.proofs.pending.LinkHistories.{none-on_e}
use Rattle.tl_manager.proofs.pending.SteadyReports.{release_kind}
use Rattle.tl_manager.specs.statement.Handing.{release_ack}
use Rattle.tl_partner.specs.declared.terms.Terms.{Terms}
use Rattle.tl_partner.specs.laws.Carried.{ArePendingAlike, AreSameProbe, is_newest_misnamed}
use Rattle.tl_partner.specs.statement.Naming.{probe_source}
use Rattle.tl_partner.proofs.Afterward.{ack_of}

-- ---- beats of clients

pub pending-a : {w : ℕ} (terms : Terms) (client : ℕ) (x : BeatA w) (t e : History w)
    → unfinished Channel.A t ≡ unfinished Channel.A e → ArePendingAlike terms client t e
    → ArePendingAlike terms client (Beat.A x ∷ t) (Beat.A x ∷ e)
unfolding pending unfinished probe_of
pending-a {w} terms client x t e same a = record {
  sources = λ s. rw (same, a.sources s) refl;
  acquires = λ k. rw (same, a.acquires k) refl;
  sinks = λ s. rw (same, a.sinks s) refl;
  probes = λ k. rw (same, a.probes k) refl;
  probe = λ k. a.probe k;
  quiet = a.quiet;
  named = a.named;
}

pub pending-e : {w : ℕ} (terms : Terms) (client : ℕ) (x : BeatE) (t e : History w) → ArePendingAlike terms client t e
    → ArePendingAlike terms client (Beat.E x ∷ t) (Beat.E x ∷ e)
unfolding pending unfinished probe_of
pending-e {w} terms client x t e a = record {
  sources = λ s. rw (none-on_e t, none-on_e e, a.sources s) refl;
  acquires = λ k. rw (none-on_e t, none-on_e e, a.acquires k) refl;
  sinks = λ s. rw (none-on_e t, none-on_e e, a.sinks s) refl;
  probes = λ k. rw (none-on_e t, none-on_e e, a.probes k) refl;
  probe = λ k. a.probe k;
  quiet = a.quiet;
  named = a.named;
}

-- a beat of channel C, with the fields that count, which ends the same message
pub pending-c : {w : ℕ} (terms : Terms) (client : ℕ) (x y : BeatC w) (t e : History w)
    → ends (Beat.C x) t ≡ ends (Beat.C y) e → y.opcode ≡ x.opcode → y.address ≡ x.address
    → is_newest_misnamed terms client (unfinished Channel.C (Beat.C x ∷ t)) ≡ false → ArePendingAlike terms client t e
    → ArePendingAlike terms client (Beat.C x ∷ t) (Beat.C y ∷ e)
unfolding pending probe_of unfinished
pending-c {w} terms client x y t e last opcode address named a = record {
  sources = λ s. pending-quiet (RequestSource s) (Beat.C x) t refl refl ∙ a.sources s
      ∙ sym (pending-quiet (RequestSource s) (Beat.C y) e refl refl);
  acquires = λ k. pending-quiet (AcquireOf k) (Beat.C x) t refl refl ∙ a.acquires k
      ∙ sym (pending-quiet (AcquireOf k) (Beat.C y) e refl refl);
  sinks = λ s. pending-quiet (GrantSink s) (Beat.C x) t refl refl ∙ a.sinks s
      ∙ sym (pending-quiet (GrantSink s) (Beat.C y) e refl refl);
  probes = λ k. rw (last, same k, a.probes k) (closed (ends (Beat.C y) e)
      (is_probe_ack x.opcode && (block_at x.address == k)) (begins (Beat.C x) t) (begins (Beat.C y) e)
      (pending (ProbeOf k) e));
  probe = λ k. a.probe k;
  quiet = a.quiet;
  named = named;
}
  where
    same : (k : ℕ) → (is_probe_ack y.opcode && (block_at y.address == k))
        ≡ (is_probe_ack x.opcode && (block_at x.address == k))
    same k = rw (opcode, address) refl

    closed : (ended here first other before : Bool)
        → (if first && false then true else if ended && here then false else before)
        ≡ (if other && false then true else if ended && here then false else before)
    closed ended here true true before = refl
    closed ended here true false before = refl
    closed ended here false true before = refl
    closed ended here false false before = refl

-- a beat of a Release that the manager's history hasn't
pub pending-cleaning : {w : ℕ} (terms : Terms) (client : ℕ) (x : BeatC w) (t e : History w) → is_release x.opcode ≡ true
    → is_newest_misnamed terms client (unfinished Channel.C (Beat.C x ∷ t)) ≡ false → ArePendingAlike terms client t e
    → ArePendingAlike terms client (Beat.C x ∷ t) e
unfolding probe_of unfinished
pending-cleaning {w} terms client x t e release named a = record {
  sources = λ s. pending-quiet (RequestSource s) (Beat.C x) t refl refl ∙ a.sources s;
  acquires = λ k. pending-quiet (AcquireOf k) (Beat.C x) t refl refl ∙ a.acquires k;
  sinks = λ s. pending-quiet (GrantSink s) (Beat.C x) t refl refl ∙ a.sinks s;
  probes = λ k. pending-quiet (ProbeOf k) (Beat.C x) t refl (rw (release_kind x.opcode release) refl) ∙ a.probes k;
  probe = λ k. a.probe k;
  quiet = a.quiet;
  named = named;
}

-- ---- messages that are handed out

pub pending-b : {w : ℕ} (terms : Terms) (client : ℕ) (m n : MessageB w) (t e : History w) → IsWidth w
    → unfinished Channel.B e ≡ [] → m.opcode ≡ n.opcode → m.param ≡ n.param → m.address ≡ n.address
    → (terms.ids ≡ true → m.source ≡ probe_source terms client) → ArePendingAlike terms client t e
    → ArePendingAlike terms client (sent (Message.B m) t) (sent (Message.B n) e)
pending-b {w} terms client m n t e width none opcode param address source a =
    let now = beats-positive (Message.B m) width in
    let before = beats-positive (Message.B n) width in
    record {
      sources = λ s. pending-sent_b (RequestSource s) m t a.quiet now ∙ a.sources s
          ∙ sym (pending-sent_b (RequestSource s) n e none before);
      acquires = λ k. pending-sent_b (AcquireOf k) m t a.quiet now ∙ a.acquires k
          ∙ sym (pending-sent_b (AcquireOf k) n e none before);
      sinks = λ s. pending-sent_b (GrantSink s) m t a.quiet now ∙ a.sinks s
          ∙ sym (pending-sent_b (GrantSink s) n e none before);
      probes = λ k. pending-sent_b (ProbeOf k) m t a.quiet now ∙ rw (opcode, address, a.probes k) refl
          ∙ sym (pending-sent_b (ProbeOf k) n e none before);
      probe = λ k. rw (
        probe_of-whole k (Message.B m) t a.quiet now,
        probe_of-whole k (Message.B n) e none before,
      ) (go (is_probe m.opcode && (block_at m.address == k)) (is_probe n.opcode && (block_at n.address == k))
          (probe_of k t) (probe_of k e) (rw (opcode, address) refl) (a.probe k));
      quiet = unfinished-sent (Message.B m) t a.quiet now;
      named = ap (is_newest_misnamed terms client) (unfinished-sent_other Channel.C (Message.B m) t refl) ∙ a.named;
    }
  where
    go : (b c : Bool) (p q : Option (BeatB w)) → b ≡ c → AreSameProbe terms client p q
        → AreSameProbe terms client (if b then Some (b_beat_of m 0) else p) (if c then Some (b_beat_of n 0) else q)
    go true true p q both same = (opcode, param, source)
    go true false p q both same = absurd cc
    go false true p q both same = absurd cc
    go false false p q both same = same

pub pending-d : {w : ℕ} (terms : Terms) (client : ℕ) (m : MessageD w) (t e : History w) → IsWidth w
    → unfinished Channel.D t ≡ [] → unfinished Channel.D e ≡ [] → ((s : ℕ) → request_of s t ≡ request_of s e)
    → ArePendingAlike terms client t e
    → ArePendingAlike terms client (sent (Message.D m) t) (sent (Message.D m) e)
pending-d {w} terms client m t e width none none_e named a =
    let some = beats-positive (Message.D m) width in
    record {
      sources = λ s. pending-sent_d (RequestSource s) m t none some ∙ rw (a.sources s) refl
          ∙ sym (pending-sent_d (RequestSource s) m e none_e some);
      acquires = λ k. pending-sent_d (AcquireOf k) m t none some ∙ rw (a.acquires k, named m.source) refl
          ∙ sym (pending-sent_d (AcquireOf k) m e none_e some);
      sinks = λ s. pending-sent_d (GrantSink s) m t none some ∙ rw (a.sinks s) refl
          ∙ sym (pending-sent_d (GrantSink s) m e none_e some);
      probes = λ k. pending-sent_d (ProbeOf k) m t none some ∙ a.probes k
          ∙ sym (pending-sent_d (ProbeOf k) m e none_e some);
      probe = λ k. rw (probe_of-whole k (Message.D m) t none some, probe_of-whole k (Message.D m) e none_e some)
          (a.probe k);
      quiet = unfinished-sent_other Channel.B (Message.D m) t refl ∙ a.quiet;
      named = ap (is_newest_misnamed terms client) (unfinished-sent_other Channel.C (Message.D m) t refl) ∙ a.named;
    }

-- an answer to a Release that the manager's history hasn't
pub pending-ack : {w : ℕ} (terms : Terms) (client source : ℕ) (t e : History w) → IsWidth w
    → unfinished Channel.D t ≡ [] → ArePendingAlike terms client t e
    → ArePendingAlike terms client (sent (release_ack source) t) e
pending-ack {w} terms client source t e width none a =
    let some = beats-positive (release_ack {w = w} source) width in
    record {
      sources = λ s. pending-sent_d (RequestSource s) (ack_of source) t none some ∙ a.sources s;
      acquires = λ k. pending-sent_d (AcquireOf k) (ack_of source) t none some ∙ a.acquires k;
      sinks = λ s. pending-sent_d (GrantSink s) (ack_of source) t none some ∙ a.sinks s;
      probes = λ k. pending-sent_d (ProbeOf k) (ack_of source) t none some ∙ a.probes k;
      probe = λ k. rw (probe_of-whole k (release_ack source) t none some) (a.probe k);
      quiet = unfinished-sent_other Channel.B (release_ack source) t refl ∙ a.quiet;
      named = ap (is_newest_misnamed terms client) (unfinished-sent_other Channel.C (release_ack source) t refl)
          ∙ a.named;
    }

-- the manager's history with the same pending
pub pending-as : {w : ℕ} (terms : Terms) (client : ℕ) (t e f : History w)
    → ((s : ℕ) → pending (RequestSource s) f ≡ pending (RequestSource s) e)
    → ((k : ℕ) → pending (AcquireOf k) f ≡ pending (AcquireOf k) e)
    → ((s : ℕ) → pending (GrantSink s) f ≡ pending (GrantSink s) e)
    → ((k : ℕ) → pending (ProbeOf k) f ≡ pending (ProbeOf k) e) → ((k : ℕ) → probe_of k f ≡ probe_of k e)
    → ArePendingAlike terms client t e → ArePendingAlike terms client t f
pending-as terms client t e f sources acquires sinks probes probe a = record {
  sources = λ s. a.sources s ∙ sym (sources s);
  acquires = λ k. a.acquires k ∙ sym (acquires k);
  sinks = λ s. a.sinks s ∙ sym (sinks s);
  probes = λ k. a.probes k ∙ sym (probes k);
  probe = λ k. rw (probe k) (a.probe k);
  quiet = a.quiet;
  named = a.named;
}
