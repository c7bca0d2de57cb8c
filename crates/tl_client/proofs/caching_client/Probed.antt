-- What a caching client answers to a Probe, and what it knows afterwards.
use Rattle.tl_client.proofs.Imports.{BeatB, Channel, Message, comes_in_grant, block_at, Caching, Verdict}
use Rattle.tl_client.proofs.Imports.{comes_granting, Endpoint, copy_at, held_at}
use Rattle.tl_client.proofs.Imports.{KnowsCaching, caching_terms, is_granting}
use Rattle.tl_client.proofs.Imports.{has_sink, offered, taken, report_for, probe_ack, open_at}
use Rattle.std.proofs.Common.{◌≡◌, ℕ, Option, Some, refl, sym, ◌∙◌, ap}
use Rattle.std.specs.Prelude.{Ok}
use Rattle.tl_beat.specs.declared.beat.Beat.TheVariants as beat
use Rattle.tl_client.specs.code.Takes.{Probes}
use Rattle.tl_client.proofs.caching_client.Answered.{copy-known}
use Rattle.tl_client.proofs.caching_client.Taken.{Follows, taking, knows-after}
use Rattle.tl_client.proofs.messages.Bytes.{burst_b}

pub answer-probed : {w : ℕ} (c d : Caching w) (x : BeatB w) (e : Endpoint w) (r : Verdict × Option (Message w))
    → KnowsCaching c e → Probes c d x r → (taken (beat.B x) e).answer ≡ Ok r
answer-probed c d x e r knows probes =
    rw (probes.answer, knows.held_is (block_at x.address), ← copy-known c e (block_at x.address) knows) refl

follows-probed : {w : ℕ} (c d : Caching w) (x : BeatB w) (e : Endpoint w) (r : Verdict × Option (Message w))
    → KnowsCaching c e → Probes c d x r → Follows c d (beat.B x) e
follows-probed c d x e r knows probes = record {
  closed = probes.closed;
  terms = probes.terms;
  holdings = λ k. probes.holdings k ∙ rw (knows.held_is (block_at x.address), knows.held_is k) refl;
  copies = λ k. probes.copies k ∙ rw (knows.held_is (block_at x.address), knows.copies_are k) refl;
  waiting = λ k. probes.waiting k ∙ knows.waiting_are k;
  requests = λ s. ap (λ o. open_at o s) probes.requests ∙ knows.requests_are s;
  releases = λ s. ap (λ o. open_at o s) probes.releases ∙ knows.releases_are s;
  response = probes.response ∙ knows.response_is ∙ sym (burst_b x e.past);
  granting = λ k. ap (is_granting k) probes.granting ∙ knows.granting_is k ∙ ap (λ b. comes_granting k b e.past)
      (sym (burst_b x e.past));
  sink = λ s. ap (has_sink s) probes.granting ∙ knows.sink_is s ∙ ap (comes_in_grant s) (sym (burst_b x e.past));
}

pub knows-probed : {w : ℕ} (c d : Caching w) (ch : Channel) (x : BeatB w) (e : Endpoint w)
    (r : Verdict × Option (Message w)) → KnowsCaching c e → Probes c d x r
    → offered (caching_terms c) ch (beat.B x) e ≡ taken (beat.B x) e
    → KnowsCaching d (offered (caching_terms c) ch (beat.B x) e).after
knows-probed c d ch x e r knows probes is =
    knows-after c d ch (beat.B x) e _ knows (ap (λ o. o.answer) is)
    (taking (Some (probe_ack x.opcode (held_at e (block_at x.address)) (report_for x (held_at e (block_at x.address)))
    (block_at x.address)
    (copy_at e (block_at x.address)))) (beat.B x)) (follows-probed c d x e r knows probes)
