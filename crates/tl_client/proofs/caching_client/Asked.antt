-- What a caching client knows after an operation.
use Rattle.tl_client.proofs.Imports.{BeatA, BeatC, Message, a_beat_of, History, GrantAckOf, comes_in_grant}
use Rattle.tl_client.proofs.Imports.{request_if_any, release_if_any, is_release, pending, Caching, Op, Reply, asked}
use Rattle.tl_client.proofs.Imports.{Endpoint, IsInside, KnowsCaching, caching_terms, is_granting, has_sink, open_beat}
use Rattle.tl_client.proofs.Imports.{open_release, fields_of, release_fields}
use Rattle.std.proofs.Common.{◌≡◌, ℕ, Bool, true, false, cond, ◌&&◌, Option, Some, None, refl, sym, ◌∙◌, ap, subst}
use Rattle.std.specs.Prelude.{◌==◌}
use Rattle.tl_beat.specs.declared.channel.Channel.TheVariants as channel
use Rattle.tl_burst.specs.declared.message.Message.TheVariants as message
use Rattle.tl_burst.specs.statement.Burst.{c_beat_of}
use Rattle.tl_rules.specs.laws.Handed.{pending_if_any}
use Rattle.tl_client.specs.declared.reply.Reply.TheVariants as reply
use Rattle.tl_client.specs.laws.After.{IsStarted}
use Rattle.tl_client.specs.code.Caching.{Does, busy_by}
use Rattle.tl_client.specs.statement.Requests.{fields_in, release_in, opened_by, released_by}
use Rattle.tl_client.proofs.pending.Accounted.{accounted-asked}
use Rattle.tl_client.proofs.endpoint.AfterAsked.{closed-asked, copies-asked, waiting-asked}
use Rattle.tl_client.proofs.caching_client.Answered.{IsAnswered, answered}
use Rattle.tl_client.proofs.messages.Calls.{started-asked}
use Rattle.tl_client.proofs.endpoint.HeldAfter.{held-asked}
use Rattle.tl_client.proofs.endpoint.Inside.{inside-asked}
use Rattle.tl_client.proofs.pending.KeptAsked.{kept-asked}
use Rattle.tl_client.proofs.pending.Open.{open-asked, open_release-asked}
use Rattle.tl_client.proofs.endpoint.Outstanding.{pending-asked, unfinished-asked}

-- what is open is kept as the messages say
pub opened-fields : {w : ℕ} (s : ℕ) (m : Option (Message w)) (r : Option (BeatA w))
    → opened_by s m (fields_of r) ≡ fields_of (request_if_any s m r)
opened-fields s None r = refl
opened-fields s (Some (message.B m)) r = refl
opened-fields s (Some (message.C m)) r = refl
opened-fields s (Some (message.D m)) r = refl
opened-fields s (Some (message.E m)) r = refl
opened-fields {w} s (Some (message.A m)) r = go (m.source == s)
  where
    go : (b : Bool) → cond b (Some (fields_in m)) (fields_of r) ≡ fields_of (cond b (Some (a_beat_of m 0)) r)
    go true = refl
    go false = refl

pub released-fields : {w : ℕ} (s : ℕ) (m : Option (Message w)) (r : Option (BeatC w))
    → released_by s m (release_fields r) ≡ release_fields (release_if_any s m r)
released-fields s None r = refl
released-fields s (Some (message.A m)) r = refl
released-fields s (Some (message.B m)) r = refl
released-fields s (Some (message.D m)) r = refl
released-fields s (Some (message.E m)) r = refl
released-fields {w} s (Some (message.C m)) r = go (is_release m.opcode && (m.source == s))
  where
    go : (b : Bool) → cond b (Some (release_in m)) (release_fields r) ≡ release_fields (cond b (Some (c_beat_of m 0)) r)
    go true = refl
    go false = refl

-- no GrantAck is missing because of what starts
ack_unsaid : {w : ℕ} (k : ℕ) (r : Reply) (m : Option (Message w)) (t : History w) → IsStarted r m t
    → pending_if_any (GrantAckOf k) m t ≡ pending (GrantAckOf k) t
ack_unsaid k r None t started = refl
ack_unsaid k r (Some (message.A m)) t started = refl
ack_unsaid k r (Some (message.B m)) t started = refl
ack_unsaid k r (Some (message.C m)) t started = refl
ack_unsaid k (reply.Started s) (Some (message.D m)) t started = absurd started
ack_unsaid k (reply.Value v) (Some (message.D m)) t started = absurd started
ack_unsaid k reply.Stored (Some (message.D m)) t started = absurd started
ack_unsaid k reply.Miss (Some (message.D m)) t started = absurd started
ack_unsaid k (reply.Busy b) (Some (message.D m)) t started = absurd started
ack_unsaid k (reply.Started s) (Some (message.E m)) t started = absurd started
ack_unsaid k (reply.Value v) (Some (message.E m)) t started = absurd started
ack_unsaid k reply.Stored (Some (message.E m)) t started = absurd started
ack_unsaid k reply.Miss (Some (message.E m)) t started = absurd started
ack_unsaid k (reply.Busy b) (Some (message.E m)) t started = absurd started

pub knows-asked : {w : ℕ} (c d : Caching w) (op : Op w) (e : Endpoint w) (r : Reply × Option (Message w))
    → KnowsCaching c e → busy_by c op ≡ None → Does c d op r
    → KnowsCaching d (asked (caching_terms c) op e).after
knows-asked {w} c d op e r knows free does =
    let said : IsAnswered (caching_terms c) op e r = rw (does.answer) (answered c op e knows free) in
    let after = (asked (caching_terms c) op e).after in
    let kept = kept-asked (caching_terms c) op e c.width knows.kept in
    let accounted = accounted-asked (caching_terms c) op e c.width knows.kept knows.accounted in
    let burst = unfinished-asked (caching_terms c) op e channel.D c.width knows.kept in
    record {
      closed_is = does.closed ∙ knows.closed_is ∙ sym (closed-asked (caching_terms c) op e);
      held_is = λ k. does.holdings k ∙ rw (← said.busy_is, knows.held_is k)
          (sym (held-asked (caching_terms c) op e k c.width knows.kept.c_whole));
      copies_are = λ k. does.copies k ∙ rw (← said.busy_is, knows.held_is k, knows.copies_are k)
          (sym (copies-asked (caching_terms c) op e k));
      waiting_are = λ k. does.waiting k ∙ rw (← said.busy_is, knows.waiting_are k)
          (sym (waiting-asked (caching_terms c) op e k));
      requests_are =
          λ s. does.requests s ∙ rw (← said.message_is, knows.requests_are s)
          (opened-fields s (asked (caching_terms c) op e).message (open_beat s e.past))
          ∙ sym (ap fields_of (open-asked (caching_terms c) op e s c.width knows.kept));
      releases_are =
          λ s. does.releases s ∙ rw (← said.message_is, knows.releases_are s)
          (released-fields s (asked (caching_terms c) op e).message (open_release s e.past))
          ∙ sym (ap release_fields (open_release-asked (caching_terms c) op e s c.width knows.kept));
      response_is = does.response ∙ knows.response_is ∙ sym burst;
      granting_is = λ k. ap (is_granting k) does.granting ∙ knows.granting_is k ∙ sym (knows.accounted.acked.acks k)
          ∙ sym (pending-asked (caching_terms c) op e (GrantAckOf k) c.width knows.kept
          ∙ ack_unsaid k (asked (caching_terms c) op e).reply (asked (caching_terms c) op e).message e.past
          (started-asked (caching_terms c) op e))
          ∙ accounted.acked.acks k;
      sink_is = λ s. ap (has_sink s) does.granting ∙ knows.sink_is s ∙ ap (comes_in_grant s) (sym burst);
      kept = kept;
      accounted = accounted;
      inside = subst (λ terms. IsInside terms after.past) (sym does.terms)
          (inside-asked (caching_terms c) op e c.width knows.kept knows.inside);
    }

pub answers-asked : {w : ℕ} (c d : Caching w) (op : Op w) (e : Endpoint w) (r : Reply × Option (Message w))
    → KnowsCaching c e → busy_by c op ≡ None → Does c d op r
    → (r.0 ≡ (asked (caching_terms c) op e).reply) × (r.1 ≡ (asked (caching_terms c) op e).message)
answers-asked c d op e r knows free does =
    let said : IsAnswered (caching_terms c) op e r = rw (does.answer) (answered c op e knows free) in
    (sym said.reply_is, sym said.message_is)
