-- What a plain client answers to an operation, and what it knows afterwards.
use Rattle.tl_client.proofs.Imports.{IsWidth, Beat, BeatA, first_if, MessageA, a_beat_of, History, unfinished}
use Rattle.tl_client.proofs.Imports.{beats-positive, Key, RequestSource, ReleaseSource, AcquireOf, ReleaseOf, GrantSink}
use Rattle.tl_client.proofs.Imports.{GrantAckOf, ProbeOf, sent, opens, is_acquire, pending, request_of, held, Busy, B1}
use Rattle.tl_client.proofs.Imports.{B2, B3, B4, B5, Op, Load, Store, Acquire, AcquireWhole, Release, Access, Plain}
use Rattle.tl_client.proofs.Imports.{Request, asked, op_block, breaks_b1, breaks_b2, breaks_b3, breaks_b4, busy}
use Rattle.tl_client.proofs.Imports.{is_access_of, only, free_request, least_free, EndConfig, Endpoint, fresh, held_at}
use Rattle.tl_client.proofs.Imports.{sending, KnowsPlain, open_at, access, sourced, start_with, fields_of, open_beat}
use Rattle.tl_client.proofs.Imports.{open_request, held-sent_unsaid}
use Rattle.std.proofs.Common.{◌≡◌, ℕ, zero, suc, ◌+◌, Bool, true, false, not, cond, ◌&&◌, ◌||◌, List, [], ◌∷◌, Option}
use Rattle.std.proofs.Common.{Some, None, refl, sym, ◌∙◌}
use Rattle.std.specs.Prelude.{◌==◌, is_some, is_none, nat_le}
use Rattle.tl_beat.specs.declared.beat.Beat.TheVariants as beat
use Rattle.tl_beat.specs.declared.channel.Channel.TheVariants as channel
use Rattle.tl_burst.specs.declared.message.Message.TheVariants as message
use Rattle.tl_client.specs.declared.reply.Reply.TheVariants as reply
use Rattle.tl_client.specs.statement.Ask.{Asked, is_formed, started}
use Rattle.tl_client.specs.code.KnowsPlain.{plain_terms, answers_pending, is_request}
use Rattle.tl_client.specs.code.Plain.{access_in}
use Rattle.tl_client.specs.statement.Requests.{opened_by, fields_in}
use Rattle.tl_client.proofs.pending.KeptAsked.{no_acquire}
use Rattle.tl_client.proofs.pending.Opens.{open_beat-a}
use Rattle.tl_rules.proofs.Sent.{unfinished-sent, unfinished-sent_other, pending-sent, request_closes_nothing}
use Rattle.tl_rules.proofs.Named.{request-there}

-- ---- the answer

-- what is answered where this source is free
abbrev pub begun : {w : ℕ} → Option ℕ → MessageA w → Endpoint w → Asked w
begun None m e = only (reply.Busy B1) e
begun (Some s) m e = started s (access s m) e

abbrev pub busy_alone : {w : ℕ} → EndConfig → Op w → Option Busy
busy_alone terms op = first_if (breaks_b4 terms.level op) B4
    (first_if (nat_le terms.blocks (op_block op) || not (is_formed terms.level op)) B5 None)

two : (p q : Bool) (rest : Option Busy) (b : Busy) → Some b ≡ first_if p B4 (first_if q B5 None)
    → first_if p B4 (first_if q B5 rest) ≡ Some b
two true q rest b is = sym is
two false true rest b is = sym is
two false false rest b is = absurd cc

neither : (p q : Bool) (rest : Option Busy) → first_if p B4 (first_if q B5 None) ≡ None
    → first_if p B4 (first_if q B5 rest) ≡ rest
neither true q rest is = absurd cc
neither false true rest is = absurd cc
neither false false rest is = refl

pub asked-alone : {w : ℕ} (terms : EndConfig) (op : Op w) (e : Endpoint w) (b : Busy) → Some b ≡ busy_alone terms op
    → asked terms op e ≡ only (reply.Busy b) e
unfolding asked busy
asked-alone terms op e b is =
    rw (two _ _ (first_if (breaks_b2 op e.past) B2 (first_if (breaks_b3 op (held_at e (op_block op))) B3
    (first_if (breaks_b1 terms op e.past) B1 None))) b is) refl

begun_by : {w : ℕ} (terms : EndConfig) (m : MessageA w) (e : Endpoint w) (free : Option ℕ)
    → busy terms (Access (message.A m)) e ≡ first_if (is_none free) B1 None → free_request terms e.past ≡ free
    → asked terms (Access (message.A m)) e ≡ begun free m e
unfolding asked
begun_by terms m e None is source = rw is refl
begun_by terms m e (Some s) is source = rw is (rw source refl)

pub asked-access : {w : ℕ} (terms : EndConfig) (m : MessageA w) (e : Endpoint w)
    → busy_alone terms (Access (message.A m)) ≡ None
    → asked terms (Access (message.A m)) e ≡ begun (free_request terms e.past) m e
unfolding busy
asked-access terms m e is =
    begun_by terms m e (free_request terms e.past) (neither _ _ (first_if (is_none (free_request terms e.past)) B1 None)
    is) refl

-- ---- what is known afterwards

open-sent : {w : ℕ} (s : ℕ) (m : MessageA w) (t : History w) → IsWidth w → unfinished channel.A t ≡ []
    → open_request s (sent (message.A m) t) ≡ cond (m.source == s) (Some (fields_in m)) (open_request s t)
open-sent {w} s m t is none = rw (open_beat-a s m t is none) (go (m.source == s) (open_beat s t))
  where
    go : (b : Bool) (o : Option (BeatA w)) → fields_of (cond b (Some (a_beat_of m 0)) o) ≡ cond b (Some (fields_in m))
        (fields_of o)
    go true o = refl
    go false o = refl

still_pending : {w : ℕ} (burst : List (Beat w)) (m : MessageA w) (t : History w) → IsWidth w
    → unfinished channel.A t ≡ [] → answers_pending burst t ≡ true
    → answers_pending burst (sent (message.A m) t) ≡ true
still_pending [] m t is none e = refl
still_pending (beat.A x ∷ burst) m t is none e = refl
still_pending (beat.B x ∷ burst) m t is none e = refl
still_pending (beat.C x ∷ burst) m t is none e = refl
still_pending (beat.E x ∷ burst) m t is none e = refl
still_pending (beat.D x ∷ burst) m t is none e =
    rw (
      pending-sent (RequestSource x.source) (message.A m) t none (request_closes_nothing (RequestSource x.source) m)
          (beats-positive (message.A m) is),
      e,
    ) (go (m.source == x.source))
  where
    go : (b : Bool) → cond b true true ≡ true
    go true = refl
    go false = refl

-- an access opens its source alone
opens_source : {w : ℕ} (key : Key) (m : MessageA w) (t : History w) → is_acquire m.opcode ≡ false
    → is_request key ≡ false → opens key (beat.A (a_beat_of m 0)) t ≡ false
opens_source (RequestSource s) m t plain other = absurd cc
opens_source (ReleaseSource s) m t plain other = refl
opens_source (AcquireOf k) m t plain other = rw plain refl
opens_source (ReleaseOf k) m t plain other = refl
opens_source (GrantSink s) m t plain other = refl
opens_source (GrantAckOf k) m t plain other = refl
opens_source (ProbeOf k) m t plain other = refl

alone-sent : {w : ℕ} (key : Key) (m : MessageA w) (t : History w) → IsWidth w → unfinished channel.A t ≡ []
    → is_acquire m.opcode ≡ false → is_request key ≡ false → pending key t ≡ false
    → pending key (sent (message.A m) t) ≡ false
alone-sent key m t is none plain other e =
    pending-sent key (message.A m) t none (request_closes_nothing key m) (beats-positive (message.A m) is) ∙ rw
    (opens_source key m t plain other) e

-- an access was handed out
pub knows-started : {w : ℕ} (p q : Plain w) (e : Endpoint w) (m : MessageA w) → IsWidth w → is_acquire m.opcode ≡ false
    → KnowsPlain p e → q.closed ≡ p.closed → q.responses ≡ p.responses
    → ((s : ℕ) → open_at q.requests s ≡ cond (m.source == s) (Some (fields_in m)) (open_at p.requests s))
    → KnowsPlain q (sending (message.A m) e)
knows-started p q e m is plain k closed responses requests =
    let burst = unfinished-sent_other channel.D (message.A m) e.past refl in
    record {
      closed_is = closed ∙ k.closed_is;
      requests_are = λ s. requests s ∙ rw (k.requests_are s) (sym (open-sent s m e.past is k.sent_whole));
      response_is = responses ∙ k.response_is ∙ sym burst;
      sent_whole = unfinished-sent (message.A m) e.past k.sent_whole (beats-positive (message.A m) is);
      answers_open = rw burst (still_pending (unfinished channel.D e.past) m e.past is k.sent_whole k.answers_open);
      requests_alone = λ key other. alone-sent key m e.past is k.sent_whole plain other (k.requests_alone key other);
      holds_nothing = λ b. held-sent_unsaid b (message.A m) e.past (λ i t. refl) ∙ k.holds_nothing b;
      has_no_copy = k.has_no_copy;
    }

-- ---- a new client

nothing_open : (w s : ℕ) → open_request {w = w} s [] ≡ None
unfolding pending
nothing_open w s = refl

nothing_pending : (w : ℕ) (key : Key) → pending {w = w} key [] ≡ false
unfolding pending
nothing_pending w key = refl

pub knows-fresh : {w : ℕ} (p : Plain w) → p.closed ≡ false → p.responses ≡ [] → ((s : ℕ) → open_at p.requests s ≡ None)
    → KnowsPlain p fresh
unfolding unfinished held
knows-fresh {w} p closed responses requests = record {
  closed_is = closed;
  requests_are = λ s. requests s ∙ sym (nothing_open w s);
  response_is = responses;
  sent_whole = refl;
  answers_open = refl;
  requests_alone = λ key other. nothing_pending w key;
  holds_nothing = λ b. refl;
  has_no_copy = λ b. refl;
}

-- ---- for a client that knows its end

before_other : (b c live : Bool) (P : Type 0) → (live ≡ true → P) → cond (b && false) true (cond c false live) ≡ true
    → P
before_other true true live P before e = absurd cc
before_other true false live P before e = before e
before_other false true live P before e = absurd cc
before_other false false live P before e = before e

pub is_some-open : {w : ℕ} (s : ℕ) (t : History w) → is_some (open_request s t) ≡ pending (RequestSource s) t
is_some-open {w} s t = go (pending (RequestSource s) t) (request_of s t) (request-there s t)
  where
    go : (b : Bool) (o : Option (BeatA w)) → (b ≡ true → is_some o ≡ true) → is_some (fields_of (cond b o None)) ≡ b
    go false o some = refl
    go true None some = some refl
    go true (Some x) some = refl

-- the source that is free is the one that the client finds
pub free_found : {w : ℕ} (f : ℕ → Option Request) (t : History w) (s n : ℕ) → ((k : ℕ) → f k ≡ open_request k t)
    → least_free (λ k. is_some (f k)) s n ≡ least_free (λ k. pending (RequestSource k) t) s n
unfolding least_free
free_found f t s zero same = refl
free_found f t s (suc n) same = rw (same s, is_some-open s t, free_found f t (s + 1) n same) refl

access_of : {w : ℕ} (op : Op w) (m : MessageA w) → Some m ≡ access_in op → op ≡ Access (message.A m)
access_of (Access (message.A n)) m is = let same : m ≡ n = cc in rw same refl
access_of (Access (message.B n)) m is = absurd cc
access_of (Access (message.C n)) m is = absurd cc
access_of (Access (message.D n)) m is = absurd cc
access_of (Access (message.E n)) m is = absurd cc
access_of (Load address size) m is = absurd cc
access_of (Store address size value) m is = absurd cc
access_of (Acquire block grow) m is = absurd cc
access_of (AcquireWhole block bytes) m is = absurd cc
access_of (Release block prune) m is = absurd cc

pub asked-started : {w : ℕ} (p : Plain w) (e : Endpoint w) (op : Op w) (m : MessageA w) → KnowsPlain p e
    → None ≡ busy_alone (plain_terms p) op → Some m ≡ access_in op
    → asked (plain_terms p) op e ≡ begun (least_free (λ s. is_some (open_at p.requests s)) 0 p.config.sources) m e
asked-started p e op m k alone is =
    let own : op ≡ Access (message.A m) = access_of op m is in
    let passes : busy_alone (plain_terms p) op ≡ None = sym alone in
    rw (own, free_found (open_at p.requests) e.past 0 p.config.sources k.requests_are)
    (asked-access (plain_terms p) m e (rw own at passes))

allowed : (b c : Bool) → None ≡ first_if (not b) B4 (first_if c B5 None) → b ≡ true
allowed true c is = refl
allowed false c is = absurd cc

-- what is asked for is no Acquire
pub asks_access : {w : ℕ} (terms : EndConfig) (op : Op w) (m : MessageA w) → None ≡ busy_alone terms op
    → Some m ≡ access_in op → is_acquire m.opcode ≡ false
asks_access terms op m alone is =
    let own : op ≡ Access (message.A m) = access_of op m is in
    (no_acquire terms.level m.opcode (allowed (is_access_of terms.level m.opcode) _ (rw own at alone))).0

-- what was answered
pub begun-answer : {w : ℕ} (free : Option ℕ) (m : MessageA w) (e : Endpoint w)
    → ((begun free m e).reply ≡ (start_with free m).0) × ((begun free m e).message ≡ (start_with free m).1)
begun-answer None m e = (refl, refl)
begun-answer (Some s) m e = (refl, refl)

same_known : {w : ℕ} (p q : Plain w) (e : Endpoint w) → KnowsPlain p e → q.closed ≡ p.closed → q.responses ≡ p.responses
    → ((s : ℕ) → open_at q.requests s ≡ open_at p.requests s) → KnowsPlain q e
same_known p q e k closed responses requests = record {
  closed_is = closed ∙ k.closed_is;
  requests_are = λ s. requests s ∙ k.requests_are s;
  response_is = responses ∙ k.response_is;
  sent_whole = k.sent_whole;
  answers_open = k.answers_open;
  requests_alone = k.requests_alone;
  holds_nothing = k.holds_nothing;
  has_no_copy = k.has_no_copy;
}

pub knows-begun : {w : ℕ} (p q : Plain w) (e : Endpoint w) (free : Option ℕ) (m : MessageA w) → IsWidth w
    → is_acquire m.opcode ≡ false → KnowsPlain p e → q.closed ≡ p.closed → q.responses ≡ p.responses
    → ((s : ℕ) → open_at q.requests s ≡ opened_by s (start_with free m).1 (open_at p.requests s))
    → KnowsPlain q (begun free m e).after
knows-begun p q e None m is plain k closed responses requests = same_known p q e k closed responses requests
knows-begun p q e (Some s) m is plain k closed responses requests = knows-started p q e (sourced s m) is plain k closed
    responses requests
