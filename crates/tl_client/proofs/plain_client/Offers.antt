-- What a plain client answers to a beat that it takes, and what it knows afterwards.
use Rattle.tl_client.proofs.Imports.{Beat, BeatA, BeatB, BeatD, Channel, OpD, first_if, History, unfinished, grown}
use Rattle.tl_client.proofs.Imports.{same_control, breaks_burst, completes, Level, Key, RequestSource, ReleaseSource}
use Rattle.tl_client.proofs.Imports.{AcquireOf, ReleaseOf, GrantSink, GrantAckOf, ProbeOf, Rule, L1, S1, A3, ok_unless}
use Rattle.tl_client.proofs.Imports.{payload_of, ends, opens, pending, request_of, illegal, has_transfers, next_rule}
use Rattle.tl_client.proofs.Imports.{Message, is_grant, Verdict, both_none, Plain, Request, Finish, Done, Taken, EndConfig, Endpoint, with_past}
use Rattle.tl_client.proofs.Imports.{KnowsPlain, offered, judged_later, refused, silent, taken, ended, granted}
use Rattle.tl_client.proofs.Imports.{responded, stalls, is_sent_on, response_rule, open_at, fields_of, open_beat}
use Rattle.tl_client.proofs.Imports.{open_request, held_unsaid, pending-closed}
use Rattle.std.proofs.Common.{◌≡◌, ℕ, Bool, true, false, cond, ◌&&◌, List, [], ◌∷◌, Option, Some, None, Ok, Err, refl}
use Rattle.std.proofs.Common.{sym, ◌∙◌, ap}
use Rattle.std.specs.Bool.{OnTrue}
use Rattle.std.specs.Prelude.{◌==◌, is_none}
use Rattle.std.proofs.lemmas.Bool.{and_parts, and_left, and_right, eqb-true, not-false}
use Rattle.tl_beat.specs.declared.beat.Beat.TheVariants.{A, B, C, D, E}
use Rattle.tl_beat.specs.declared.channel.Channel.TheVariants as channel
use Rattle.tl_beat.specs.declared.opcode.OpD.TheVariants as d
use Rattle.tl_beat.specs.statement.Opcode.{d_code}
use Rattle.tl_burst.specs.statement.Part.{is_middle, part_of}
use Rattle.tl_burst.proofs.Begun.{GoesOn, middle-goes_on}
use Rattle.tl_rules.specs.statement.Admission.{is_spoiled}
use Rattle.tl_params.proofs.Refusals.{some_broken, none_broken}
use Rattle.tl_rules.specs.statement.History.{closes, says_held}
use Rattle.tl_client.specs.code.KnowsPlain.{plain_terms, answers_pending}
use Rattle.tl_client.specs.statement.Offer.{finish_of, address_asked}
use Rattle.tl_client.specs.code.Plain.{order_rule, plain_rule, address_in, plain_verdict, ends_request}
use Rattle.tl_client.proofs.plain_client.Rules.{IsAccessAnswer, legal_answer, judged}
use Rattle.tl_client.proofs.pending.Opens.{open_beat-d, unfinished-d}

-- ---- what is taken is a response

pub record IsGoodResponse {w : ℕ} (l : Level) (x : BeatD w) (request : Option Request) (burst : List (Beat w)) : Type 0
  where
    pub is_legal : illegal l channel.D (D x) ≡ None
    pub in_order : order_rule x request burst ≡ None

good_response : {w : ℕ} (l : Level) (asked : ℕ → Option Request) (burst : List (Beat w)) (closed : Bool) (ch : Channel)
    (x : Beat w) → plain_rule l asked burst closed ch x ≡ None
    → (y : BeatD w) × (x ≡ D y) × IsGoodResponse l y (asked y.source) burst
good_response l asked burst true ch x e = absurd cc
good_response l asked burst false channel.A x e = absurd cc
good_response l asked burst false channel.B x e = absurd cc
good_response l asked burst false channel.C x e = absurd cc
good_response l asked burst false channel.E x e = absurd cc
good_response l asked burst false channel.D (A x) e = absurd cc
good_response l asked burst false channel.D (B x) e = absurd cc
good_response l asked burst false channel.D (C x) e = absurd cc
good_response l asked burst false channel.D (E x) e = absurd cc
good_response l asked burst false channel.D (D x) e =
    let parts = both_none (illegal l channel.D (D x)) (order_rule x (asked x.source) burst) e in
    (x, refl, record { is_legal = parts.0; in_order = parts.1 })

-- ---- its request is pending

has_some : {w : ℕ} (x : BeatD w) (b : Bool) (o : Option (BeatA w)) → response_rule x (fields_of (cond b o None)) ≡ None
    → b ≡ true
has_some x true o e = refl
has_some x false o e = absurd cc

same_source : {w : ℕ} (x z : BeatD w) → same_control (D x) (D z) ≡ true → x.source ≡ z.source
same_source x z e =
    let one = and_parts (d_code x.opcode == d_code z.opcode) _ e in
    let two = and_parts (x.param == z.param) _ one.1 in
    let three = and_parts (x.size == z.size) _ two.1 in
    let four = and_parts (x.source == z.source) _ three.1 in
    eqb-true x.source z.source four.0

pending_here : {w : ℕ} (x : BeatD w) (burst : List (Beat w)) (t : History w) → answers_pending burst t ≡ true
    → order_rule x (open_request x.source t) burst ≡ None
    → pending (RequestSource x.source) t ≡ true
pending_here x [] t answer e =
    let first = both_none (response_rule x (open_request x.source t)) _ e in
    has_some x (pending (RequestSource x.source) t) (request_of x.source t) first.0
pending_here x (A z ∷ burst) t answer e = absurd cc
pending_here x (B z ∷ burst) t answer e = absurd cc
pending_here x (C z ∷ burst) t answer e = absurd cc
pending_here x (E z ∷ burst) t answer e = absurd cc
pending_here x (D z ∷ burst) t answer e =
    let first = both_none (first_if (breaks_burst (D x) (D z ∷ burst)) S1 None) _ e in
    let continues = next_rule (breaks_burst (D x) (D z ∷ burst)) S1 None first.0 in
    let source : x.source ≡ z.source = same_source x z (not-false (same_control (D x) (D z)) continues.0) in
    rw source answer

-- ---- the answer

access_ended : {w : ℕ} (opcode : OpD) (x : BeatD w) (f : Finish) (r : Option (BeatA w)) (payload : List ℕ)
    (e : Endpoint w) → IsAccessAnswer opcode
    → ended opcode x f (granted opcode r payload e) ≡ silent (Done x.source f) e
access_ended d.AccessAck x f r payload e answer = refl
access_ended d.AccessAckData x f r payload e answer = refl
access_ended d.HintAck x f r payload e answer = refl
access_ended d.Grant x f r payload e answer = absurd (let no : true ≡ false = answer.0 in cc)
access_ended d.GrantData x f r payload e answer = absurd (let no : true ≡ false = answer.0 in cc)
access_ended d.ReleaseAck x f r payload e answer = absurd (let no : true ≡ false = answer.1 in cc)

address_of_open : {w : ℕ} (s : ℕ) (t : History w) → pending (RequestSource s) t ≡ true
    → address_in (open_request s t) ≡ address_asked (request_of s t)
address_of_open {w} s t e = rw e (go (request_of s t))
  where
    go : (o : Option (BeatA w)) → address_in (fields_of o) ≡ address_asked o
    go None = refl
    go (Some r) = refl

response_taken : {w : ℕ} (x : BeatD w) (e : Endpoint w) (asked : ℕ → Option Request) (burst : List (Beat w))
    → IsAccessAnswer x.opcode → pending (RequestSource x.source) e.past ≡ true
    → asked x.source ≡ open_request x.source e.past → burst ≡ unfinished channel.D e.past
    → taken (D x) e ≡ silent (plain_verdict asked burst (D x)) (with_past (D x ∷ e.past) e)
response_taken {w} x e asked burst answer live asked_is burst_is =
    rw (asked_is, burst_is) (go (completes (D x) (unfinished channel.D e.past)))
  where
    payload : List ℕ
    payload = payload_of (D x ∷ unfinished channel.D e.past)

    go : (b : Bool) → cond b (responded x (request_of x.source e.past) payload e)
        (silent Taken (with_past (D x ∷ e.past) e))
        ≡ silent (cond b (Done x.source (finish_of w x.opcode x.param x.size (address_in (open_request x.source e.past))
        payload)) Taken) (with_past (D x ∷ e.past) e)
    go true = rw (address_of_open x.source e.past live) (access_ended x.opcode x _ (request_of x.source e.past) payload
        (with_past (D x ∷ e.past) e) answer)
    go false = refl

-- ---- what is known afterwards

pending-response : {w : ℕ} (s : ℕ) (x : BeatD w) (t : History w) → IsAccessAnswer x.opcode
    → pending (RequestSource s) (D x ∷ t) ≡ cond (ends (D x) t && (x.source == s)) false (pending (RequestSource s) t)
pending-response s x t answer = pending-closed (RequestSource s) (D x) t refl ∙ rw answer.1 refl

open-response : {w : ℕ} (s : ℕ) (x : BeatD w) (t : History w) → IsAccessAnswer x.opcode
    → open_request s (D x ∷ t) ≡ cond (ends_request (unfinished channel.D t) (D x) s) None (open_request s t)
open-response {w} s x t answer =
    rw (open_beat-d s x t, answer.1) (go (ends_request (unfinished channel.D t) (D x) s) (open_beat s t))
  where
    go : (b : Bool) (o : Option (BeatA w)) → fields_of (cond b None o) ≡ cond b None (fields_of o)
    go true o = refl
    go false o = refl

answers-response : {w : ℕ} (x : BeatD w) (t : History w) → IsAccessAnswer x.opcode
    → pending (RequestSource x.source) t ≡ true → answers_pending (grown (D x) (unfinished channel.D t))
    (D x ∷ t) ≡ true
answers-response {w} x t answer live = go (completes (D x) (unfinished channel.D t)) refl
  where
    go : (b : Bool) → completes (D x) (unfinished channel.D t) ≡ b
        → answers_pending (cond b [] (D x ∷ unfinished channel.D t)) (D x ∷ t) ≡ true
    go true is = refl
    go false is = rw (pending-response x.source x t answer, is) live

-- it opens nothing
opens_none : {w : ℕ} (key : Key) (x : BeatD w) (t : History w) → IsAccessAnswer x.opcode → opens key (D x) t ≡ false
opens_none (RequestSource s) x t answer = refl
opens_none (ReleaseSource s) x t answer = refl
opens_none (AcquireOf k) x t answer = refl
opens_none (ReleaseOf k) x t answer = refl
opens_none (GrantSink s) x t answer = rw answer.0 refl
opens_none (GrantAckOf k) x t answer = rw answer.0 refl
opens_none (ProbeOf k) x t answer = refl

alone-response : {w : ℕ} (key : Key) (x : BeatD w) (t : History w) → IsAccessAnswer x.opcode → pending key t ≡ false
    → pending key (D x ∷ t) ≡ false
alone-response {w} key x t answer e = pending-closed key (D x) t (opens_none key x t answer) ∙ rw e
    (go (ends (D x) t && closes key (D x) t))
  where
    go : (b : Bool) → cond b false false ≡ false
    go true = refl
    go false = refl

grants_nothing : {w : ℕ} (k : ℕ) (x : BeatD w) (t : History w) → IsAccessAnswer x.opcode → says_held k (D x) t ≡ None
grants_nothing k x t answer = rw answer.0 refl

response_known : {w : ℕ} (p q : Plain w) (e : Endpoint w) (x : BeatD w) → KnowsPlain p e → IsAccessAnswer x.opcode
    → pending (RequestSource x.source) e.past ≡ true → q.closed ≡ p.closed
    → q.responses ≡ grown (D x) p.responses
    → ((s : ℕ) → open_at q.requests s ≡ cond (ends_request p.responses (D x) s) None (open_at p.requests s))
    → KnowsPlain q (with_past (D x ∷ e.past) e)
response_known p q e x k answer live closed responses requests = record {
  closed_is = closed ∙ k.closed_is;
  requests_are = λ s. requests s ∙ rw (k.requests_are s, k.response_is) (sym (open-response s x e.past answer));
  response_is = responses ∙ rw k.response_is (sym (unfinished-d x e.past).4);
  sent_whole = (unfinished-d x e.past).0 ∙ k.sent_whole;
  answers_open = rw (unfinished-d x e.past).4 (answers-response x e.past answer live);
  requests_alone = λ key other. alone-response key x e.past answer (k.requests_alone key other);
  holds_nothing = λ b. held_unsaid b (D x) e.past (grants_nothing b x e.past answer) ∙ k.holds_nothing b;
  has_no_copy = k.has_no_copy;
}

-- ---- for any beat

-- the rule that a plain client finds
abbrev pub rule_at : {w : ℕ} → Plain w → Channel → Beat w → Option Rule
rule_at p ch x = plain_rule p.config.level (open_at p.requests) p.responses p.closed ch x

offered-plain : {w : ℕ} (p : Plain w) (e : Endpoint w) (ch : Channel) (x : Beat w) → KnowsPlain p e
    → offered (plain_terms p) ch x e ≡ judged_later (rule_at p ch x) x e
offered-plain p e ch x k =
    rw k.closed_is (judged (plain_terms p) ch x e (open_at p.requests) p.responses p.accesses k.sent_whole
    k.requests_are
    k.response_is)

-- a beat that breaks a rule
pub offered-refused : {w : ℕ} (p : Plain w) (e : Endpoint w) (ch : Channel) (x : Beat w) (r : Rule) → KnowsPlain p e
    → Err r ≡ ok_unless (rule_at p ch x) → offered (plain_terms p) ch x e ≡ refused r e
offered-refused p e ch x r k broken = offered-plain p e ch x k ∙ rw (some_broken (rule_at p ch x) r broken) refl

pub knows-refused : {w : ℕ} (p q : Plain w) (e : Endpoint w) (ch : Channel) (x : Beat w) (r : Rule) → KnowsPlain p e
    → Err r ≡ ok_unless (rule_at p ch x) → q.closed ≡ true
    → q.requests ≡ p.requests → q.responses ≡ p.responses
    → KnowsPlain q (offered (plain_terms p) ch x e).after
knows-refused p q e ch x r k broken closed requests responses = rw (offered-refused p e ch x r k broken) (record {
  closed_is = closed;
  requests_are = λ s. rw requests (k.requests_are s);
  response_is = responses ∙ k.response_is;
  sent_whole = k.sent_whole;
  answers_open = k.answers_open;
  requests_alone = k.requests_alone;
  holds_nothing = k.holds_nothing;
  has_no_copy = k.has_no_copy;
})

-- a beat that breaks none
good_source : {w : ℕ} (p : Plain w) (e : Endpoint w) (x : BeatD w) → KnowsPlain p e
    → IsGoodResponse p.config.level x (open_at p.requests x.source) p.responses
    → pending (RequestSource x.source) e.past ≡ true
good_source p e x k good = pending_here x (unfinished channel.D e.past) e.past k.answers_open
    (rw (k.requests_are x.source, k.response_is) at good.in_order)

good_answer : {w : ℕ} (p : Plain w) (x : BeatD w) → IsGoodResponse p.config.level x (open_at p.requests x.source)
    p.responses → IsAccessAnswer x.opcode
good_answer p x good = legal_answer p.config.level x p.accesses good.is_legal

offered-taken : {w : ℕ} (p : Plain w) (e : Endpoint w) (ch : Channel) (x : Beat w) → KnowsPlain p e
    → Ok tt ≡ ok_unless (rule_at p ch x)
    → offered (plain_terms p) ch x e ≡ silent (plain_verdict (open_at p.requests) p.responses x)
    (with_past (x ∷ e.past) e)
offered-taken {w} p e ch x k none =
    offered-plain p e ch x k ∙ rw (none_broken (rule_at p ch x) none)
    (go (good_response p.config.level (open_at p.requests) p.responses p.closed ch x
    (none_broken (rule_at p ch x) none)))
  where
    go : (y : BeatD w) × (x ≡ D y) × IsGoodResponse p.config.level y (open_at p.requests y.source) p.responses
        → taken x e ≡ silent (plain_verdict (open_at p.requests) p.responses x) (with_past (x ∷ e.past) e)
    go (y, is, good) = rw is (response_taken y e (open_at p.requests) p.responses (good_answer p y good)
        (good_source p e y k good) (k.requests_are y.source) k.response_is)

pub answered-taken : {w : ℕ} (p : Plain w) (e : Endpoint w) (ch : Channel) (x : Beat w) (v : Verdict)
    (m : Option (Message w)) → KnowsPlain p e → Ok tt ≡ ok_unless (rule_at p ch x)
    → v ≡ plain_verdict (open_at p.requests) p.responses x
    → ((y : BeatD w) → x ≡ D y → is_grant y.opcode ≡ false → None ≡ m)
    → Ok (v, m) ≡ (offered (plain_terms p) ch x e).answer
answered-taken p e ch x v m k none says hands =
    let good = good_response p.config.level (open_at p.requests) p.responses p.closed ch x
    (none_broken (rule_at p ch x) none) in
    let nothing : None ≡ m = hands good.0 good.1 (good_answer p good.0 good.2).0 in
    rw (offered-taken p e ch x k none, says, ← nothing) refl

pub knows-taken : {w : ℕ} (p q : Plain w) (e : Endpoint w) (ch : Channel) (x : Beat w) → KnowsPlain p e
    → Ok tt ≡ ok_unless (rule_at p ch x) → q.closed ≡ p.closed → q.responses ≡ grown x p.responses
    → ((s : ℕ) → open_at q.requests s ≡ cond (ends_request p.responses x s) None (open_at p.requests s))
    → KnowsPlain q (offered (plain_terms p) ch x e).after
knows-taken {w} p q e ch x k none closed responses requests =
    rw (offered-taken p e ch x k none)
    (go (good_response p.config.level (open_at p.requests) p.responses p.closed ch x
    (none_broken (rule_at p ch x) none)))
  where
    go : (y : BeatD w) × (x ≡ D y) × IsGoodResponse p.config.level y (open_at p.requests y.source) p.responses
        → KnowsPlain q (with_past (x ∷ e.past) e)
    go (y, is, good) = rw is (response_known p q e y k (good_answer p y good) (good_source p e y k good) closed
        (rw is at responses) (λ s. rw is at requests s))

-- ---- a beat that goes on with a response, and doesn't complete it

rule-middle : {w : ℕ} (p : Plain w) (x : BeatD w) → p.closed ≡ false → illegal p.config.level channel.D (D x) ≡ None
    → is_spoiled (D x) ≡ false → GoesOn (D x) p.responses → Ok tt ≡ ok_unless (rule_at p channel.D (D x))
rule-middle p x live lawful clean goes = rw (live, lawful, goes.begun_before, goes.continues, clean) refl

answers-middle : {w : ℕ} (p : Plain w) (x : BeatD w) (e : Endpoint w) → KnowsPlain p e → p.closed ≡ false
    → illegal p.config.level channel.D (D x) ≡ None → is_spoiled (D x) ≡ false → GoesOn (D x) p.responses
    → Ok (Taken, None) ≡ (offered (plain_terms p) channel.D (D x) e).answer
answers-middle p x e k live lawful clean goes =
    rw (offered-taken p e channel.D (D x) k (rule-middle p x live lawful clean goes)) (rw (goes.leaves_more) refl)

knows-middle : {w : ℕ} (p q : Plain w) (x : BeatD w) (e : Endpoint w) → KnowsPlain p e → p.closed ≡ false
    → illegal p.config.level channel.D (D x) ≡ None → is_spoiled (D x) ≡ false → GoesOn (D x) p.responses
    → q.responses ≡ D x ∷ p.responses → q.closed ≡ p.closed → q.requests ≡ p.requests
    → KnowsPlain q (offered (plain_terms p) channel.D (D x) e).after
knows-middle p q x e k live lawful clean goes grows closed requests =
    knows-taken p q e channel.D (D x) k (rule-middle p x live lawful clean goes) closed
    (grows ∙ rw (goes.leaves_more) refl)
    (λ s. ap (λ r. open_at r s) requests ∙ rw (goes.leaves_more) refl)

pub answer-middle : {w : ℕ} (p : Plain w) (ch : Channel) (x : Beat w) (y : BeatD w) (b : Bool) → ch ≡ channel.D
    → x ≡ D y → OnTrue b (p.closed ≡ false) → OnTrue b (illegal p.config.level channel.D x ≡ None)
    → OnTrue b (is_spoiled x ≡ false) → OnTrue b (is_middle (part_of x p.responses) ≡ true)
    → OnTrue b ((e : Endpoint w) → KnowsPlain p e → Ok (Taken, None) ≡ (offered (plain_terms p) ch x e).answer)
answer-middle p ch x y true on_d is live lawful clean middle = λ e k.
    rw (on_d, is) (answers-middle p y e k live (rw is at lawful) (rw is at clean)
    (middle-goes_on (D y) p.responses (rw is at middle)))
answer-middle p ch x y false on_d is live lawful clean middle = tt

pub after-middle : {w : ℕ} (p q : Plain w) (ch : Channel) (x : Beat w) (y : BeatD w) (b : Bool) → ch ≡ channel.D
    → x ≡ D y → OnTrue b (p.closed ≡ false) → OnTrue b (illegal p.config.level channel.D x ≡ None)
    → OnTrue b (is_spoiled x ≡ false) → OnTrue b (is_middle (part_of x p.responses) ≡ true)
    → OnTrue b (q.responses ≡ x ∷ p.responses) → q.closed ≡ p.closed → q.requests ≡ p.requests
    → OnTrue b ((e : Endpoint w) → KnowsPlain p e → KnowsPlain q (offered (plain_terms p) ch x e).after)
after-middle p q ch x y true on_d is live lawful clean middle grows closed requests = λ e k.
    rw (on_d, is) (knows-middle p q y e k live (rw is at lawful) (rw is at clean)
    (middle-goes_on (D y) p.responses (rw is at middle)) (rw is at grows) closed requests)
after-middle p q ch x y false on_d is live lawful clean middle grows closed requests = tt

-- ---- stalls

waits_for_nothing : {w : ℕ} (l : Level) (ch : Channel) (x : BeatB w) (closed : Bool) → has_transfers l ≡ false
    → is_none (first_if closed A3 (first_if (is_sent_on ch) L1 (illegal l ch (B x)))) ≡ false
unfolding illegal
waits_for_nothing l ch x true low = refl
waits_for_nothing l channel.A x false low = refl
waits_for_nothing l channel.B x false low = rw low refl
waits_for_nothing l channel.C x false low = refl
waits_for_nothing l channel.D x false low = refl
waits_for_nothing l channel.E x false low = refl

-- no beat waits
pub stalls-plain : {w : ℕ} (terms : EndConfig) (ch : Channel) (x : Beat w) (e : Endpoint w)
    → has_transfers terms.level ≡ false → stalls terms ch x e ≡ false
unfolding stalls
stalls-plain terms ch (A x) e low = and_right _ false refl
stalls-plain terms ch (B x) e low = and_left _ _ (waits_for_nothing terms.level ch x e.closed low)
stalls-plain terms ch (C x) e low = and_right _ false refl
stalls-plain terms ch (D x) e low = and_right _ false refl
stalls-plain terms ch (E x) e low = and_right _ false refl
