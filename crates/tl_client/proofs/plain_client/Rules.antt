-- A plain client judges by what it keeps as its end of the link is judged.
use Rattle.tl_client.proofs.Imports.{Beat, BeatA, BeatD, Channel, OpD, first_if, History, unfinished, breaks_burst}
use Rattle.tl_client.proofs.Imports.{Level, RequestSource, Profile, Rule, L1, S1, H2, H3, broken_order, broken_in_order}
use Rattle.tl_client.proofs.Imports.{admits, is_grant, is_release_ack, pending, request_of, illegal, has_transfers}
use Rattle.tl_client.proofs.Imports.{breaks_l1, next_rule, Request, fields_of, open_request, response_rule, EndConfig}
use Rattle.tl_client.proofs.Imports.{Endpoint, offered, judged_later, is_sent_on}
use Rattle.std.proofs.Common.{◌≡◌, ℕ, Bool, true, false, not, cond, ◌&&◌, List, [], Option, Some, None, refl, inl, inr}
use Rattle.std.specs.Prelude.{◌==◌}
use Rattle.std.proofs.lemmas.Bool.{not-false, cases_Bool, not_from_false}
use Rattle.tl_beat.specs.declared.beat.Beat.TheVariants.{A, B, C, D, E}
use Rattle.tl_beat.specs.declared.channel.Channel.TheVariants as channel
use Rattle.tl_beat.specs.declared.opcode.OpD.TheVariants as d
use Rattle.tl_burst.specs.statement.Part.{is_empty}
use Rattle.tl_params.specs.declared.level.Level.TheVariants as level
use Rattle.tl_rules.specs.statement.Conformance.{broken_d, size_of_request}
use Rattle.tl_rules.specs.statement.Legality.{d_of_level}
use Rattle.tl_client.specs.code.Plain.{plain_rule}

-- ---- what a legal response is

abbrev pub IsAccessAnswer : OpD → Type 0
IsAccessAnswer opcode = (is_grant opcode ≡ false) × (is_release_ack opcode ≡ false)

access_answer : (l : Level) (opcode : OpD) → has_transfers l ≡ false → d_of_level l opcode ≡ true
    → IsAccessAnswer opcode
access_answer level.C opcode low e = absurd cc
access_answer l d.AccessAck low e = (refl, refl)
access_answer l d.AccessAckData low e = (refl, refl)
access_answer l d.HintAck low e = (refl, refl)
access_answer level.UL d.Grant low e = absurd cc
access_answer level.UL d.GrantData low e = absurd cc
access_answer level.UL d.ReleaseAck low e = absurd cc
access_answer level.UH d.Grant low e = absurd cc
access_answer level.UH d.GrantData low e = absurd cc
access_answer level.UH d.ReleaseAck low e = absurd cc

-- below level C it answers an access
pub legal_answer : {w : ℕ} (l : Level) (x : BeatD w) → has_transfers l ≡ false → illegal l channel.D (D x) ≡ None
    → IsAccessAnswer x.opcode
unfolding illegal
legal_answer l x low e =
    let one = next_rule (breaks_l1 l channel.D (D x)) L1 _ e in
    access_answer l x.opcode low (not-false (d_of_level l x.opcode) one.0)

-- ---- the order of messages

response_agrees : {w : ℕ} (p : Profile) (x : BeatD w) (t : History w) → IsAccessAnswer x.opcode
    → unfinished channel.A t ≡ [] → broken_d p x t ≡ response_rule x (open_request x.source t)
response_agrees {w} p x t answer sent =
    rw (answer.0, answer.1, sent) (go (pending (RequestSource x.source) t) (request_of x.source t))
  where
    go : (b : Bool) (o : Option (BeatA w)) → first_if (not (b && (true && admits x.opcode o))) H2
        (first_if (not (x.size == size_of_request o)) H3 None) ≡ response_rule x (fields_of (cond b o None))
    go false o = refl
    go true None = refl
    go true (Some r) = refl

pub order_agrees : {w : ℕ} (p : Profile) (x : BeatD w) (t : History w) (request : Option Request)
    (burst : List (Beat w)) → IsAccessAnswer x.opcode → unfinished channel.A t ≡ []
    → request ≡ open_request x.source t → burst ≡ unfinished channel.D t
    → broken_in_order p (D x) t ≡ cond (is_empty burst) (response_rule x request)
    (first_if (breaks_burst (D x) burst) S1 None)
unfolding broken_order
order_agrees p x t request burst answer sent asked_is burst_is =
    rw (asked_is, burst_is, response_agrees p x t answer sent) refl

-- ---- the whole order

-- a client that keeps these open requests and this burst judges as its end of the link is judged
abbrev pub Judges : {w : ℕ} → EndConfig → Channel → Beat w → Endpoint w → (ℕ → Option Request) → List (Beat w) → Type 0
Judges terms ch x e asked burst = offered terms ch x e ≡ judged_later (plain_rule terms.level asked burst e.closed ch x)
    x e

response_judged : {w : ℕ} (terms : EndConfig) (x : BeatD w) (e : Endpoint w) (asked : ℕ → Option Request)
    (burst : List (Beat w)) → e.closed ≡ false → has_transfers terms.level ≡ false
    → unfinished channel.A e.past ≡ []
    → asked x.source ≡ open_request x.source e.past → burst ≡ unfinished channel.D e.past
    → Judges terms channel.D (D x) e asked burst
unfolding offered
response_judged {w} terms x e asked burst live low sent asked_is burst_is =
    go (illegal terms.level channel.D (D x)) refl
  where
    go : (o : Option Rule) → illegal terms.level channel.D (D x) ≡ o → Judges terms channel.D (D x) e asked burst
    go (Some r) is = rw (live, is) refl
    go None is = rw (
      live,
      is,
      order_agrees terms.profile x e.past (asked x.source) burst
          (legal_answer terms.level x low is) sent asked_is burst_is,
    ) refl

-- a beat that doesn't come to a plain client
wrong_way : {w : ℕ} (terms : EndConfig) (ch : Channel) (x : Beat w) (e : Endpoint w) (asked : ℕ → Option Request)
    (burst : List (Beat w)) → e.closed ≡ false → is_sent_on ch ≡ true
    → plain_rule terms.level asked burst false ch x ≡ Some L1 → Judges terms ch x e asked burst
unfolding offered
wrong_way terms ch x e asked burst live sends rule = rw (live, sends, rule) refl

wrong_beat : {w : ℕ} (terms : EndConfig) (ch : Channel) (x : Beat w) (e : Endpoint w) (asked : ℕ → Option Request)
    (burst : List (Beat w)) → e.closed ≡ false → is_sent_on ch ≡ false
    → breaks_l1 terms.level ch x ≡ true → plain_rule terms.level asked burst false ch x ≡ Some L1
    → Judges terms ch x e asked burst
unfolding offered illegal
wrong_beat terms ch x e asked burst live comes broken rule = rw (live, comes, broken, rule) refl

live_judged : {w : ℕ} (terms : EndConfig) (ch : Channel) (x : Beat w) (e : Endpoint w) (asked : ℕ → Option Request)
    (burst : List (Beat w)) → e.closed ≡ false → has_transfers terms.level ≡ false
    → unfinished channel.A e.past ≡ []
    → ((s : ℕ) → asked s ≡ open_request s e.past) → burst ≡ unfinished channel.D e.past
    → Judges terms ch x e asked burst
live_judged terms channel.A x e asked burst live low sent asked_is burst_is =
    wrong_way terms channel.A x e asked burst live refl refl
live_judged terms channel.C x e asked burst live low sent asked_is burst_is =
    wrong_way terms channel.C x e asked burst live refl refl
live_judged terms channel.E x e asked burst live low sent asked_is burst_is =
    wrong_way terms channel.E x e asked burst live refl refl
live_judged terms channel.B (A x) e asked burst live low sent asked_is burst_is =
    wrong_beat terms channel.B (A x) e asked burst live refl refl refl
live_judged terms channel.B (B x) e asked burst live low sent asked_is burst_is =
    wrong_beat terms channel.B (B x) e asked burst live refl (not_from_false (has_transfers terms.level) low) refl
live_judged terms channel.B (C x) e asked burst live low sent asked_is burst_is =
    wrong_beat terms channel.B (C x) e asked burst live refl refl refl
live_judged terms channel.B (D x) e asked burst live low sent asked_is burst_is =
    wrong_beat terms channel.B (D x) e asked burst live refl refl refl
live_judged terms channel.B (E x) e asked burst live low sent asked_is burst_is =
    wrong_beat terms channel.B (E x) e asked burst live refl refl refl
live_judged terms channel.D (A x) e asked burst live low sent asked_is burst_is =
    wrong_beat terms channel.D (A x) e asked burst live refl refl refl
live_judged terms channel.D (B x) e asked burst live low sent asked_is burst_is =
    wrong_beat terms channel.D (B x) e asked burst live refl refl refl
live_judged terms channel.D (C x) e asked burst live low sent asked_is burst_is =
    wrong_beat terms channel.D (C x) e asked burst live refl refl refl
live_judged terms channel.D (D x) e asked burst live low sent asked_is burst_is =
    response_judged terms x e asked burst live low sent (asked_is x.source) burst_is
live_judged terms channel.D (E x) e asked burst live low sent asked_is burst_is =
    wrong_beat terms channel.D (E x) e asked burst live refl refl refl

shut_judged : {w : ℕ} (terms : EndConfig) (ch : Channel) (x : Beat w) (e : Endpoint w) (asked : ℕ → Option Request)
    (burst : List (Beat w)) → e.closed ≡ true → Judges terms ch x e asked burst
unfolding offered
shut_judged terms ch x e asked burst closed = rw closed refl

pub judged : {w : ℕ} (terms : EndConfig) (ch : Channel) (x : Beat w) (e : Endpoint w) (asked : ℕ → Option Request)
    (burst : List (Beat w)) → has_transfers terms.level ≡ false → unfinished channel.A e.past ≡ []
    → ((s : ℕ) → asked s ≡ open_request s e.past) → burst ≡ unfinished channel.D e.past
    → Judges terms ch x e asked burst
judged terms ch x e asked burst low sent asked_is burst_is = elim (cases_Bool e.closed) [
  | inl shut ↦ shut_judged terms ch x e asked burst shut
  | inr live ↦ live_judged terms ch x e asked burst live low sent asked_is burst_is
]
