-- A Probe that is delivered to a client waits for its Release, or is taken, and the client's end is then that of the
-- protocol.
-- Answers that are on their way answer their accesses: after every event.
use Rattle.std.proofs.Common.{◌≡◌, ℕ, ◌<◌, Bool, true, false, not, List, [], ◌∷◌, Some, None, refl}
use Rattle.std.proofs.Common.{sym, ◌∙◌, ap, subst, arith, inl, inr, ◌%◌, length, map}
use Rattle.tl_coherence.proofs
use proofs.Imports.{cases_eq, Beat, Channel, OpA, OpD, IsWidth, Message, MessageA, MessageD}
use proofs.Imports.{unfinished, completes, Config, ReleaseOf, Memory, answer_of, as_payload, bytes_from, effect}
use proofs.Imports.{block_at, is_acquire, pending, illegal, same_block, accounted-offered}
use proofs.Imports.{kept-offered, Op, Reply, Verdict, EndConfig, Endpoint, held_at, broken_before, silent, taken, waits}
use proofs.Imports.{offered, access, access_answer, no_payload, probe_of_block, is_access_answer}
use proofs.Imports.{Answer, Kind, Packet, Probe, set_at, is_unprobed, is_unreleased}
use proofs.Imports.{Acquires, Asked, GrantSent, InService, Replied, SourceFree, SourceState, State, Waits, is_on, on}
use proofs.Imports.{packet, is_sent, AbstractState, access_taken, asked, kind_taken, last_taken, packet_taken}
use proofs.Imports.{taken_by_client, comes_granting, AccessMessages, cap_sent, message_of, message_of_kind}
use proofs.Imports.{probe_beat, report_told, block_message, IsAnswer, IsAnswered, SimulationRelation, asked_by}
use proofs.Imports.{is_caching, IsFor, Log, System, terms_at}
use Rattle.tl_coherence.specs.refinement.AbstractStep as follow
use Rattle.tl_rules.{specs.statement.Conformance.answers, specs.statement.Effect.byte_count}
use Rattle.tl_rules.specs.statement.Effect as memory
use Rattle.tl_client.{proofs.endpoint.Cases.passes_before, specs.statement.Offer.probed}
use proofs.client.{AsideAll.set_at-else, AsideAll.set_at-other, ClientAsked.IsEndOf, ClientDelivered.shadow_of}
use proofs.client.HalfTaken.{coming-granting}
use proofs.Imports.{Granting, View, is_granting, view}
use proofs.client.KnownProbed.{end-probe_taken, probe-taken}
use proofs.client.ClientEnd.{terms-are, sound-beat, IsWellKept, end-matched}
use proofs.protocol.{Room.asked-first, BothParts.not-sent, BothParts.first-shown}
use proofs.protocol.HeadOfD.{true-taken}
use proofs.queues.{Tokens.set_at-same, Carried.IsNext, Facts.granting_alone, Phases.and_left}
use proofs.queues.FirstToken.{IsFirst, first-token}

-- ---- no Grant of a block that is probed has begun to come

pub not_coming : {w : ℕ} {config : Config} {log : Log w} {mail : AccessMessages w} {request : ℕ → MessageA w}
    {s : State (List ℕ)} {sys : System w} (c n : ℕ)
    → SimulationRelation config log mail request s sys → is_sent ((s.block n).pair c).probing ≡ true
    → comes_granting n (asked_by mail s c) (unfinished Channel.D (sys.clients c).past) ≡ false
not_coming {mail} {s} {sys} c n h sent =
    go (comes_granting n (asked_by mail s c) (unfinished Channel.D (sys.clients c).past)) (coming-granting c h n)
  where
    unsent : (v : View) → view (s.block n).service c ≡ v → is_granting v ≡ true → ⊥
    unsent (Granting d k) e f =
        let quiet = and_left (is_unprobed ((s.block n).pair c).probing) _
        (granting_alone d k _ _ ((h.invariant.blocks n).phases c) e) in
        let no : true ≡ false = sym quiet ∙ not-sent ((s.block n).pair c).probing sent in cc
    unsent v e f = cc

    go : (b : Bool) → (b ≡ true → is_granting (view (s.block n).service c) ≡ true) → b ≡ false
    go true grants = absurd (unsent (view (s.block n).service c) refl (grants refl))
    go false grants = refl

-- ---- the Probe

-- A Probe that comes waits where a Release of its block is open, and is taken otherwise.
pub record IsProbed {w : ℕ} (config : Config) (terms : EndConfig) (tracker c n : ℕ) (h : AbstractState w) (x : Beat w)
    (e : Endpoint w) : Type 0 where
  pub beat_is : x ≡ Beat.B (probe_beat n (cap_sent ((h.state.block n).pair c).probing))
  pub whole : completes x (unfinished Channel.B e.past) ≡ true
  pub waits_for : is_unreleased ((h.state.block n).pair c).letting ≡ false
      → offered terms Channel.B x e ≡ silent Verdict.Stalled e
  pub takes : is_unreleased ((h.state.block n).pair c).letting ≡ true → offered terms Channel.B x e ≡ taken x e
  pub last : is_unreleased ((h.state.block n).pair c).letting ≡ true
      → IsEndOf c (packet_taken config tracker c (h.state.link c).b h) (taken x e).after

stalls : {w : ℕ} (terms : EndConfig) (x : Beat w) (e : Endpoint w) → broken_before terms Channel.B x e ≡ None
    → waits x e.past ≡ true → offered terms Channel.B x e ≡ silent Verdict.Stalled e
unfolding offered
stalls {w} terms x e lawful held = grind arith

pub first_beat : (k n : ℕ) → k < n → n ≡ 1 → k ≡ 0
first_beat k n lt one = omega (arith, lt, one)

probe_rendered : {w : ℕ} (c n : ℕ) (s : State (List ℕ)) → block_message {w = w} Probe c n (s.block n) ≡ probe_of_block n
    (cap_sent ((s.block n).pair c).probing)
unfolding block_message
probe_rendered c n s = refl

-- the beat of a Probe that comes
pub probe-beat : {w : ℕ} (c n : ℕ) (s : State (List ℕ)) {x : Beat w} {rest : List (Beat w)} {ms : List (Message w)}
    {queue : List (Beat w)} → IsNext x rest (block_message Probe c n (s.block n)) ms queue
    → x ≡ Beat.B (probe_beat n (cap_sent ((s.block n).pair c).probing))
probe-beat {w} c n s {x} {rest} {ms} {queue} next = grind (arith, probe_rendered)

pub probe-delivered : {w : ℕ} {config : Config} {log : Log w} {mail : AccessMessages w} {request : ℕ → MessageA w}
    {s : State (List ℕ)} {sys : System w} (terms : EndConfig)
    (tracker c n : ℕ) (rest : List Packet) {ms : List (Message w)} {x : Beat w} {queue : List (Beat w)}
    → IsWidth w → SimulationRelation config log mail request s sys → terms_at config c ≡ Some terms
    → sys.channels c Channel.B ≡ x ∷ queue → (s.link c).b ≡ packet Probe n ∷ rest
    → IsNext x (unfinished Channel.B (sys.clients c).past) (block_message Probe c n (s.block n)) ms queue
    → IsProbed config terms tracker c n (shadow_of mail request s) x (sys.clients c)
probe-delivered {w} {config} {mail} {request} {s} {sys} terms tracker c n rest {x} {queue} width h at beats first next =
    let is = terms-are config c terms at in
    let k = cap_sent ((s.block n).pair c).probing in
    let beat_is = probe-beat c n s next in
    let lawful : illegal terms.level Channel.B (Beat.B (probe_beat {w = w} n k)) ≡ None =
    cc (is.level, beat_is, (sound-beat c Channel.B x queue h beats).lawful) in
    let e = sys.clients c in
    let end = end-matched h c in
    let whole = ap (completes x) end.well.kept.b_whole ∙ ap (λ y. completes y []) beat_is in
    let sent : is_sent ((s.block n).pair c).probing ≡ true = first-shown h.invariant c Probe refl first in
    let before : x ≡ Beat.B (probe_beat n k) → broken_before terms Channel.B x e ≡ None =
    λ f. cc (f, passes_before terms _ _ e (h.live c) refl lawful) in
    let pends : is_unreleased ((s.block n).pair c).letting ≡ false → waits (Beat.B (probe_beat n k)) e.past ≡ true =
    λ open_. ap (λ i. pending (ReleaseOf i) e.past) (same_block n) ∙ end.knows.0.releases n ∙ ap not open_ in
    let taken_is : is_unreleased ((s.block n).pair c).letting ≡ true → offered terms Channel.B (Beat.B (probe_beat n k))
    e ≡ probed (probe_beat n k) n (held_at e n) e = λ kept. cc (probe-taken terms n k e (h.live c) lawful
    (cc (is.blocks, same_block n, beat_is, (sound-beat c Channel.B x queue h beats).inside)) end.well.kept.b_whole
    (end.knows.0.releases n ∙ ap not kept) (end.knows.0.probes n) (end.knows.0.grants n ∙ not_coming c n h sent)) in
    let same_taken = ap (λ i. probed (probe_beat n k) i (held_at e i) e) (same_block n) in
    let takes : is_unreleased ((s.block n).pair c).letting ≡ true → offered terms Channel.B x e ≡ taken x e =
    λ kept. cc (beat_is, taken_is kept, same_taken) in
    let well : is_unreleased ((s.block n).pair c).letting ≡ true → IsWellKept (probed (probe_beat n k) n (held_at e n)
    e).after = λ kept. subst (λ o. IsWellKept o.after) (taken_is kept) (record {
      kept = kept-offered terms Channel.B (Beat.B (probe_beat n k)) e width end.well.kept;
      accounted = accounted-offered terms Channel.B (Beat.B (probe_beat n k)) e width end.well.kept end.well.accounted;
    }) in
    let last : is_unreleased ((s.block n).pair c).letting ≡ true → IsEndOf c
    (packet_taken config tracker c (s.link c).b (shadow_of mail request s)) (taken x e).after = λ kept. rw first
    (rw (ap (λ y. taken y e) beat_is ∙ same_taken) (end-probe_taken n k rest mail width (well kept) end)) in
    record {
      beat_is = beat_is;
      whole = whole;
      waits_for = λ open_. stalls terms x e (before beat_is) (cc (pends open_));
      takes = takes;
      last = last;
    }

-- ---- all of channel B

pub delivered-b : {w : ℕ} {config : Config} {log : Log w} {mail : AccessMessages w} {request : ℕ → MessageA w}
    {s : State (List ℕ)} {sys : System w} (terms : EndConfig) (tracker c : ℕ) (x : Beat w) (queue : List (Beat w))
    → IsWidth w → SimulationRelation config log mail request s sys → terms_at config c ≡ Some terms
    → sys.channels c Channel.B ≡ x ∷ queue → (n : ℕ) × IsProbed config terms tracker c n (shadow_of mail request s) x
    (sys.clients c)
delivered-b {w} {config} {log} {mail} {request} {s} {sys} terms tracker c x queue width h at beats =
    go first.kind first.number first.tokens first.own first.next
  where
    first : IsFirst Channel.B c mail s sys x queue
    first = first-token (is_caching config) Channel.B c mail s sys x queue width h.invariant h.carried beats

    go : (k : Kind) (i : ℕ) → (s.link c).b ≡ packet k i ∷ first.rest → is_on Channel.B k ≡ true
        → IsNext x (unfinished Channel.B (sys.clients c).past) (message_of_kind k mail s c i)
        (map (message_of mail s c) first.rest) queue
        → (n : ℕ) × IsProbed config terms tracker c n (shadow_of mail request s) x (sys.clients c)
    go Probe i tokens own next = (i, probe-delivered terms tracker c i _ width h at beats tokens next)
    go k i tokens own next = absurd cc

abbrev pub AreAnswered : {w : ℕ} → AccessMessages w → State (List ℕ) → Type 0
AreAnswered mail s = (c source : ℕ) → IsAnswered source (mail.request c source) (mail.answer c source) (s.uses c source)

-- ---- the answer to an access

-- the message is an answer to a request of this opcode, with the source and size of m
IsAnswerTo : {w : ℕ} → OpA → MessageA w → Message w → Type 0
IsAnswerTo {w} o m y = (x : MessageD w) × (y ≡ Message.D x) × (is_access_answer x.opcode ≡ true)
    × (answers x.opcode o ≡ true) × (x.source ≡ m.source) × (x.size ≡ m.size)

abbrev pub answer_message : {w : ℕ} → OpD → List ℕ → MessageA w → MessageD w
answer_message opcode payload m = record {
  opcode = opcode;
  param = 0;
  size = m.size;
  source = m.source;
  sink = 0;
  denied = false;
  payload = payload;
  corrupt = 0;
  small = m.small;
}

answer_kind : {w : ℕ} (o : OpA) (m : MessageA w) (f : Memory) → is_acquire o ≡ false
    → IsAnswerTo o m (access_answer m (answer_of (Message.A m) (memory.access_result o m f)))
unfolding IsAnswerTo
answer_kind OpA.PutFullData m f e = (answer_message OpD.AccessAck no_payload m, refl, refl, refl, refl, refl)
answer_kind OpA.PutPartialData m f e = (answer_message OpD.AccessAck no_payload m, refl, refl, refl, refl, refl)
answer_kind {w} OpA.ArithmeticData m f e = let fact = answer_message OpD.AccessAckData
    (as_payload (m.address % w) (bytes_from f m.address (byte_count m))) m in (fact, refl, refl, refl, refl, refl)
answer_kind {w} OpA.LogicalData m f e = let fact = answer_message OpD.AccessAckData
    (as_payload (m.address % w) (bytes_from f m.address (byte_count m))) m in (fact, refl, refl, refl, refl, refl)
answer_kind {w} OpA.Get m f e = let fact = answer_message OpD.AccessAckData
    (as_payload (m.address % w) (bytes_from f m.address (byte_count m))) m in (fact, refl, refl, refl, refl, refl)
answer_kind OpA.Intent m f e = (answer_message OpD.HintAck no_payload m, refl, refl, refl, refl, refl)
answer_kind OpA.AcquireBlock m f e = absurd cc
answer_kind OpA.AcquirePerm m f e = absurd cc

-- what the manager answers to an access, whatever the bytes of its block
answers-access : {w : ℕ} (source : ℕ) (m : MessageA w) (bytes : List ℕ) → is_acquire m.opcode ≡ false
    → m.source ≡ source → IsAnswer source (Message.A m) (follow.answers m bytes)
unfolding effect IsAnswerTo
answers-access {w} source m bytes access from = grind (arith, answer_kind)

-- ---- one source

-- an event that changes one source of a client alone
answered-at : {w : ℕ} (c source : ℕ) (mail mail' : AccessMessages w) (s s' : State (List ℕ))
    → ((d i : ℕ) → ((d ≡ c) × (i ≡ source) → ⊥) → (mail'.request d i ≡ mail.request d i)
    × (mail'.answer d i ≡ mail.answer d i) × (s'.uses d i ≡ s.uses d i))
    → IsAnswered source (mail'.request c source) (mail'.answer c source) (s'.uses c source) → AreAnswered mail s
    → AreAnswered mail' s'
answered-at {w} c source mail mail' s s' same new h d i = grind arith

-- an entry but for one
pub set_at-apart : {X : Type 0} (c source : ℕ) (x : X) (f : ℕ → ℕ → X) (d i : ℕ) → ((d ≡ c) × (i ≡ source) → ⊥)
    → set_at c source x f d i ≡ f d i
set_at-apart c source x f d i other = elim (cases_eq i source) [
  | inl same ↦ set_at-other c d source i x f (λ e. other (e, same))
  | inr ne ↦ set_at-else c source i x f ne d
]

-- a use that isn't an answer's
abbrev is_unanswered : SourceState → Bool
is_unanswered Replied = false
is_unanswered _ = true

unanswered : {w : ℕ} (source : ℕ) (request answer : Message w) (u : SourceState) → is_unanswered u ≡ true
    → IsAnswered source request answer u
unanswered source request answer u e = grind arith

-- a source whose use is now another that is no answer's, whatever its request
answered-used : {w : ℕ} (c source : ℕ) (u : SourceState) (mail : AccessMessages w) (s s' : State (List ℕ))
    → is_unanswered u ≡ true → s'.uses ≡ set_at c source u s.uses → AreAnswered mail s → AreAnswered mail s'
answered-used c source u mail s s' none uses h = answered-at c source mail mail s s'
    (λ d i other. (refl, refl, ap (λ f. f d i) uses ∙ set_at-apart c source u s.uses d i other))
    (unanswered source (mail.request c source) (mail.answer c source) (s'.uses c source)
    (ap is_unanswered (ap (λ f. f c source) uses ∙ set_at-same c source u s.uses) ∙ none)) h

-- an access that is answered
answered-now : {w : ℕ} (c source : ℕ) (x : Message w) (mail : AccessMessages w) (s s' : State (List ℕ))
    → s'.uses ≡ set_at c source Replied s.uses → IsAnswer source (mail.request c source) x → AreAnswered mail s
    → AreAnswered (record { request = mail.request; answer = set_at c source x mail.answer }) s'
answered-now c source x mail s s' uses new h =
    answered-at c source mail (record { request = mail.request; answer = set_at c source x mail.answer }) s s'
    (λ d i other. (
      refl,
      set_at-apart c source x mail.answer d i other,
      ap (λ f. f d i) uses ∙ set_at-apart c source Replied s.uses d i other,
    ))
    (rw (
      ap (λ f. f c source) uses ∙ set_at-same c source Replied s.uses,
      set_at-same c source x mail.answer,
    ) new) h

-- ---- operations

abbrev AreAnsweredIn : {w : ℕ} → AbstractState w → Type 0
AreAnsweredIn h = AreAnswered h.mail h.state

pub answered-asked : {w : ℕ} (c : ℕ) (o : Op w) (r : Reply) (h : AbstractState w) → AreAnswered h.mail h.state
    → AreAnswered (asked c o r h).mail (asked c o r h).state
answered-asked c (Op.Acquire n g) (Reply.Started source) h all = answered-used c source (Acquires n) h.mail h.state
    (asked c (Op.Acquire n g) (Reply.Started source) h).state refl refl all
answered-asked c (Op.AcquireWhole n bytes) (Reply.Started source) h all = answered-used c source
    (Acquires n) h.mail h.state (asked c (Op.AcquireWhole n bytes) (Reply.Started source) h).state refl refl all
answered-asked {w} c (Op.Access (Message.A m)) (Reply.Started source) h all =
    let h' : AbstractState w = asked c (Op.Access (Message.A m)) (Reply.Started source) h in
    answered-at c source h.mail h'.mail h.state h'.state
    (λ d i other. (
      set_at-apart c source (access source m) h.mail.request d i other,
      refl,
      set_at-apart c source Asked h.state.uses d i other,
    ))
    (unanswered source (h'.mail.request c source) (h'.mail.answer c source) (h'.state.uses c source)
    (ap is_unanswered (set_at-same c source Asked h.state.uses))) all
answered-asked c (Op.Store address size value) Reply.Stored h all = all
answered-asked c (Op.Release n p) (Reply.Started source) h all = all
answered-asked c o r h all = all

-- ---- messages that are taken

pub answered-kind_taken : {w : ℕ} {config : Config} {log : Log w} (tracker c : ℕ) (k : Kind) (i : ℕ)
    (rest : List Packet) (h : AbstractState w) {sys : System w}
    → SimulationRelation config log h.mail h.request h.state sys → on k (h.state.link c) ≡ packet k i ∷ rest
    → AreAnswered (kind_taken config tracker c k i rest h).mail (kind_taken config tracker c k i rest h).state
answered-kind_taken {w} {config} tracker c k i rest h is first =
    true-taken config tracker c rest h (λ j n. on j (h.state.link c) ≡ packet j n ∷ rest) AreAnsweredIn k i (record {
      nothing = λ j n known idle. is.answered;
      access_answered = λ source m o known from caps none.
          let due = asked-first c source rest is known in
          let same : due.request ≡ m = let both = sym due.is_it ∙ from in cc in
          answered-now c source _ h.mail h.state (access_taken c source m tracker false None rest h).state refl
          (rw from (answers-access source m _ (ap (λ x. is_acquire x.opcode) (sym same) ∙ due.access)
          (ap (λ x. x.source) (sym same) ∙ due.source_is))) is.answered;
      access_served = λ source m j known from caps some. used c source (InService (block_at m.address))
          (access_taken c source m tracker true (Some j) rest h).state refl refl;
      acquire_granted = λ n whole g known wants none. is.answered;
      acquire_served = λ n whole g known wants some. is.answered;
      probe = λ n known. is.answered;
      report = λ n known more. is.answered;
      report_answers = λ n q source j known last waits.
          let with : h.mail.request q source ≡ Message.A (h.request n) = rw waits at (is.served_with n) in
          let for : IsFor (Waits q false source j) n (h.request n) = rw waits at (is.served.requests n) in
          answered-now q source _ h.mail h.state (last_taken (length config.clients.items) config.profile c n
          (report_told ((h.state.block n).pair c).probing) (Waits q false source j) rest h).state refl
          (rw with (answers-access source (h.request n) _ for.0 for.1)) is.answered;
      report_grants = λ n q source j whole g known last waits wants. is.answered;
      release = λ n known. is.answered;
      answer = λ source known. used c source SourceFree (kind_taken config tracker c Answer source rest h).state refl
          refl;
      grant = λ n q d j known sent. used c ((h.state.block n).source c) SourceFree
          (taken_by_client c n (GrantSent q d j) rest h).state refl refl;
      release_ack = λ n known. is.answered;
      grant_ack = λ n known. is.answered;
    }) first
  where
    used : (d source : ℕ) (u : SourceState) (s : State (List ℕ)) → is_unanswered u ≡ true
        → s.uses ≡ set_at d source u h.state.uses → AreAnswered h.mail s
    used d source u s none uses = answered-used d source u h.mail h.state s none uses is.answered
