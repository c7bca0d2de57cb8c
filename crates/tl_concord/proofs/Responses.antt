-- Responses go on as they began, and no link may write a block whose Grant is on its way.
use Rattle.tl_concord.proofs.Imports.{BeatA, sourced, IsOpened, Requests, one_memory_after, holds-first, Beat, BeatD}
use Rattle.tl_concord.proofs.Imports.{OpD, Message, beat_of, begun, d_beat_of, History, channel_of, unfinished, Config}
use Rattle.tl_concord.proofs.Imports.{Perm, same_perm, asks_for, grants, held, request_of, is_free, Acquire, Answer}
use Rattle.tl_concord.proofs.Imports.{Grant, GrantAck, Kind, Probe, ProbeAck, Release, ReleaseAck, Request, Block}
use Rattle.tl_concord.proofs.Imports.{is_on, packet, view, Acquires, SourceState, AbstractState, block_message}
use Rattle.tl_concord.proofs.Imports.{message_of, message_of_kind, MonitorRelations, SimulationRelation, is_caching}
use Rattle.tl_concord.proofs.Imports.{flow, trace_of, IsGiven, Log, system_after, each-taken, trace-flows, flowed}
use Rattle.tl_concord.proofs.Imports.{matched-given, IsGrantDue, answer-due, grant-due, grant-rendered, own_view}
use Rattle.tl_concord.proofs.Imports.{IsFirst, first-token, and_left, and_right}
use Rattle.std.proofs.Common.{◌≡◌, ◌&&◌, ℕ, zero, suc, Bool, true, false, not, List, [], ◌∷◌, None, refl, sym, ◌∙◌, ◌⊎◌}
use Rattle.std.proofs.Common.{ap, subst, inl, inr}
use Rattle.std.{specs.Prelude.map, proofs.lemmas.Bool.cases_eq}
use Rattle.tl_coherence.specs.{protocol.Invariant.is_asked, refinement.MemoryRelation.IsAccess, protocol.Packet.Packet}
use Rattle.tl_coherence.specs.{refinement.Carried.IsCarried, refinement.PacketMessages.acquire_of}
use Rattle.tl_coherence.specs.{statement.Permissions.perm_le}
use Rattle.tl_coherence.proofs.{protocol.BothParts.is_asked-is, deliveries.Matching.shadow, flow.FlowStep.held_by}
use Rattle.tl_coherence.proofs.{flow.GivenAlone.free-where, flow.GivenAlone.held_by_most, protocol.HeadOfD.IsAnswerDue}
use Rattle.tl_coherence.proofs.{protocol.HeadOfD.acquire-used, queues.Codes.access_kind, queues.Facts.acquire_fits}
use Rattle.tl_coherence.proofs.{queues.Facts.held_at_most, queues.FirstToken.own_kind}
use Rattle.tl_beat.specs.declared.channel.Channel.{Channel}
use Rattle.tl_burst.specs.statement.Burst.{a_beat_of}
use Rattle.tl_params.{specs.declared.param.Cap.Cap, specs.declared.param.Grow.Grow, specs.statement.Param.cap_right}
use Rattle.tl_rules.specs.statement.History.{is_grant, is_release_ack}
use Rattle.tl_coherence.specs.protocol.Phase.{AcquireOpen, cap_fits, grow_fits, AcquirePhase, Granting}
use Rattle.tl_coherence.specs.protocol.Protocol.{GrantSent, packets_on, Asked, Replied}
use Rattle.tl_coherence.specs.protocol.Tokens.{is_unserved, is_wanting, shown}
use Rattle.tl_concord.{proofs.Beats.same_a, proofs.Beats.same_d, proofs.GrantAsked.grant-block}
use Rattle.tl_concord.{proofs.GrantTold.grant-burst, proofs.GrantTold.same_acquire}
use Rattle.tl_concord.{specs.statement.Responses.IsRightBeat, specs.statement.Responses.Responses}

-- ---- who may not write

-- one who has an Acquire open doesn't hold Trunk
asking_low : (whole : Bool) (g : Grow) (p : Perm) → grow_fits p (AcquireOpen whole g) ≡ true
    → same_perm p Perm.Trunk ≡ false
asking_low false Grow.NtoB Perm.None e = refl
asking_low true Grow.NtoT Perm.None e = refl
asking_low true Grow.BtoT Perm.None e = refl
asking_low true Grow.BtoT Perm.Branch e = refl
asking_low false Grow.NtoT Perm.None e = refl
asking_low false Grow.BtoT Perm.None e = refl
asking_low false Grow.BtoT Perm.Branch e = refl
asking_low v u y e = absurd cc

-- a Grant gives something
gives_some : (whole : Bool) (g : Grow) (k : Cap) → cap_fits whole g k ≡ true → same_perm (cap_right k) Perm.None ≡ false
gives_some whole g Cap.ToT e = refl
gives_some whole g Cap.ToB e = refl
gives_some true Grow.NtoB Cap.ToN e = absurd cc
gives_some false Grow.NtoB Cap.ToN e = absurd cc
gives_some true Grow.NtoT Cap.ToN e = absurd cc
gives_some false Grow.NtoT Cap.ToN e = absurd cc
gives_some true Grow.BtoT Cap.ToN e = absurd cc
gives_some false Grow.BtoT Cap.ToN e = absurd cc

same_is : (p q : Perm) → same_perm p q ≡ true → p ≡ q
same_is Perm.None Perm.None e = refl
same_is Perm.Branch Perm.Branch e = refl
same_is Perm.Trunk Perm.Trunk e = refl
same_is v u e = absurd cc

-- a client whose Grant is on its way is recorded with something of the block
pub due-recorded : {w : ℕ} (h : AbstractState w) (c block : ℕ) → IsGrantDue c block h.state
    → same_perm ((h.state.block block).pair c).recorded Perm.None ≡ false
due-recorded h c block due =
    let fits = and_right (same_perm ((h.state.block block).pair c).recorded (cap_right due.k)) _ due.fits in
    ap (λ (p : Perm). same_perm p Perm.None) (same_is ((h.state.block block).pair c).recorded (cap_right due.k)
    (and_left (same_perm ((h.state.block block).pair c).recorded (cap_right due.k)) _ due.fits))
    ∙ gives_some due.whole due.g due.k (and_left (cap_fits due.whole due.g due.k) _ fits)

pub due-free : {w : ℕ} (config : Config) (log : Log w) → IsGiven config log → (c block : ℕ)
    → IsGrantDue c block (shadow config log).state → (n : ℕ) → is_free n None Perm.Branch block (trace_of log) ≡ true
due-free {w} config log given c block due n = free-where n None Perm.Branch block (trace_of log)
    (λ other. ap (λ (past : History w). not (same_perm (held block past) Perm.Trunk)) (trace-flows other log) ∙ ap
    (λ (p : Perm). not (same_perm p Perm.Trunk)) ((values other).held_is block) ∙ ap not (low other))
  where
    h : AbstractState w
    h = shadow config log

    is : SimulationRelation config log (shadow config log).mail (shadow config log).request (shadow config log).state
        (system_after config log)
    is = matched-given config log given

    values : MonitorRelations log (shadow config log).mail (shadow config log).state (system_after config log)
    values = flowed config log given.width given.typed given.is_log

    b : Block (List ℕ)
    b = (shadow config log).state.block block

    held_low : same_perm (b.pair c).held Perm.Trunk ≡ false
    held_low = asking_low due.whole due.g (b.pair c).held (acquire_fits due.whole due.g (b.pair c) (view b.service c)
        ((is.invariant.blocks block).phases c) due.wants)

    recorded_low : (other : ℕ) → (other ≡ c → ⊥) → same_perm (b.pair other).recorded Perm.Trunk ≡ false
    recorded_low other ne = go (same_perm (b.pair other).recorded Perm.Trunk) refl
      where
        go : (x : Bool) → same_perm (b.pair other).recorded Perm.Trunk ≡ x → x ≡ false
        go false e = refl
        go true e = absurd (let no : false ≡ true = sym (due-recorded (shadow config log) c block due)
            ∙ (is.invariant.blocks block).one_owner other c e (λ same. ne (sym same)) in cc)

    at_most : (p q : Perm) → perm_le p q ≡ true → same_perm q Perm.Trunk ≡ false → same_perm p Perm.Trunk ≡ false
    at_most Perm.None q e f = refl
    at_most Perm.Branch q e f = refl
    at_most Perm.Trunk Perm.Trunk e f = absurd cc
    at_most Perm.Trunk Perm.Branch e f = absurd cc
    at_most Perm.Trunk Perm.None e f = absurd cc

    low : (other : ℕ) → same_perm (held_by other b) Perm.Trunk ≡ false
    low other = elim (cases_eq other c) [
      | inl same ↦ rw (same, own_view c due.data_too due.k b.service due.service) held_low
      | inr ne ↦ at_most (held_by other b) (b.pair other).recorded
          (held_by_most other b (view b.service other) (held_at_most (b.pair other) (view b.service other)
          ((is.invariant.blocks block).phases other))) (recorded_low other ne)
    ]

-- a Grant of a block is on its way to one client alone
one-granted : {w : ℕ} (h : AbstractState w) (c other block : ℕ) → IsGrantDue c block h.state
    → IsGrantDue other block h.state → other ≡ c
one-granted h c other block due elsewhere = sent_to (sym elsewhere.service ∙ due.service)
  where
    sent_to : {a b : ℕ} {d e : Bool} {k l : Cap} → GrantSent a d k ≡ GrantSent b e l → a ≡ b
    sent_to e = cc

-- ---- a response that has begun

acquire_source : {w : ℕ} (phase : AcquirePhase) (source n k : ℕ) (x : BeatA w)
    → Beat.A x ≡ beat_of (acquire_of phase source n) k → x.source ≡ source
acquire_source (AcquireOpen true g) source n k x e = ap (λ (z : BeatA _). z.source) (same_a x _ e)
acquire_source v source n k x e = ap (λ (z : BeatA _). z.source) (same_a x _ e)

-- the beats of a response are of one opcode and one source
same_response : {w : ℕ} (m : Message w) (x y : BeatD w) (k j : ℕ) → Beat.D x ≡ beat_of m k → Beat.D y ≡ beat_of m j
    → (x.opcode ≡ y.opcode) × (x.source ≡ y.source)
same_response (Message.D m) x y k j e f =
    let a = same_d x (d_beat_of m k) e in
    let b = same_d y (d_beat_of m j) f in (
      ap (λ (z : BeatD _). z.opcode) a ∙ sym (ap (λ (z : BeatD _). z.opcode) b),
      ap (λ (z : BeatD _). z.source) a ∙ sym (ap (λ (z : BeatD _). z.source) b),
    )
same_response v x y k j e f = absurd cc

-- the last of the first beats of a message
pub last_begun : {w : ℕ} (m : Message w) (k : ℕ) (x : Beat w) (older : List (Beat w)) → x ∷ older ≡ begun m k
    → (j : ℕ) × (x ≡ beat_of m j)
last_begun m zero x older e = absurd cc
last_begun {w} m (suc k) x older e = (k, first_is x (beat_of m k) older (begun m k) e)
  where
    first_is : (a b : Beat w) (xs ys : List (Beat w)) → a ∷ xs ≡ b ∷ ys → a ≡ b
    first_is a b xs ys f = cc

module _ {w : ℕ} (config : Config) (log : Log w) (given : IsGiven config log) (c : ℕ) where
  abbrev h : AbstractState w
  h = shadow config log

  is : SimulationRelation config log h.mail h.request h.state (system_after config log)
  is = matched-given config log given

  values : MonitorRelations log h.mail h.state (system_after config log)
  values = flowed config log given.width given.typed given.is_log

  -- a beat that goes on
  goes-on : (x : BeatD w) (queue : List (Beat w)) → (system_after config log).channels c Channel.D ≡ Beat.D x ∷ queue
      → (y : BeatD w) (older : List (Beat w)) → unfinished Channel.D (flow c log) ≡ Beat.D y ∷ older
      → (x.opcode ≡ y.opcode) × (x.source ≡ y.source)
  goes-on x queue beats y older begun_so = same_response m x y first.next.k last.0 first.next.beat_is last.1
    where
      first : IsFirst Channel.D c h.mail h.state (system_after config log) (Beat.D x) queue
      first = first-token (is_caching config) Channel.D c h.mail h.state (system_after config log) (Beat.D x) queue
          given.width is.invariant is.carried beats

      m : Message w
      m = message_of_kind first.kind h.mail h.state c first.number

      last : (j : ℕ) × (Beat.D y ≡ beat_of m j)
      last = last_begun m first.next.k (Beat.D y) older
          (sym begun_so ∙ (values c).rest_is Channel.D ∙ first.next.rest_is)

  -- what has begun is an answer that is due, a Grant, or a ReleaseAck
  begun-on : (P : Type 0) (x : BeatD w) (older : List (Beat w)) → unfinished Channel.D (flow c log) ≡ Beat.D x ∷ older
      → ((i j : ℕ) (due : IsAnswerDue c i h.mail h.state) → x ≡ d_beat_of due.answer j → P)
      → ((i : ℕ) → IsGrantDue c i h.state → x.source ≡ (h.state.block i).source c → P)
      → (x.opcode ≡ OpD.ReleaseAck → P) → P
  unfolding block_message
  begun-on P x older begun_so answer grant ack = go (packets_on Channel.D (h.state.link c)) refl
      (rw (← (values c).rest_is Channel.D, begun_so) at (is.carried c Channel.D))
    where
      Carries : List Packet → Type 0
      Carries tokens = IsCarried (Beat.D x ∷ older) (map (message_of h.mail h.state c) tokens)
          ((system_after config log).channels c Channel.D)

      of_kind : (k : Kind) (i : ℕ) (rest : List Packet) → (h.state.link c).d ≡ packet k i ∷ rest
          → is_on Channel.D k ≡ true → (j : ℕ) → Beat.D x ≡ beat_of (message_of_kind k h.mail h.state c i) j → P
      of_kind Grant i rest tokens own j beat_is =
          let due = grant-due (is_caching config) c i rest h.state is.invariant tokens in
          grant i due (ap (λ (z : BeatD w). z.source) (same_d x _
          (beat_is ∙ ap (λ (z : Message w). beat_of z j) (grant-rendered c i h.state due))))
      of_kind Answer i rest tokens own j beat_is =
          let due = answer-due (is_caching config) c i rest h.mail h.state is.invariant (is.answered c i) tokens in
          answer i j due (same_d x (d_beat_of due.answer j)
          (beat_is ∙ ap (λ (z : Message w). beat_of z j) due.answer_is))
      of_kind ReleaseAck i rest tokens own j beat_is = ack (ap (λ (z : BeatD w). z.opcode) (same_d x _ beat_is))
      of_kind v i rest tokens own j beat_is = absurd cc

      go : (tokens : List Packet) → packets_on Channel.D (h.state.link c) ≡ tokens → Carries tokens → P
      go [] e carries = absurd (let no : Beat.D x ∷ older ≡ [] = carries.0 in cc)
      go (p ∷ rest) e (k, lt, rest_is, queue_is) =
          let last = last_begun (message_of h.mail h.state c p) k (Beat.D x) older rest_is in
          of_kind p.kind p.number rest e
          (own_kind (is_caching config) h.state c Channel.D p.kind p.number rest is.invariant e) last.0 last.1

  -- a Grant that has begun is due
  pub begun-due : (block : ℕ) (x : BeatD w) (older : List (Beat w))
      → unfinished Channel.D (flow c log) ≡ Beat.D x ∷ older
      → grants block x (flow c log) ≡ true → IsGrantDue c block h.state
  begun-due block x older begun_so granted = begun-on (IsGrantDue c block h.state) x older begun_so
      (λ i j due e. no_grant (ap (λ (z : BeatD w). z.opcode) e) (access_kind due.answer.opcode due.answers_access).0)
      (λ i due from. subst (λ (n : ℕ). IsGrantDue c n h.state) (grant-block config log given c i due x.source from block
      (and_right (is_grant x.opcode) (asks_for block (request_of x.source (flow c log))) granted)) due)
      (λ e. no_grant e refl)
    where
      no_grant : {o : OpD} → x.opcode ≡ o → is_grant o ≡ false → IsGrantDue c block h.state
      no_grant e f = absurd (let no : false ≡ true = sym f ∙ sym (ap is_grant e)
          ∙ and_left (is_grant x.opcode) (asks_for block (request_of x.source (flow c log))) granted in cc)

  -- ---- a request that comes

  -- its source is that of an access that is asked for, or of an Acquire that isn't served
  abbrev IsFresh : ℕ → Type 0
  IsFresh source = (h.state.uses c source ≡ Asked)
      ⊎ ((n : ℕ) × (h.state.uses c source ≡ Acquires n) × (is_unserved (view (h.state.block n).service c) ≡ true))

  asks-fresh : (x : BeatA w) (queue : List (Beat w)) → (system_after config log).channels c Channel.A ≡ Beat.A x ∷ queue
      → IsFresh x.source
  unfolding block_message
  asks-fresh x queue beats = go first.kind first.number first.tokens first.own first.next.k first.next.beat_is
    where
      first : IsFirst Channel.A c h.mail h.state (system_after config log) (Beat.A x) queue
      first = first-token (is_caching config) Channel.A c h.mail h.state (system_after config log) (Beat.A x) queue
          given.width is.invariant is.carried beats

      go : (k : Kind) (i : ℕ) → (h.state.link c).a ≡ packet k i ∷ first.rest → is_on Channel.A k ≡ true → (j : ℕ)
          → Beat.A x ≡ beat_of (message_of_kind k h.mail h.state c i) j → IsFresh x.source
      go Request i tokens own j beat_is = inl (ap (h.state.uses c) from ∙ used)
        where
          used : h.state.uses c i ≡ Asked
          used = is_asked-is (h.state.uses c i) (holds-first Request (h.state.link c).a first.rest (packet Request i)
              (λ n. is_asked (h.state.uses c n)) tokens refl (is.invariant.requests c))

          access : IsAccess i (h.mail.request c i) None ((one_memory_after config log).opened c Requests i)
          access = subst (λ (u : SourceState). IsOpened c i h.mail h.state u
              ((one_memory_after config log).opened c Requests i)) used (is.beside.requests c i)

          from : x.source ≡ i
          from = ap (λ (z : BeatA w). z.source) (same_a x (a_beat_of (sourced i access.0) j)
              (beat_is ∙ ap (λ (z : Message w). beat_of z j) access.1))
      go Acquire i tokens own j beat_is = inr (
        i,
        ap (h.state.uses c) (acquire_source ((h.state.block i).pair c).acquiring ((h.state.block i).source c) i j x
            beat_is) ∙ acquire-used (is_caching config) c i h.state is.invariant
            (and_left (is_wanting ((h.state.block i).pair c).acquiring) _ shown_so),
        and_right (is_wanting ((h.state.block i).pair c).acquiring) _ shown_so,
      )
        where
          shown_so : (is_wanting ((h.state.block i).pair c).acquiring
              && is_unserved (view (h.state.block i).service c)) ≡ true
          shown_so = holds-first Acquire (h.state.link c).a first.rest (packet Acquire i)
              (λ n. shown Acquire c (h.state.block n)) tokens refl (is.invariant.transfers c Acquire refl)
      go Probe i tokens own j beat_is = absurd cc
      go ProbeAck i tokens own j beat_is = absurd cc
      go Release i tokens own j beat_is = absurd cc
      go Answer i tokens own j beat_is = absurd cc
      go Grant i tokens own j beat_is = absurd cc
      go ReleaseAck i tokens own j beat_is = absurd cc
      go GrantAck i tokens own j beat_is = absurd cc

  -- so it is of no response that has begun
  fresh : (x : BeatA w) (queue : List (Beat w)) → (system_after config log).channels c Channel.A ≡ Beat.A x ∷ queue
      → (y : BeatD w) (older : List (Beat w)) → unfinished Channel.D (flow c log) ≡ Beat.D y ∷ older
      → is_release_ack y.opcode ≡ false → y.source ≡ x.source → ⊥
  fresh x queue beats y older begun_so no_ack same = begun-on ⊥ y older begun_so
      (λ i j due e. answered (ap (h.state.uses c) (sym same ∙ ap (λ (z : BeatD w). z.source) e ∙ due.from) ∙ due.used)
      asked)
      (λ i due from. granted i due (ap (h.state.uses c) (sym same ∙ from) ∙ due.used) asked)
      (λ e. let no : true ≡ false = sym (ap is_release_ack e) ∙ no_ack in cc)
    where
      asked : IsFresh x.source
      asked = asks-fresh x queue beats

      answered : h.state.uses c x.source ≡ Replied → IsFresh x.source → ⊥
      answered used (inl e) = let no : Replied ≡ Asked = sym used ∙ e in cc
      answered used (inr (n, e, unserved)) = let no : Replied ≡ Acquires n = sym used ∙ e in cc

      granted : (i : ℕ) → IsGrantDue c i h.state → h.state.uses c x.source ≡ Acquires i → IsFresh x.source → ⊥
      granted i due used (inl e) = let no : Acquires i ≡ Asked = sym used ∙ e in cc
      granted i due used (inr (n, e, unserved)) =
          let one : n ≡ i = same_acquire i n (sym used ∙ e) in
          let view_is : view (h.state.block n).service c ≡ Granting due.data_too due.k =
          ap (λ (j : ℕ). view (h.state.block j).service c) one
          ∙ own_view c due.data_too due.k (h.state.block i).service due.service in
          let no : false ≡ true = sym (ap is_unserved view_is) ∙ unserved in cc

-- ---- all that is taken

response-moved : {w : ℕ} (config : Config) (log : Log w) → IsGiven config log → (c : ℕ) (x : Beat w)
    (queue : List (Beat w)) → (system_after config log).channels c (channel_of x) ≡ x ∷ queue
    → IsRightBeat c x (trace_of log)
response-moved {w} config log given c (Beat.D x) queue beats = record {
  continues = λ y older e. goes-on config log given c x queue beats y older
      (ap (unfinished Channel.D) (sym (trace-flows c log)) ∙ e);
  free = λ n block granted. due-free config log given c block (grant-burst config log given c x queue beats block
      (subst (λ (past : History w). grants block x past ≡ true) (trace-flows c log) granted)).due n;
  alone = λ block granted other y older begun_so of_block. one-granted (shadow config log) c other block
      (grant-burst config log given c x queue beats block
      (subst (λ (past : History w). grants block x past ≡ true) (trace-flows c log) granted)).due
      (begun-due config log given other block y older
      (ap (unfinished Channel.D) (sym (trace-flows other log)) ∙ begun_so)
      (subst (λ (past : History w). grants block y past ≡ true) (trace-flows other log) of_block));
}
response-moved config log given c (Beat.A x) queue beats = λ y older e. fresh config log given c x queue beats y older
    (ap (unfinished Channel.D) (sym (trace-flows c log)) ∙ e)
response-moved config log given c (Beat.B x) queue beats = tt
response-moved config log given c (Beat.C x) queue beats = tt
response-moved config log given c (Beat.E x) queue beats = tt

pub responses : {w : ℕ} → Responses w
responses {w} config log given = record {
  each = each-taken config (λ earlier link x. IsRightBeat link x (trace_of earlier)) (response-moved config) log given;
  undisturbed = λ link n block x older begun_so granted. due-free config log given link block
      (begun-due config log given link block x older (ap (unfinished Channel.D) (sym (trace-flows link log)) ∙ begun_so)
      (subst (λ (past : History w). grants block x past ≡ true) (trace-flows link log) granted)) n;
}
