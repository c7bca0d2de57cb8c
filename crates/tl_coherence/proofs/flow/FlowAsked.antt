-- What is delivered on a client's link stays as it is when the client itself is asked for something.
-- What is delivered on each link stays as it is when a client is asked for something.
use Rattle.std.proofs.Common.{◌≡◌, ℕ, Bool, true, false, not, ◌&&◌, ◌||◌, ◌==◌, if◌then◌else◌, List, Option, Some, None}
use Rattle.std.proofs.Common.{refl, sym, ◌∙◌, ap, arith, inl, inr, ne_eqb}
use Rattle.tl_coherence.proofs
use proofs.Imports.{cases_eq, Beat, BeatA, Channel, IsWidth, Message, MessageA, History, Config, Grow, Prune}
use proofs.Imports.{comes_in_release, comes_in_request, block_at, Op, Reply, copy_stored, whole_grow, access, is_of}
use proofs.Imports.{set_at, NoAcquire, NoRelease, ReleaseSent, View, after_acquire, after_release, Acquires, Asked}
use proofs.Imports.{Block, SourceFree, SourceState, State, access_asked, acquire_asked, acquiring_block, block_stored}
use proofs.Imports.{release_asked, releasing_block, view, is_acknowledging, is_answered, is_granting, is_unserved}
use proofs.Imports.{is_wanting, AbstractState, asked, comes_granting, MonitorRelation, is_let_by, is_release_pending}
use proofs.Imports.{is_requested, AccessMessages, SimulationRelation, asked_by, is_caching, cap_waited, Log, System}
use proofs.client.{ClientAsked.asks_acquire, ClientEnd.asks-same, ClientEnd.comes-same}
use proofs.client.AsideAll.{set_at-else, Leaves, leaves-asked}
use proofs.deliveries.AskedAfter.{reply-cases, IsPlain}
use proofs.memory.BesideAsked.{IsReply}
use proofs.queues.{Facts.unserved_calm, Tokens.set-same, Tokens.set-part, Tokens.same_number, Tokens.set_at-same}
use proofs.client.HalfTaken.{coming-granting}
use proofs.flow.{FlowStep.held_by, FlowStep.acquired_by, FlowStep.let_of, FlowStep.granted_by, FlowResponses.waits_on_a}
use proofs.flow.{FlowResponses.not-coming_a, NextOnD.coming-asked, NextOnD.coming-free}
use proofs.flow.FlowApart.{left-access_asked, left-acquire_asked, left-release_asked, left-block_stored}
use proofs.flow.FlowAlone.{flowed-untouched, IsAside, flowed-aside, IsUntouched, requested-blocks, let_by-same}
use proofs.protocol.FollowKept.{IsAskable}
use proofs.simulation.Owned.{unfinished_at}

-- ---- a request

-- a source that was free is used for a request, none of which was delivered: what was requested stays
requested-now : {w : ℕ} {X : Type 0} (c source : ℕ) (u : SourceState) (rest : List (Beat w)) (s s' : State X)
    → s.uses c source ≡ SourceFree
    → ((i : ℕ) → s'.uses c i ≡ set_at c source u s.uses c i) → is_requested c source rest u s' ≡ false
    → ((n : ℕ) → is_unserved (view (s'.block n).service c) ≡ is_unserved (view (s.block n).service c)) → (i : ℕ)
    → is_requested c i rest (s'.uses c i) s' ≡ is_requested c i rest (s.uses c i) s
requested-now c source u rest s s' closed uses none same i = elim (cases_eq i source) [
  | inl here ↦ rw here (cc (uses source, set_at-same c source u s.uses))
  | inr other ↦ cc (uses i, set_at-else c source i u s.uses other c, requested-blocks c i rest (s.uses c i) s s' same)
]

asked-now : {w : ℕ} {X : Type 0} (c source : ℕ) (asked asked' : ℕ → Option (BeatA w)) (rest : List (Beat w))
    (s : State X) → s.uses c source ≡ SourceFree → ((i : ℕ) → (i ≡ source → ⊥) → asked' i ≡ asked i) → (i : ℕ)
    → is_requested c i rest (s.uses c i) s ≡ true → asked' i ≡ asked i
asked-now c source asked asked' rest s closed asks i e = elim (cases_eq i source) [
  | inl here ↦ absurd (let no : false ≡ true = sym (ap (λ j. is_requested c j rest (s.uses c j) s) here
      ∙ ap (λ v. is_requested c source rest v s) closed) ∙ e in cc)
  | inr other ↦ asks i other
]

pub untouched-access_asked : {w : ℕ} {X : Type 0} (c source : ℕ) (asked asked' : ℕ → Option (BeatA w)) (rest : Channel
    → List (Beat w)) (s : State X) → s.uses c source ≡ SourceFree → comes_in_request source (rest Channel.A) ≡ false
    → ((i : ℕ) → (i ≡ source → ⊥) → asked' i ≡ asked i)
    → ((m : ℕ) → comes_granting m asked' (rest Channel.D) ≡ comes_granting m asked (rest Channel.D))
    → IsUntouched asked asked' rest c s (access_asked c source s)
untouched-access_asked c source asked asked' rest s closed none asks grants = record {
  held_is = λ m. refl;
  requests = requested-now c _ Asked (rest Channel.A) s (access_asked c source s) closed (λ i. refl) none (λ m. refl);
  asked_is = asked-now c _ asked asked' (rest Channel.A) s closed asks;
  acquires = λ m. refl;
  release_sources = λ i. let_by-same c i (rest Channel.C) (s.lets c i) s (access_asked c source s) (λ m. refl);
  lets = λ i m e f. f;
  releases = λ m. refl;
  grants = λ m. ap (λ z. is_acknowledging (view (s.block m).service c) || z) (grants m);
  probes = λ m. refl;
  caps = λ m e. refl;
  trackers = λ m e. refl;
}

pub untouched-acquire_asked : {w : ℕ} {X : Type 0} (c n source : ℕ) (whole : Bool) (g : Grow) (bytes : X)
    (asked asked' : ℕ → Option (BeatA w)) (rest : Channel → List (Beat w)) (s : State X) → s.uses c source ≡ SourceFree
    → ((s.block n).pair c).acquiring ≡ NoAcquire → is_unserved (view (s.block n).service c) ≡ true
    → ((i : ℕ) → (i ≡ source → ⊥) → asked' i ≡ asked i)
    → ((m : ℕ) → comes_granting m asked' (rest Channel.D) ≡ comes_granting m asked (rest Channel.D))
    → IsUntouched asked asked' rest c s (acquire_asked c n source whole g bytes s)
untouched-acquire_asked {w} {X} c n source whole g bytes asked asked' rest s closed calm unserved asks grants =
    let b = s.block n in
    let new = acquiring_block c source whole g bytes b in
    let pair = set-same c (after_acquire whole g (b.pair c)) b.pair in
    let served : (p q : Bool) → q ≡ true → (p && not q) ≡ false = elim [ true ↦ λ q e. rw e refl | false ↦ λ q e. refl ]
    in
    let s' : State X = acquire_asked c n source whole g bytes s in
    let letting_same : (new.pair c).letting ≡ (b.pair c).letting = ap (λ p. p.letting) pair in
    let unserved_same = set-part (λ z. is_unserved (view z.service c)) n new s.block refl in
    record {
      held_is = set-part (held_by c) n new s.block
          (ap (λ p. if is_granting (view b.service c) then p.held else p.recorded) pair);
      requests = requested-now c _ _ _ s s' closed (λ i. refl) (ap not (unserved_same n ∙ unserved)) unserved_same;
      asked_is = asked-now c _ asked asked' (rest Channel.A) s closed asks;
      acquires = set-part (acquired_by c) n new s.block
          (served (is_wanting (new.pair c).acquiring) (is_unserved (view b.service c)) unserved
          ∙ sym (served (is_wanting (b.pair c).acquiring) (is_unserved (view b.service c)) unserved));
      release_sources = λ i. let_by-same c i (rest Channel.C) (s.lets c i) s s'
          (set-part (λ z. (z.pair c).letting) n new s.block letting_same);
      lets = λ i m e f. f;
      releases = set-part (let_of c (rest Channel.C)) n new s.block
          (ap (is_release_pending (b.release_source c) (rest Channel.C)) letting_same);
      grants = λ m. cc (grants m, set-part (granted_by c m asked (rest Channel.D)) n new s.block refl m);
      probes = set-part (λ z. is_answered (z.pair c).probing) n new s.block (ap (λ p. is_answered p.probing) pair);
      caps = λ m e. set-part (λ z. cap_waited z.service) n new s.block refl m;
      trackers = λ m e. set-part (λ z. z.tracker) n new s.block refl m;
    }

-- ---- a Release

pub untouched-release_asked : {w : ℕ} {X : Type 0} (c n source : ℕ) (r : Prune) (asked asked' : ℕ → Option (BeatA w))
    (rest : Channel → List (Beat w)) (s : State X) → s.lets c source ≡ None → comes_in_release source (rest Channel.C)
    ≡ false → ((s.block n).pair c).letting ≡ NoRelease → ((i : ℕ) → is_of n (s.lets c i) ≡ false)
    → is_granting (view (s.block n).service c) ≡ false → ((i : ℕ) → asked' i ≡ asked i)
    → IsUntouched asked asked' rest c s (release_asked c n source r s)
untouched-release_asked {w} {X} c n source r asked asked' rest s free none kept unused ungranted asks =
    let still : (i m : ℕ) → is_let_by c i (rest Channel.C) (s.lets c i) s ≡ true → s'.lets c i ≡ Some m
    → s.lets c i ≡ Some m = λ i m e f. elim (cases_eq i source) [
      | inl here ↦ absurd (let no : false ≡ true = sym (ap (λ j. is_let_by c j (rest Channel.C) (s.lets c j) s) here
          ∙ ap (λ o. is_let_by c source (rest Channel.C) o s) free) ∙ e in cc)
      | inr other ↦ sym (set_at-else c source i (Some n) s.lets other c) ∙ f
    ] in
    record {
      held_is = set-part (held_by c) n new s.block (cc (ungranted, pair));
      requests = λ i. requested-blocks c i (rest Channel.A) (s.uses c i) s s'
          (set-part (λ z. is_unserved (view z.service c)) n new s.block refl);
      asked_is = λ i e. asks i;
      acquires = set-part (acquired_by c) n new s.block
          (ap (λ p. is_wanting p.acquiring && not (is_unserved (view b.service c))) pair);
      release_sources = lets;
      lets = λ i m e f. still i m e f;
      releases = set-part (let_of c (rest Channel.C)) n new s.block
          (cc (letting_is, set-same c source b.release_source, none, kept));
      grants = λ m. let fact = set-part (granted_by c m asked (rest Channel.D)) n new s.block refl m in
          cc (comes-same m asked asked' (rest Channel.D) asks);
      probes = set-part (λ z. is_answered (z.pair c).probing) n new s.block (ap (λ p. is_answered p.probing) pair);
      caps = λ m e. set-part (λ z. cap_waited z.service) n new s.block refl m;
      trackers = λ m e. set-part (λ z. z.tracker) n new s.block refl m;
    }
  where
    b : Block X
    b = s.block n

    new : Block X
    new = releasing_block c source r b

    s' : State X
    s' = release_asked c n source r s

    pair : new.pair c ≡ after_release r (b.pair c)
    pair = set-same c (after_release r (b.pair c)) b.pair

    letting_is : (new.pair c).letting ≡ ReleaseSent r
    letting_is = ap (λ p. p.letting) pair

    others : (i : ℕ) (o : Option ℕ) → is_of n o ≡ false → is_let_by c i (rest Channel.C) o s' ≡ is_let_by c i
        (rest Channel.C) o s
    others i o e = grind (arith, cases_eq, same_number)

    lets : (i : ℕ) → is_let_by c i (rest Channel.C) (s'.lets c i) s' ≡ is_let_by c i (rest Channel.C) (s.lets c i) s
    lets i = elim (cases_eq i source) [
      | inl here ↦ rw here (cc (set_at-same c source (Some n) s.lets, set-same n new s.block, letting_is, none, free))
      | inr other ↦ cc (set_at-else c source i (Some n) s.lets other c, others i (s.lets c i) (unused i))
    ]

-- what client d's end is left with asks for the same
pub asks-left : {w : ℕ} (d : ℕ) (h h' : AbstractState w) → Leaves d h h' → (i : ℕ)
    → asked_by h'.mail h'.state d i ≡ asked_by h.mail h.state d i
asks-left d h h' left i = grind (arith, asks-same)

unserved_ungranted : (v : View) → is_unserved v ≡ true → is_granting v ≡ false
unserved_ungranted v e = grind arith

acquires_not : (u : SourceState) (n : ℕ) → u ≡ SourceFree → u ≡ Acquires n → ⊥
acquires_not u n e f = let g : SourceFree ≡ Acquires n = sym e ∙ f in cc

module _ {w : ℕ} {config : Config} {log : Log w} (h : AbstractState w) {sys : System w} (c : ℕ) (width : IsWidth w)
    (is : SimulationRelation config log h.mail h.request h.state sys) where
  -- what is delivered on client d's link is as it was
  abbrev pub IsAskedOn : ℕ → History w → Op w → Reply → Type 0
  IsAskedOn d t o r = IsAskable (is_caching config) c o r h
      → MonitorRelation (asked_by h.mail h.state d) (unfinished_at sys d) d h.state t → MonitorRelation
      (asked_by (asked c o r h).mail (asked c o r h).state d) (unfinished_at sys d) d (asked c o r h).state t

  asked-nothing : (d : ℕ) (t : History w) (o : Op w) (r : Reply) → IsPlain o r → IsAskedOn d t o r
  asked-nothing d t o r plain may before = rw (plain c h).0 before

  -- ---- the client's own link

  own-stored : (t : History w) (address size value : ℕ) → IsAskedOn c t (Op.Store address size value) Reply.Stored
  own-stored t address size value may =
      let n = block_at address in
      let bytes = copy_stored address size value ((h.state.block n).copy c) in
      let asks : (i : ℕ) → asked_by h.mail (block_stored c n bytes h.state) c i ≡ asked_by h.mail h.state c i = λ i.
      asks-same c i h.mail h.mail h.state (block_stored c n bytes h.state) refl (inl refl) (λ j used. set-part (λ b.
      (b.pair c).acquiring) n _ h.state.block refl j) (λ j used. set-part (λ b. b.source c) n _ h.state.block refl j) in
      flowed-aside (left-block_stored c (asked_by h.mail h.state c) (asked_by h.mail (block_stored c n bytes h.state) c)
      (unfinished_at sys c) h.state asks (coming-granting c is) c n bytes)

  own-acquire : {t : History w} (n source : ℕ) (whole : Bool) (g : Grow) (bytes : List ℕ)
      → h.state.uses c source ≡ SourceFree → ((h.state.block n).pair c).acquiring ≡ NoAcquire
      → MonitorRelation (asked_by h.mail h.state c) (unfinished_at sys c) c h.state t
      → MonitorRelation (asked_by h.mail (acquire_asked c n source whole g bytes h.state) c) (unfinished_at sys c) c
      (acquire_asked c n source whole g bytes h.state) t
  own-acquire n source whole g bytes closed calm = flowed-untouched (untouched-acquire_asked c n source whole
      g bytes before after (unfinished_at sys c) h.state closed calm (unserved_calm ((h.state.block n).pair c)
      (view (h.state.block n).service c) ((is.invariant.blocks n).phases c) calm) asks (λ m. coming-asked c m before
      after is (λ i k used. asks i (λ e. acquires_not _ k (ap (h.state.uses c) e ∙ closed) used))))
    where
      before : ℕ → Option (BeatA w)
      before = asked_by h.mail h.state c

      after : ℕ → Option (BeatA w)
      after = asked_by h.mail (acquire_asked c n source whole g bytes h.state) c

      asks : (i : ℕ) → (i ≡ source → ⊥) → after i ≡ before i
      asks i ne = let other : (source == i) ≡ false = ne_eqb source i (λ e. ne (sym e)) in
          asks_acquire c n source i whole g bytes h.mail is.invariant.named (ap is_wanting calm) ∙ rw other refl

  own-release : (t : History w) (n source : ℕ) (r : Prune) → IsAskedOn c t (Op.Release n r) (Reply.Started source)
  own-release t n source r may =
      let before : ℕ → Option (BeatA w) = asked_by h.mail h.state c in
      let after : ℕ → Option (BeatA w) = asked_by h.mail (release_asked c n source r h.state) c in
      let new : Block (List ℕ) = releasing_block c source r (h.state.block n) in
      let asks : (i : ℕ) → after i ≡ before i = λ i. asks-same c i h.mail h.mail h.state (release_asked c n
      source r h.state) refl (inl refl) (λ j used. set-part (λ b. (b.pair c).acquiring) n new h.state.block
      (ap (λ p. p.acquiring) (set-same c (after_release r ((h.state.block n).pair c)) (h.state.block n).pair)) j)
      (λ j used. set-part (λ b. b.source c) n new h.state.block refl j) in
      flowed-untouched
      (untouched-release_asked c n source r before after (unfinished_at sys c) h.state may.1
      (coming-free c source width is may.1) may.3 (λ i. is.invariant.named.releases c i n ∙ rw may.3 refl)
      (unserved_ungranted (view (h.state.block n).service c) (unserved_calm ((h.state.block n).pair c)
      (view (h.state.block n).service c) ((is.invariant.blocks n).phases c) may.2)) asks)

  own-access : (t : History w) (m : MessageA w) (source : ℕ)
      → IsAskedOn c t (Op.Access (Message.A m)) (Reply.Started source)
  own-access t m source closed =
      let mail' : AccessMessages w =
      record { request = set_at c source (access source m) h.mail.request; answer = h.mail.answer } in
      let before : ℕ → Option (BeatA w) = asked_by h.mail h.state c in
      let after : ℕ → Option (BeatA w) = asked_by mail' (access_asked c source h.state) c in
      let asks : (i : ℕ) → (i ≡ source → ⊥) → after i ≡ before i = λ i ne. asks-same c i h.mail mail' h.state
      (access_asked c source h.state) (set_at-else c source i (access source m) h.mail.request ne c)
      (inl (set_at-else c source i Asked h.state.uses ne c)) (λ n used. refl) (λ n used. refl) in
      flowed-untouched (untouched-access_asked c source before after (unfinished_at sys c) h.state closed
      (not-coming_a c source is (ap (λ u. waits_on_a c u h.state) closed)) asks (λ k. coming-asked c k before after is
      (λ i n used. asks i (λ e. acquires_not _ n (ap (h.state.uses c) e ∙ closed) used))))

  -- ---- another one

  asked-other : (d : ℕ) (t : History w) (o : Op w) (r : Reply) → (d ≡ c → ⊥) → IsReply o r → IsAskedOn d t o r
  asked-other d t o r ne may_be =
      let before : ℕ → Option (BeatA w) = asked_by h.mail h.state d in
      let after : Op w → Reply → ℕ → Option (BeatA w) = λ i j. asked_by (asked c i j h).mail (asked c i j h).state d in
      let coming = coming-granting d is in
      let left : (i : Op w) (j : Reply) → (((k : ℕ) → after i j k ≡ before k) → IsAside before (after i j)
      (unfinished_at sys d) d h.state (asked c i j h).state) → MonitorRelation before (unfinished_at sys d) d h.state t
      → MonitorRelation (after i j) (unfinished_at sys d) d (asked c i j h).state t =
      λ i j aside. flowed-aside (aside (asks-left d h (asked c i j h) (leaves-asked c i j h d ne))) in
      reply-cases (IsAskedOn d t) o r may_be (λ address size value may. left (Op.Store address size value) Reply.Stored
      (λ asks. left-block_stored d before (after (Op.Store address size value) Reply.Stored) (unfinished_at sys d)
      h.state asks coming c (block_at address) (copy_stored address size value ((h.state.block (block_at
      address)).copy c)))) (λ n g source may. left (Op.Acquire n g) (Reply.Started source) (λ asks.
      left-acquire_asked d before (after (Op.Acquire n g) (Reply.Started source)) (unfinished_at sys d) h.state asks
      coming c n source false g ((h.state.block n).waiting c) ne)) (λ n bytes source may. left (Op.AcquireWhole n
      bytes) (Reply.Started source) (λ asks. left-acquire_asked d before (after (Op.AcquireWhole n bytes)
      (Reply.Started source)) (unfinished_at sys d) h.state asks coming c n source true (whole_grow ((h.state.block
      n).pair c).held) bytes ne)) (λ n p source may. left (Op.Release n p) (Reply.Started source) (λ asks.
      left-release_asked d before (after (Op.Release n p) (Reply.Started source)) (unfinished_at sys d) h.state asks
      coming c n source p ne)) (λ m source may. left (Op.Access (Message.A m)) (Reply.Started source) (λ asks.
      left-access_asked d before (after (Op.Access (Message.A m)) (Reply.Started source)) (unfinished_at sys d)
      h.state asks coming c source ne)) (asked-nothing d t)

  pub flowed-asked : (d : ℕ) (t : History w) (o : Op w) (r : Reply) → IsReply o r → IsAskedOn d t o r
  flowed-asked d t o r may_be = elim (cases_eq d c) [
    | inl same ↦ rw same (reply-cases (IsAskedOn c t) o r may_be (own-stored t) (λ n g source may. own-acquire {t =
        t} n _ false g ((h.state.block n).waiting c) may.1 may.2) (λ n bytes source may. own-acquire {t =
        t} n _ true (whole_grow ((h.state.block n).pair c).held) bytes may.1 may.2)
        (λ n p source. own-release t n source p) (own-access t) (asked-nothing c t))
    | inr ne ↦ asked-other d t o r ne may_be
  ]
