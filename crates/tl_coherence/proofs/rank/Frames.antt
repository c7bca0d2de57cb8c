-- What is owed for what an event leaves alone.
-- How many beats are left of what is on the channels: no more than a block has, of a report one unless it is the
-- writer's, and of an access and its answer one more than a block has.
use Rattle.std.proofs.Common.{◌≡◌, ℕ, ◌+◌, ◌<◌, ◌≤◌, Bool, true, false, not, if◌then◌else◌, List, [], ◌∷◌, Option, Some}
use Rattle.std.proofs.Common.{None, refl, sym, ◌∙◌, arith, ◌⊎◌, inl, inr, length, ◌/◌}
use Rattle.tl_coherence.proofs
use proofs.Imports.{and_from, cases_eq, not-false, Beat, Channel, OpA, OpB, OpD, a_carries_data, d_carries_data}
use proofs.Imports.{IsWidth, Message, MessageA, beats_of, data_beats, Config, Level, Report, Perm, L1, L2, L3}
use proofs.Imports.{report_left, control_of_legal, next_rule, same_perm, a_has_param, a_has_size, is_one_of, probe_ack}
use proofs.Imports.{illegal_message_at, one_if, is_access_answer, Left, acquire_weight, let_weight, letting_weight}
use proofs.Imports.{pair_weight, probes_weight, probing_weight, rank, IsInvariant, is_asked, is_replied, Acquire}
use proofs.Imports.{Answer, Grant, Kind, ProbeAck, Release, Request, AcquirePhase, ClientBlock, Granting, Own}
use proofs.Imports.{ProbeAnswered, ProbePhase, ReleasePhase, ReleaseSent, View, ok, Acquires, Asked, InService, Replied}
use proofs.Imports.{SourceFree, State, view, is_unserved, is_wanting, shown, Move, AccessMessages, acquire_of}
use proofs.Imports.{message_of_kind, report_told, block_message, IsAnswer, IsAnswered, IsRequest, IsSourced, sources_of}
use proofs.Imports.{terms_at}
use Rattle.tl_coherence.specs.protocol.Protocol.{Link}
use Rattle.tl_rules.{specs.statement.Conformance.answers, specs.statement.Legality.a_of_level}
use proofs.queues.{Facts.data_carried, Phases.and_left, Channels.IsShowing, Tokens.same_number}
use proofs.protocol.BeatsRemaining.{beats_left, left-few, IsHere, IsPopped, left-same}
use proofs.protocol.Room.{beats-few}
use proofs.rank.Weights.{IsLeft}
use proofs.rank.RankDecreases.{owed_use, owed_use', owed_let, owed_let', clients, use-no-more, probes-no-more}

-- ---- what is shown is there

here_if : (b : Bool) (n : ℕ) → n ≡ one_if b → b ≡ true → 0 < n
here_if b n e f = grind arith

module _ {X : Type 0} {caching : ℕ → Bool} {s : State X} (inv : IsInvariant caching s) where
  request-here : (d i : ℕ) → s.uses d i ≡ Asked → IsHere s d Request i
  request-here d i e = here_if (is_asked (s.uses d i)) _ (inv.requests d i) (rw e refl)

  answer-here : (d i : ℕ) → s.uses d i ≡ Replied → IsHere s d Answer i
  answer-here d i e = here_if (is_replied (s.uses d i)) _ (inv.answers d i) (rw e refl)

  acquire-here : (d m : ℕ) → shown Acquire d (s.block m) ≡ true → IsHere s d Acquire m
  acquire-here d m e = here_if (shown Acquire d (s.block m)) _ (inv.transfers d Acquire refl m) e

  grant-here : (d m : ℕ) → shown Grant d (s.block m) ≡ true → IsHere s d Grant m
  grant-here d m e = here_if (shown Grant d (s.block m)) _ (inv.transfers d Grant refl m) e

  pub report-here : (d m : ℕ) → shown ProbeAck d (s.block m) ≡ true → IsHere s d ProbeAck m
  report-here d m e = here_if (shown ProbeAck d (s.block m)) _ (inv.transfers d ProbeAck refl m) e

  release-here : (d m : ℕ) → shown Release d (s.block m) ≡ true → IsHere s d Release m
  release-here d m e = here_if (shown Release d (s.block m)) _ (inv.transfers d Release refl m) e

-- the Acquire with a source is one that its block has
pub wants-used : {X : Type 0} {caching : ℕ → Bool} {s : State X} → IsInvariant caching s → (d i m : ℕ)
    → s.uses d i ≡ Acquires m → is_wanting ((s.block m).pair d).acquiring ≡ true
wants-used {s} inv d i m e = and_left (is_wanting ((s.block m).pair d).acquiring) _
    (sym (inv.named.acquires d i m) ∙ rw e (same_number m))

-- an Acquire that isn't served
pub unserved-weight : (n a g p : ℕ) (v : View) → is_unserved v ≡ true → acquire_weight n a g p v ≡ a + n + 32
unserved-weight n a g p v e = grind arith

-- ---- what an event leaves as it was

abbrev pub AreAsBefore : {A : Type 0} → (ℕ → ℕ → A) → (ℕ → ℕ → A) → Type 0
AreAsBefore after before = (d i : ℕ) → after d i ≡ before d i

abbrev pub AreElsewhere : {A : Type 0} → ℕ → ℕ → (ℕ → ℕ → A) → (ℕ → ℕ → A) → Type 0
AreElsewhere c source after before = (d i : ℕ) → (d ≡ c → i ≡ source → ⊥) → after d i ≡ before d i

-- no link has more GrantAcks
abbrev pub AreNoMore : (ℕ → Link) → (ℕ → Link) → Type 0
AreNoMore after before = (d : ℕ) → length (after d).e ≤ length (before d).e

-- ---- what is taken

-- who has something open is a client, with a source of its own
pub record AreClients {X : Type 0} (config : Config) (s : State X) : Type 0 where
  pub clients : (d i : ℕ) → (s.uses d i ≡ SourceFree → ⊥) → d < length config.clients.items
  pub sources : (d i : ℕ) → (s.uses d i ≡ SourceFree → ⊥) → i < sources_of (terms_at config d)
  pub letters : (d i n : ℕ) → s.lets d i ≡ Some n → d < length config.clients.items
  pub releases : (d i n : ℕ) → s.lets d i ≡ Some n → i < sources_of (terms_at config d)

-- A message is taken: what it does to block n, how the tokens of each channel move, what was delivered of the messages
-- that are first on each channel, before and afterwards, and who has something open.
pub record Taking {w : ℕ} (config : Config) (mail mail' : AccessMessages w) (s s' : State (List ℕ)) : Type 0 where
  pub caching : ℕ → Bool
  pub n : ℕ
  pub moves : ℕ → Channel → Move
  pub showing : IsShowing caching n moves mail mail' s s'
  pub c : ℕ
  pub ch : Channel
  pub rest : ℕ → Channel → List (Beat w)
  pub rest' : ℕ → Channel → List (Beat w)
  pub popped : IsPopped c ch moves rest rest' s s'
  pub size : ℕ
  pub answer : ℕ → ℕ → ℕ
  pub all : AreClients config s

-- ---- a block of which all that counts is as before

module _ {w : ℕ} {config : Config} {mail mail' : AccessMessages w} {s s' : State (List ℕ)}
    (taking : Taking config mail mail' s s') where
  open taking use {caching, n, moves, showing, c, ch, rest, rest', popped, size, answer, all}

  abbrev left : Left
  left = beats_left mail s rest

  abbrev left' : Left
  left' = beats_left mail' s' rest'

  -- less is owed afterwards
  abbrev pub Falls : Type 0
  Falls = rank config size left' answer s' + 1 ≤ rank config size left answer s

  same : (d : ℕ) (k : Kind) (m : ℕ) → IsHere s d k m → IsHere s' d k m → left' d k m ≤ left d k m
  same d k m before after = let e = left-same showing popped d k m before after in omega (arith, e)

  -- one client whose Probe is as before
  pub pair-stays : (d m : ℕ) → ((s'.block m).pair d).probing ≡ ((s.block m).pair d).probing
      → ((s'.block m).pair d).recorded ≡ ((s.block m).pair d).recorded
      → pair_weight size left' m d ((s'.block m).pair d) ≤ pair_weight size left m d ((s.block m).pair d)
  pair-stays d m probing recorded = rw (probing, recorded) (go ((s.block m).pair d).probing refl)
    where
      go : (x : ProbePhase) → ((s.block m).pair d).probing ≡ x → probing_weight size (left' d ProbeAck m)
          ((s.block m).pair d).recorded x ≤ probing_weight size (left d ProbeAck m) ((s.block m).pair d).recorded x
      go (ProbeAnswered r) e = same d ProbeAck m (report-here showing.before d m (rw e refl))
          (report-here showing.after d m (rw (probing, e) refl))
      go x e = omega arith

  -- an Acquire that is served as before
  pub acquire-stays : (d m : ℕ) → is_wanting ((s.block m).pair d).acquiring ≡ true → ((s'.block m).pair d).acquiring
      ≡ ((s.block m).pair d).acquiring → view (s'.block m).service d ≡ view (s.block m).service d
      → probes_weight (clients config size left left' answer answer s s') size left' m (s'.block m)
      ≤ probes_weight (clients config size left left' answer answer s s') size left m (s.block m)
      → acquire_weight size (left' d Acquire m) (left' d Grant m)
      (probes_weight (clients config size left left' answer answer s s') size left' m (s'.block m))
      (view (s'.block m).service d) ≤ acquire_weight size (left d Acquire m) (left d Grant m)
      (probes_weight (clients config size left left' answer answer s s') size left m (s.block m))
      (view (s.block m).service d)
  acquire-stays d m wants acquiring viewed probes = rw viewed (go (view (s.block m).service d) refl)
    where
      go : (v : View) → view (s.block m).service d ≡ v → acquire_weight size (left' d Acquire m) (left' d Grant m)
          (probes_weight (clients config size left left' answer answer s s') size left' m (s'.block m)) v
          ≤ acquire_weight size (left d Acquire m) (left d Grant m)
          (probes_weight (clients config size left left' answer answer s s') size left m (s.block m)) v
      go Own e = omega (arith, probes)
      go (Granting x k) e = let g = same d Grant m (grant-here showing.before d m (rw e refl))
          (grant-here showing.after d m (rw (viewed, e) refl)) in omega (arith, g)
      go v e = let a = same d Acquire m (acquire-here showing.before d m (rw (e, wants) refl))
          (acquire-here showing.after d m (rw (viewed, e, acquiring, wants) refl)) in omega (arith, a)

  -- a Release that is as before
  pub let-stays : (d m : ℕ) → ((s'.block m).pair d).letting ≡ ((s.block m).pair d).letting
      → letting_weight (left' d Release m) ((s'.block m).pair d).letting ≤ letting_weight (left d Release m)
      ((s.block m).pair d).letting
  let-stays d m letting = rw letting (go ((s.block m).pair d).letting refl)
    where
      go : (x : ReleasePhase) → ((s.block m).pair d).letting ≡ x → letting_weight (left' d Release m) x ≤ letting_weight
          (left d Release m) x
      go (ReleaseSent r) e = let a = same d Release m (release-here showing.before d m (rw e refl))
          (release-here showing.after d m (rw (letting, e) refl)) in omega (arith, a)
      go x e = omega arith

  -- ---- all requests and Releases, given those of the block that changes

  abbrev number : ℕ
  number = clients config size left left' answer answer s s'

  -- What is owed for the block that changes doesn't rise: for those who have it in service before and after, for those
  -- who acquire it before and after, and for Releases.
  pub record IsBlockNoMore : Type 0 where
    pub serves : (d i : ℕ) → s.uses d i ≡ InService n → s'.uses d i ≡ InService n
        → probes_weight number size left' n (s'.block n) ≤ probes_weight number size left n (s.block n)
    pub acquires : (d i : ℕ) → s.uses d i ≡ Acquires n → s'.uses d i ≡ Acquires n
        → acquire_weight size (left' d Acquire n) (left' d Grant n) (probes_weight number size left' n (s'.block n))
        (view (s'.block n).service d) ≤ acquire_weight size (left d Acquire n) (left d Grant n)
        (probes_weight number size left n (s.block n)) (view (s.block n).service d)
    pub lets : (d i : ℕ) → s.lets d i ≡ Some n → s'.lets d i ≡ Some n → letting_weight (left' d Release n)
        ((s'.block n).pair d).letting ≤ letting_weight (left d Release n) ((s.block n).pair d).letting

  probes-else : (m : ℕ) → (m ≡ n → ⊥) → probes_weight number size left' m (s'.block m) ≤ probes_weight number size left
      m (s.block m)
  probes-else m other = probes-no-more config size left left' answer answer s s' m
      (λ d lt. pair-stays d m (rw (showing.blocks m other) refl) (rw (showing.blocks m other) refl))

  -- who acquires the block, and isn't served before and after
  pub unserved-stays : (d i m : ℕ) → s.uses d i ≡ Acquires m → s'.uses d i ≡ Acquires m
      → is_unserved (view (s.block m).service d) ≡ true → is_unserved (view (s'.block m).service d) ≡ true
      → acquire_weight size (left' d Acquire m) (left' d Grant m) (probes_weight number size left' m (s'.block m))
      (view (s'.block m).service d) ≤ acquire_weight size (left d Acquire m) (left d Grant m)
      (probes_weight number size left m (s.block m)) (view (s.block m).service d)
  unserved-stays d i m e f before after =
      let a = same d Acquire m (acquire-here showing.before d m (and_from _ _ (wants-used showing.before d i m e)
      before)) (acquire-here showing.after d m (and_from _ _ (wants-used showing.after d i m f) after)) in
      rw (
        unserved-weight size (left' d Acquire m) (left' d Grant m) (probes_weight number size left' m (s'.block m))
            (view (s'.block m).service d) after,
        unserved-weight size (left d Acquire m) (left d Grant m) (probes_weight number size left m (s.block m))
            _ before,
      ) (omega (arith, a))

  module _ (block : IsBlockNoMore) where
    -- a request that is used as before
    pub use-stays : (d i : ℕ) → s'.uses d i ≡ s.uses d i → owed_use' config size left left' answer answer s s' d
        i ≤ owed_use config size left left' answer answer s s' d i
    use-stays d i e = use-no-more config size left left' answer answer s s' d i (s.uses d i) refl e (omega arith)
        (λ u. same d Request i (request-here showing.before d i u) (request-here showing.after d i (e ∙ u)))
        (λ u. same d Answer i (answer-here showing.before d i u) (answer-here showing.after d i (e ∙ u)))
        (λ m u. serve m u (cases_eq m n)) (λ m u. acquire m u (cases_eq m n))
      where
        serve : (m : ℕ) → s.uses d i ≡ InService m → (m ≡ n) ⊎ (m ≡ n → ⊥)
            → probes_weight number size left' m (s'.block m) ≤ probes_weight number size left m (s.block m)
        serve m u (inl is) = rw is (block.serves d i (rw is at u) (rw is at (e ∙ u)))
        serve m u (inr other) = probes-else m other

        acquire : (m : ℕ) → s.uses d i ≡ Acquires m → (m ≡ n) ⊎ (m ≡ n → ⊥)
            → acquire_weight size (left' d Acquire m) (left' d Grant m) (probes_weight number size left' m (s'.block m))
            (view (s'.block m).service d) ≤ acquire_weight size (left d Acquire m) (left d Grant m)
            (probes_weight number size left m (s.block m)) (view (s.block m).service d)
        acquire m u (inl is) = rw is (block.acquires d i (rw is at u) (rw is at (e ∙ u)))
        acquire m u (inr other) = acquire-stays d m (wants-used showing.before d i m u)
            (rw (showing.blocks m other) refl) (rw (showing.blocks m other) refl) (probes-else m other)

    -- a Release that is of its block as before
    pub let-all : (d i : ℕ) → s'.lets d i ≡ s.lets d i → owed_let' config size left left' answer answer s s' d
        i ≤ owed_let config size left left' answer answer s s' d i
    let-all d i e =
        let go : (o : Option ℕ) → s.lets d i ≡ o → s'.lets d i ≡ o → let_weight left' s' d (s'.lets d i)
        ≤ let_weight left s d (s.lets d i) =
        elim [ None ↦ λ f g. rw (f, g) (omega arith) | Some m ↦ λ f g. rw (f, g) (at m f g (cases_eq m n)) ] in
        go (s.lets d i) refl e
      where
        at : (m : ℕ) → s.lets d i ≡ Some m → s'.lets d i ≡ Some m → (m ≡ n) ⊎ (m ≡ n → ⊥)
            → letting_weight (left' d Release m) ((s'.block m).pair d).letting ≤ letting_weight (left d Release m)
            ((s.block m).pair d).letting
        at m f g (inl is) = rw is (block.lets d i (rw is at f) (rw is at g))
        at m f g (inr other) = let-stays d m (rw (showing.blocks m other) refl)

-- ---- the answer to a request

abbrev pub is_read : OpA → Bool
is_read OpA.ArithmeticData = true
is_read OpA.LogicalData = true
is_read OpA.Get = true
is_read _ = false

-- the beats of the answer to an access
abbrev pub answer_beats : {w : ℕ} → Message w → ℕ
answer_beats {w} (Message.A m) = if is_read m.opcode then data_beats w m.size else 1
answer_beats _ = 1

-- the beats of the answer to each access
abbrev pub answer_to : {w : ℕ} → AccessMessages w → ℕ → ℕ → ℕ
answer_to mail c source = answer_beats (mail.request c source)

-- data have at most a block's beats
data-few : {w : ℕ} (m : MessageA w) → IsWidth w → data_beats w m.size ≤ 64 / w
data-few m width = beats-few (Message.D (record {
  opcode = OpD.AccessAckData;
  param = 0;
  size = m.size;
  source = 0;
  sink = 0;
  denied = false;
  payload = m.payload;
  corrupt = 0;
  small = m.small;
})) width

-- a block has four beats or more
pub wide-block : (w : ℕ) → IsWidth w → 4 ≤ 64 / w
wide-block w e = grind arith

answer-few : {w : ℕ} (m : Message w) → IsWidth w → answer_beats m ≤ 64 / w
answer-few m e = grind (arith, data-few, wide-block)

-- an answer has as many beats as its request is answered with
answer_opcode : (x : OpD) (o : OpA) (n : ℕ) → is_access_answer x ≡ true → answers x o ≡ true
    → (if d_carries_data x then n else 1) ≡ (if is_read o then n else 1)
answer_opcode x o n e f = grind arith

answer-is : {w : ℕ} (source : ℕ) (m x : Message w) → IsAnswer source m x → beats_of x ≡ answer_beats m
answer-is source m x e = grind (arith, answer_opcode)

-- ---- an access and its answer

-- an atomic has four bytes or eight
atomic-few : (w size : ℕ) → IsWidth w → is_one_of size (2 ∷ 3 ∷ []) ≡ true → data_beats w size ≤ 2
atomic-few w size width e = grind arith

both-few : (w size : ℕ) (l : Level) (o : OpA) → IsWidth w → a_has_size w l o size ≡ true → data_beats w size ≤ 64 / w
    → (if a_carries_data o then data_beats w size else 1) + (if is_read o then data_beats w size else 1) ≤ 64 / w + 1
both-few w size l o e f g = grind (arith, atomic-few, wide-block)

access_at : {w : ℕ} (o : Option Level) (m : MessageA w) → IsWidth w → illegal_message_at o (Message.A m) ≡ None
    → beats_of (Message.A m) + answer_beats (Message.A m) ≤ 64 / w + 1
access_at None m width e = absurd cc
access_at {w} (Some l) m width e =
    let one = next_rule (not (a_of_level l m.opcode)) L1 _ (control_of_legal l m width e) in
    let two = next_rule (not (a_has_param m.opcode m.param)) L2 _ one.1 in
    let three = next_rule (not (a_has_size w l m.opcode m.size)) L3 _ two.1 in
    both-few w m.size l m.opcode width (not-false _ three.0) (data-few m width)

access-few : {w : ℕ} (config : Config) (c source : ℕ) (m : Message w) → IsWidth w → IsRequest config c source m
    → beats_of m + answer_beats m ≤ 64 / w + 1
access-few config c source m e f = grind (arith, access_at)

-- ---- an Acquire, and a report

acquire-one : (w : ℕ) (x : AcquirePhase) (source n : ℕ) → beats_of (acquire_of {w = w} x source n) ≡ 1
acquire-one w x source n = grind arith

report-one : (w : ℕ) (p : Perm) (r : Report) (n : ℕ) (bytes : List ℕ) → same_perm p Perm.Trunk ≡ false
    → beats_of (probe_ack {w = w} OpB.ProbeBlock p r n bytes) ≡ 1
report-one w p r n bytes e = grind arith

untold : (p : ClientBlock) (v : View) → ok p v ≡ true → same_perm p.recorded Perm.Trunk ≡ false
    → same_perm (report_left (report_told p.probing)) Perm.Trunk ≡ false
untold p v h none =
    let go : (x : ProbePhase) → p.probing ≡ x → same_perm (report_left (report_told x)) Perm.Trunk ≡ false =
    elim [ ProbeAnswered r ↦ λ e. answered r e (same_perm (report_left r) Perm.Trunk) refl | x ↦ λ e. refl ] in
    go p.probing refl
  where
    answered : (r : Report) → p.probing ≡ ProbeAnswered r → (b : Bool) → same_perm (report_left r) Perm.Trunk ≡ b
        → b ≡ false
    answered r e false f = refl
    answered r e true f =
        let recorded = and_left (same_perm p.recorded Perm.Trunk) _ (data_carried p v h (rw e f)) in
        absurd (let both : false ≡ true = sym none ∙ recorded in cc)

-- ---- all

module _ {w : ℕ} (config : Config) {caching : ℕ → Bool} (mail : AccessMessages w) {s : State (List ℕ)} (rest : ℕ
    → Channel → List (Beat w)) (width : IsWidth w) (inv : IsInvariant caching s) (sourced : (c source : ℕ)
    → IsSourced config c source (mail.request c source) (s.uses c source)) where
  pub is-left : IsLeft (64 / w) (beats_left mail s rest) (answer_to mail) s
  unfolding block_message
  is-left = record {
    few = λ c k m. let all = left-few mail s rest c k m in let few = beats-few (message_of_kind k mail s c m) width in
        omega (arith, all, few);
    acquires = λ c m. let all = left-few mail s rest c Acquire m in let one =
        acquire-one w ((s.block m).pair c).acquiring ((s.block m).source c) m in omega (arith, all, one);
    reports = λ c m probed spared.
        let told = untold _ _ ((inv.blocks m).phases c) spared in
        let one = report-one w _ (report_told ((s.block m).pair c).probing) m (s.block m).truth told in
        omega (arith, left-few mail s rest c ProbeAck m, one);
    accesses = λ c source asked.
        let few = access-few config c source (mail.request c source) width (rw asked at (sourced c source)) in
        omega (arith, left-few mail s rest c Request source, few);
    answers = λ c source. answer-few (mail.request c source) width;
  }

  -- what is left of an answer
  pub answer-left : (c source : ℕ) → IsAnswered source (mail.request c source) (mail.answer c source) (s.uses c source)
      → s.uses c source ≡ Replied → beats_left mail s rest c Answer source ≤ answer_to mail c source
  answer-left c source answered replied = grind (arith, answer-is)
