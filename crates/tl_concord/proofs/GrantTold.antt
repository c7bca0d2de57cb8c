-- What a Grant says of a block: who had nothing of it gets the bytes of the one memory, or writes them all.
use Rattle.tl_concord.proofs.Imports.{Beat, BeatD, OpD, Message, beat_of, begun, d_beat_of, History, unfinished, Config}
use Rattle.tl_concord.proofs.Imports.{Perm, same_perm, Memory, ends, grants, held, request_of, says_held, carried_byte}
use Rattle.tl_concord.proofs.Imports.{could_be, tells_late, is_access_answer, Acquire, Answer, Grant, GrantAck, Kind, Probe}
use Rattle.tl_concord.proofs.Imports.{ProbeAck, Release, ReleaseAck, Request, Acquires, is_on, packet, AbstractState}
use Rattle.tl_concord.proofs.Imports.{block_message, message_of, message_of_kind, MonitorRelations, SimulationRelation}
use Rattle.tl_concord.proofs.Imports.{is_caching, flow, IsGiven, Log, system_after, one_memory_after, flowed}
use Rattle.tl_concord.proofs.Imports.{matched-given, IsGrantDue, answer-due, grant-due, grant-rendered, own_view}
use Rattle.tl_concord.proofs.Imports.{IsNext, IsFirst, first-token, and_left, and_right}
use Rattle.std.proofs.Common.{◌≡◌, ℕ, Bool, true, false, not, ◌&&◌, ◌||◌, ◌+◌, ◌*◌, ◌<◌, List, [], ◌∷◌, Some, refl, sym}
use Rattle.std.proofs.Common.{◌∙◌, ap, subst}
use Rattle.std.specs.Prelude.{length, map, suc, unwrap_or}
use Rattle.tl_beat.specs.declared.channel.Channel.{Channel}
use Rattle.tl_burst.specs.statement.Burst.{lanes_at}
use Rattle.tl_params.{specs.declared.param.Cap.Cap, specs.statement.Param.cap_right}
use Rattle.tl_rules.{specs.statement.Admission.lanes_of, specs.statement.History.capped}
use Rattle.tl_bytes.specs.statement.Bytes.{asks_unread, tells_granted}
use Rattle.tl_manager.specs.statement.Handing.{grant_opcode}
use Rattle.tl_coherence.specs.{protocol.Phase.cap_fits, refinement.SimulationRelation.asked_by}
use Rattle.tl_coherence.proofs.{deliveries.Matching.shadow, flow.Windowed.grants_no_access}
use Rattle.tl_coherence.proofs.{protocol.HeadOfD.ack_message, protocol.HeadOfD.grant_message}
use Rattle.tl_coherence.proofs.flow.NextOnD.{IsGrantBeat, grant-next, grant_sent}
use Rattle.tl_concord.{proofs.Beats.same_d, proofs.Carried.carried-begun, proofs.GrantAsked.grant-asked}
use Rattle.tl_concord.{proofs.ReportTold.IsToldBy, proofs.ReportTold.said_of}

-- the lanes of a beat of a Grant are those of its data, if it has data
pub grant_lanes : (w : ℕ) (d : Bool) (k : Cap) (source sink : ℕ) (truth : List ℕ) (i : ℕ)
    → lanes_of {w = w} (Beat.D (d_beat_of (grant_message d k source sink truth) i))
    ≡ unwrap_or (lanes_at d w truth i) []
grant_lanes w true k source sink truth i = refl
grant_lanes w false k source sink truth i = refl

pub same_acquire : (n j : ℕ) → Acquires n ≡ Acquires j → j ≡ n
same_acquire n j e = cc

module _ {w : ℕ} (config : Config) (log : Log w) (given : IsGiven config log) (c : ℕ) (y : BeatD w)
    (queue : List (Beat w)) (beats : (system_after config log).channels c Channel.D ≡ Beat.D y ∷ queue) where
  abbrev h : AbstractState w
  h = shadow config log

  is : SimulationRelation config log h.mail h.request h.state (system_after config log)
  is = matched-given config log given

  values : MonitorRelations log h.mail h.state (system_after config log)
  values = flowed config log given.width given.typed given.is_log

  abbrev memory : Memory
  memory = (one_memory_after config log).memory

  abbrev past : History w
  past = flow c log

  -- the Grant that is next, and what of it has come
  pub record IsGrantBurst (n : ℕ) : Type 0 where
    pub due : IsGrantDue c n h.state
    pub k : ℕ
    pub beat_is : y ≡ d_beat_of (grant_sent c n h.state due) k
    pub rest_is : unfinished Channel.D past ≡ begun (Message.D (grant_sent c n h.state due)) k

  no_grant : {n : ℕ} → IsGrantBeat c n h.state y (length (unfinished Channel.D past)) → {o : OpD} → y.opcode ≡ o
      → ((d : Bool) → grant_opcode d ≡ o → ⊥) → ⊥
  no_grant grant e never =
      never grant.due.data_too (sym (ap (λ (z : BeatD w). z.opcode) grant.beat_is) ∙ e)

  pub grant-burst : (n : ℕ) → grants n y past ≡ true → IsGrantBurst n
  unfolding block_message
  grant-burst n granted = go first.kind first.number first.tokens first.own first.next
    where
      first : IsFirst Channel.D c h.mail h.state (system_after config log) (Beat.D y) queue
      first = first-token (is_caching config) Channel.D c h.mail h.state (system_after config log) (Beat.D y) queue
          given.width is.invariant is.carried beats

      grant : IsGrantBeat c n h.state y (length (unfinished Channel.D past))
      grant = grant-next config log h c y queue given.width is values beats n granted

      Next : Kind → ℕ → Type 0
      Next k i = IsNext (Beat.D y) (unfinished Channel.D ((system_after config log).clients c).past)
          (message_of_kind k h.mail h.state c i) (map (message_of h.mail h.state c) first.rest) queue

      same_block : (i : ℕ) (due : IsGrantDue c i h.state) (k : ℕ) → y ≡ d_beat_of (grant_sent c i h.state due) k → i ≡ n
      same_block i due k e = same_acquire n i (sym grant.due.used
          ∙ ap (h.state.uses c) (sym (ap (λ (z : BeatD w). z.source) grant.beat_is) ∙ ap (λ (z : BeatD w). z.source) e)
          ∙ due.used)

      of_block : (i : ℕ) → i ≡ n → IsGrantBurst i → IsGrantBurst n
      of_block i e burst = subst (λ (j : ℕ). IsGrantBurst j) e burst

      go : (k : Kind) (i : ℕ) → (h.state.link c).d ≡ packet k i ∷ first.rest → is_on Channel.D k ≡ true → Next k i
          → IsGrantBurst n
      go Grant i tokens own next = of_block i (same_block i due next.k beat_is) (record {
        due = due;
        k = next.k;
        beat_is = beat_is;
        rest_is = (values c).rest_is Channel.D ∙ next.rest_is
            ∙ ap (λ (z : Message w). begun z next.k) (grant-rendered c i h.state due);
      })
        where
          due : IsGrantDue c i h.state
          due = grant-due (is_caching config) c i first.rest h.state is.invariant tokens

          beat_is : y ≡ d_beat_of (grant_sent c i h.state due) next.k
          beat_is = same_d y (d_beat_of (grant_sent c i h.state due) next.k)
              (next.beat_is ∙ ap (λ (z : Message w). beat_of z next.k) (grant-rendered c i h.state due))
      go Answer i tokens own next =
          let due = answer-due (is_caching config) c i first.rest h.mail h.state is.invariant (is.answered c i) tokens
          in
          let e : y ≡ d_beat_of due.answer next.k = same_d y (d_beat_of due.answer next.k)
          (next.beat_is ∙ ap (λ (m : Message w). beat_of m next.k) due.answer_is) in
          absurd (no_grant grant (ap (λ (z : BeatD w). z.opcode) e) (λ d f.
          let no : false ≡ true = sym (grants_no_access d) ∙ ap is_access_answer f ∙ due.answers_access in cc))
      go ReleaseAck i tokens own next =
          absurd (no_grant grant (ap (λ (z : BeatD w). z.opcode)
          (same_d y (d_beat_of (ack_message ((h.state.block i).release_source c)) next.k)
          (next.beat_is ∙ acked i next.k))) not_ack)
        where
          acked : (i k : ℕ) → beat_of (message_of_kind ReleaseAck h.mail h.state c i) k
              ≡ Beat.D (d_beat_of (ack_message ((h.state.block i).release_source c)) k)
          acked i k = refl

          not_ack : (d : Bool) → grant_opcode d ≡ OpD.ReleaseAck → ⊥
          not_ack true f = cc
          not_ack false f = cc
      go Request i tokens own next = absurd cc
      go Acquire i tokens own next = absurd cc
      go Probe i tokens own next = absurd cc
      go ProbeAck i tokens own next = absurd cc
      go Release i tokens own next = absurd cc
      go GrantAck i tokens own next = absurd cc

  -- ---- what it tells

  -- the request that it answers is the one that the client has open
  unread : (n : ℕ) (due : IsGrantDue c n h.state) → y.source ≡ (h.state.block n).source c → due.whole ≡ true
      → asks_unread (request_of y.source past) ≡ true
  unfolding block_message
  unread n due from whole =
      ap asks_unread (grant-asked config log given c n due y.source from) ∙ read
    where
      read : asks_unread (asked_by h.mail h.state c ((h.state.block n).source c)) ≡ true
      read = rw (due.used, due.wants, whole) refl

  -- who isn't told held Branch
  held_branch : (n : ℕ) (due : IsGrantDue c n h.state) → due.data_too ≡ false → due.whole ≡ false
      → same_perm ((h.state.block n).pair c).held Perm.Branch ≡ true
  held_branch n due bare part = last due.whole due.data_too part bare
      (and_right (cap_fits due.whole due.g due.k) _
      (and_right (same_perm ((h.state.block n).pair c).recorded (cap_right due.k)) _ due.fits))
    where
      last : (whole d : Bool) → whole ≡ false → d ≡ false
          → not (whole && d) && (whole || (d || same_perm ((h.state.block n).pair c).held Perm.Branch)) ≡ true
          → same_perm ((h.state.block n).pair c).held Perm.Branch ≡ true
      last false false e f g = g
      last v u e f g = absurd cc

  pub grant-told : (block : ℕ) → IsToldBy memory block (Beat.D y) past
  grant-told block = record { told = told; untold = untold }
    where
      told : tells_late block (Beat.D y) past ≡ true → (place : ℕ) → place < 64
          → could_be (memory (64 * block + place)) (carried_byte (Beat.D y ∷ unfinished Channel.D past) place) ≡ true
      told e place lt =
          rw (whole, is.beside.memory block place lt)
          (carried-begun (Message.D (grant_sent c block h.state burst.due)) burst.due.data_too
          (h.state.block block).truth (grant_lanes w burst.due.data_too burst.due.k ((h.state.block block).source c)
          (h.state.block block).tracker (h.state.block block).truth) (suc burst.k) place)
        where
          burst : IsGrantBurst block
          burst = grant-burst block (and_left (grants block y past) _ (and_right (ends (Beat.D y) past) _ e))

          whole : Beat.D y ∷ unfinished Channel.D past
              ≡ begun (Message.D (grant_sent c block h.state burst.due)) (suc burst.k)
          whole = ap (λ (z : BeatD w). Beat.D z ∷ unfinished Channel.D past) burst.beat_is
              ∙ ap (λ (r : List (Beat w)). Beat.D (d_beat_of (grant_sent c block h.state burst.due) burst.k) ∷ r)
              burst.rest_is

      untold : (p : Perm) → ends (Beat.D y) past ≡ true → says_held block (Beat.D y) past ≡ Some p
          → tells_late block (Beat.D y) past ≡ false
          → (held block past ≡ Perm.None → p ≡ Perm.None) × (same_perm (held block past) Perm.Trunk ≡ false)
      untold p last said e = go burst.due.data_too burst.due.whole refl refl
        where
          granted : grants block y past ≡ true
          granted = (said_of (grants block y past) (capped y.param) p said).0

          burst : IsGrantBurst block
          burst = grant-burst block granted

          taken : y.denied ≡ false
          taken = ap (λ (z : BeatD w). z.denied) burst.beat_is

          quiet : tells_granted y.opcode (request_of y.source past) ≡ false
          quiet = false_from (tells_granted y.opcode (request_of y.source past))
              (λ f. let no : true ≡ false = sym (rw (last, granted, taken, f) refl) ∙ e in cc)
            where
              false_from : (d : Bool) → (d ≡ true → ⊥) → d ≡ false
              false_from false f = refl
              false_from true f = absurd (f refl)

          opcode : y.opcode ≡ grant_opcode burst.due.data_too
          opcode = ap (λ (z : BeatD w). z.opcode) burst.beat_is

          held_is : held block past ≡ ((h.state.block block).pair c).held
          held_is = (values c).held_is block
              ∙ rw (own_view c burst.due.data_too burst.due.k (h.state.block block).service burst.due.service) refl

          of_branch : (q : Perm) → same_perm q Perm.Branch ≡ true → held block past ≡ q
              → (held block past ≡ Perm.None → p ≡ Perm.None) × (same_perm (held block past) Perm.Trunk ≡ false)
          of_branch Perm.Branch f g =
              (λ none. absurd (let no : Perm.Branch ≡ Perm.None = sym g ∙ none in cc), rw g refl)
          of_branch v f g = absurd cc

          go : (d whole : Bool) → burst.due.data_too ≡ d → burst.due.whole ≡ whole
              → (held block past ≡ Perm.None → p ≡ Perm.None) × (same_perm (held block past) Perm.Trunk ≡ false)
          go true whole f g = absurd (let no : true ≡ false =
              sym (ap (λ (o : OpD). tells_granted o (request_of y.source past)) (opcode ∙ ap grant_opcode f)) ∙ quiet in
              cc)
          go false true f g = absurd (let no : true ≡ false =
              sym (unread block burst.due (ap (λ (z : BeatD w). z.source) burst.beat_is) g)
              ∙ sym (ap (λ (o : OpD). tells_granted o (request_of y.source past)) (opcode ∙ ap grant_opcode f)) ∙ quiet
              in cc)
          go false false f g = of_branch ((h.state.block block).pair c).held (held_branch block burst.due f g) held_is
