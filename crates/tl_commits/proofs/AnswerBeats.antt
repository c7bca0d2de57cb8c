-- How many beats of the answer to a pending access have come, with one more beat.
use Rattle.std.proofs.Common.{◌≡◌, ℕ, zero, suc, Bool, true, false, not, ◌&&◌, ◌+◌, List, [], ◌∷◌, length, refl, sym}
use Rattle.std.proofs.Common.{ap, ap₂, ◌∙◌, ◌⊎◌, inl, inr, arith, find}
use Rattle.std.proofs.lemmas.Bool.{cases_Bool, cases_eq, eq-eqb, eqb-true, ne_eqb, not-false}
use Rattle.std.specs.Prelude.{if◌then◌else◌, ◌==◌, is_some, nat_lt, Some}
use Rattle.tl_beat.specs.declared.beat.Beat.{Beat}
use Rattle.tl_beat.specs.declared.beat.BeatA.{BeatA}
use Rattle.tl_beat.specs.declared.beat.BeatD.{BeatD}
use Rattle.tl_beat.specs.declared.beat.Link.{Link}
use Rattle.tl_beat.specs.declared.channel.Channel.{Channel}
use Rattle.tl_beat.specs.statement.Width.{IsWidth}
use Rattle.tl_burst.proofs.ControlFields.{control_d}
use Rattle.tl_burst.specs.statement.Messages.{breaks_burst, burst_length, on, same_control}
unfoldable use Rattle.tl_burst.specs.statement.Messages.{unfinished}
use Rattle.tl_bytes.proofs.Pending.{IsPending}
use Rattle.tl_bytes.specs.statement.Bytes.{Access}
use Rattle.tl_bytes.specs.statement.Early.{is_outrun_of}
unfoldable use Rattle.tl_bytes.specs.statement.Early.{outrun_accesses}
use Rattle.tl_memory.proofs.lawful.Answering.{goes_on_d}
use Rattle.tl_memory.proofs.messages.Expecting.{off_channel, served}
use Rattle.tl_memory.proofs.lawful.Open.{ack-whole, completes_answer}
use Rattle.tl_memory.proofs.lawful.OpenAccesses.{answered-gone, other-link, own-link}
use Rattle.tl_memory.specs.statement.Links.{AreLegal, IsLegal}
use Rattle.tl_params.specs.declared.level.Level.{Level}
use Rattle.tl_rules.specs.statement.Conformance.{Trace}
unfoldable use Rattle.tl_rules.specs.statement.Conformance.{on_link}
use Rattle.tl_rules.specs.statement.History.{ends, is_release_ack}
use Rattle.tl_commits.specs.code.Reading.{answer_beats, is_of}
use Rattle.tl_commits.specs.declared.reading.Reading.{Reading}
use Rattle.tl_commits.specs.statement.Events.{Events}
unfoldable use Rattle.tl_commits.specs.statement.Events.{beats_of}
unfoldable use Rattle.tl_commits.specs.statement.True.{before_last_seen}
use Rattle.tl_commits.proofs.PendingReads.{IsFor, answers}
use Rattle.tl_events.specs.declared.commit.Event.{Event}
use Rattle.tl_events.specs.declared.commit.Event.TheVariants as event
use Rattle.tl_commits.proofs.AskedAnew.{differ, goes-on, no-request}

-- those of an empty burst, and of one that a beat of channel D began
answer-own : {w : ℕ} (s : ℕ) (y : BeatD w) (older : List (Beat w)) → y.source ≡ s
    → answer_beats s (Beat.D y ∷ older) ≡ suc (length older)
answer-own s y older own = rw (eq-eqb y.source s own) refl

answer-other : {w : ℕ} (s : ℕ) (y : BeatD w) (older : List (Beat w)) → (y.source ≡ s → ⊥)
    → answer_beats s (Beat.D y ∷ older) ≡ 0
answer-other s y older other = rw (ne_eqb y.source s other) refl

module _ {w : ℕ} (levels : List Level) (width : IsWidth w) (link : Link) (x : Beat w) (e : Events w)
    (legal : AreLegal levels (beats_of e)) (fine : IsLegal levels (link, x) (beats_of e)) where
  abbrev t : Trace w
  t = beats_of e

  abbrev b : Link × Event w
  b = (link, event.Beat x)

  module _ (c s : ℕ) where
    abbrev before : List (Beat w)
    before = unfinished Channel.D (on_link c t)

    abbrev after : List (Beat w)
    after = unfinished Channel.D (on_link c ((link, x) ∷ t))

    -- no answer to an access is under way that is asked for with the beat
    pub none-comes : (y : BeatA w) → x ≡ Beat.A y → c ≡ link.0 → s ≡ y.source
        → not (is_some (find (is_outrun_of link.0 y.source) (outrun_accesses t))) ≡ true → answer_beats s before ≡ 0
    none-comes y is own source bare = go before refl
      where
        comes : (z : BeatD w) (older : List (Beat w)) → before ≡ Beat.D z ∷ older → z.source ≡ s → ⊥
        comes z older at here = elim (served levels width c t legal z older at) [
          | inl one ↦ no-request levels width link x e legal fine c z.source one.0 y is (sym own) (sym source ∙ sym here) one.1
          | inr one ↦
              let out : find (is_outrun_of link.0 y.source) (outrun_accesses t) ≡ Some one.1.0 =
              ap₂ (λ i j. find (is_outrun_of i j) (outrun_accesses t)) (sym own) (sym source ∙ sym here) ∙ one.1.1 in
              differ (sym bare ∙ ap (λ o. not (is_some o)) out)
        ]

        go : (beats : List (Beat w)) → before ≡ beats → answer_beats s beats ≡ 0
        go [] at = refl
        go (Beat.D z ∷ older) at = elim (cases_eq z.source s) [
          | inl here ↦ absurd (comes z older at here)
          | inr other ↦ answer-other s z older other
        ]
        go (Beat.A z ∷ older) at = refl
        go (Beat.B z ∷ older) at = refl
        go (Beat.C z ∷ older) at = refl
        go (Beat.E z ∷ older) at = refl

    -- The answer to the access isn't under way before and after the beat, or the events before it are the same.
    abbrev IsStep : ℕ → ℕ → Type 0
    IsStep k l = ((k ≡ 0) × (l ≡ 0))
        ⊎ ((j : ℕ) × (l ≡ suc j) × (before_last_seen c l (b ∷ e) ≡ before_last_seen c k e))

    stays : after ≡ before → (link.0 == c) && on Channel.D x ≡ false → IsStep (answer_beats s before) (answer_beats s after)
    unfolding before_last_seen
    stays same off = rw same (go (answer_beats s before))
      where
        go : (k : ℕ) → IsStep k k
        go zero = inl (refl, refl)
        go (suc k) = inr (k, refl, rw off refl)

    off-step : (link.0 ≡ c → on Channel.D x ≡ false)
        → (after ≡ before) × ((link.0 == c) && on Channel.D x ≡ false)
    off-step off = elim (cases_eq link.0 c) [
      | inl own ↦ (
        ap (unfinished Channel.D) (own-link c (link, x) t own) ∙ off_channel x (on_link c t) (off own),
        rw (eq-eqb link.0 c own, off own) refl,
      )
      | inr other ↦ (ap (unfinished Channel.D) (other-link c (link, x) t other), rw (ne_eqb link.0 c other) refl)
    ]

    module _ (z : BeatD w) (is : x ≡ Beat.D z) (own : link.0 ≡ c) where
      -- the beats before it are those of its message
      goes : (y : BeatD w) (older : List (Beat w)) → before ≡ Beat.D y ∷ older
          → (z.opcode ≡ y.opcode) × (z.source ≡ y.source)
      goes y older at =
          let cont : breaks_burst (Beat.D z) (Beat.D y ∷ older) ≡ false =
          ap (breaks_burst (Beat.D z)) (sym (ap (λ i. unfinished Channel.D (on_link i t)) own ∙ at))
          ∙ goes-on levels width link x e legal fine (Beat.D z) is in
          let same = control_d z y (not-false (same_control (Beat.D z) (Beat.D y)) cont) in
          (same.0, same.3)

      of-d : (v : Beat w) (older : List (Beat w)) → before ≡ v ∷ older → (y : BeatD w) × (v ≡ Beat.D y)
      of-d v older at = goes_on_d z v older (ap (breaks_burst (Beat.D z))
          (sym (ap (λ i. unfinished Channel.D (on_link i t)) own ∙ at))
          ∙ goes-on levels width link x e legal fine (Beat.D z) is)

      -- those of its answer are all of them, if it has the source
      pub own-beats : z.source ≡ s → answer_beats s before ≡ length before
      own-beats here = go before refl
        where
          go : (beats : List (Beat w)) → before ≡ beats → answer_beats s beats ≡ length beats
          go [] at = refl
          go (v ∷ older) at =
              let one = of-d v older at in
              let at_d : before ≡ Beat.D one.0 ∷ older = at ∙ ap (λ u. u ∷ older) one.1 in
              rw one.1 (answer-own s one.0 older (sym (goes one.0 older at_d).1 ∙ here))

      -- and else none
      other-beats : (z.source ≡ s → ⊥) → answer_beats s before ≡ 0
      other-beats apart = go before refl
        where
          go : (beats : List (Beat w)) → before ≡ beats → answer_beats s beats ≡ 0
          go [] at = refl
          go (v ∷ older) at =
              let one = of-d v older at in
              let at_d : before ≡ Beat.D one.0 ∷ older = at ∙ ap (λ u. u ∷ older) one.1 in
              rw one.1 (answer-other s one.0 older (λ same. apart ((goes one.0 older at_d).1 ∙ same)))

      grown : after ≡ (if ends (Beat.D z) (on_link c t) then [] else Beat.D z ∷ before)
      unfolding unfinished
      grown = ap (unfinished Channel.D) (own-link c (link, x) t own) ∙ rw is refl

      -- a message that ends with it, and has beats before it, is no ReleaseAck
      no-ack : (y : BeatD w) (older : List (Beat w)) → before ≡ Beat.D y ∷ older
          → ends (Beat.D z) (on_link c t) ≡ true → is_release_ack z.opcode ≡ false
      no-ack y older at last = elim (cases_Bool (is_release_ack z.opcode)) [
        | inr bare ↦ bare
        | inl ack ↦
            let one : burst_length (Beat.D z) ≡ 1 = ack-whole z ack in
            let count : length before ≡ suc (length older) = ap length at in
            let whole : length before + 1 ≡ burst_length (Beat.D z) =
            eqb-true (length before + 1) (burst_length (Beat.D z)) last in
            absurd (omega (arith, one, count, whole))
      ]

      -- the last beat of an answer ends the access
      last-beats : (p : Access w) → IsPending c s p ((link, x) ∷ t) → ends (Beat.D z) (on_link c t) ≡ true
          → answer_beats s before ≡ 0
      last-beats p pending last = elim (cases_eq z.source s) [
        | inr apart ↦ other-beats apart
        | inl here ↦ go here before refl
      ]
        where
          go : z.source ≡ s → (beats : List (Beat w)) → before ≡ beats → answer_beats s beats ≡ 0
          go here [] at = refl
          go here (v ∷ older) at =
              let one = of-d v older at in
              let bare = no-ack one.0 older (at ∙ ap (λ u. u ∷ older) one.1) last in
              let completes : completes_answer s x (on_link link.0 t) ≡ true =
              rw (is, own, last, bare, eq-eqb z.source s here) refl in
              absurd (answered-gone c s p (link, x) t own completes pending)

      counted : (k : ℕ) → before_last_seen c (suc k) (b ∷ e) ≡ before_last_seen c k e
      unfolding before_last_seen
      counted k = rw (eq-eqb link.0 c own, is) refl

      -- with a beat of channel D of its link
      own-step : (p : Access w) → IsPending c s p ((link, x) ∷ t) → IsStep (answer_beats s before) (answer_beats s after)
      own-step p pending = elim (cases_Bool (ends (Beat.D z) (on_link c t))) [
        | inl last ↦ inl (last-beats p pending last, ap (answer_beats s) (rw last at grown))
        | inr more ↦ elim (cases_eq z.source s) [
          | inl here ↦
              let count : answer_beats s after ≡ suc (length before) =
              ap (answer_beats s) (rw more at grown) ∙ answer-own s z before here in
              inr (
                length before,
                count,
                ap (λ k. before_last_seen c k (b ∷ e)) count ∙ counted (length before)
                    ∙ ap (λ k. before_last_seen c k e) (sym (own-beats here)),
              )
          | inr apart ↦ inl (
            other-beats apart,
            ap (answer_beats s) (rw more at grown) ∙ answer-other s z before apart,
          )
        ]
      ]

      -- whether its answer has begun then
      own-begun : (r : Reading) → IsFor r c s → r.begun ≡ nat_lt 0 (answer_beats s before)
          → (if is_of link.0 z.source r then nat_lt 0 (length (unfinished Channel.D (on_link link.0 ((link, x) ∷ t))))
          else r.begun) ≡ nat_lt 0 (answer_beats s after)
      own-begun r for was = elim (cases_eq z.source s) [
        | inl here ↦
            let mine : is_of link.0 z.source r ≡ true =
            rw (eq-eqb r.link.0 link.0 (for.link_is ∙ sym own), eq-eqb r.source z.source (for.source_is ∙ sym here)) refl in
            rw mine (ap (λ i. nat_lt 0 (length (unfinished Channel.D (on_link i ((link, x) ∷ t))))) own ∙ all here)
        | inr apart ↦
            let not_mine : is_of link.0 z.source r ≡ false =
            rw (ne_eqb r.source z.source (λ same. apart (sym same ∙ for.source_is))) (off (r.link.0 == link.0)) in
            rw not_mine (was ∙ ap (nat_lt 0) (other-beats apart ∙ sym (none apart)))
      ]
        where
          off : (v : Bool) → v && false ≡ false
          off true = refl
          off false = refl

          all : z.source ≡ s → nat_lt 0 (length after) ≡ nat_lt 0 (answer_beats s after)
          all here = elim (cases_Bool (ends (Beat.D z) (on_link c t))) [
            | inl last ↦ rw (rw last at grown) refl
            | inr more ↦ rw (rw more at grown, answer-own s z before here) refl
          ]

          none : (z.source ≡ s → ⊥) → answer_beats s after ≡ 0
          none apart = elim (cases_Bool (ends (Beat.D z) (on_link c t))) [
            | inl last ↦ ap (answer_beats s) (rw last at grown)
            | inr more ↦ ap (answer_beats s) (rw more at grown) ∙ answer-other s z before apart
          ]

    -- ---- with any beat

    abbrev IsNext : Reading → Type 0
    IsNext r = IsStep (answer_beats s before) (answer_beats s after)
        × ((if answers link x r then nat_lt 0 (length (unfinished Channel.D (on_link link.0 ((link, x) ∷ t))))
        else r.begun) ≡ nat_lt 0 (answer_beats s after))

    apart-next : (r : Reading) → (link.0 ≡ c → on Channel.D x ≡ false) → answers link x r ≡ false
        → r.begun ≡ nat_lt 0 (answer_beats s before) → IsNext r
    apart-next r off none was =
        let same = off-step off in
        (stays same.0 same.1, rw none (was ∙ ap (λ beats. nat_lt 0 (answer_beats s beats)) (sym same.0)))

    pub next : (r : Reading) (p : Access w) → IsFor r c s → IsPending c s p ((link, x) ∷ t)
        → r.begun ≡ nat_lt 0 (answer_beats s before) → IsNext r
    next r p for pending was = go x refl
      where
        go : (y : Beat w) → x ≡ y → IsNext r
        go (Beat.D z) is = elim (cases_eq link.0 c) [
          | inl own ↦ (
            own-step z is own p pending,
            ap (λ v. if answers link v r
                then nat_lt 0 (length (unfinished Channel.D (on_link link.0 ((link, x) ∷ t)))) else r.begun) is
                ∙ own-begun z is own r for was,
          )
          | inr other ↦ apart-next r (λ own. absurd (other own))
              (ap (λ v. answers link v r) is ∙ rw (ne_eqb r.link.0 link.0 (λ same. other (sym same ∙ for.link_is))) refl) was
        ]
        go (Beat.A z) is = apart-next r (λ own. ap (on Channel.D) is) (ap (λ v. answers link v r) is) was
        go (Beat.B z) is = apart-next r (λ own. ap (on Channel.D) is) (ap (λ v. answers link v r) is) was
        go (Beat.C z) is = apart-next r (λ own. ap (on Channel.D) is) (ap (λ v. answers link v r) is) was
        go (Beat.E z) is = apart-next r (λ own. ap (on Channel.D) is) (ap (λ v. answers link v r) is) was

    -- a beat of channel A leaves it at none
    pub asked-none : (y : BeatA w) → x ≡ Beat.A y → answer_beats s before ≡ 0 → answer_beats s after ≡ 0
    asked-none y is none = ap (answer_beats s) (off-step (λ own. ap (on Channel.D) is)).0 ∙ none
