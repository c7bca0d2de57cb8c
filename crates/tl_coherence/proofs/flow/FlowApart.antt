-- What an event leaves of what is delivered on a link: each value is as before, where the event isn't of the link, or
-- comes of a beat of it that is accounted for.
use Rattle.std.proofs.Common.{◌≡◌, ℕ, Bool, true, false, ◌&&◌, ◌==◌, List, Option, Some, None}
use Rattle.std.proofs.Common.{refl, sym, ◌∙◌, subst, arith, inl, inr}
use Rattle.tl_coherence.proofs
use proofs.Imports.{cases_eq, Beat, BeatA, Channel, Cap, Grow, Prune, Report, Packet, set, set_at}
use proofs.Imports.{is_unprobed, Acquires, Block, Free, GrantSent, GrantTaken, InService, Replied}
use proofs.Imports.{SourceState, State, Waits, access_answered, access_asked, access_served, acquire_asked}
use proofs.Imports.{acquire_granted, answer_taken, block_stored}
use proofs.Imports.{grant_ack_taken, grant_taken}
use proofs.Imports.{probe_taken, release_ack_taken, release_asked, release_taken}
use proofs.Imports.{report_answers, report_grants, report_taken, reported_block, served_block}
use proofs.Imports.{view, is_answered, is_granting}
use proofs.flow.FlowOthers.{same-performed, same-served}
use proofs.flow.FlowOthers.{same-granted_at_once, same-probed, same-reported, same-settled, same-granted, same-given}
use proofs.flow.FlowOthers.{same-let, same-let_go, same-taken, same-freed, same-acquiring, same-releasing, same-stored}
use proofs.flow.FlowAlone.{IsSameBlock, same-block, is_heard, IsSameUse, IsComing, IsAside}
use proofs.client.AsideAll.{set_at-other, set_at-else}
use proofs.queues.Tokens.{set-same, set-other, set-each, set-part, set_at-same}

-- the access with this source is answered, as far as its link is concerned
abbrev pub replied : {X : Type 0} → ℕ → ℕ → State X → State X
replied c source s = record s { uses = set_at c source Replied s.uses }

uses-heard : (c source : ℕ) (u v : SourceState) (uses : ℕ → ℕ → SourceState) → is_heard u ≡ true → is_heard v ≡ true
    → (d i : ℕ) → IsSameUse (set_at c source u uses d i) (set_at c source v uses d i)
uses-heard c source u v uses was is d i = grind arith

-- another value at one place, and then a third one
set-again : {Y : Type 0} (n : ℕ) (y z : Y) (f : ℕ → Y) (m : ℕ) → set n z f m ≡ set n z (set n y f) m
set-again n y z f m = elim (cases_eq m n) [
  | inl same ↦ rw (same, set-same n z f, set-same n z (set n y f)) refl
  | inr other ↦ rw (set-other n m z f other, set-other n m z (set n y f) other) (sym (set-other n m y f other))
]

module _ {w : ℕ} {X : Type 0} (d : ℕ) (asked asked' : ℕ → Option (BeatA w)) (rest : Channel → List (Beat w))
    (s : State X) (asks : (i : ℕ) → asked' i ≡ asked i) (coming : IsComing asked (rest Channel.D) d s) where
  -- ---- a state that differs in block n alone

  -- what is delivered is as it was
  abbrev pub IsLeft : State X → Type 0
  IsLeft s' = IsAside asked asked' rest d s s'

  apart-at : (n : ℕ) {b : Block X} (s' : State X) → ((m : ℕ) → s'.block m ≡ set n b s.block m)
      → IsSameBlock d (s.block n) b → ((i : ℕ) → IsSameUse (s.uses d i) (s'.uses d i))
      → ((i : ℕ) → s'.lets d i ≡ s.lets d i) → IsLeft s'
  apart-at n {b} s' changed same uses lets = record {
    blocks = λ m. subst (λ z. IsSameBlock d (s.block m) z) (sym (changed m))
        (set-each (λ j z. IsSameBlock d (s.block j) z) n b s.block same (λ j ne. same-block d (s.block j)) m);
    uses = uses;
    lets = lets;
    asked_is = asks;
    coming = coming;
  }

  -- another client's access is asked for, answered or ended
  apart-use : (c source : ℕ) (u : SourceState) (s' : State X) → (d ≡ c → ⊥) → s'.block ≡ s.block → s'.lets ≡ s.lets
      → s'.uses ≡ set_at c source u s.uses → IsLeft s'
  apart-use c source u s' ne blocks lets uses = record {
    blocks = λ m. rw blocks (same-block d (s.block m));
    uses = λ i. inl (rw uses (set_at-other c d source i u s.uses ne));
    lets = λ i. rw lets refl;
    asked_is = asks;
    coming = coming;
  }

  -- ---- another client is asked

  pub left-access_asked : (c source : ℕ) → (d ≡ c → ⊥) → IsLeft (access_asked c source s)
  left-access_asked c source ne = apart-use c source _ (access_asked c source s) ne refl refl refl

  pub left-acquire_asked : (c n source : ℕ) (whole : Bool) (g : Grow) (bytes : X) → (d ≡ c → ⊥)
      → IsLeft (acquire_asked c n source whole g bytes s)
  left-acquire_asked c n source whole g bytes ne = apart-at n _ (λ m. refl)
      (same-acquiring d c source whole g bytes (s.block n) ne)
      (λ i. inl (set_at-other c d source i (Acquires n) s.uses ne)) (λ i. refl)

  pub left-release_asked : (c n source : ℕ) (r : Prune) → (d ≡ c → ⊥) → IsLeft (release_asked c n source r s)
  left-release_asked c n source r ne = apart-at n _ (λ m. refl) (same-releasing d c source r (s.block n) ne)
      (λ i. inl refl) (λ i. set_at-other c d source i (Some n) s.lets ne)

  pub left-block_stored : (c n : ℕ) (bytes : X) → IsLeft (block_stored c n bytes s)
  left-block_stored c n bytes =
      apart-at n _ (λ m. refl) (same-stored d c bytes (s.block n)) (λ i. inl refl) (λ i. refl)

  -- ---- a request is taken

  pub left-replied : (c source : ℕ) → (d ≡ c → ⊥) → IsLeft (replied c source s)
  left-replied c source ne = apart-use c source Replied (replied c source s) ne refl refl refl

  pub left-served : (r n source tracker : ℕ) (own : Bool) (k : Cap) (s' : State X)
      → ((m : ℕ) → s'.block m ≡ set n (served_block r own source tracker k (s.block n)) s.block m)
      → (own && (d == r)) ≡ false → (s.block n).service ≡ Free → is_unprobed ((s.block n).pair d).probing ≡ true
      → ((i : ℕ) → IsSameUse (s.uses d i) (s'.uses d i)) → ((i : ℕ) → s'.lets d i ≡ s.lets d i) → IsLeft s'
  left-served r n source tracker own k s' changed other free quiet =
      apart-at n s' changed (same-served d r source tracker own k (s.block n) other free quiet)

  pub left-acquire_granted : (r n tracker : ℕ) (x : Bool) (k : Cap) (toks : List Packet) → (d ≡ r → ⊥)
      → (s.block n).service ≡ Free → is_answered ((s.block n).pair d).probing ≡ false
      → IsLeft (acquire_granted r n tracker x k toks s)
  left-acquire_granted r n tracker x k toks ne free quiet = apart-at n _ (λ m. refl)
      (same-granted_at_once d r tracker x k (s.block n) ne free quiet) (λ i. inl refl) (λ i. refl)

  -- ---- Probes, ProbeAcks and Releases

  pub left-probe_taken : (c n : ℕ) (k : Cap) (toks : List Packet) → (d ≡ c → ⊥) → IsLeft (probe_taken c n k toks s)
  left-probe_taken c n k toks ne =
      apart-at n _ (λ m. refl) (same-probed d c k (s.block n) ne) (λ i. inl refl) (λ i. refl)

  pub left-report_taken : (c n : ℕ) (r : Report) (toks : List Packet) → (d ≡ c → ⊥) → IsLeft (report_taken c n r toks s)
  left-report_taken c n r toks ne =
      apart-at n _ (λ m. refl) (same-reported d c r (s.block n) ne) (λ i. inl refl) (λ i. refl)

  pub left-release_taken : (c n : ℕ) (r : Prune) (toks : List Packet) → (d ≡ c → ⊥)
      → IsLeft (release_taken c n r toks s)
  left-release_taken c n r toks ne =
      apart-at n _ (λ m. refl) (same-let d c r (s.block n) ne) (λ i. inl refl) (λ i. refl)

  -- ---- responses and GrantAcks

  pub left-answer_taken : (c source : ℕ) (toks : List Packet) → (d ≡ c → ⊥) → IsLeft (answer_taken c source toks s)
  left-answer_taken c source toks ne = apart-use c source _ (answer_taken c source toks s) ne refl refl refl

  pub left-grant_taken : (c n : ℕ) (whole x : Bool) (k : Cap) (toks : List Packet) → (d ≡ c → ⊥)
      → (s.block n).service ≡ GrantSent c x k → IsLeft (grant_taken c n whole x k toks s)
  left-grant_taken c n whole x k toks ne sent = apart-at n _ (λ m. refl)
      (same-taken d c whole x k (s.block n) ne sent)
      (λ i. inl (set_at-other c d ((s.block n).source c) i _ s.uses ne)) (λ i. refl)

  pub left-release_ack_taken : (c n : ℕ) (toks : List Packet) → (d ≡ c → ⊥) → IsLeft (release_ack_taken c n toks s)
  left-release_ack_taken c n toks ne = apart-at n _ (λ m. refl) (same-let_go d c (s.block n) ne) (λ i. inl refl)
      (λ i. set_at-other c d ((s.block n).release_source c) i None s.lets ne)

  pub left-grant_ack_taken : (c n : ℕ) (toks : List Packet) → (d ≡ c → ⊥) → (s.block n).service ≡ GrantTaken c
      → IsLeft (grant_ack_taken c n toks s)
  left-grant_ack_taken c n toks ne taken =
      apart-at n _ (λ m. refl) (same-freed d c (s.block n) ne taken) (λ i. inl refl) (λ i. refl)

-- ---- an access, after its last beat

module _ {w : ℕ} {X : Type 0} (d : ℕ) (asked asked' : ℕ → Option (BeatA w)) (rest : Channel → List (Beat w))
    (s : State X) (asks : (i : ℕ) → asked' i ≡ asked i) (coming : IsComing asked (rest Channel.D) d s) where
  pub left-access_answered : (c n source : ℕ) (f : X → X) (toks : List Packet)
      → IsAside asked asked' rest d (replied c source s) (access_answered c n source f toks s)
  left-access_answered c n source f toks = apart-at d asked asked' rest (replied c source s) asks coming n
      (access_answered c n source f toks s) (λ m. refl) (same-performed d f (s.block n)) (λ i. inl refl) (λ i. refl)

  pub left-access_served : (c n source tracker : ℕ) (k : Cap) (toks : List Packet) → (s.block n).service ≡ Free
      → is_unprobed ((s.block n).pair d).probing ≡ true
      → IsAside asked asked' rest d (replied c source s) (access_served c n source tracker k toks s)
  left-access_served c n source tracker k toks free quiet = left-served d asked asked' rest (replied c source s)
      asks coming c n source tracker false k (access_served c n source tracker k toks s) (λ m. refl) refl free quiet
      (uses-heard c source Replied (InService n) s.uses refl refl d) (λ i. refl)

  -- ---- a ProbeAck that is the last one, after its last beat

  module _ (c n : ℕ) (r : Report) (toks : List Packet) where
    abbrev between : State X
    between = report_taken c n r toks s

    new_is : between.block n ≡ reported_block c r (s.block n)
    new_is = set-same n (reported_block c r (s.block n)) s.block

    coming_still : IsComing asked (rest Channel.D) d between
    coming_still m e = set-part (λ z. is_granting (view z.service d)) n (reported_block c r (s.block n))
        s.block refl m ∙ coming m e

    unanswered : ((i : ℕ) → (i ≡ c → ⊥) → is_answered ((s.block n).pair i).probing ≡ false)
        → is_answered ((reported_block c r (s.block n)).pair d).probing ≡ false
    unanswered quiet = grind (arith, cases_eq)

    settled-at : {b : Block X} (s' : State X) → ((m : ℕ) → s'.block m ≡ set n b s.block m)
        → IsSameBlock d (reported_block c r (s.block n)) b → ((i : ℕ) → IsSameUse (s.uses d i) (s'.uses d i))
        → ((i : ℕ) → s'.lets d i ≡ s.lets d i) → IsAside asked asked' rest d between s'
    settled-at {b} s' changed same uses lets = apart-at d asked asked' rest between asks coming_still n s'
        (λ m. changed m ∙ set-again n (reported_block c r (s.block n)) b s.block m) (rw new_is same) uses lets

    pub left-report_answers : (q source : ℕ) (k : Cap) (f : X → X) → (s.block n).service ≡ Waits q false source k
        → ((i : ℕ) → (i ≡ c → ⊥) → is_answered ((s.block n).pair i).probing ≡ false)
        → is_heard (s.uses q source) ≡ true
        → IsAside asked asked' rest d (report_taken c n r toks s) (report_answers c q n source r f toks s)
    left-report_answers q source k f waits quiet heard = settled-at (report_answers c q n source r f toks s)
        (λ m. refl) (same-settled d c q source r k f (s.block n) waits (unanswered quiet)) uses (λ i. refl)
      where
        uses : (i : ℕ) → IsSameUse (s.uses d i) (set_at q source Replied s.uses d i)
        uses i = elim (cases_eq i source) [
          | inl same ↦ elim (cases_eq d q) [
            | inl here ↦ inr (rw (here, same) heard, rw (here, same, set_at-same q source Replied s.uses) refl)
            | inr ne ↦ inl (set_at-other q d source i Replied s.uses ne)
          ]
          | inr other ↦ inl (set_at-else q source i Replied s.uses other d)
        ]

    pub left-report_grants : (q source : ℕ) (j k : Cap) (x : Bool) → (s.block n).service ≡ Waits q true source j
        → ((i : ℕ) → (i ≡ c → ⊥) → is_answered ((s.block n).pair i).probing ≡ false) → (q ≡ c → ⊥)
        → ((s.block n).pair q).held ≡ ((s.block n).pair q).recorded
        → IsAside asked asked' rest d (report_taken c n r toks s) (report_grants c q n r x k toks s)
    left-report_grants q source j k x waits quiet apart even =
        settled-at (report_grants c q n r x k toks s) (λ m. refl) (elim (cases_eq d q) [
          | inl here ↦ rw here (same-given c q source r j k x (s.block n) apart waits even (quiet q apart))
          | inr other ↦ same-granted d c q source r j k x (s.block n) other waits (unanswered quiet)
        ]) (λ i. inl refl) (λ i. refl)
