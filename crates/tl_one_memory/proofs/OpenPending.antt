-- Where no beat breaks a rule of its link, an access with an open request is pending, or its answer outran the request.
use Rattle.tl_one_memory.proofs.Imports.{Beat, BeatD, Link, Trace, on_link, unfinished, Access, is_of, pending_accesses}
use Rattle.tl_one_memory.proofs.Imports.{same-some, IsPending}
use Rattle.std.proofs.Common.{◌≡◌, ℕ, suc, Bool, true, false, not, ◌&&◌, ◌⊎◌, List, [], ◌∷◌, length, inl, inr, refl}
use Rattle.std.proofs.Common.{sym, ap, ◌∙◌, subst}
use Rattle.std.specs.Prelude.{if◌then◌else◌, find, None, Option, Some, ◌==◌}
use Rattle.std.proofs.lemmas.Bool.{and_parts, cases_eq, eq-eqb, eqb-true, not-false, or_right}
use Rattle.tl_beat.{specs.declared.beat.BeatA.BeatA, specs.declared.channel.Channel.Channel}
use Rattle.tl_burst.proofs.ControlFields.{control_a}
use Rattle.tl_burst.specs.statement.Messages.{History, breaks_burst, same_control}
use Rattle.tl_params.specs.declared.level.Level.{Level}
use Rattle.tl_rules.proofs.Tables.{request-next}
use Rattle.tl_rules.specs.code.Open.{request_fields}
use Rattle.tl_rules.specs.code.Tables.{kept_request}
use Rattle.tl_rules.specs.declared.past.Request.{Request}
use Rattle.tl_rules.specs.statement.Conformance.{comes_in_request}
use Rattle.tl_rules.specs.statement.History.{begins, ends, is_release_ack}
unfoldable use Rattle.tl_rules.specs.statement.History.{pending}
use Rattle.tl_params.specs.declared.key.Key.TheVariants.{RequestSource}
use Rattle.tl_beat.specs.statement.Width.{IsWidth}
use Rattle.tl_burst.specs.statement.Part.{is_empty}
use Rattle.tl_rules.specs.statement.Liberties.{broken_after_under, is_legal_under}
use Rattle.tl_bytes.proofs.Finding.{none-some}
use Rattle.tl_bytes.specs.statement.Bytes.{asked_by, asked_since, asks, asks_new, is_access, is_put}
use Rattle.tl_bytes.specs.statement.Early.{Outrun, is_outrun_of, outruns}
unfoldable use Rattle.tl_bytes.specs.statement.Early.{outrun_accesses}
use Rattle.tl_bytes.specs.statement.Free.{all_liberties}
use Rattle.tl_memory.specs.statement.Links.{AreLegal}
use Rattle.tl_memory.proofs.lawful.Answering.{fields_of, kept-now}
use Rattle.tl_memory.proofs.lawful.Lawful.{goes_on}
use Rattle.tl_memory.proofs.lawful.Open.{IsOpen, completes_answer}
use Rattle.tl_memory.proofs.lawful.OpenAccesses.{IsFine, found-still, is-fine, legal-on, other-link, own-link}
use Rattle.tl_memory.proofs.lawful.Outrunning.{IsOut, kept-pending, out-before, out-still, outrun-from}

pub no : true ≡ false → ⊥
no e = cc

-- what was open before a beat on its link that begins no request with its source
open-before : {w : ℕ} (l : Level) (s : ℕ) (asked : Request) (x : Beat w) (t : History w)
    → broken_after_under all_liberties l x t ≡ None → IsOpen s asked (x ∷ t)
    → ((y : BeatA w) → x ≡ Beat.A y → (y.source == s) ≡ false)
    → IsOpen s asked t × (completes_answer s x t ≡ false)
unfolding unfinished
open-before {w} l s asked (Beat.A y) t fine o other =
    (record { kept = kept; complete = go (unfinished Channel.A t) (goes_on l (Beat.A y) t fine) }, refl)
  where
    at : (first own : Bool) → own ≡ false → (if first && own then request_fields (Some y) else kept_request s t) ≡ kept_request s t
    at true own e = rw e refl
    at false own e = refl

    kept : kept_request s t ≡ Some asked
    kept = sym (request-next s (Beat.A y) t ∙ at (begins (Beat.A y) t) (y.source == s) (other y refl)) ∙ o.kept

    go : (burst : List (Beat w)) → breaks_burst (Beat.A y) burst ≡ false → comes_in_request s burst ≡ false
    go (Beat.A z ∷ older) e =
        rw (← (control_a y z (not-false (same_control (Beat.A y) (Beat.A z)) e)).3) (other y refl)
    go [] e = refl
    go (Beat.B z ∷ older) e = refl
    go (Beat.C z ∷ older) e = refl
    go (Beat.D z ∷ older) e = refl
    go (Beat.E z ∷ older) e = refl
open-before l s asked (Beat.D y) t fine o other =
    go (completes_answer s (Beat.D y) t) refl (sym (request-next s (Beat.D y) t) ∙ o.kept)
  where
    go : (b : Bool) → completes_answer s (Beat.D y) t ≡ b → (if b then None else kept_request s t) ≡ Some asked
        → IsOpen s asked t × (completes_answer s (Beat.D y) t ≡ false)
    go true e kept = absurd (none-some asked kept)
    go false e kept = (record { kept = kept; complete = o.complete }, e)
open-before l s asked (Beat.B y) t fine o other =
    (record { kept = sym (request-next s (Beat.B y) t) ∙ o.kept; complete = o.complete }, refl)
open-before l s asked (Beat.C y) t fine o other =
    (record { kept = sym (request-next s (Beat.C y) t) ∙ o.kept; complete = o.complete }, refl)
open-before l s asked (Beat.E y) t fine o other =
    (record { kept = sym (request-next s (Beat.E y) t) ∙ o.kept; complete = o.complete }, refl)

-- ---- an answer that outran its request and is complete

-- a request that isn't pending isn't after a beat that doesn't begin it
unopened : (first own closed p : Bool) → first ≡ false → p ≡ false
    → (if first && own then true else (if closed then false else p)) ≡ false
unopened first own true p e f = rw e refl
unopened first own false p e f = rw e f

closed : (first closes p : Bool) → p ≡ false
    → (if first && false then true else (if closes then false else p)) ≡ false
closed true true p e = refl
closed true false p e = e
closed false true p e = refl
closed false false p e = e

-- so it is while more of its beats are to come
closed-still : {w : ℕ} (s : ℕ) (x : Beat w) (h : History w) → comes_in_request s (unfinished Channel.A h) ≡ true
    → pending (RequestSource s) h ≡ false → pending (RequestSource s) (x ∷ h) ≡ false
unfolding pending
closed-still {w} s (Beat.A y) h come was =
    unopened (begins (Beat.A y) h) (y.source == s) (ends (Beat.A y) h && false) (pending (RequestSource s) h)
    (go (unfinished Channel.A h) come) was
  where
    go : (burst : List (Beat w)) → comes_in_request s burst ≡ true → is_empty burst ≡ false
    go [] e = absurd cc
    go (z ∷ older) e = refl
closed-still s (Beat.D y) h come was =
    closed (begins (Beat.D y) h) (ends (Beat.D y) h && (not (is_release_ack y.opcode) && (y.source == s)))
    (pending (RequestSource s) h) was
closed-still s (Beat.B y) h come was =
    closed (begins (Beat.B y) h) (ends (Beat.B y) h && false) (pending (RequestSource s) h) was
closed-still s (Beat.C y) h come was =
    closed (begins (Beat.C y) h) (ends (Beat.C y) h && false) (pending (RequestSource s) h) was
closed-still s (Beat.E y) h come was =
    closed (begins (Beat.E y) h) (ends (Beat.E y) h && false) (pending (RequestSource s) h) was

-- with the last beat of its answer a request isn't pending any more
closed-now : {w : ℕ} (s : ℕ) (y : BeatD w) (h : History w) → outruns y h ≡ true → ends (Beat.D y) h ≡ true
    → y.source ≡ s → pending (RequestSource s) (Beat.D y ∷ h) ≡ false
unfolding pending
closed-now s y h early last source =
    rw (last, (and_parts (not (is_release_ack y.opcode)) _ early).0, eq-eqb y.source s source)
    (go (begins (Beat.D y) h))
  where
    go : (first : Bool) → (if first && false then true else false) ≡ false
    go true = refl
    go false = refl

-- the request of an access whose answer is complete, and outran it, isn't pending
answered-closed : {w : ℕ} (levels : List Level) → IsWidth w → (c s : ℕ) (a : Outrun) (t : Trace w) → AreLegal levels t
    → IsOut c s a t → a.answered ≡ true → pending (RequestSource s) (on_link c t) ≡ false
unfolding outrun_accesses
answered-closed levels is c s a [] legal out answered = absurd (none-some a out)
answered-closed {w} levels is c s a (x ∷ t) legal out answered = elim (out-before c s a x t out) [
  | inl old ↦ elim (cases_eq x.0.0 c) [
    | inr other ↦ rw (other-link c x t other) (answered-closed levels is c s a t legal.1 old.0 answered)
    | inl own ↦ rw (own-link c x t own) (closed-still s x.1 (on_link c t)
        ((outrun-from levels is c s a t legal.1 old.0).comes answered)
        (answered-closed levels is c s a t legal.1 old.0 answered))
  ]
  | inr now ↦
      let history : on_link c (x ∷ t) ≡ Beat.D now.answer ∷ on_link x.0.0 t =
      ap (λ n. on_link n (x ∷ t)) now.link_is ∙ own-link x.0.0 x t refl
      ∙ ap (λ b. b ∷ on_link x.0.0 t) now.beat_is in
      let last : ends (Beat.D now.answer) (on_link x.0.0 t) ≡ true =
      ap (λ (k : Outrun). k.answered) (sym now.access_is) ∙ answered in
      rw history (closed-now s now.answer (on_link x.0.0 t) now.outruns_it last (sym now.source_is))
]

-- ---- an open request

-- an access with this source of the link is pending, or its answer outran its request
abbrev pub IsPendingOrOut : {w : ℕ} → ℕ → ℕ → Trace w → Type 0
IsPendingOrOut {w} c s t = ((access : Access w) × IsPending c s access t) ⊎ ((a : Outrun) × IsOut c s a t)

-- so it is with the last beat of its request
asked-pending : {w : ℕ} (levels : List Level) (is : IsWidth w) (l : Level) (c s : ℕ) (asked : Request) (link : Link)
    (y : BeatA w) (t : Trace w) → AreLegal levels t → is_legal_under all_liberties l (on_link link.0 t) ≡ true
    → broken_after_under all_liberties l (Beat.A y) (on_link link.0 t) ≡ None → link.0 ≡ c → (y.source == s) ≡ true
    → IsOpen s asked (Beat.A y ∷ on_link link.0 t) → is_access asked.opcode ≡ true
    → IsPendingOrOut c s ((link, Beat.A y) ∷ t)
unfolding unfinished pending_accesses
asked-pending {w} levels is l c s asked link y t legal lawful fine own source o accesses =
    go (ends (Beat.A y) past) refl o.complete
  where
    past : History w
    past = on_link link.0 t

    waits : pending (RequestSource s) (Beat.A y ∷ past) ≡ true
    waits = kept-pending s asked (Beat.A y ∷ past) o.kept

    source_is : y.source ≡ s
    source_is = eqb-true y.source s source

    same : fields_of y ≡ asked
    same = same-some asked (fields_of y) (sym o.kept
        ∙ ap (λ n. kept_request n (Beat.A y ∷ past)) (sym source_is)
        ∙ kept-now l y past lawful fine (ap (λ n. pending (RequestSource n) (Beat.A y ∷ past)) source_is ∙ waits))

    -- its answer outran it, and isn't complete
    out : (a : Outrun) → IsOut c s a t → IsPendingOrOut c s ((link, Beat.A y) ∷ t)
    out a is_out = by a.answered refl
      where
        by : (b : Bool) → a.answered ≡ b → IsPendingOrOut c s ((link, Beat.A y) ∷ t)
        by false e =
            let still = out-still levels c s a (link, Beat.A y) t is_out e (λ same. refl) in
            inr (still.0, still.1)
        by true e =
            let come = (outrun-from levels is c s a t legal is_out).comes e in
            let gone = closed-still s (Beat.A y) (on_link c t) come (answered-closed levels is c s a t legal is_out e) in
            absurd (no (sym waits ∙ ap (λ n. pending (RequestSource s) (Beat.A y ∷ on_link n t)) own ∙ gone))

    go : (last : Bool) → ends (Beat.A y) past ≡ last
        → comes_in_request s (if last then [] else Beat.A y ∷ unfinished Channel.A past) ≡ false
        → IsPendingOrOut c s ((link, Beat.A y) ∷ t)
    go false e coming = absurd (no (sym source ∙ coming))
    go true e coming = found (find (is_outrun_of link.0 y.source) (outrun_accesses t)) refl
      where
        asking : asks y past ≡ true
        asking = rw (e, ap (λ (r : Request). is_access r.opcode) same ∙ accesses) (or_right (is_put y.opcode) true refl)

        new : find (is_outrun_of link.0 y.source) (outrun_accesses t) ≡ None
            → asks_new link.0 y past (outrun_accesses t) ≡ true
        new none = rw (asking, none) refl

        found : (o : Option Outrun) → find (is_outrun_of link.0 y.source) (outrun_accesses t) ≡ o
            → IsPendingOrOut c s ((link, Beat.A y) ∷ t)
        found None f = inl (
          asked_by link.0 y (Beat.A y ∷ unfinished Channel.A past)
              (asked_since (find (is_of link.0 y.source) (pending_accesses t)) (suc (length t))),
          rw (new f, eq-eqb link.0 c own, source) refl,
        )
        found (Some a) f = out a (rw (← own, ← source_is) f)

-- with one more beat
one-more : {w : ℕ} (levels : List Level) (width : IsWidth w) (c s : ℕ) (asked : Request) (x : Link × Beat w) (t : Trace w)
    → AreLegal levels (x ∷ t) → IsOpen s asked (on_link c (x ∷ t)) → is_access asked.opcode ≡ true
    → (IsOpen s asked (on_link c t) → IsPendingOrOut c s t) → IsPendingOrOut c s (x ∷ t)
one-more {w} levels width c s asked x t legal o accesses earlier = elim (cases_eq x.0.0 c) [
  | inr other ↦ still (rw (other-link c x t other) at o) (λ own. absurd (other own))
  | inl own ↦ mine own x.1 refl
]
  where
    f : IsFine all_liberties levels x t
    f = is-fine _ levels x t legal.0

    still : IsOpen s asked (on_link c t) → (x.0.0 ≡ c → completes_answer s x.1 (on_link c t) ≡ false)
        → IsPendingOrOut c s (x ∷ t)
    still opened unended = elim (earlier opened) [
      | inl before ↦ inl (before.0, found-still levels c s asked x t legal.0 opened unended ∙ before.1)
      | inr out ↦
          let from = outrun-from levels width c s out.0 t legal.1 out.1 in
          let kept = out-still levels c s out.0 x t out.1 (unanswered out.0.answered refl (from.comes)) (λ own.
          ap (λ n. completes_answer s x.1 (on_link n t)) own ∙ unended own) in
          inr (kept.0, kept.1)
    ]
      where
        unanswered : (b : Bool) {a : Bool} → a ≡ b → (a ≡ true → comes_in_request s (unfinished Channel.A (on_link c t))
            ≡ true) → a ≡ false
        unanswered false e comes = e
        unanswered true e comes = absurd (no (sym (comes e) ∙ opened.complete))

    mine : x.0.0 ≡ c → (b : Beat w) → x.1 ≡ b → IsPendingOrOut c s (x ∷ t)
    mine own b is = by b refl
      where
        history : on_link c (x ∷ t) ≡ b ∷ on_link c t
        history = own-link c x t own ∙ ap (λ v. v ∷ on_link c t) is

        fine : broken_after_under all_liberties f.level b (on_link c t) ≡ None
        fine = ap (λ v. broken_after_under all_liberties f.level v (on_link c t)) (sym is)
            ∙ ap (λ m. broken_after_under all_liberties f.level x.1 (on_link m t)) (sym own) ∙ f.fine

        opened : IsOpen s asked (b ∷ on_link c t)
        opened = subst (λ (h : History w). IsOpen s asked h) history o

        -- the beat begins no request with this source
        before : ((y : BeatA w) → b ≡ Beat.A y → (y.source == s) ≡ false) → IsPendingOrOut c s (x ∷ t)
        before other =
            let was = open-before f.level s asked b (on_link c t) fine opened other in
            still was.0 (λ same. ap (λ v. completes_answer s v (on_link c t)) is ∙ was.1)

        new : (y : BeatA w) → b ≡ Beat.A y → (y.source == s) ≡ true → IsPendingOrOut c s (x ∷ t)
        new y e source =
            subst (λ (v : Beat w). IsPendingOrOut c s ((x.0, v) ∷ t)) (sym (is ∙ e))
            (asked-pending levels width f.level c s asked x.0 y t legal.1 (legal-on _ levels x.0.0 f.level t f.has_level legal.1)
            (ap (λ v. broken_after_under all_liberties f.level v (on_link x.0.0 t)) (sym (is ∙ e)) ∙ f.fine) own source
            (subst (λ (m : ℕ). IsOpen s asked (Beat.A y ∷ on_link m t)) (sym own)
            (subst (λ (v : Beat w). IsOpen s asked (v ∷ on_link c t)) e opened)) accesses)

        by : (v : Beat w) → b ≡ v → IsPendingOrOut c s (x ∷ t)
        by (Beat.A y) e = which (y.source == s) refl
          where
            same_a : (z : BeatA w) → Beat.A y ≡ Beat.A z → y ≡ z
            same_a z g = cc

            which : (own_source : Bool) → (y.source == s) ≡ own_source → IsPendingOrOut c s (x ∷ t)
            which true g = new y e g
            which false g = before (λ z h. ap (λ (k : BeatA w). k.source == s) (sym (same_a z (sym e ∙ h))) ∙ g)
        by (Beat.B y) e = before (λ z h. absurd (let k : Beat.B y ≡ Beat.A z = sym e ∙ h in cc))
        by (Beat.C y) e = before (λ z h. absurd (let k : Beat.C y ≡ Beat.A z = sym e ∙ h in cc))
        by (Beat.D y) e = before (λ z h. absurd (let k : Beat.D y ≡ Beat.A z = sym e ∙ h in cc))
        by (Beat.E y) e = before (λ z h. absurd (let k : Beat.E y ≡ Beat.A z = sym e ∙ h in cc))

pub open-pending : {w : ℕ} (levels : List Level) → IsWidth w → (c s : ℕ) (asked : Request) (t : Trace w)
    → AreLegal levels t → IsOpen s asked (on_link c t) → is_access asked.opcode ≡ true → IsPendingOrOut c s t
unfolding on_link pending
open-pending levels width c s asked [] legal o accesses = absurd (none-some asked o.kept)
open-pending levels width c s asked (x ∷ t) legal o accesses =
    one-more levels width c s asked x t legal o accesses
    (λ opened. open-pending levels width c s asked t legal.1 opened accesses)
