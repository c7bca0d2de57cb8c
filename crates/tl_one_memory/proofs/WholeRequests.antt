-- Requests that are complete with a beat, or were so before it, and the last bytes of a Put.
use Rattle.tl_one_memory.proofs.Imports.{Beat, Link, Trace, on_link, unfinished, Access, same-some, IsPending}
use Rattle.std.proofs.Common.{◌≡◌, ◌+◌, ◌-◌, ◌*◌, ◌/◌, ◌<◌, ◌≤◌, arith, ℕ, Bool, true, false, List, [], ◌∷◌, inl, inr}
use Rattle.std.proofs.Common.{length, refl, sym, ap, ◌∙◌}
use Rattle.std.specs.Prelude.{if◌then◌else◌, IsTrue, None, ◌==◌, nat_le}
use Rattle.std.proofs.Math.Nat.{div-eq_of_lt}
use Rattle.std.proofs.lemmas.Bool.{lt-leb, cases_eq, eqb-true, not-false, or_right}
use Rattle.tl_beat.{specs.declared.beat.BeatA.BeatA, specs.declared.channel.Channel.Channel}
use Rattle.tl_beat.specs.statement.Width.{IsWidth}
use Rattle.tl_burst.proofs.ControlFields.{control_a}
use Rattle.tl_burst.specs.statement.Burst.{data_beats}
use Rattle.tl_burst.specs.statement.Messages.{History, burst_length, same_control}
use Rattle.tl_params.specs.declared.level.Level.{Level}
use Rattle.tl_rules.specs.declared.past.Request.{Request}
use Rattle.tl_rules.specs.statement.Conformance.{comes_in_request}
use Rattle.tl_rules.specs.statement.History.{ends}
use Rattle.tl_rules.specs.statement.Liberties.{broken_after_under}
use Rattle.tl_bytes.specs.statement.Bytes.{asks, is_access, is_put}
use Rattle.tl_bytes.specs.statement.Free.{all_liberties}
use Rattle.tl_bytes.proofs.Pending.{AsksNot}
use Rattle.tl_memory.specs.statement.Links.{AreLegal, IsLegal}
use Rattle.tl_memory.proofs.lawful.Answering.{fields_of, last-request}
use Rattle.tl_memory.proofs.lawful.Outrunning.{kept-fields}
use Rattle.tl_memory.proofs.lawful.Lawful.{goes_on}
use Rattle.tl_memory.proofs.lawful.Open.{IsOpen}
use Rattle.tl_memory.proofs.lawful.OpenAccesses.{IsFine, IsRequestOf, is-fine, legal-link, other-link, own-link}
use Rattle.tl_memory.proofs.values.Puts.{put-carries}
use Rattle.tl_one_memory.proofs.OpenPending.{no}
use Rattle.tl_one_memory.proofs.Outrun.{asks-or, never-both}

-- where a beat doesn't ask for an access, and its request is complete with it, that was so before
pub complete-before : {w : ℕ} (levels : List Level) (c s : ℕ) (p : Access w) (asked : Request) (x : Link × Beat w)
    (t : Trace w)
    → AreLegal levels t → IsLegal levels x t → IsPending c s p t → IsRequestOf c s p t → AsksNot c s x t
    → IsOpen s asked (on_link c (x ∷ t))
    → comes_in_request s (unfinished Channel.A (on_link c t)) ≡ false
unfolding unfinished
complete-before {w} levels c s p asked x t legal fine pending k unasked o = go (unfinished Channel.A (on_link c t)) refl
  where
    go : (burst : List (Beat w)) → unfinished Channel.A (on_link c t) ≡ burst → comes_in_request s burst ≡ false
    go (Beat.A z ∷ older) e = by (z.source == s) refl
      where
        same : z.source ≡ s → k.asked ≡ fields_of z
        same source =
            let l = legal-link levels c t legal in
            same-some (fields_of z) k.asked (sym (last-request l.0 (on_link c t) z older l.1 e)
            ∙ rw source (kept-fields s k.asked (on_link c t) k.is_kept))

        accesses : z.source ≡ s → is_access z.opcode ≡ true
        accesses source = ap (λ (r : Request). is_access r.opcode) (sym (same source)) ∙ k.accesses

        f : IsFine all_liberties levels x t
        f = is-fine _ levels x t fine

        -- the burst is unfinished with the beat
        goes : (z.source == s) ≡ true → x.0.0 ≡ c → (b : Beat w) → x.1 ≡ b
            → comes_in_request s (unfinished Channel.A (b ∷ on_link c t)) ≡ true
        goes own link (Beat.A y) is = this (ends (Beat.A y) (on_link c t)) refl
          where
            fine_y : broken_after_under all_liberties f.level (Beat.A y) (on_link c t) ≡ None
            fine_y = ap (λ b. broken_after_under all_liberties f.level b (on_link c t)) (sym is)
                ∙ ap (λ m. broken_after_under all_liberties f.level x.1 (on_link m t)) (sym link) ∙ f.fine

            alike : IsTrue (same_control (Beat.A y) (Beat.A z))
            alike = not-false (same_control (Beat.A y) (Beat.A z))
                (rw e at (goes_on f.level (Beat.A y) (on_link c t) fine_y))

            this : (last : Bool) → ends (Beat.A y) (on_link c t) ≡ last
                → comes_in_request s (if last then [] else Beat.A y ∷ unfinished Channel.A (on_link c t)) ≡ true
            this false g = rw (control_a y z alike).3 own
            this true g = absurd (asks-or x.0.0 y (on_link x.0.0 t) t asking
                (λ new. unasked y is new (sym link) (sym source))
                (λ a out. never-both c s p a t pending (rw (← link, ← source) out)))
              where
                source : y.source ≡ s
                source = (control_a y z alike).3 ∙ eqb-true z.source s own

                asking : asks y (on_link x.0.0 t) ≡ true
                asking = rw (link, g, ap is_access (control_a y z alike).0 ∙ accesses (eqb-true z.source s own))
                    (or_right (is_put y.opcode) true refl)
        goes own link (Beat.B y) is = rw e own
        goes own link (Beat.C y) is = rw e own
        goes own link (Beat.D y) is = rw e own
        goes own link (Beat.E y) is = rw e own

        by : (b : Bool) → (z.source == s) ≡ b → b ≡ false
        by false own = refl
        by true own = elim (cases_eq x.0.0 c) [
          | inr other ↦ absurd (no (sym own ∙ (rw (other-link c x t other, e) at o.complete)))
          | inl link ↦ absurd (no (sym (goes own link x.1 refl)
              ∙ ap (λ h. comes_in_request s (unfinished Channel.A h)) (sym (own-link c x t link)) ∙ o.complete))
        ]
    go [] e = refl
    go (Beat.B z ∷ older) e = refl
    go (Beat.C z ∷ older) e = refl
    go (Beat.D z ∷ older) e = refl
    go (Beat.E z ∷ older) e = refl

-- the access reads the byte at an address, or writes it with its last beat

-- with the last beat of a request it is whole
pub whole-now : {w : ℕ} (s : ℕ) (z : BeatA w) (h : History w)
    → comes_in_request s (unfinished Channel.A (Beat.A z ∷ h)) ≡ false
    → (z.source == s) ≡ true → length (unfinished Channel.A h) + 1 ≡ burst_length (Beat.A z)
unfolding unfinished
whole-now {w} s z h coming own = go (length (unfinished Channel.A h) + 1 == burst_length (Beat.A z)) refl coming
  where
    go : (last : Bool) → (length (unfinished Channel.A h) + 1 == burst_length (Beat.A z)) ≡ last
        → comes_in_request s (if last then [] else Beat.A z ∷ unfinished Channel.A h) ≡ false
        → length (unfinished Channel.A h) + 1 ≡ burst_length (Beat.A z)
    go true e coming = eqb-true (length (unfinished Channel.A h) + 1) (burst_length (Beat.A z)) e
    go false e coming = absurd (no (sym own ∙ coming))

pub put-beats : {w : ℕ} (z : BeatA w) → is_put z.opcode ≡ true → burst_length (Beat.A z) ≡ data_beats w z.size
put-beats z put = rw (put-carries z.opcode put) refl

-- the byte at its address is in the first beat of an answer
pub in-first : (w base k : ℕ) → IsWidth w → (base - w * (base / w)) / w ≤ k
in-first w base k is = omega (arith, div-eq_of_lt (within is))
  where
    within : IsWidth w → base - w * (base / w) < w
    within (inl e) = rw e (omega arith)
    within (inr (inl e)) = rw e (omega arith)
    within (inr (inr e)) = rw e (omega arith)

-- a byte that came with one of k beats isn't of the last one, which comes after those
pub came-before : (w base from size other address k : ℕ) → base ≡ from → size ≡ other → k + 1 ≡ data_beats w other
    → address - w * (from / w) < w * k → nat_le (w * data_beats w size) (address - w * (base / w) + w) ≡ false
came-before w base from size other address k e f beats lt =
    let one : w * (k + 1) ≡ w * k + w = omega arith in
    let more : w * data_beats w size ≡ w * k + w = ap (λ i. w * data_beats w i) f ∙ ap (λ i. w * i) (sym beats) ∙ one in
    let place : address - w * (base / w) ≡ address - w * (from / w) = ap (λ i. address - w * (i / w)) e in
    lt-leb (w * data_beats w size) (address - w * (base / w) + w) (omega (arith, more, place, lt))

-- the request that is kept is one
