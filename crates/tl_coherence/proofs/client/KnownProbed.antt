-- What a client knows after a Probe: the landed answer has exactly the effect of the abstract event.
-- A client's end after it has taken a Probe, beside the event of the protocol.
use Rattle.std.proofs.Common.{◌≡◌, ℕ, Bool, true, false, not, ◌&&◌, ◌==◌, if◌then◌else◌, cond, List, [], ◌∷◌, Option}
use Rattle.std.proofs.Common.{Some, None, refl, sym, ◌∙◌, ap, arith, ◌⊎◌, inl, inr, eqb-true, ne_eqb, nat_le}
use Rattle.std.proofs.Common.{option_map}
use Rattle.tl_coherence.proofs
use proofs.Imports.{cases_eq, Beat, BeatA, BeatB, Channel, OpB, OpC, IsWidth, beats-positive, Message, MessageC}
use proofs.Imports.{beat_of, History, unfinished, Key, Cap, Report, Perm, Profile, Rule, report_at, report_code}
use proofs.Imports.{report_right, pending-whole, release_of-whole, held_unsaid, pending-quiet, sent, broken_in_order}
use proofs.Imports.{same_perm, broken_order, block_at, closes, is_probe_ack, is_release, opens, held, pending}
use proofs.Imports.{release_of, illegal, kept_closed, kept_copies, kept_past, same_block, kept_waiting, open_beat-c}
use proofs.Imports.{Verdict, EndConfig, Endpoint, copy_at, held_at, sending, with_past, zeros, holds, broken_before}
use proofs.Imports.{broken_later, judged_later, report_for, silent, taken, waits, offered, open_beat, about, probe_ack}
use proofs.Imports.{Packet, ClientBlock, is_unreleased, is_whole, after_probe, Block, State, probe_taken, probed_block}
use proofs.Imports.{is_wanting, AccessMessages, probe_beat, asked_by}
use Rattle.tl_client.{proofs.pending.KeptOffered.reports_held, proofs.pending.Opens.open_beat-b}
use Rattle.tl_client.specs.statement.Offer.{probed, judged}
use Rattle.tl_client.proofs.endpoint.HeldAfter.{held-probe_ack, still_whole}
use proofs.client.ClientEnd.{IsWellKept, IsEnd, IsSame, knows-same, IsKnown, asks-same, column, known-kept}
use proofs.queues.{Phases.held-some, Codes.cap-again}
use proofs.queues.Tokens.{set-same, set-part, same_number, set-other}

-- ---- the Probe

pub report_is : (w n : ℕ) (k : Cap) (p : Perm) → report_for (probe_beat {w = w} n k) p ≡ report_at k p
report_is w n k p = rw (cap-again k) refl

-- ---- the answer isn't a refusal or a stall

pub in_order : {w : ℕ} (profile : Profile) (n : ℕ) (k : Cap) (t : History w) → unfinished Channel.B t ≡ []
    → pending (Key.ProbeOf n) t ≡ false → pending (Key.GrantAckOf n) t ≡ false
    → broken_in_order profile (Beat.B (probe_beat n k)) t ≡ None
unfolding broken_order
in_order profile n k t none unprobed ungranted = rw (none, same_block n, unprobed, ungranted) refl

later-none : {w : ℕ} (terms : EndConfig) (n : ℕ) (k : Cap) (e : Endpoint w)
    → broken_in_order terms.profile (Beat.B (probe_beat n k)) e.past ≡ None → nat_le terms.blocks n ≡ false
    → broken_later terms (Beat.B (probe_beat n k)) e ≡ None
later-none {w} terms n k e order inside = grind (arith, same_block)

-- a Probe of a block of the map that breaks no L rule is taken, where the client holds no more of its block on its way
pub probe-taken : {w : ℕ} (terms : EndConfig) (n : ℕ) (k : Cap) (e : Endpoint w) → e.closed ≡ false
    → illegal {w = w} terms.level Channel.B (Beat.B (probe_beat n k)) ≡ None → nat_le terms.blocks n ≡ false
    → unfinished Channel.B e.past ≡ [] → pending (Key.ReleaseOf n) e.past ≡ false → pending (Key.ProbeOf n) e.past
    ≡ false → pending (Key.GrantAckOf n) e.past ≡ false → offered terms Channel.B (Beat.B (probe_beat n k)) e
    ≡ probed (probe_beat n k) n (held_at e n) e
unfolding offered
probe-taken {w} terms n k e live lawful inside none released unprobed ungranted =
    let judged_none : (o : Option Rule) (terms : EndConfig) (x : Beat w) (e : Endpoint w) → o ≡ None
    → judged o terms x e ≡ (if waits x e.past then silent Verdict.Stalled e else judged_later
    (broken_later terms x e) x e) = λ o terms x e f. rw f refl in
    let unstalled : (stalled : Bool) (terms : EndConfig) (x : Beat w) (e : Endpoint w) → stalled ≡ false
    → (if stalled then silent Verdict.Stalled e else judged_later (broken_later terms x e) x e)
    ≡ judged_later (broken_later terms x e) x e = λ stalled terms x e f. rw f refl in
    let later : (o : Option Rule) (x : Beat w) (e : Endpoint w) → o ≡ None → judged_later o x e ≡ taken x e =
    λ o x e f. rw f refl in
    let x : Beat w = Beat.B (probe_beat n k) in
    judged_none (broken_before terms Channel.B x e) terms x e (rw (live, lawful) refl)
    ∙ unstalled (waits x e.past) terms x e (rw (same_block n, released) refl) ∙ later (broken_later terms x e)
    x e (later-none terms n k e (in_order terms.profile n k e.past none unprobed ungranted) inside)
    ∙ ap (λ i. probed (probe_beat n k) i (held_at e i) e) (same_block n)

-- ---- the ProbeAck

pub record IsProbeAck {w : ℕ} (n : ℕ) (m : MessageC w) : Type 0 where
  pub acks : is_probe_ack m.opcode ≡ true
  pub releases_none : is_release m.opcode ≡ false
  pub of_block : block_at m.address ≡ n

ack_of : {w : ℕ} (p : Perm) (r : Report) (n : ℕ) (copy : List ℕ)
    → (m : MessageC w) × (probe_ack OpB.ProbeBlock p r n copy ≡ Message.C m) × IsProbeAck n m
ack_of Perm.Trunk r n copy = (
  about OpC.ProbeAckData (report_code r) 0 n copy,
  refl,
  record { acks = refl; releases_none = refl; of_block = same_block n },
)
ack_of p r n copy = (
  about OpC.ProbeAck (report_code r) 0 n zeros,
  refl,
  record { acks = refl; releases_none = refl; of_block = same_block n },
)

-- what is pending after it, but for the Probe
abbrev IsProbeKey : Key → Bool
IsProbeKey (Key.ProbeOf n) = true
IsProbeKey _ = false

probe_opens : {w : ℕ} (j : Key) (x : BeatB w) (t : History w) → IsProbeKey j ≡ false → (opens j (Beat.B x) t ≡ false)
    × (closes j (Beat.B x) t ≡ false)
probe_opens j x t e = grind arith

ack_opens : {w : ℕ} (j : Key) {n : ℕ} {m : MessageC w} (t : History w) → IsProbeAck n m → IsProbeKey j ≡ false
    → (opens j (beat_of (Message.C m) 0) t ≡ false) × (closes j (beat_of (Message.C m) 0) t ≡ false)
ack_opens j t e f = grind arith

-- the history after a Probe and its answer
abbrev after : {w : ℕ} → BeatB w → MessageC w → History w → History w
after x m t = sent (Message.C m) (Beat.B x ∷ t)

same_pending : {w : ℕ} (j : Key) {n : ℕ} (x : BeatB w) {m : MessageC w} (t : History w) → IsWidth w → IsProbeAck n m
    → unfinished Channel.C t ≡ [] → IsProbeKey j ≡ false → pending j (after x m t) ≡ pending j t
same_pending j x {m} t width is none e =
    let o = ack_opens j (Beat.B x ∷ t) is e in
    let p = probe_opens j x t e in
    pending-whole j (Message.C m) _ (still_whole x t ∙ none) (beats-positive (Message.C m) width) ∙ rw
    (o.0, o.1) (pending-quiet j (Beat.B x) t p.0 p.1)

-- ---- what is known

-- a part of the client's pairs that its Probe leaves
same_part : {X A : Type 0} (part : ClientBlock → A) (c n : ℕ) (k : Cap) (rest : List Packet) (s : State X)
    → part (after_probe k ((s.block n).pair c)) ≡ part ((s.block n).pair c) → (i : ℕ)
    → part (((probe_taken c n k rest s).block i).pair c) ≡ part ((s.block i).pair c)
same_part part c n k rest s e i = elim (cases_eq i n) [
  | inl same ↦ rw (
    same,
    set-same n (probed_block c k (s.block n)) s.block,
    set-same c (after_probe k ((s.block n).pair c)) (s.block n).pair,
  ) e
  | inr other ↦ rw (set-other n i (probed_block c k (s.block n)) s.block other) refl
]

same_release : {w : ℕ} (source : ℕ) (x : BeatB w) (m : MessageC w) (t : History w) → IsWidth w
    → is_release m.opcode ≡ false → unfinished Channel.C t ≡ [] → release_of source (after x m t) ≡ release_of source t
unfolding release_of
same_release source x m t width off none = release_of-whole source (Message.C m) _ (still_whole x t ∙ none)
    (beats-positive (Message.C m) width) ∙ rw off refl

pub knows-probed : {w : ℕ} {asked : ℕ → Option (BeatA w)} {c : ℕ} (n : ℕ) (k : Cap) (rest : List Packet)
    {s : State (List ℕ)} (e : Endpoint w) → IsWidth w → IsWellKept (probed (probe_beat n k) n (held_at e n) e).after
    → unfinished Channel.C e.past ≡ [] → IsKnown asked (unfinished Channel.D e.past) c s e.past
    → IsKnown asked (unfinished Channel.D (probed (probe_beat n k) n (held_at e n) e).after.past) c
    (probe_taken c n k rest s) (probed (probe_beat n k) n (held_at e n) e).after.past
knows-probed {w} {asked} {c} n k rest {s} e width well none (known, open_) =
    let p : Perm = held_at e n in
    let x : BeatB w = probe_beat n k in
    let r : Report = report_for x p in
    let a = ack_of {w = w} p r n (copy_at e n) in
    let t : History w = e.past in
    let past : (probed x n p e).after.past ≡ after x a.0 t = kept_past n (report_right r) (sending (probe_ack
    OpB.ProbeBlock p r n (copy_at e n)) (with_past (Beat.B x ∷ t) e)) ∙ ap (λ m. sent m (Beat.B x ∷ t)) a.1 in
    let same = λ (j : Key) (f : IsProbeKey j ≡ false). ap (pending j) past ∙ same_pending j x t width a.2 none f in (
      known-kept asked c (probe_taken c n k rest s) well (λ i. ap (held i) past ∙ ap (λ m. held i
          (sent m (Beat.B x ∷ t))) (sym a.1) ∙ held-probe_ack i OpB.ProbeBlock p r n (copy_at e n) _ width (still_whole
          x t ∙ none) ∙ held_now i (cases_eq i n)) (λ i. same (Key.AcquireOf i) refl ∙ known.acquires i ∙ sym (same_part
          (λ q. is_wanting q.acquiring) c n k rest s refl i)) (λ i. same (Key.ReleaseOf i) refl ∙ known.releases i
          ∙ sym (same_part (λ q. not (is_unreleased q.letting)) c n k rest s refl i)) (λ source. ap (open_beat source)
          past ∙ open_beat-c source a.0 _ width (still_whole x t ∙ none) ∙ open_beat-b source x t ∙ known.opens source),
      -- no source is opened or closed
      rw past (record {
        requests = λ source. same_pending (Key.RequestSource source) x t width a.2 none refl ∙ open_.requests source;
        releases = λ source. same_pending (Key.ReleaseSource source) x t width a.2 none refl ∙ open_.releases source;
        released = λ source i some. ap (option_map (λ y. block_at y.address))
            (same_release source x a.0 t width a.2.releases_none none) ∙ open_.released source i some;
        sizes = λ source i some.
            cc (same_release source x a.0 t width a.2.releases_none none, open_.sizes source i some);
      }),
    )
  where
    held_now : (i : ℕ) → (i ≡ n) ⊎ (i ≡ n → ⊥)
        → cond (i == n) (report_right (report_for (probe_beat {w = w} n k) (held_at e n)))
        (held i (Beat.B (probe_beat n k) ∷ e.past)) ≡ (((probe_taken c n k rest s).block i).pair c).held
    held_now i (inl same) =
        rw same (ap (λ z. cond z (report_right (report_for (probe_beat {w = w} n k) (held_at e n))) (held n
        (Beat.B (probe_beat n k) ∷ e.past))) (same_number n) ∙ (cc (report_is w n k (held_at e n), known.held_is n))
        ∙ sym (ap (λ bl. (bl.pair c).held) (set-same n (probed_block c k (s.block n)) s.block)
        ∙ ap (λ q. q.held) (set-same c (after_probe k ((s.block n).pair c)) (s.block n).pair)))
    held_now i (inr other) =
        rw (ne_eqb i n other) (held_unsaid i (Beat.B (probe_beat n k)) e.past refl ∙ known.held_is i)

pub end-probe_taken : {w : ℕ} {c : ℕ} (n : ℕ) (k : Cap) (rest : List Packet) (mail : AccessMessages w)
    {s : State (List ℕ)} {e : Endpoint w} → IsWidth w → IsWellKept (probed (probe_beat n k) n (held_at e n) e).after
    → IsEnd (asked_by mail s c) c s e → IsEnd (asked_by mail (probe_taken c n k rest s) c) c (probe_taken c n k rest s)
    (probed (probe_beat n k) n (held_at e n) e).after
end-probe_taken {w} {c} n k rest mail {s} {e} width well end =
    let g : Endpoint w = sending (probe_ack OpB.ProbeBlock p (report_for (probe_beat {w = w} n k) p) n (copy_at e n))
    (with_past (Beat.B (probe_beat n k) ∷ e.past) e) in
    let s' : State (List ℕ) = probe_taken c n k rest s in
    let same : IsSame c (asked_by mail s c) (asked_by mail s' c) s' s' = record {
      held = λ i. refl;
      acquiring = λ i. refl;
      letting = λ i. refl;
      lets = λ i. refl;
      asks = λ i. asks-same c i mail mail s s' refl (inl refl) (λ j used. set-part (λ (b : Block (List ℕ)).
          (b.pair c).acquiring) n new s.block (ap (λ q. q.acquiring) pair_is) j)
          (λ j used. set-part (λ b. b.source c) n new s.block refl j);
    } in
    record {
      knows = knows-same same (knows-probed n k rest e width well end.well.kept.c_whole end.knows);
      well = well;
      copies = λ i some. kept_copies n left g i ∙ copy_of i (i == n) refl
          (sym (column (λ b. same_perm (b.pair c).held Perm.None) n new s.block i) ∙ some)
          ∙ ap Some (sym (set-part (λ b. b.copy c) n new s.block refl i));
      waiting = λ i storing. let fact = end.waiting i (sym (set-part (λ b. is_whole
          (b.pair c).acquiring) n new s.block (ap (λ q. is_whole q.acquiring) pair_is) i) ∙ storing) in
          cc (kept_waiting n left g i, set-part (λ b. b.waiting c) n new s.block refl i);
      live = kept_closed n left g ∙ end.live;
    }
  where
    p : Perm
    p = held_at e n

    left : Perm
    left = report_right (report_for (probe_beat {w = w} n k) p)

    new : Block (List ℕ)
    new = probed_block c k (s.block n)

    pair_is : new.pair c ≡ after_probe k ((s.block n).pair c)
    pair_is = set-same c (after_probe k ((s.block n).pair c)) (s.block n).pair

    some_held : (q : Perm) → same_perm q Perm.None ≡ false → holds q ≡ true
    some_held q e = grind arith

    copy_of : (i : ℕ) (b : Bool) → (i == n) ≡ b
        → cond b (same_perm (new.pair c).held Perm.None) (same_perm ((s.block i).pair c).held Perm.None) ≡ false
        → cond (b && not (holds left)) None (e.copies i) ≡ Some ((s.block i).copy c)
    copy_of i false is some = end.copies i some
    copy_of i true is some =
        let keeps : (z : Bool) → z ≡ true → cond (not z) None (e.copies i) ≡ e.copies i = λ z q. rw q refl in
        let stays : holds left ≡ true =
        ap holds (cc (report_is w n k p, end.knows.0.held_is n, pair_is)) ∙ some_held (new.pair c).held some in
        let before : holds p ≡ true = reports_held k p (cc (report_is w n k p)) in
        keeps (holds left) stays ∙ end.copies i
        (held-some ((s.block i).pair c).held (cc (eqb-true i n is, end.knows.0.held_is n)))
