-- What of a message was delivered before and after one of its beats.
-- A beat of channel E that is delivered breaks no rule after what was delivered before it: no Grant with its sink is
-- still coming.
-- What is delivered on a link, as a Probe is.
-- What is delivered on a link, as the beat of a Probe is, for a whole that is that of the protocol.
use Rattle.std.proofs.Common.{◌≡◌, ℕ, zero, suc, ◌*◌, Bool, true, false, not, ◌&&◌, ◌==◌, if◌then◌else◌, List, [], ◌∷◌}
use Rattle.std.proofs.Common.{eqb-true, Option, Some, None, refl, sym, ◌∙◌, ap, subst, arith, inl, inr, ne_eqb}
use Rattle.tl_coherence.proofs
use proofs.Imports.{and_right, cases_eq, Beat, BeatA, BeatB, BeatE, Channel, IsWidth, Message, MessageA}
use proofs.Imports.{beats_of, begun, History, channel_of, grown, unfinished, completes, is_empty, Config}
use proofs.Imports.{Level, Cap, Perm, comes_in_grant, same_perm, broken_after, on_link, begins, block_at, ends}
use proofs.Imports.{is_grant, is_probe, grant_sink, probe_of, release_of, illegal, same_block, level_of}
use proofs.Imports.{AreNamed, acquires_of, GrantAck, Packet, Probe, set, set_at}
use proofs.Imports.{ClientBlock, Other, ProbeSent, View, same_cap, ok, after_probe, Block, GrantTaken}
use proofs.Imports.{State, packet, probe_taken, probed_block, view, is_answered, is_unserved}
use proofs.Imports.{is_wanting, AbstractState, comes_granting, MonitorRelation, is_let_by}
use proofs.Imports.{is_release_pending, is_requested, AccessMessages, cap_sent}
use proofs.Imports.{probe_beat, block_message, MonitorRelations, SimulationRelation, asked_by, is_caching, cap_waited}
use proofs.Imports.{flow, Log, System}
use Rattle.tl_coherence.specs.protocol.Phase.{fits_service}
use Rattle.tl_client.proofs.pending.Opens.{request_of-b}
use proofs.protocol.BothParts.{cap-waited, first-probe, acknowledging-is, first-shown}
use proofs.queues.{Carried.IsNext, Phases.and_left, FirstToken.first-token}
use proofs.queues.Tokens.{same_number, set-same, set-each, set-part, set_at-same}
use proofs.flow.FlowStep.{flowed-next, held_by, acquired_by, let_of, granted_by, step, whole_opened, whole_unopened}
use proofs.flow.FlowStep.{let_still}
use proofs.flow.FlowLawful.{lawful-beat, next-flows, grant_ack-flows}
use proofs.client.HalfTaken.{half-granted}
use proofs.queues.Phases.{and_right as both_right}
use proofs.links.Acknowledged.{AreSunk, sunk-first, trackers-apart}
use proofs.flow.FlowAlone.{AreRests, requested-blocks, let_by-same}
use proofs.client.{ProbeDelivered.probe-beat, ProbeDelivered.first_beat, ClientEnd.comes-same, AsideAll.set_at-else}
use proofs.simulation.Owned.{unfinished_at}
use proofs.manager.{ManagerTakes.by-first_e}

-- a test of what was delivered, which no beats pass, and all beginnings of the message alike
pub came-so : {w : ℕ} (f : List (Beat w) → Bool) {m : Message w} {x : Beat w} {rest : List (Beat w)}
    {ms : List (Message w)} {queue : List (Beat w)} (v : Bool) → IsNext x rest m ms queue → f [] ≡ false
    → ((j : ℕ) → f (begun m (suc j)) ≡ v) → f rest ≡ (not (is_empty rest) && v)
came-so f {m} v next none some =
    let go : (k : ℕ) → f (begun m k) ≡ (not (is_empty (begun m k)) && v) = elim [ zero ↦ none | suc j ↦ some j ] in
    rw next.rest_is (go next.k)

pub comes-so : {w : ℕ} (f : List (Beat w) → Bool) (x : Beat w) (rest : List (Beat w)) (v : Bool) → f [] ≡ false
    → f (x ∷ rest) ≡ v → f (grown x rest) ≡ (not (completes x rest) && v)
comes-so {w} f x rest v none here = grind arith

-- the first beat is beat 0
pub first-zero : {w : ℕ} {m : Message w} {x : Beat w} {rest : List (Beat w)} {ms : List (Message w)}
    {queue : List (Beat w)} → (next : IsNext x rest m ms queue) → is_empty rest ≡ true → next.k ≡ 0
first-zero {w} {m} next e = grind arith

-- a message of one beat
pub one-beat : {w : ℕ} {m : Message w} {x : Beat w} {rest : List (Beat w)} {ms : List (Message w)}
    {queue : List (Beat w)} → (next : IsNext x rest m ms queue)
    → beats_of m ≡ 1 → (next.k ≡ 0) × (rest ≡ []) × (completes x rest ≡ true)
one-beat {m} next one = grind (arith, first_beat)

-- ---- small facts

-- an entry of one source is another
pub set_at-if : {Y : Type 0} (c source i : ℕ) (y : Y) (f : ℕ → ℕ → Y) (j : ℕ) → j ≡ source
    → set_at c source y f c i ≡ (if j == i then y else f c i)
set_at-if c source i y f j e = elim (cases_eq i source) [
  | inl same ↦ rw (e, same, same_number source) (set_at-same c source y f)
  | inr other ↦ set_at-else c source i y f other c ∙ sym (rw (e, ne_eqb source i (λ g. other (sym g))) refl)
]

pub same_perms : (p q : Perm) → same_perm p q ≡ true → q ≡ p
same_perms p q e = grind arith

pub first_false : (p q : Bool) → p ≡ false → (p && q) ≡ false
first_false p q e = rw e refl

-- the source of a client's Acquire of a block is of no other
pub unused-else : {X : Type 0} (c n i : ℕ) {s : State X} → AreNamed s → ((s.block n).source c == i) ≡ false
    → acquires_of n (s.uses c i) ≡ false
unused-else c n i {s} named e = named.acquires c i n ∙ and_right (is_wanting ((s.block n).pair c).acquiring)
    (i == (s.block n).source c) (ne_eqb i ((s.block n).source c) apart)
  where
    apart : i ≡ (s.block n).source c → ⊥
    apart same = grind (arith, same_number)

-- no Grant with the sink of one whose GrantAck is missing has begun to come
no_grant_coming : {w : ℕ} {config : Config} {log : Log w} {mail : AccessMessages w} {request : ℕ → MessageA w}
    {s : State (List ℕ)} {sys : System w} (c n : ℕ)
    → SimulationRelation config log mail request s sys → (s.block n).service ≡ GrantTaken c
    → comes_in_grant (s.block n).tracker (unfinished Channel.D (sys.clients c).past) ≡ false
no_grant_coming {w} {s} {sys} c n h taken = go (unfinished Channel.D (sys.clients c).past) refl
  where
    sink : ℕ
    sink = (s.block n).tracker

    go : (beats : List (Beat w)) → unfinished Channel.D (sys.clients c).past ≡ beats → comes_in_grant sink beats ≡ false
    go (Beat.D x ∷ more) e = by (is_grant x.opcode && (x.sink == sink)) refl
      where
        by : (b : Bool) → (is_grant x.opcode && (x.sink == sink)) ≡ b → b ≡ false
        by false f = refl
        by true f =
            let of = half-granted c x more h e (and_left (is_grant x.opcode) (x.sink == sink) f) in
            absurd (trackers-apart h.invariant.named of.1.service taken
            (sym (eqb-true x.sink sink (both_right (is_grant x.opcode) (x.sink == sink) f)) ∙ of.3))
    go beats e = refl

ack-lawful : {w : ℕ} {config : Config} {log : Log w} {mail : AccessMessages w} {request : ℕ → MessageA w}
    {s : State (List ℕ)} {sys : System w} (c n : ℕ) (toks : List Packet) (l : Level) {x : Beat w}
    {ms : List (Message w)} {queue : List (Beat w)} → SimulationRelation config log mail request s sys
    → MonitorRelations log mail s sys → AreSunk (flow c log) (sys.clients c).past (sys.channels c Channel.E)
    → sys.channels c Channel.E ≡ x ∷ queue → illegal l (channel_of x) x ≡ None
    → (s.link c).e ≡ packet GrantAck n ∷ toks
    → IsNext x (unfinished Channel.E (on_link c sys.manager.trace)) (block_message GrantAck c n (s.block n)) ms queue
    → broken_after l config.profile x (flow c log) ≡ None
unfolding block_message
ack-lawful {config} {s} c n toks l {queue} is flowed sunk beats lawful tokens next =
    let y : BeatE = record { sink = (s.block n).tracker } in
    let shows = first-shown is.invariant c GrantAck refl tokens in
    let taken : (s.block n).service ≡ GrantTaken c = acknowledging-is _ c shows in
    next-flows l config.profile _ lawful next ((flowed c).rest_is Channel.E) (λ none. grant_ack-flows config.profile y
    (flowed c) none (sunk-first y queue sunk (beats ∙ ap (λ z. z ∷ queue) next.beat_is)) (no_grant_coming c n is taken))

pub flows-e : {w : ℕ} {config : Config} {log : Log w} {mail : AccessMessages w} {request : ℕ → MessageA w}
    {s : State (List ℕ)} {sys : System w} (c : ℕ) (l : Level) (x : Beat w) (queue : List (Beat w)) → IsWidth w
    → SimulationRelation config log mail request s sys → MonitorRelations log mail s sys
    → AreSunk (flow c log) (sys.clients c).past (sys.channels c Channel.E) → sys.channels c Channel.E ≡ x ∷ queue
    → level_of config c ≡ Some l → broken_after l config.profile x (flow c log)
    ≡ None
flows-e {w} {config} {log} {mail} {request} {s} {sys} c l x queue width is flowed sunk beats level =
    cc (by-first_e (λ i. broken_after l config.profile x (flow c log) ≡ None) (first-token (is_caching config) Channel.E
    c mail s sys x queue width is.invariant is.carried beats) (λ n rest tokens next. ack-lawful c n rest l is flowed
    sunk beats (lawful-beat c Channel.E l x queue is beats level) tokens next))

released-of : {w : ℕ} (i : ℕ) (y : BeatB w) (t : History w) → release_of i (Beat.B y ∷ t) ≡ release_of i t
unfolding release_of
released-of i y t = refl

sunk-of : {w : ℕ} (n : ℕ) (y : BeatB w) (t : History w) → grant_sink n (Beat.B y ∷ t) ≡ grant_sink n t
unfolding grant_sink
sunk-of n y t = refl

probed-of : {w : ℕ} (n : ℕ) (y : BeatB w) (t : History w) → begins (Beat.B y) t ≡ true
    → probe_of n (Beat.B y ∷ t) ≡ (if is_probe y.opcode && (block_at y.address == n) then Some y else probe_of n t)
unfolding probe_of
probed-of n y t first = rw first refl

-- a part of one pair is that of another
pub part_of : {A : Type 0} (part : ClientBlock → A) (c : ℕ) (p : ClientBlock) (pair : ℕ → ClientBlock)
    → part p ≡ part (pair c) → part (set c p pair c) ≡ part (pair c)
part_of part c p pair e = ap part (set-same c p pair) ∙ e

pub flowed-probe : {w : ℕ} {X : Type 0} {c : ℕ} (n : ℕ) (k : Cap) (toks : List Packet) {asked : ℕ → Option (BeatA w)}
    (asked' : ℕ → Option (BeatA w)) {rest : Channel → List (Beat w)} (rest' : Channel → List (Beat w)) {s : State X}
    {t : History w} → begins (Beat.B (probe_beat n k)) t ≡ true → ends (Beat.B (probe_beat n k)) t ≡ true
    → AreRests (Beat.B (probe_beat n k)) rest rest' → ((i : ℕ) → asked' i ≡ asked i) → block_at (64 * n) ≡ n
    → view (s.block n).service c ≡ Other k → cap_waited (s.block n).service ≡ k
    → ((m : ℕ) → comes_granting m asked' (rest Channel.D) ≡ comes_granting m asked (rest Channel.D))
    → MonitorRelation asked rest c s t → MonitorRelation asked' rest' c (probe_taken c n k toks s)
    (Beat.B (probe_beat n k) ∷ t)
flowed-probe {w} {X} {c} n k toks {asked} asked' {rest} rest' {s} {t} first last rests asks at seen waited comes
    before =
    let part_true = ap (λ p. is_answered p.probing) (set-same c (after_probe k (b.pair c)) b.pair) in
    let requests : (i : ℕ) → is_requested c i (rest' Channel.A) (s'.uses c i) s' ≡ is_requested c i (rest Channel.A)
    (s.uses c i) s = λ i. cc (
      rests Channel.A,
      requested-blocks c i (rest Channel.A) (s.uses c i) s s'
          (set-part (λ z. is_unserved (view z.service c)) n new s.block refl),
    ) in
    let grants : (m : ℕ)
    → granted_by c m asked' (rest' Channel.D) (s'.block m) ≡ granted_by c m asked (rest Channel.D) (s.block m) =
    λ m. cc (rests Channel.D, comes m, set-part (granted_by c m asked (rest Channel.D)) n new s.block refl m) in
    flowed-next first last rests (record {
      held_is = set-part (held_by c) n new s.block
          (cc (part_of (λ p. p.recorded) c (after_probe k (b.pair c)) b.pair refl));
      requests = requests;
      asked_is = λ i e. request_of-b i y t ∙ before.asked_is i (before.requests i ∙ sym (requests i) ∙ e)
          ∙ sym (asks i);
      acquires = set-part (acquired_by c) n new s.block (ap (λ z. z && not (is_unserved (view b.service c)))
          (part_of (λ p. is_wanting p.acquiring) c (after_probe k (b.pair c)) b.pair refl));
      release_sources = lets;
      released = λ i m e f. let_still before i m (released-of i y t) e (cc (before.release_sources i, lets i));
      releases = λ m. ap (λ r. let_of c r (s'.block m)) (rests Channel.C) ∙ set-part (let_of c (rest Channel.C)) n new
          s.block (ap (is_release_pending (b.release_source c) (rest Channel.C)) letting_same) m;
      grants = grants;
      probes = set-each (λ m z. is_answered (z.pair c).probing ≡ step true true (block_at (64 * n) == m) false
          (is_answered ((s.block m).pair c).probing)) n new s.block (part_true ∙ sym (whole_opened (block_at
          (64 * n) == n) (is_answered (b.pair c).probing) (rw at (same_number n)))) (λ m ne. sym (whole_unopened
          (block_at (64 * n) == m) (is_answered ((s.block m).pair c).probing) (rw at (ne_eqb n m (λ e. ne (sym e))))));
      probed = λ m e. probed-of m y t first ∙ probed m e;
      sunk = λ m e. sunk-of m y t ∙ before.sunk m (before.grants m ∙ sym (grants m) ∙ e) ∙ ap Some
          (sym (set-part (λ z. z.tracker) n new s.block refl m));
    }) before
  where
    y : BeatB w
    y = probe_beat n k

    b : Block X
    b = s.block n

    new : Block X
    new = probed_block c k b

    s' : State X
    s' = probe_taken c n k toks s

    letting_same : (new.pair c).letting ≡ (b.pair c).letting
    letting_same = part_of (λ p. p.letting) c (after_probe k (b.pair c)) b.pair refl

    lets : (i : ℕ) → is_let_by c i (rest' Channel.C) (s'.lets c i) s' ≡ is_let_by c i (rest Channel.C) (s.lets c i) s
    lets i = let fact = let_by-same c i (rest Channel.C) (s.lets c i) s s'
        (set-part (λ z. (z.pair c).letting) n new s.block letting_same) in cc (rests Channel.C)

    probed : (m : ℕ) → is_answered ((s'.block m).pair c).probing ≡ true
        → (if true && (block_at (64 * n) == m) then Some y else probe_of m t) ≡ Some
        (probe_beat m (cap_waited (s'.block m).service))
    probed =
        let chosen : (o : Bool) (p q : Option (BeatB w)) → o ≡ true → (if true && o then p else q) ≡ p =
        λ o p q e. rw e refl in
        let unchosen : (o : Bool) (p q : Option (BeatB w)) → o ≡ false → (if true && o then p else q) ≡ q =
        λ o p q e. rw e refl in
        set-each (λ m z. is_answered (z.pair c).probing ≡ true → (if true && (block_at (64 * n) == m) then Some y else
        probe_of m t) ≡ Some (probe_beat m (cap_waited z.service))) n new s.block (λ e. chosen (block_at (64 * n) ==
        n) (Some y) (probe_of n t) (rw at (same_number n)) ∙ ap (λ j. Some (probe_beat n j)) (sym waited))
        (λ m ne e. unchosen (block_at (64 * n) == m) (Some y) (probe_of m t) (rw at (ne_eqb n m (λ f. ne (sym f))))
        ∙ before.probed m e)

-- ---- who is probed

same_caps : (j k : Cap) → same_cap j k ≡ true → k ≡ j
same_caps j k e = grind arith

-- sees the service of another, which probes with this cap
probed_sees : (k : Cap) (v : View) → fits_service (ProbeSent k) v ≡ true → v ≡ Other k
probed_sees k v e = grind (arith, same_caps)

sent_sees : (k : Cap) (p : ClientBlock) (v : View) → ok p v ≡ true → p.probing ≡ ProbeSent k → v ≡ Other k
unfolding ok
sent_sees k p v well sent = probed_sees k v (rw sent at (and_left (fits_service p.probing v) _ well))

module _ {w : ℕ} {config : Config} {log : Log w} (h : AbstractState w) {sys : System w} {c : ℕ}
    (is : SimulationRelation config log h.mail h.request h.state sys) {t : History w}
    (flowed : MonitorRelation (asked_by h.mail h.state c) (unfinished_at sys c) c h.state t) (rest' : Channel
    → List (Beat w)) (toks : List Packet) where
  abbrev s : State (List ℕ)
  s = h.state

  abbrev before : ℕ → Option (BeatA w)
  before = asked_by h.mail h.state c

  -- ---- a Probe

  pub own-probe : (n : ℕ) → (s.link c).b ≡ packet Probe n ∷ toks → (x : Beat w) (ms : List (Message w))
      (queue : List (Beat w)) → IsNext x (unfinished_at sys c Channel.B) (block_message Probe c n (s.block n)) ms queue
      → AreRests x (unfinished_at sys c) rest' → (asked' : ℕ → Option (BeatA w)) → ((i : ℕ) → asked' i ≡ before i)
      → MonitorRelation asked' rest' c (probe_taken c n (cap_sent ((s.block n).pair c).probing) toks s) (x ∷ t)
  own-probe n tokens x ms queue next rests asked' asks =
      let k : Cap = cap_sent ((s.block n).pair c).probing in
      let x_is : x ≡ Beat.B (probe_beat n k) = probe-beat c n s next in
      let whole : unfinished_at sys c Channel.B ≡ [] = (is.kept c).b_whole in
      let seen = sent_sees k _ _ ((is.invariant.blocks n).phases c) (first-probe is.invariant tokens) in
      subst (λ z. MonitorRelation asked' rest' c (probe_taken c n k toks s) (z ∷ t)) (sym x_is)
      (flowed-probe n k toks asked' rest' (ap is_empty (flowed.rest_is Channel.B ∙ whole))
      (ap (completes {w = w} (Beat.B (probe_beat n k))) (flowed.rest_is Channel.B ∙ whole)) (subst
      (λ z. AreRests z (unfinished_at sys c) rest') x_is rests) asks (same_block n) seen (cap-waited k
      (s.block n).service c seen) (λ m. comes-same m before asked' (unfinished_at sys c Channel.D) asks) flowed)
