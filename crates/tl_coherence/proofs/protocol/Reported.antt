-- A ProbeAck that is taken while others are missing, and a Release that is taken, keep the invariant.
-- The last ProbeAck that is taken, with which the access that waited is answered, keeps the invariant.
use Rattle.std.proofs.Common.{◌≡◌, ℕ, Bool, true, false, ◌==◌, if◌then◌else◌, List, ◌∷◌, None, refl, sym, ◌∙◌, ap}
use Rattle.std.proofs.Common.{subst, arith, ◌⊎◌, inl, inr, ne_eqb, eqb-true}
use Rattle.tl_coherence.proofs
use proofs.Imports.{cases_eq, Channel, Cap, Prune, Report, Perm, prune_left, prune_right, report_left, report_right}
use proofs.Imports.{same_perm, one_if, IsInvariant, IsWell, acquires_of, acquires_with, is_of, is_out, releases_with}
use proofs.Imports.{serves_of, serves_with, tracks_with, Answer, Kind, Packet, Probe, ProbeAck, Release, ReleaseAck}
use proofs.Imports.{Request, set, count, ClientBlock, Idle, Other, ProbeAnswered, ReleaseSent, View, is_unprobed}
use proofs.Imports.{is_unreleased, same_cap, ok, after_release_taken, after_report, Block, InService, Replied, Service}
use proofs.Imports.{State, Waits, ended_block, ended_link, let_block, let_link, packet, packets_on, popped_link}
use proofs.Imports.{release_taken, report_answers, report_taken, reported_block, view, with_d, written, is_answered}
use proofs.Imports.{is_releasing, is_transfer, shown, shows, AreMoved, IsMoved, Move, Pops, Pushes, Stays, agrees}
use proofs.Imports.{channel_for, is_own_move}
use Rattle.tl_coherence.specs.protocol.Protocol.{Link, written_from}
use proofs.queues.{Moves.names-block, Moves.names-set, Moves.names-set_at, Moves.invariant-moved_use, Moves.same_again}
use proofs.queues.{Moves.event-at, Moves.bare-at, Moves.names-kept, Moves.invariant-moved, PhaseSteps.report-ok}
use proofs.queues.{PhaseSteps.ended-ok, PhaseSteps.release_taken-ok, Phases.nothing_below, Phases.not_out}
use proofs.queues.Tokens.{same_number, set-same, set-other, set-part, set-each, ordered-first}
use proofs.queues.Facts.{held_at_most, spared_within, cap_is_low, report_begins, release_begins}
use proofs.protocol.Granted.{low_within, both_trunk, low_none, recorded_within}
use proofs.protocol.Asked.{alone-set, owned-set, outside-set, busy-inside, IsGentle, awaited_by, awaited-set}
use proofs.protocol.Asked.{asked_cap-set}
use proofs.protocol.BothParts.{is_of-is, serves_of-is, quiet-is}

-- ---- what is recorded falls

report_trunk : (r : Report) (p : Perm) → same_perm (report_left r) p ≡ true
    → same_perm (report_right r) Perm.Trunk ≡ true → same_perm p Perm.Trunk ≡ true
report_trunk r p e f = grind arith

report_none : (p : Perm) (r : Report) → same_perm (report_left r) p ≡ true → same_perm p Perm.None ≡ true
    → same_perm (report_right r) Perm.None ≡ true
report_none p r e f = grind arith

pub gentle-report : (r : Report) (p : ClientBlock) → same_perm (report_left r) p.recorded ≡ true
    → IsGentle p (after_report r p)
gentle-report r p e = record { trunk = λ f. report_trunk r _ e f; none = λ f. report_none _ r e f; quiet = λ f. refl }

prune_trunk : (r : Prune) (p : Perm) → same_perm (prune_left r) p ≡ true → same_perm (prune_right r) Perm.Trunk ≡ true
    → same_perm p Perm.Trunk ≡ true
prune_trunk r p e f = grind arith

prune_none : (p : Perm) (r : Prune) → same_perm (prune_left r) p ≡ true → same_perm p Perm.None ≡ true
    → same_perm (prune_right r) Perm.None ≡ true
prune_none p r e f = grind arith

gentle-prune : (r : Prune) (p : ClientBlock) → same_perm (prune_left r) p.recorded ≡ true
    → IsGentle p (after_release_taken r p)
gentle-prune r p e = record { trunk = λ f. prune_trunk r _ e f; none = λ f. prune_none _ r e f; quiet = λ f. f }

-- ---- memory: who gives Trunk up brings the data, and whoever else is out stays so

-- the memory with the data of a message of client c that begins at what is recorded of it, if afterwards nobody is out
memory-written : {X : Type 0} (c : ℕ) (left : Perm) (q : ClientBlock) (service : Service) (pair : ℕ → ClientBlock)
    (memory truth : X) → same_perm left (pair c).recorded ≡ true
    → (((d : ℕ) → is_out (pair d) (view service d) ≡ false) → memory ≡ truth)
    → ((d : ℕ) → is_out (set c q pair d) (view service d) ≡ false) → written_from left truth memory ≡ truth
memory-written c left q service pair memory truth begins h none =
    let before : same_perm left Perm.Trunk ≡ false → (d : ℕ) → is_out (pair d) (view service d) ≡ false =
    λ e d. elim (cases_eq d c) [
      | inl same ↦ rw same (not_out (pair c) (view service c) (both_trunk left (pair c).recorded begins e))
      | inr other ↦ rw (set-other c d q pair other) at (none d)
    ] in
    let go : (data_too : Bool) → same_perm left Perm.Trunk ≡ data_too → (if data_too then truth else memory) ≡ truth =
    elim [ true ↦ λ e. refl | false ↦ λ e. h (before e) ] in
    go (same_perm left Perm.Trunk) refl

-- ---- blocks

reported-block : {X : Type 0} {caching : ℕ → Bool} (c : ℕ) (r : Report) {b : Block X} → IsWell caching b
    → (b.pair c).probing ≡ ProbeAnswered r → (w : ℕ) → (w ≡ c → ⊥) → is_unprobed (b.pair w).probing ≡ false
    → IsWell caching (reported_block c r b)
reported-block {caching} c r {b} h answered w apart missing =
    let after : ClientBlock = after_report r (b.pair c) in
    let begins = report_begins r _ _ (h.phases c) answered in
    record {
      phases = set-each (λ d q. ok q (view b.service d) ≡ true) c after b.pair
          (report-ok r (b.pair c) (view b.service c) (h.phases c) answered).0 (λ d ne. h.phases d);
      awaited = awaited_by b.service (set c after b.pair) w (rw (set-other c w after b.pair apart) missing);
      asked_cap = asked_cap-set b.service c after b.pair refl h.asked_cap;
      own_source = h.own_source;
      alone = alone-set c b.pair (gentle-report r (b.pair c) begins) h.alone;
      one_owner = owned-set c b.pair (gentle-report r (b.pair c) begins) h.one_owner;
      outside = outside-set caching c after b.pair (busy-inside caching c b.pair (λ p. is_answered p.probing) refl
          (rw answered refl) h.outside) h.outside;
      copies = λ d some. h.copies d (rw ((set-part (λ p. p.held) c after b.pair refl) d) at some);
      memory = λ none. memory-written c _ after b.service b.pair b.memory _ begins h.memory none;
    }

let-block : {X : Type 0} {caching : ℕ → Bool} (c : ℕ) (r : Prune) {b : Block X} → IsWell caching b
    → (b.pair c).letting ≡ ReleaseSent r → is_answered (b.pair c).probing ≡ false → IsWell caching (let_block c r b)
let-block {caching} c r {b} h releasing first =
    let after : ClientBlock = after_release_taken r (b.pair c) in
    let begins = release_begins r _ _ (h.phases c) releasing first in
    record {
      phases = set-each (λ d q. ok q (view b.service d) ≡ true) c after b.pair
          (release_taken-ok r (b.pair c) (view b.service c) (h.phases c) releasing first) (λ d ne. h.phases d);
      awaited = awaited-set b.service c after b.pair refl h.awaited;
      asked_cap = asked_cap-set b.service c after b.pair refl h.asked_cap;
      own_source = h.own_source;
      alone = alone-set c b.pair (gentle-prune r (b.pair c) begins) h.alone;
      one_owner = owned-set c b.pair (gentle-prune r (b.pair c) begins) h.one_owner;
      outside = outside-set caching c after b.pair (busy-inside caching c b.pair (λ p. is_releasing p.letting) refl
          (rw releasing refl) h.outside) h.outside;
      copies = λ d some. h.copies d (rw ((set-part (λ p. p.held) c after b.pair refl) d) at some);
      memory = λ none. memory-written c _ after b.service b.pair b.memory _ begins h.memory none;
    }

-- ---- a ProbeAck

abbrev pub report_moves : ℕ → Channel → Move
report_moves n Channel.C = Pops ProbeAck n
report_moves n _ = Stays

report_shows : (n : ℕ) (k : Kind) (r : Report) (p : ClientBlock) (v : View) → is_transfer k ≡ true
    → p.probing ≡ ProbeAnswered r
    → agrees (report_moves n (channel_for k)) k n (shows k p v) (shows k (after_report r p) v) ≡ true
report_shows n Probe r p v t e = rw e refl
report_shows n ProbeAck r p v t e = rw (same_number n) refl
report_shows n k r p v t e = same_again (shows k p v)

pub report_taken-kept : {X : Type 0} {caching : ℕ → Bool} (c n : ℕ) (r : Report) (rest : List Packet) {s : State X}
    → IsInvariant caching s → (s.link c).c ≡ packet ProbeAck n ∷ rest
    → ((s.block n).pair c).probing ≡ ProbeAnswered r → (w : ℕ) → (w ≡ c → ⊥)
    → is_unprobed ((s.block n).pair w).probing ≡ false → IsInvariant caching (report_taken c n r rest s)
report_taken-kept {X} {caching} c n r rest {s} inv first answered w apart missing =
    let here : Link = record (s.link c) { c = rest } in
    let moved : AreMoved (report_moves n) (s.link c) here = elim [ Channel.C ↦ first | _ ↦ refl ] in
    let own : (ch : Channel) → is_own_move ch (report_moves n ch) ≡ true = elim [ Channel.A ↦ refl | ch ↦ refl ] in
    let old : ℕ → ClientBlock = (s.block n).pair in
    let after : ClientBlock = after_report r (old c) in
    let new : Block X = reported_block c r (s.block n) in
    invariant-moved s.lets s.tracked inv (event-at (record {
      well = reported-block c r (inv.blocks n) answered w apart missing;
      moved = moved;
      own = own;
      fits = λ k t. rw (set-same c after old) (report_shows n k r (old c) (view (s.block n).service c) t answered);
      others = λ d ne k t. ap (λ p. shows k p (view (s.block n).service d)) (set-other c d after old ne);
      in_order = λ m e. absurd (let f : Pops ProbeAck n ≡ Pushes ProbeAck m = e in cc);
    }))
    (bare-at c (report_moves n) refl refl) (names-kept n new (set c here s.link) s inv.named
    (λ d i. rw (set-part (λ p. p.acquiring) c after old refl d) refl) (λ d i. refl)
    (λ d i. rw (set-part (λ p. p.letting) c after old refl d) refl) (λ i. refl))

-- ---- a Release

abbrev pub let_moves : ℕ → Channel → Move
let_moves n Channel.C = Pops Release n
let_moves n Channel.D = Pushes ReleaseAck n
let_moves n _ = Stays

let_shows : (n : ℕ) (k : Kind) (r : Prune) (p : ClientBlock) (v : View) → is_transfer k ≡ true
    → p.letting ≡ ReleaseSent r
    → agrees (let_moves n (channel_for k)) k n (shows k p v) (shows k (after_release_taken r p) v) ≡ true
let_shows n Release r p v t e = rw (same_number n) refl
let_shows n ReleaseAck r p v t e = rw (e, same_number n) refl
let_shows n k r p v t e = same_again (shows k p v)

-- a Release that is first has no ProbeAck of its block beside it
release_first : {X : Type 0} {caching : ℕ → Bool} (c n : ℕ) (rest : List Packet) {s : State X}
    → IsInvariant caching s → (s.link c).c ≡ packet Release n ∷ rest → is_answered ((s.block n).pair c).probing ≡ false
unfolding count
release_first c n rest {s} inv first =
    let go : (b : Bool) → one_if b ≡ 0 → b ≡ false = elim [ true ↦ λ e. absurd (omega (arith, e)) | false ↦ λ e. refl ]
    in
    let behind : count ProbeAck n rest ≡ 0 = ordered-first n _ rest _ first
    (rw (same_number n) refl) (inv.ordered c n) in
    go (is_answered ((s.block n).pair c).probing) (omega (arith, behind, rw first at (inv.transfers c ProbeAck refl n)))

pub release_taken-kept : {X : Type 0} {caching : ℕ → Bool} (c n : ℕ) (r : Prune) (rest : List Packet) {s : State X}
    → IsInvariant caching s → (s.link c).c ≡ packet Release n ∷ rest
    → ((s.block n).pair c).letting ≡ ReleaseSent r → IsInvariant caching (release_taken c n r rest s)
release_taken-kept {X} {caching} c n r rest {s} inv first releasing =
    let here : Link = let_link n rest (s.link c) in
    let moved : AreMoved (let_moves n) (s.link c) here = elim [ Channel.C ↦ first | _ ↦ refl ] in
    let own : (ch : Channel) → is_own_move ch (let_moves n ch) ≡ true = elim [ Channel.A ↦ refl | ch ↦ refl ] in
    let old : ℕ → ClientBlock = (s.block n).pair in
    let after : ClientBlock = after_release_taken r (old c) in
    let new : Block X = let_block c r (s.block n) in
    invariant-moved s.lets s.tracked inv (event-at (record {
      well = let-block c r (inv.blocks n) releasing (release_first c n rest inv first);
      moved = moved;
      own = own;
      fits = λ k t. rw (set-same c after old) (let_shows n k r (old c) (view (s.block n).service c) t releasing);
      others = λ d ne k t. ap (λ p. shows k p (view (s.block n).service d)) (set-other c d after old ne);
      in_order = λ m e. absurd (let f : Pops Release n ≡ Pushes ProbeAck m = e in cc);
    }))
    (bare-at c (let_moves n) refl refl) (names-kept n new (set c here s.link) s inv.named
    (λ d i. rw (set-part (λ p. p.acquiring) c after old refl d) refl) (λ d i. refl)
    (λ d i. rw (set-part (λ p. is_unreleased p.letting) c after old (rw releasing refl) d) refl) (λ i. refl))

-- ---- the block

-- c's ProbeAck is the last one that an access of q waits for, and the access leaves the bytes as they
-- are, or probed all
pub record IsLastOf {X : Type 0} (c q : ℕ) (r : Report) (f : X → X) (source : ℕ) (k : Cap) (b : Block X) : Type 0 where
  pub waits : b.service ≡ Waits q false source k
  pub answered : (b.pair c).probing ≡ ProbeAnswered r
  pub settled : (d : ℕ) → (d ≡ c → ⊥) → is_unprobed (b.pair d).probing ≡ true
  pub spares : (f b.truth ≡ b.truth) ⊎ (k ≡ Cap.ToN)

ended-block : {X : Type 0} {caching : ℕ → Bool} {c q : ℕ} {r : Report} {f : X → X} {source : ℕ} {k : Cap}
    {b : Block X} → IsWell caching b → IsLastOf c q r f source k b → IsWell caching (ended_block c r f b)
ended-block {X} {caching} {c} {r} {f} {k} {b} h last =
    let begins : same_perm (report_left r) (b.pair c).recorded ≡ true =
    report_begins r (b.pair c) (view b.service c) (h.phases c) last.answered in
    let low : same_cap k Cap.ToT ≡ false = cap_is_low k (b.pair c) _ (h.phases c) (other c) in
    -- before, nobody had a Trunk but the client whose ProbeAck is taken, if that carries data
    let none_out : same_perm (report_left r) Perm.Trunk ≡ false → (d : ℕ) → is_out (b.pair d) (view b.service d)
    ≡ false = λ bare d. not_out (b.pair d) (view b.service d) (elim (cases_eq d c) [
      | inl same ↦ rw same (both_trunk (report_left r) (b.pair c).recorded begins bare)
      | inr ne ↦ low_within (b.pair d).recorded k (spared_within k (b.pair d) (view b.service d) (h.phases d) (other d)
          (quiet-is (b.pair d).probing (last.settled d ne))) low
    ]) in
    let memory_is : (data_too : Bool) → same_perm (report_left r) Perm.Trunk ≡ data_too → written r b.truth b.memory
    ≡ b.truth = elim [ true ↦ λ e. rw e refl | false ↦ λ e. rw e (h.memory (none_out e)) ] in
    record {
      phases = phase;
      awaited = tt;
      asked_cap = tt;
      own_source = tt;
      alone = alone-set c b.pair (gentle-report r (b.pair c) begins) h.alone;
      one_owner = owned-set c b.pair (gentle-report r (b.pair c) begins) h.one_owner;
      outside = outside-set caching c after b.pair (busy-inside caching c b.pair (λ p. is_answered p.probing) refl
          (rw last.answered refl) h.outside) h.outside;
      copies = λ d some. copy_is d some last.spares;
      memory = λ none. ap f (memory_is (same_perm (report_left r) Perm.Trunk) refl);
    }
  where
    after : ClientBlock
    after = after_report r (b.pair c)

    other : (d : ℕ) → view b.service d ≡ Other k
    other d = rw last.waits refl

    phase : (d : ℕ) → ok (set c after b.pair d) Idle ≡ true
    phase d = elim (cases_eq d c) [
      | inl same ↦ rw (same, set-same c after b.pair) (report-ok r (b.pair c) (view b.service c) (h.phases c)
          last.answered).1
      | inr ne ↦ rw (set-other c d after b.pair ne) (ended-ok k (b.pair d) (view b.service d) (h.phases d) (other d)
          (quiet-is (b.pair d).probing (last.settled d ne))).0
    ]

    -- where all were probed, nobody is recorded any more
    nobody : k ≡ Cap.ToN → (d : ℕ) → same_perm (set c after b.pair d).recorded Perm.None ≡ true
    nobody e d = low_none k (set c after b.pair d).recorded e
        (recorded_within c r k h last.answered last.settled (other c) d (other d))

    copy_is : (d : ℕ) → same_perm (set c after b.pair d).held Perm.None ≡ false → (f b.truth ≡ b.truth) ⊎ (k ≡ Cap.ToN)
        → b.copy d ≡ f b.truth
    copy_is d some (inl same) = h.copies d (rw ((set-part (λ p. p.held) c after b.pair refl) d) at some) ∙ sym same
    copy_is d some (inr all) =
        let no = nothing_below (set c after b.pair d).held (set c after b.pair d).recorded
        (held_at_most (set c after b.pair d) Idle (phase d)) (nobody all d) in
        absurd (let differs : true ≡ false = sym no ∙ some in cc)

-- ---- one link

-- what a client's link does: x tells whether its ProbeAck is taken, and y whether its access is answered
abbrev pub ended_move : Bool → Bool → ℕ → ℕ → Channel → Move
ended_move x y n source Channel.C = if x then Pops ProbeAck n else Stays
ended_move x y n source Channel.D = if y then Pushes Answer source else Stays
ended_move x y n source _ = Stays

ended_shows : (x y : Bool) (n source : ℕ) (j : Kind) (r : Report) (k : Cap) (p : ClientBlock) → is_transfer j ≡ true
    → (x ≡ true → p.probing ≡ ProbeAnswered r) → agrees (ended_move x y n source (channel_for j)) j n
    (shows j p (Other k)) (shows j (if x then after_report r p else p) Idle) ≡ true
ended_shows true true n source Request r k p t e = absurd cc
ended_shows true false n source Request r k p t e = absurd cc
ended_shows false true n source Request r k p t e = absurd cc
ended_shows false false n source Request r k p t e = absurd cc
ended_shows x y n source Answer r k p t e = absurd cc
ended_shows true y n source Probe r k p t e = rw (e refl) refl
ended_shows true y n source ProbeAck r k p t e = rw (same_number n) refl
ended_shows x y n source j r k p t e = same_again (shows j p (Other k))

ended_own : (ch : Channel) (x y : Bool) (n source : ℕ) → is_own_move ch (ended_move x y n source ch) ≡ true
ended_own ch x y n source = grind arith

pub ended_moved : (x y : Bool) (ch : Channel) (n source : ℕ) (l : Link) (rest : List Packet)
    → (x ≡ true → l.c ≡ packet ProbeAck n ∷ rest) → IsMoved (ended_move x y n source ch) (packets_on ch l)
    (packets_on ch (if y then with_d (packet Answer source) (if x then record l { c = rest } else l) else
    (if x then record l { c = rest } else l)))
ended_moved x y ch n source l rest e = grind arith

-- ---- the whole

pub report_answers-kept : {X : Type 0} {caching : ℕ → Bool} {c q : ℕ} (n : ℕ) {r : Report} {f : X → X} {source : ℕ}
    {k : Cap} (rest : List Packet) {s : State X} → IsInvariant caching s → (s.link c).c ≡ packet ProbeAck n ∷ rest
    → IsLastOf c q r f source k (s.block n) → IsInvariant caching (report_answers c q n source r f rest s)
report_answers-kept {X} {c} {q} n {r} {f} {source} {k} rest {s} inv first last =
    let never_pushed : (x : Bool) (m : ℕ) → (if x then Pops ProbeAck n else Stays) ≡ Pushes ProbeAck m → ⊥ =
    elim [ true ↦ λ m e. cc | false ↦ λ m e. cc ] in
    let links : ℕ → Link = ended_link c q (packet Answer source) rest s.link in
    let used : s.uses q source ≡ InService n = serves_of-is n _ (inv.named.serves q source n
    ∙ rw (last.waits, same_number q, same_number source) refl) in
    let acquires_same : (d i : ℕ) → acquires_with d i new ≡ acquires_with d i (s.block n) =
    λ d i. rw (set-part (λ p. p.acquiring) c (after_report r (old c)) old refl d) refl in
    let first_at : (d : ℕ) → (d == c) ≡ true → (s.link d).c ≡ packet ProbeAck n ∷ rest =
    λ d e. rw (eqb-true d c e) first in
    let answered_at : (d : ℕ) → (d == c) ≡ true → (old d).probing ≡ ProbeAnswered r =
    λ d e. rw (eqb-true d c e) last.answered in
    -- the link and the pair of a client, by whether it is c
    let popped : (d : ℕ) → popped_link c rest s.link d ≡ (if d == c then record (s.link d) { c = rest } else s.link d) =
    λ d. elim (cases_eq d c) [ inl same ↦ rw (same, same_number c) refl | inr ne ↦ rw (ne_eqb d c ne) refl ] in
    let by_link : (d : ℕ) (ch : Channel) → IsMoved (ended_move (d == c) (d == q) n source ch) (packets_on ch (s.link d))
    (packets_on ch (if d == q then with_d (packet Answer source) (if d == c then record (s.link d) { c = rest }
    else s.link d) else (if d == c then record (s.link d) { c = rest } else s.link d))) → IsMoved (ended_move (d == c)
    (d == q) n source ch) (packets_on ch (s.link d)) (packets_on ch (links d)) = λ d ch h. rw (popped d) h in
    invariant-moved_use q source Replied (set tracker None s.tracked) inv (record {
      well = ended-block (inv.blocks n) last;
      moved = λ d ch. by_link d ch (ended_moved (d == c) (d == q) ch n source (s.link d) rest (first_at d));
      own = λ d ch. ended_own ch (d == c) (d == q) n source;
      fits = λ d j t. by_pair d j _ (ended_shows (d == c) (d == q) n source j r k (old d) t (answered_at d));
      in_order = λ d m e. absurd (never_pushed (d == c) m e);
    })
    (rw used refl) (rw (same_number q, used, same_number source) refl) (λ d ne. (refl, rw (ne_eqb d q ne) refl))
    (record {
      acquires = names-set_at acquires_of acquires_with q source _ s.uses n new s.block
          ((rw used at (inv.named.acquires q source n)) ∙ sym (acquires_same q source)) (λ m ne. rw used refl)
          (λ i ne. acquires_same q i) (λ d i ne. acquires_same d i) inv.named.acquires;
      serves = names-set_at serves_of serves_with q source Replied s.uses n new s.block refl
          (λ m ne. rw used (sym (ne_eqb m n ne))) (λ i ne. rw (last.waits, same_number q, ne_eqb i source ne) refl)
          (λ d i ne. rw (last.waits, ne_eqb d q ne) refl) inv.named.serves;
      releases = λ d. names-block is_of (releases_with d) (s.lets d) n new s.block
          (λ i. rw (set-part (λ p. p.letting) c (after_report r (old c)) old refl d) refl) (inv.named.releases d);
      trackers = names-set is_of tracks_with s.tracked tracker None n new s.block refl (λ m ne. rw (is_of-is n
          (s.tracked tracker) (inv.named.trackers tracker n ∙ rw (last.waits, same_number tracker) refl))
          (sym (ne_eqb m n ne))) (λ i ne. rw (last.waits, ne_eqb i tracker ne) refl) inv.named.trackers;
    })
  where
    old : ℕ → ClientBlock
    old = (s.block n).pair

    new : Block X
    new = ended_block c r f (s.block n)

    tracker : ℕ
    tracker = (s.block n).tracker

    by_pair : (d : ℕ) (j : Kind) (m : Move)
        → agrees m j n (shows j (old d) (Other k)) (shows j (if d == c then after_report r (old d) else old d) Idle)
        ≡ true → agrees m j n (shown j d (s.block n)) (shown j d new) ≡ true
    by_pair d j m h =
        let seen : view (s.block n).service d ≡ Other k = rw last.waits refl in
        rw seen (subst (λ p. agrees m j n (shows j (old d) (Other k)) (shows j p Idle) ≡ true)
        (sym (elim (cases_eq d c) [ inl same ↦ rw (same, same_number c) refl | inr ne ↦ rw (ne_eqb d c ne) refl ])) h)
