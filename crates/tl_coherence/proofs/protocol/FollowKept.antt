-- A Grant that is taken keeps the invariant.
-- A ReleaseAck and a GrantAck that are taken keep the invariant.
-- The protocol keeps its invariant as it follows the world: at each message that is taken, the first token and the
-- invariant give what its event asks for.
use Rattle.std.proofs.Common.{◌≡◌, ℕ, ◌≤◌, Bool, true, false, not, ◌&&◌, ◌==◌, List, ◌∷◌, Some, None, refl, sym, ◌∙◌}
use Rattle.std.proofs.Common.{ap, arith, inl, inr, length, ne_eqb, eqb-true}
use Rattle.tl_coherence.proofs
use proofs.Imports.{and-false, cases_eq, not-true, same_Some, ⊤, Channel, Message, MessageA, Config, Cap, Grow, Report}
use proofs.Imports.{Perm, grow_left, prune_left, same_perm, block_at, is_acquire, Op, Reply, copy_stored, whole_grow}
use proofs.Imports.{cap_probed, IsInvariant, IsWell, acquires_of, acquires_with, is_of, is_out, releases_with}
use proofs.Imports.{serves_of, serves_with, tracks_with, Acquire, Grant, GrantAck, Kind, Packet, ProbeAck, Release}
use proofs.Imports.{ReleaseAck, set, set_at, Acknowledging, AcquireOpen, ClientBlock, Granting, Idle, NoAcquire}
use proofs.Imports.{NoRelease, ProbeAnswered, ReleaseAcked, View, grow_fits, is_unprobed, is_unreleased, is_whole, ok}
use proofs.Imports.{after_grant, after_release_ack, after_report, Acquires, Block, GrantSent, GrantTaken, Service}
use proofs.Imports.{SourceFree, State, Waits, freed_block, grant_ack_taken, grant_taken, let_go_block, on, packet}
use proofs.Imports.{release_ack_taken, report_answers, report_taken, taken_block, taken_link, view, is_acked}
use proofs.Imports.{is_answered, is_transfer, is_wanting, shows, AbstractState, asked, granted_after, is_unheld}
use proofs.Imports.{kind_taken, performs, some_below, AreMoved, Move, Pops, Pushes, Stays, agrees, channel_for}
use proofs.Imports.{is_own_move, report_told}
use Rattle.tl_coherence.specs.protocol.Protocol.{Link}
use proofs.queues.{Phases.and_right, Facts.acquire_fits, Facts.answered_other, Facts.granting_asks}
use proofs.queues.Moves.{event-at, bare-elsewhere, names-block, names-set_at, invariant-moved_use, same_again, bare-at}
use proofs.queues.Moves.{names-set, invariant-moved}
use proofs.queues.Tokens.{same_number, set-same, set-other, set-part, set-each}
use proofs.queues.PhaseSteps.{release_ack-ok, ack_taken-ok, ack_taken_other-ok}
use proofs.protocol.{Granted.room-trunk, GrantedAll.report_grants-kept}
use proofs.protocol.RequestsKept.{taken-block, answer_taken-kept, some-one, settled_all, leaves-bytes, gift_fits}
use proofs.protocol.RequestsKept.{gift_trunk, unheld_none, access_answered-followed, access_served-followed}
use proofs.protocol.RequestsKept.{acquire_granted-followed, acquire_served-followed}
use proofs.protocol.BothParts.{acquires_of-is, is_of-is, shows-beside, wanting-is, not-calm, granting-own, first-answer}
use proofs.protocol.BothParts.{first-grant_ack, first-probe, first-release, first-release_ack, first-report}
use proofs.protocol.BothParts.{first-shown}
use proofs.protocol.Asked.{gentle-same, awaited-set, asked_cap-set, alone-set, owned-set, outside-set, busy-inside}
use proofs.protocol.Asked.{probe_taken-kept, access_asked-kept, acquire_asked-kept, release_asked-kept}
use proofs.protocol.Asked.{block_stored-kept}
use proofs.protocol.Reported.{report_answers-kept, report_taken-kept, release_taken-kept}
use proofs.protocol.HeadOfD.{IsReady, ready-access, true-taken}

abbrev pub taken_moves : ℕ → Channel → Move
taken_moves n Channel.D = Pops Grant n
taken_moves n Channel.E = Pushes GrantAck n
taken_moves n _ = Stays

taken_shows : (n : ℕ) (j : Kind) (d : Bool) (k : Cap) (p : ClientBlock) → is_transfer j ≡ true
    → agrees (taken_moves n (channel_for j)) j n (shows j p (Granting d k)) (shows j (after_grant k p) Acknowledging)
    ≡ true
taken_shows n Acquire d k p t =
    let go : (b : Bool) → agrees Stays Acquire n (b && false) false ≡ true = elim [ true ↦ refl | false ↦ refl ] in
    go (is_wanting p.acquiring)
taken_shows n Grant d k p t = rw (same_number n) refl
taken_shows n GrantAck d k p t = rw (same_number n) refl
taken_shows n j d k p t = same_again (shows j p Acknowledging)

pub grant_taken-kept : {X : Type 0} {caching : ℕ → Bool} (c n : ℕ) (d whole : Bool) (g : Grow) (k : Cap)
    (rest : List Packet) {s : State X} → IsInvariant caching s → (s.link c).d ≡ packet Grant n ∷ rest
    → (s.block n).service ≡ GrantSent c d k → ((s.block n).pair c).acquiring ≡ AcquireOpen whole g
    → IsInvariant caching (grant_taken c n whole d k rest s)
grant_taken-kept {X} {caching} c n d whole g k rest {s} inv first granting wants =
    let here : Link = taken_link n rest (s.link c) in
    let moved : AreMoved (taken_moves n) (s.link c) here = elim [ Channel.D ↦ first | _ ↦ refl ] in
    let own : (ch : Channel) → is_own_move ch (taken_moves n ch) ≡ true = elim [ Channel.A ↦ refl | ch ↦ refl ] in
    let old : ℕ → ClientBlock = (s.block n).pair in
    let after : ClientBlock = after_grant k (old c) in
    let new : Block X = taken_block c whole d k (s.block n) in
    let used : s.uses c source ≡ Acquires n = acquires_of-is n _ (inv.named.acquires c source n
    ∙ rw (wants, same_number source) refl) in
    invariant-moved_use c source _ s.tracked inv (event-at (record {
      well = taken-block c d whole g k (inv.blocks n) granting wants;
      moved = moved;
      own = own;
      fits = λ j t. rw (granting, set-same c after old, same_number c) (taken_shows n j d k (old c) t);
      others = λ i ne j t. rw (granting, set-other c i after old ne, ne_eqb i c ne) refl;
      in_order = λ m e. absurd (let f : Stays ≡ Pushes ProbeAck m = e in cc);
    }))
    (rw (same_number c, used) refl) (rw (same_number c, used) refl) (bare-elsewhere c (taken_moves n)) (record {
      acquires = names-set_at acquires_of acquires_with c source SourceFree s.uses n new s.block
          (rw (set-same c after old) refl) (λ m ne. rw used (sym (ne_eqb m n ne)))
          (λ i ne. rw (set-same c after old, ne_eqb i source ne) (sym (and-false (is_wanting (old c).acquiring))))
          (λ i j ne. rw (set-other c i after old ne) refl) inv.named.acquires;
      serves = names-set_at serves_of serves_with c source SourceFree s.uses n new s.block refl (λ m ne. rw used refl)
          (λ i ne. rw granting refl) (λ i j ne. rw granting refl) inv.named.serves;
      releases = λ i. names-block is_of (releases_with i) (s.lets i) n new s.block
          (λ j. rw (set-part (λ p. p.letting) c after old refl i) refl) (inv.named.releases i);
      trackers = names-block is_of tracks_with s.tracked n new s.block (λ i. rw granting refl) inv.named.trackers;
    })
  where
    source : ℕ
    source = (s.block n).source c

-- ---- a ReleaseAck

let_go-block : {X : Type 0} {caching : ℕ → Bool} (c : ℕ) {b : Block X} → IsWell caching b
    → (b.pair c).letting ≡ ReleaseAcked → IsWell caching (let_go_block c b)
let_go-block {caching} c {b} h acked =
    let after : ClientBlock = after_release_ack (b.pair c) in
    let recorded_same = set-part (λ p. p.recorded) c after b.pair refl in
    record {
      phases = set-each (λ d q. ok q (view b.service d) ≡ true) c after b.pair
          (release_ack-ok (b.pair c) (view b.service c) (h.phases c) acked) (λ d ne. h.phases d);
      awaited = awaited-set b.service c after b.pair refl h.awaited;
      asked_cap = asked_cap-set b.service c after b.pair refl h.asked_cap;
      own_source = h.own_source;
      alone = alone-set c b.pair (gentle-same (b.pair c) after refl refl) h.alone;
      one_owner = owned-set c b.pair (gentle-same (b.pair c) after refl refl) h.one_owner;
      outside = outside-set caching c after b.pair (busy-inside caching c b.pair (λ p. is_acked p.letting) refl
          (rw acked refl) h.outside) h.outside;
      copies = λ d some. h.copies d (rw ((set-part (λ p. p.held) c after b.pair refl) d) at some);
      memory = λ none. h.memory (λ d. rw (recorded_same d) at (none d));
    }

abbrev pub let_go_moves : ℕ → Channel → Move
let_go_moves n Channel.D = Pops ReleaseAck n
let_go_moves n _ = Stays

let_go_shows : (n : ℕ) (k : Kind) (p : ClientBlock) (v : View) → is_transfer k ≡ true → p.letting ≡ ReleaseAcked
    → agrees (let_go_moves n (channel_for k)) k n (shows k p v) (shows k (after_release_ack p) v) ≡ true
let_go_shows n Release p v t e = rw e refl
let_go_shows n ReleaseAck p v t e = rw (same_number n) refl
let_go_shows n k p v t e = same_again (shows k p v)

pub release_ack_taken-kept : {X : Type 0} {caching : ℕ → Bool} (c n : ℕ) (rest : List Packet) {s : State X}
    → IsInvariant caching s → (s.link c).d ≡ packet ReleaseAck n ∷ rest
    → ((s.block n).pair c).letting ≡ ReleaseAcked → IsInvariant caching (release_ack_taken c n rest s)
release_ack_taken-kept {X} {caching} c n rest {s} inv first acked =
    let here : Link = record (s.link c) { d = rest } in
    let moved : AreMoved (let_go_moves n) (s.link c) here = elim [ Channel.D ↦ first | _ ↦ refl ] in
    let own : (ch : Channel) → is_own_move ch (let_go_moves n ch) ≡ true = elim [ Channel.A ↦ refl | ch ↦ refl ] in
    let old : ℕ → ClientBlock = (s.block n).pair in
    let after : ClientBlock = after_release_ack (old c) in
    let new : Block X = let_go_block c (s.block n) in
    let source : ℕ = (s.block n).release_source c in
    let used = is_of-is n _ (inv.named.releases c source n ∙ rw (acked, same_number source) refl) in
    invariant-moved (set_at c source None s.lets) s.tracked inv (event-at (record {
      well = let_go-block c (inv.blocks n) acked;
      moved = moved;
      own = own;
      fits = λ k t. rw (set-same c after old) (let_go_shows n k (old c) (view (s.block n).service c) t acked);
      others = λ d ne k t. ap (λ p. shows k p (view (s.block n).service d)) (set-other c d after old ne);
      in_order = λ m e. absurd (let f : Stays ≡ Pushes ProbeAck m = e in cc);
    }))
    (bare-at c (let_go_moves n) refl refl) (record {
      acquires = λ d. names-block acquires_of (acquires_with d) (s.uses d) n new s.block
          (λ i. rw (set-part (λ p. p.acquiring) c after old refl d) refl) (inv.named.acquires d);
      serves = λ d. names-block serves_of (serves_with d) (s.uses d) n new s.block (λ i. refl) (inv.named.serves d);
      releases = names-set_at is_of releases_with c source None s.lets n new s.block (rw (set-same c after old) refl)
          (λ m ne. rw used (sym (ne_eqb m n ne))) (λ i ne. rw (set-same c after old, ne_eqb i source ne) (sym (and-false
          (not (is_unreleased (old c).letting))))) (λ d i ne. rw (set-other c d after old ne) refl) inv.named.releases;
      trackers = names-block is_of tracks_with s.tracked n new s.block (λ i. refl) inv.named.trackers;
    })

-- ---- a GrantAck

freed-block : {X : Type 0} {caching : ℕ → Bool} (c : ℕ) {b : Block X} → IsWell caching b → b.service ≡ GrantTaken c
    → IsWell caching (freed_block b)
freed-block c {b} h taken =
    let ungranted : (d : ℕ) (x : Bool) → (d == c) ≡ x → is_out (b.pair d) (view b.service d) ≡ is_out (b.pair d) Idle =
    λ d. elim [ true ↦ λ e. rw (taken, e) refl | false ↦ λ e. rw (taken, e) refl ] in
    record {
      phases = λ d. elim (cases_eq d c) [
        | inl same ↦ rw same (ack_taken-ok (b.pair c) (view b.service c) (h.phases c) (rw (taken, same_number c) refl))
        | inr other ↦ ack_taken_other-ok _ _ (h.phases d) (rw (taken, ne_eqb d c other) refl)
      ];
      awaited = tt;
      asked_cap = tt;
      own_source = tt;
      alone = h.alone;
      one_owner = h.one_owner;
      outside = h.outside;
      copies = h.copies;
      memory = λ none. h.memory (λ d. ungranted d (d == c) refl ∙ none d);
    }

abbrev pub freed_moves : ℕ → Channel → Move
freed_moves n Channel.E = Pops GrantAck n
freed_moves n _ = Stays

freed_shows : (n : ℕ) (k : Kind) (p : ClientBlock) → is_transfer k ≡ true
    → agrees (freed_moves n (channel_for k)) k n (shows k p Acknowledging) (shows k p Idle) ≡ true
freed_shows n GrantAck p t = rw (same_number n) refl
freed_shows n k p t = same_again (shows k p Idle)

pub grant_ack_taken-kept : {X : Type 0} {caching : ℕ → Bool} (c n : ℕ) (rest : List Packet) {s : State X}
    → IsInvariant caching s → (s.link c).e ≡ packet GrantAck n ∷ rest → (s.block n).service ≡ GrantTaken c
    → IsInvariant caching (grant_ack_taken c n rest s)
grant_ack_taken-kept {X} {caching} c n rest {s} inv first taken =
    let here : Link = record (s.link c) { e = rest } in
    let moved : AreMoved (freed_moves n) (s.link c) here = elim [ Channel.E ↦ first | _ ↦ refl ] in
    let own : (ch : Channel) → is_own_move ch (freed_moves n ch) ≡ true = elim [ Channel.A ↦ refl | ch ↦ refl ] in
    let new : Block X = freed_block (s.block n) in
    let used = is_of-is n _ (inv.named.trackers tracker n ∙ rw (taken, same_number tracker) refl) in
    invariant-moved s.lets (set tracker None s.tracked) inv (event-at (record {
      well = freed-block c (inv.blocks n) taken;
      moved = moved;
      own = own;
      fits = λ k t. rw (taken, same_number c) (freed_shows n k ((s.block n).pair c) t);
      others = λ d ne k t. rw (taken, ne_eqb d c ne) (sym (shows-beside k ((s.block n).pair d)));
      in_order = λ m e. absurd (let f : Stays ≡ Pushes ProbeAck m = e in cc);
    }))
    (bare-at c (freed_moves n) refl refl) (record {
      acquires = λ d. names-block acquires_of (acquires_with d) (s.uses d) n new s.block (λ i. refl)
          (inv.named.acquires d);
      serves = λ d. names-block serves_of (serves_with d) (s.uses d) n new s.block (λ i. rw taken refl)
          (inv.named.serves d);
      releases = λ d. names-block is_of (releases_with d) (s.lets d) n new s.block (λ i. refl) (inv.named.releases d);
      trackers = names-set is_of tracks_with s.tracked tracker None n new s.block refl
          (λ m ne. rw used (sym (ne_eqb m n ne))) (λ i ne. rw (taken, ne_eqb i tracker ne) refl) inv.named.trackers;
    })
  where
    tracker : ℕ
    tracker = (s.block n).tracker

-- ---- Probes, ProbeAcks and Releases

-- the access that has a block in service is one, and probes with the caps of the service
abbrev pub IsServing : {w : ℕ} → Service → MessageA w → Type 0
IsServing (Waits q false source k) m = (is_acquire m.opcode ≡ false) × (cap_probed m.opcode m.param ≡ Some k)
IsServing _ m = ⊤

module _ {w : ℕ} {caching : ℕ → Bool} (config : Config) (c : ℕ) (rest : List Packet) (h : AbstractState w)
    (inv : IsInvariant caching h.state) (plain : (d : ℕ) → length config.clients.items ≤ d → caching d ≡ false) where
  abbrev clients : ℕ
  clients = length config.clients.items

  abbrev r : ℕ → Report
  r n = report_told ((h.state.block n).pair c).probing

  abbrev others_probed : ℕ → ℕ → Bool
  others_probed n d = not (d == c) && not (is_unprobed ((h.state.block n).pair d).probing)

  quiet : (n : ℕ) → some_below clients (others_probed n) ≡ false → (d : ℕ) → (d ≡ c → ⊥)
      → is_unprobed ((h.state.block n).pair d).probing ≡ true
  quiet n last = settled_all _ caching c (h.state.block n).pair plain (inv.blocks n).outside last

  report-followed : (n : ℕ) → (h.state.link c).c ≡ packet ProbeAck n ∷ rest
      → some_below clients (others_probed n) ≡ true → IsInvariant caching (report_taken c n (r n) rest h.state)
  report-followed n first more =
      let one = some-one _ (others_probed n) more in
      let apart : (d : ℕ) → others_probed n d ≡ true → d ≡ c → ⊥ =
      λ d e f. let g : false ≡ true = rw (f, same_number c) at e in cc in
      report_taken-kept c n (r n) rest inv first (first-report inv first) one.0 (apart one.0 one.1)
      (not-true (is_unprobed ((h.state.block n).pair one.0).probing)
      (and_right (not (one.0 == c)) (not (is_unprobed ((h.state.block n).pair one.0).probing)) one.1))

  report_answers-followed : (n q source : ℕ) (k : Cap) → (h.state.link c).c ≡ packet ProbeAck n ∷ rest
      → length (h.state.block n).truth ≡ 64 → IsServing (h.state.block n).service (h.request n)
      → some_below clients (others_probed n) ≡ false → (h.state.block n).service ≡ Waits q false source k
      → IsInvariant caching (report_answers c q n source (r n) (performs (h.request n)) rest h.state)
  report_answers-followed n q source k first long serving last waits =
      let for : IsServing (Waits q false source k) (h.request n) = rw waits at serving in
      report_answers-kept {c = c} {q = q} n {r = r n} {f = performs (h.request n)} {source = source} {k = k} rest inv
      first (record {
        waits = waits;
        answered = first-report inv first;
        settled = quiet n last;
        spares = elim (leaves-bytes (h.request n) (h.state.block n).truth for.0 long) [
          | inl same ↦ inl same
          | inr all ↦ inr (same_Some k Cap.ToN (sym for.1 ∙ all))
        ];
      })

  report_grants-followed : (n q source : ℕ) (k : Cap) (whole : Bool) (g : Grow)
      → (h.state.link c).c ≡ packet ProbeAck n ∷ rest → some_below clients (others_probed n) ≡ false
      → (h.state.block n).service ≡ Waits q true source k → ((h.state.block n).pair q).acquiring ≡ AcquireOpen whole g
      → IsInvariant caching (granted_after clients config.profile c q n (r n) (AcquireOpen whole g) rest h).state
  report_grants-followed n q source k whole g first last waits wants = report_grants-kept n rest inv first (record {
    waits = waits;
    answered = answered;
    settled = quiet n last;
    wants = wants;
    fits = gift_fits config.profile whole g _ (is_unheld clients after) fits;
    room = λ top d ne. elim (gift_trunk config.profile whole g (b.pair q).held (is_unheld clients after) fits top) [
      | inl grows ↦ room-trunk c q (r n) whole g source k (inv.blocks n) waits answered
          (quiet n last) wants grows differ d ne
      | inr unheld ↦ unheld_none clients caching after plain
          (outside-set caching c (after_report (r n) (b.pair c)) b.pair (busy-inside caching c b.pair
          (λ x. is_answered x.probing) refl (rw answered refl) (inv.blocks n).outside) (inv.blocks n).outside) unheld d
    ];
  })
    where
      b : Block (List ℕ)
      b = h.state.block n

      after : ℕ → ClientBlock
      after = set c (after_report (r n) (b.pair c)) b.pair

      fits : grow_fits (b.pair q).held (AcquireOpen whole g) ≡ true
      fits = acquire_fits whole g _ _ ((inv.blocks n).phases q) wants

      answered : (b.pair c).probing ≡ ProbeAnswered (r n)
      answered = first-report inv first

      differ : c ≡ q → ⊥
      differ e =
          let seen = answered_other (r n) _ _ ((inv.blocks n).phases c) answered in
          let other : false ≡ true = rw (waits, e, same_number q) at seen in
          cc

-- ---- Grants

grant-followed : {w : ℕ} {caching : ℕ → Bool} (c n q : ℕ) (d : Bool) (k : Cap) (rest : List Packet)
    (h : AbstractState w) → IsInvariant caching h.state → (h.state.link c).d ≡ packet Grant n ∷ rest
    → (h.state.block n).service ≡ GrantSent q d k
    → IsInvariant caching (grant_taken c n (is_whole ((h.state.block n).pair c).acquiring) d k rest h.state)
grant-followed c n q d k rest h inv first e =
    let b : Block (List ℕ) = h.state.block n in
    let same : c ≡ q = eqb-true c q (granting-own (c == q) d k (rw e at (first-shown inv c Grant refl first))) in
    let here : b.service ≡ GrantSent c d k = rw same e in
    let wants = wanting-is _ (not-calm (b.pair c).acquiring
    (granting_asks d k (b.pair c) (view b.service c) ((inv.blocks n).phases c) (rw (here, same_number c) refl))) in
    rw wants.2 (grant_taken-kept c n d wants.0 wants.1 k rest inv first here wants.2)

-- ---- all messages that are taken

pub kind_taken-kept : {w : ℕ} {caching : ℕ → Bool} (config : Config) (tracker c : ℕ) (k : Kind) (i : ℕ)
    (rest : List Packet) (h : AbstractState w) → IsInvariant caching h.state
    → ((d : ℕ) → length config.clients.items ≤ d → caching d ≡ false) → ((n : ℕ) → length (h.state.block n).truth ≡ 64)
    → ((n : ℕ) → IsServing (h.state.block n).service (h.request n)) → on k (h.state.link c) ≡ packet k i ∷ rest
    → IsReady tracker c k i h → IsInvariant caching (kind_taken config tracker c k i rest h).state
kind_taken-kept {caching} config tracker c k i rest h inv plain long serving first ready =
    true-taken config tracker c rest h (λ j n. (on j (h.state.link c) ≡ packet j n ∷ rest) × IsReady tracker c j n h)
    (λ x. IsInvariant caching x.state) k i (record {
      nothing = λ j n known idle. inv;
      access_answered = λ source m o known from caps none. access_answered-followed config c rest h inv plain source m o
          known.0 (ready-access tracker c source m h known.1 from).0 (long (block_at m.address)) caps none;
      access_served = λ source m j known from caps some. access_served-followed config c rest h
          inv plain tracker source m j known.0 (ready-access tracker c source m h known.1 from).1
          (ready-access tracker c source m h known.1 from).2 caps some;
      acquire_granted = λ n whole g known wants none. acquire_granted-followed config c rest h inv plain tracker n whole
          g known.0 known.1.0 known.1.1 wants none;
      acquire_served = λ n whole g known wants some. acquire_served-followed config c rest h inv plain tracker n whole g
          known.0 known.1.0 known.1.1 wants some;
      probe = λ n known. probe_taken-kept c n _ rest inv known.0 (first-probe inv known.0) known.1;
      report = λ n known more. report-followed config c rest h inv plain n known.0 more;
      report_answers = λ n q source j known last waits. report_answers-followed config c rest h inv plain n q source j
          known.0 (long n) (serving n) last waits;
      report_grants = λ n q source j whole g known last waits wants. report_grants-followed config c rest h inv plain n
          q source j whole g known.0 last waits wants;
      release = λ n known. release_taken-kept c n _ rest inv known.0 (first-release inv known.0);
      answer = λ source known. answer_taken-kept c _ rest inv known.0 (first-answer inv known.0);
      grant = λ n q d j known sent. grant-followed c n q d j rest h inv known.0 sent;
      release_ack = λ n known. release_ack_taken-kept c n rest inv known.0 (first-release_ack inv known.0);
      grant_ack = λ n known. grant_ack_taken-kept c n rest inv known.0 (first-grant_ack inv known.0);
    }) (first, ready)

-- ---- operations that are asked

-- what a client's answer says of its end: what it was asked for, it may do
abbrev pub IsAskable : {w : ℕ} → (ℕ → Bool) → ℕ → Op w → Reply → AbstractState w → Type 0
IsAskable caching c (Op.Store address size value) Reply.Stored h =
    same_perm ((h.state.block (block_at address)).pair c).held Perm.Trunk ≡ true
IsAskable caching c (Op.Acquire n g) (Reply.Started source) h = (caching c ≡ true) × (h.state.uses c source
    ≡ SourceFree) × (((h.state.block n).pair c).acquiring ≡ NoAcquire) × (((h.state.block n).pair c).letting
    ≡ NoRelease) × (same_perm (grow_left g) ((h.state.block n).pair c).held ≡ true)
IsAskable caching c (Op.AcquireWhole n bytes) (Reply.Started source) h =
    (caching c ≡ true) × (h.state.uses c source ≡ SourceFree) × (((h.state.block n).pair c).acquiring ≡ NoAcquire)
    × (((h.state.block n).pair c).letting ≡ NoRelease) × (same_perm Perm.Trunk ((h.state.block n).pair c).held ≡ false)
IsAskable caching c (Op.Release n r) (Reply.Started source) h = (caching c ≡ true) × (h.state.lets c source ≡ None)
    × (((h.state.block n).pair c).acquiring ≡ NoAcquire) × (((h.state.block n).pair c).letting ≡ NoRelease)
    × (same_perm ((h.state.block n).pair c).held (prune_left r) ≡ true)
IsAskable caching c (Op.Access m) (Reply.Started source) h = h.state.uses c source ≡ SourceFree
IsAskable caching c o r h = ⊤

begins_fit : (g : Grow) (p : Perm) → same_perm (grow_left g) p ≡ true → grow_fits p (AcquireOpen false g) ≡ true
begins_fit g p e = grind arith

whole_fits : (p : Perm) → same_perm Perm.Trunk p ≡ false → grow_fits p (AcquireOpen true (whole_grow p)) ≡ true
whole_fits p e = grind arith

pub asked-kept : {w : ℕ} {caching : ℕ → Bool} (c : ℕ) (o : Op w) (r : Reply) (h : AbstractState w)
    → IsInvariant caching h.state → IsAskable caching c o r h → IsInvariant caching (asked c o r h).state
asked-kept c (Op.Store address size value) Reply.Stored h inv may = block_stored-kept c _
    (copy_stored address size value ((h.state.block (block_at address)).copy c)) inv may
asked-kept c (Op.Acquire n g) (Reply.Started source) h inv is = acquire_asked-kept c n _ false g
    ((h.state.block n).waiting c) inv is.0 is.1 is.2 is.3 (begins_fit g ((h.state.block n).pair c).held is.4)
asked-kept c (Op.AcquireWhole n bytes) (Reply.Started source) h inv is = acquire_asked-kept c n _ true (whole_grow
    ((h.state.block n).pair c).held) bytes inv is.0 is.1 is.2 is.3 (whole_fits ((h.state.block n).pair c).held is.4)
asked-kept c (Op.Release n r) (Reply.Started source) h inv is = release_asked-kept c n _ r inv is.0 is.1 is.2 is.3 is.4
asked-kept c (Op.Access (Message.A m)) (Reply.Started source) h inv closed = access_asked-kept c _ inv closed
asked-kept c o r h inv is = inv
