-- What is kept across clients where one client's part of a block changes.
-- What a client is asked keeps the invariant: an access, an Acquire, a Release and a store.
-- A Probe that is taken keeps the invariant.
use Rattle.std.proofs.Common.{◌≡◌, ℕ, Bool, true, false, not, List, ◌∷◌, Some, None, refl, sym, ◌∙◌, ap, arith, inl}
use Rattle.std.proofs.Common.{inr, ne_eqb}
use Rattle.tl_coherence.proofs
use proofs.Imports.{cases_eq, Channel, Cap, Grow, Prune, Perm, prune_left, report_at, report_right, same_perm}
use proofs.Imports.{AreOutside, IsAskedCap, IsAwaited, IsInvariant, IsOwnSource, IsWell, acquires_of, acquires_with}
use proofs.Imports.{is_of, is_out, releases_with, resting, serves_of, serves_with, tracks_with, Acquire, Kind, Packet}
use proofs.Imports.{Probe, ProbeAck, Release, ReleaseAck, Request, set, set_at, count, AcquireOpen, ClientBlock}
use proofs.Imports.{NoAcquire, NoRelease, Own, ProbeSent, View, grow_fits, is_unacquired, is_unprobed, ok}
use proofs.Imports.{after_acquire, after_probe, after_release, Acquires, Block, Service, SourceFree, State}
use proofs.Imports.{access_asked, acquire_asked, acquiring_block, block_stored, packet, probe_taken, probed_block}
use proofs.Imports.{probed_link, release_asked, releasing_block, stored_block, view, with_a, with_c, is_granting}
use proofs.Imports.{is_transfer, is_unserved, shown, shows, AreMoved, Move, Pops, Pushes, Stays, agrees, channel_for}
use proofs.Imports.{is_own_move}
use Rattle.tl_coherence.specs.{protocol.Invariant.IsAlone, protocol.Invariant.IsOwned, protocol.Protocol.Link}
use proofs.queues.{PhaseSteps.probe-ok, PhaseSteps.acquire-ok, PhaseSteps.release-ok, Phases.and_left}
use proofs.queues.{Phases.nothing_below, Facts.own_wants, Facts.held_at_most, Facts.held_out, Facts.unserved_calm}
use proofs.queues.Moves.{same_again, event-at, bare-at, names-kept, invariant-moved, spares, bare-elsewhere}
use proofs.queues.Moves.{invariant-moved_access, names-block, names-set_at, invariant-moved_use}
use proofs.queues.Tokens.{same_number, set-same, set-each, set-other, set-part}

-- ---- who is waited for

pub awaited_by : (s : Service) (pair : ℕ → ClientBlock) (c : ℕ) → is_unprobed (pair c).probing ≡ false
    → IsAwaited s pair
awaited_by s pair c e = grind arith

pub awaited-set : (s : Service) (c : ℕ) (q : ClientBlock) (pair : ℕ → ClientBlock)
    → is_unprobed q.probing ≡ is_unprobed (pair c).probing → IsAwaited s pair → IsAwaited s (set c q pair)
awaited-set s c q pair e f = grind (arith, set-part)

-- the cap stays where the Acquires do
pub asked_cap-set : (s : Service) (c : ℕ) (q : ClientBlock) (pair : ℕ → ClientBlock)
    → q.acquiring ≡ (pair c).acquiring → IsAskedCap s pair → IsAskedCap s (set c q pair)
asked_cap-set s c q pair e f = grind (arith, set-part)

-- and where another's changes than the one that is served
pub asked_cap-other : (s : Service) (c : ℕ) (q : ClientBlock) (pair : ℕ → ClientBlock) → (view s c ≡ Own → ⊥)
    → IsAskedCap s pair → IsAskedCap s (set c q pair)
asked_cap-other s c q pair e f = grind (arith, cases_eq)

-- the source stays where another's changes than that of the one that is served
pub own_source-other : (s : Service) (c i : ℕ) (source : ℕ → ℕ) → (view s c ≡ Own → ⊥) → IsOwnSource s source
    → IsOwnSource s (set c i source)
own_source-other s c i source e f = grind (arith, cases_eq)

-- ---- who owns the block

-- one who is recorded with less than before, or as much, and isn't probed anew
pub record IsGentle (p q : ClientBlock) : Type 0 where
  pub trunk : same_perm q.recorded Perm.Trunk ≡ true → same_perm p.recorded Perm.Trunk ≡ true
  pub none : same_perm p.recorded Perm.None ≡ true → same_perm q.recorded Perm.None ≡ true
  pub quiet : is_unprobed p.probing ≡ true → is_unprobed q.probing ≡ true

-- where the record and the probing stay
pub gentle-same : (p q : ClientBlock) → q.recorded ≡ p.recorded → is_unprobed q.probing ≡ is_unprobed p.probing
    → IsGentle p q
gentle-same p q e f = record { trunk = λ h. rw e at h; none = λ h. rw e h; quiet = λ h. rw f h }

trunk_at : (c i : ℕ) {q : ClientBlock} (pair : ℕ → ClientBlock) → IsGentle (pair c) q
    → same_perm (set c q pair i).recorded Perm.Trunk ≡ true → same_perm (pair i).recorded Perm.Trunk ≡ true
trunk_at c i {q} pair g = grind (arith, set-each)

none_at : (c i : ℕ) {q : ClientBlock} (pair : ℕ → ClientBlock) → IsGentle (pair c) q
    → same_perm (pair i).recorded Perm.None ≡ true → same_perm (set c q pair i).recorded Perm.None ≡ true
none_at c i {q} pair g = grind (arith, set-each)

quiet_at : (c i : ℕ) {q : ClientBlock} (pair : ℕ → ClientBlock) → IsGentle (pair c) q
    → is_unprobed (pair i).probing ≡ true → is_unprobed (set c q pair i).probing ≡ true
quiet_at c i {q} pair g = grind (arith, set-each)

probed_at : (c i : ℕ) {q : ClientBlock} (pair : ℕ → ClientBlock) → IsGentle (pair c) q
    → is_unprobed (set c q pair i).probing ≡ false → is_unprobed (pair i).probing ≡ false
probed_at c i {q} pair g e = grind (arith, quiet_at)

pub alone-set : (c : ℕ) {q : ClientBlock} (pair : ℕ → ClientBlock) → IsGentle (pair c) q → IsAlone pair
    → IsAlone (set c q pair)
alone-set c pair g h i j trunk probed ne =
    quiet_at c j pair g (h i j (trunk_at c i pair g trunk) (probed_at c i pair g probed) ne)

pub owned-set : (c : ℕ) {q : ClientBlock} (pair : ℕ → ClientBlock) → IsGentle (pair c) q → IsOwned pair
    → IsOwned (set c q pair)
owned-set c pair g h i j trunk ne = none_at c j pair g (h i j (trunk_at c i pair g trunk) ne)

-- ---- who has nothing to do with it

pub outside-set : (caching : ℕ → Bool) (c : ℕ) (q : ClientBlock) (pair : ℕ → ClientBlock) → (caching c ≡ false → ⊥)
    → AreOutside caching pair → AreOutside caching (set c q pair)
outside-set caching c q pair inside h d plain = grind (arith, cases_eq)

-- one who has something under way
pub busy-inside : (caching : ℕ → Bool) (c : ℕ) (pair : ℕ → ClientBlock) (busy : ClientBlock → Bool)
    → busy resting ≡ false → busy (pair c) ≡ true → AreOutside caching pair → caching c ≡ false → ⊥
busy-inside caching c pair busy none some h plain = grind arith

-- ---- blocks

acquiring-block : {X : Type 0} {caching : ℕ → Bool} (c source : ℕ) (whole : Bool) (g : Grow) (bytes : X) {b : Block X}
    → IsWell caching b → caching c ≡ true → (b.pair c).acquiring ≡ NoAcquire → (b.pair c).letting ≡ NoRelease
    → grow_fits (b.pair c).held (AcquireOpen whole g) ≡ true → IsWell caching (acquiring_block c source whole g bytes b)
acquiring-block {caching} c source whole g bytes {b} h inside calm kept fits =
    let after : ClientBlock = after_acquire whole g (b.pair c) in
    let recorded_same = set-part (λ p. p.recorded) c after b.pair refl in
    record {
      phases = set-each (λ d q. ok q (view b.service d) ≡ true) c after b.pair
          (acquire-ok whole g (b.pair c) (view b.service c) (h.phases c) calm kept fits) (λ d ne. h.phases d);
      awaited = awaited-set b.service c after b.pair refl h.awaited;
      asked_cap = asked_cap-other b.service c after b.pair (λ e. not_own e) h.asked_cap;
      own_source = own_source-other b.service c source b.source (λ e. not_own e) h.own_source;
      alone = alone-set c b.pair (gentle-same (b.pair c) after refl refl) h.alone;
      one_owner = owned-set c b.pair (gentle-same (b.pair c) after refl refl) h.one_owner;
      outside = outside-set caching c after b.pair (λ e. absurd cc) h.outside;
      copies = λ d some. h.copies d (rw ((set-part (λ p. p.held) c after b.pair refl) d) at some);
      memory = λ none. h.memory (λ d. rw (recorded_same d) at (none d));
    }
  where
    not_own : view b.service c ≡ Own → ⊥
    not_own e = let f : not (is_unacquired (b.pair c).acquiring) ≡ true =
        own_wants _ _ (h.phases c) e in let g : false ≡ true = rw calm at f in absurd cc

-- what is given up was held
left_some : (r : Prune) (p : Perm) → same_perm p (prune_left r) ≡ true → same_perm p Perm.None ≡ false
left_some r p e = grind arith

releasing-block : {X : Type 0} {caching : ℕ → Bool} (c source : ℕ) (r : Prune) {b : Block X} → IsWell caching b
    → caching c ≡ true → (b.pair c).acquiring ≡ NoAcquire → (b.pair c).letting ≡ NoRelease
    → same_perm (b.pair c).held (prune_left r) ≡ true → IsWell caching (releasing_block c source r b)
releasing-block {caching} c source r {b} h inside calm kept fits =
    let after : ClientBlock = after_release r (b.pair c) in
    let recorded_same = set-part (λ p. p.recorded) c after b.pair refl in
    record {
      phases = set-each (λ d q. ok q (view b.service d) ≡ true) c after b.pair
          (release-ok r (b.pair c) (view b.service c) (h.phases c) calm kept fits) (λ d ne. h.phases d);
      awaited = awaited-set b.service c after b.pair refl h.awaited;
      asked_cap = asked_cap-set b.service c after b.pair refl h.asked_cap;
      own_source = h.own_source;
      alone = alone-set c b.pair (gentle-same (b.pair c) after refl refl) h.alone;
      one_owner = owned-set c b.pair (gentle-same (b.pair c) after refl refl) h.one_owner;
      outside = outside-set caching c after b.pair (λ e. absurd cc) h.outside;
      copies = λ d some. elim (cases_eq d c) [
        | inl same ↦ rw same (h.copies c (left_some r (b.pair c).held fits))
        | inr other ↦ h.copies d (rw (set-other c d after b.pair other) at some)
      ];
      memory = λ none. h.memory (λ d. rw (recorded_same d) at (none d));
    }

stored-block : {X : Type 0} {caching : ℕ → Bool} (c : ℕ) (bytes : X) {b : Block X} → IsWell caching b
    → same_perm (b.pair c).held Perm.Trunk ≡ true → IsWell caching (stored_block c bytes b)
stored-block c bytes {b} h may =
    let out : is_out (b.pair c) (view b.service c) ≡ true = held_out _ _ (h.phases c) may in
    let owns = and_left (same_perm (b.pair c).recorded Perm.Trunk) (not (is_granting (view b.service c))) out in
    record {
      phases = h.phases;
      awaited = h.awaited;
      asked_cap = h.asked_cap;
      own_source = h.own_source;
      alone = h.alone;
      one_owner = h.one_owner;
      outside = h.outside;
      copies = λ d some. elim (cases_eq d c) [
        | inl same ↦ rw same (set-same c bytes b.copy)
        | inr other ↦ absurd (cc (nothing_below (b.pair d).held (b.pair d).recorded
            (held_at_most (b.pair d) (view b.service d) (h.phases d)) (h.one_owner c d owns other)))
      ];
      memory = λ none. absurd (let differs : true ≡ false = sym out ∙ none c in cc);
    }

-- ---- the whole

-- an access: one token on channel A, and one source
abbrev pub access_moves : ℕ → Channel → Move
access_moves source Channel.A = Pushes Request source
access_moves source _ = Stays

access_spared : (source : ℕ) (k : Kind) → is_transfer k ≡ true → spares (access_moves source (channel_for k)) k ≡ true
access_spared source k e = grind arith

pub access_asked-kept : {X : Type 0} {caching : ℕ → Bool} (c source : ℕ) {s : State X} → IsInvariant caching s
    → s.uses c source ≡ SourceFree → IsInvariant caching (access_asked c source s)
access_asked-kept c source {s} inv closed =
    let moved : AreMoved (access_moves source) (s.link c) (with_a (packet Request source) (s.link c)) =
    elim [ Channel.A ↦ refl | _ ↦ refl ] in
    let own : (ch : Channel) → is_own_move ch (access_moves source ch) ≡ true = elim [ Channel.A ↦ refl | ch ↦ refl ] in
    invariant-moved_access inv (record {
      moved = moved;
      own = own;
      spared = access_spared source;
      still = refl;
      asked = rw (closed, same_number source) refl;
      replied = rw closed refl;
      acquires = λ m. rw closed refl;
      serves = λ m. rw closed refl;
    })

-- an Acquire
abbrev pub acquire_moves : ℕ → Channel → Move
acquire_moves n Channel.A = Pushes Acquire n
acquire_moves n _ = Stays

-- the client's Acquire isn't served before it is open
acquire_shows : (n : ℕ) (k : Kind) (whole : Bool) (g : Grow) (p : ClientBlock) (v : View) → is_transfer k ≡ true
    → p.acquiring ≡ NoAcquire → is_unserved v ≡ true
    → agrees (acquire_moves n (channel_for k)) k n (shows k p v) (shows k (after_acquire whole g p) v) ≡ true
acquire_shows n Acquire whole g p v t calm out = rw (calm, out, same_number n) refl
acquire_shows n k whole g p v t calm out = same_again (shows k p v)

pub acquire_asked-kept : {X : Type 0} {caching : ℕ → Bool} (c n source : ℕ) (whole : Bool) (g : Grow) (bytes : X)
    {s : State X} → IsInvariant caching s → caching c ≡ true → s.uses c source ≡ SourceFree
    → ((s.block n).pair c).acquiring ≡ NoAcquire → ((s.block n).pair c).letting ≡ NoRelease
    → grow_fits ((s.block n).pair c).held (AcquireOpen whole g) ≡ true
    → IsInvariant caching (acquire_asked c n source whole g bytes s)
acquire_asked-kept {X} {caching} c n source whole g bytes {s} inv inside closed calm kept fits =
    let here : Link = with_a (packet Acquire n) (s.link c) in
    let moved : AreMoved (acquire_moves n) (s.link c) here = elim [ Channel.A ↦ refl | _ ↦ refl ] in
    let own : (ch : Channel) → is_own_move ch (acquire_moves n ch) ≡ true = elim [ Channel.A ↦ refl | ch ↦ refl ] in
    let old : ℕ → ClientBlock = (s.block n).pair in
    let after : ClientBlock = after_acquire whole g (old c) in
    let new : Block X = acquiring_block c source whole g bytes (s.block n) in
    invariant-moved_use c source _ s.tracked inv (event-at (record {
      well = acquiring-block c source whole g bytes (inv.blocks n) inside calm kept fits;
      moved = moved;
      own = own;
      fits = λ k t. rw (set-same c after old) (acquire_shows n k whole g (old c) (view (s.block n).service c) t calm
          (unserved_calm (old c) (view (s.block n).service c) ((inv.blocks n).phases c) calm));
      others = λ d ne k t. ap (λ p. shows k p (view (s.block n).service d)) (set-other c d after old ne);
      in_order = λ m e. absurd (let f : Stays ≡ Pushes ProbeAck m = e in cc);
    }))
    (rw (same_number c, closed) refl) (rw (same_number c, closed) refl) (bare-elsewhere c (acquire_moves n)) (record {
      acquires = names-set_at acquires_of acquires_with c source (Acquires n) s.uses n new s.block
          (rw (same_number n, set-same c after old, set-same c source (s.block n).source, same_number source) refl)
          (λ m ne. rw closed (ne_eqb m n ne)) (λ i ne.
          rw (set-same c after old, set-same c source (s.block n).source, ne_eqb i source ne, calm) refl) (λ d i ne.
          rw (set-other c d after old ne, set-other c d source (s.block n).source ne) refl) inv.named.acquires;
      serves = names-set_at serves_of serves_with c source (Acquires n) s.uses n new s.block (rw closed at
          (inv.named.serves c source n)) (λ m ne. rw closed refl) (λ i ne. refl) (λ d i ne. refl) inv.named.serves;
      releases = λ d. names-block is_of (releases_with d) (s.lets d) n new s.block
          (λ i. rw (set-part (λ p. p.letting) c after old refl d) refl) (inv.named.releases d);
      trackers = names-block is_of tracks_with s.tracked n new s.block (λ i. refl) inv.named.trackers;
    })

-- a Release
abbrev pub release_moves : ℕ → Channel → Move
release_moves n Channel.C = Pushes Release n
release_moves n _ = Stays

release_shows : (n : ℕ) (k : Kind) (r : Prune) (p : ClientBlock) (v : View) → is_transfer k ≡ true
    → p.letting ≡ NoRelease
    → agrees (release_moves n (channel_for k)) k n (shows k p v) (shows k (after_release r p) v) ≡ true
release_shows n Release r p v t kept = rw (kept, same_number n) refl
release_shows n ReleaseAck r p v t kept = rw kept refl
release_shows n k r p v t kept = same_again (shows k p v)

pub release_asked-kept : {X : Type 0} {caching : ℕ → Bool} (c n source : ℕ) (r : Prune) {s : State X}
    → IsInvariant caching s → caching c ≡ true → s.lets c source ≡ None
    → ((s.block n).pair c).acquiring ≡ NoAcquire → ((s.block n).pair c).letting ≡ NoRelease
    → same_perm ((s.block n).pair c).held (prune_left r) ≡ true → IsInvariant caching (release_asked c n source r s)
release_asked-kept {X} {caching} c n source r {s} inv inside closed calm kept fits =
    let here : Link = with_c (packet Release n) (s.link c) in
    let moved : AreMoved (release_moves n) (s.link c) here = elim [ Channel.A ↦ refl | _ ↦ refl ] in
    let own : (ch : Channel) → is_own_move ch (release_moves n ch) ≡ true = elim [ Channel.A ↦ refl | ch ↦ refl ] in
    let old : ℕ → ClientBlock = (s.block n).pair in
    let after : ClientBlock = after_release r (old c) in
    let new : Block X = releasing_block c source r (s.block n) in
    invariant-moved (set_at c source (Some n) s.lets) s.tracked inv (event-at (record {
      well = releasing-block c source r (inv.blocks n) inside calm kept fits;
      moved = moved;
      own = own;
      fits = λ k t. rw (set-same c after old) (release_shows n k r (old c) (view (s.block n).service c) t kept);
      others = λ d ne k t. ap (λ p. shows k p (view (s.block n).service d)) (set-other c d after old ne);
      in_order = λ m e. absurd (let f : Pushes Release n ≡ Pushes ProbeAck m = e in cc);
    }))
    (bare-at c (release_moves n) refl refl) (record {
      acquires = λ d. names-block acquires_of (acquires_with d) (s.uses d) n new s.block
          (λ i. rw (set-part (λ p. p.acquiring) c after old refl d) refl) (inv.named.acquires d);
      serves = λ d. names-block serves_of (serves_with d) (s.uses d) n new s.block (λ i. refl) (inv.named.serves d);
      releases = names-set_at is_of releases_with c source (Some n) s.lets n new s.block
          (rw (same_number n, set-same c after old, set-same c source (s.block n).release_source, same_number source)
          refl) (λ m ne. rw closed (ne_eqb m n ne))
          (λ i ne. rw (set-same c after old, set-same c source (s.block n).release_source, ne_eqb i source ne, kept)
          refl) (λ d i ne. rw (set-other c d after old ne, set-other c d source (s.block n).release_source ne) refl)
          inv.named.releases;
      trackers = names-block is_of tracks_with s.tracked n new s.block (λ i. refl) inv.named.trackers;
    })

-- a store
pub block_stored-kept : {X : Type 0} {caching : ℕ → Bool} (c n : ℕ) (bytes : X) {s : State X} → IsInvariant caching s
    → same_perm ((s.block n).pair c).held Perm.Trunk ≡ true → IsInvariant caching (block_stored c n bytes s)
block_stored-kept {X} {caching} c n bytes {s} inv may =
    let new : Block X = stored_block c bytes (s.block n) in
    invariant-moved {n = n} {b = new} {link = s.link} {moves = (λ d ch. Stays)} s.lets s.tracked inv (record {
      well = stored-block c bytes (inv.blocks n) may;
      moved = λ d ch. refl;
      own = λ d ch. refl;
      fits = λ d k t. same_again (shown k d (s.block n));
      in_order = λ d m e. absurd (let f : Stays ≡ Pushes ProbeAck m = e in cc);
    }) (λ d. (refl, refl)) (names-kept n new s.link s inv.named (λ d i. refl) (λ d i. refl) (λ d i. refl) (λ i. refl))

-- ---- the block

-- what is left after a report was held before
less_left : (k : Cap) (p : Perm) → same_perm (report_right (report_at k p)) Perm.None ≡ false
    → same_perm p Perm.None ≡ false
less_left k p e = grind arith

probed-block : {X : Type 0} {caching : ℕ → Bool} (c : ℕ) (k : Cap) {b : Block X} → IsWell caching b
    → (b.pair c).probing ≡ ProbeSent k → (b.pair c).letting ≡ NoRelease → IsWell caching (probed_block c k b)
probed-block c k {b} h sent kept =
    let after : ClientBlock = after_probe k (b.pair c) in
    let quiet_same = set-part (λ p. is_unprobed p.probing) c after b.pair (rw sent refl) in
    let recorded_same = set-part (λ p. p.recorded) c after b.pair refl in
    record {
      phases = set-each (λ d q. ok q (view b.service d) ≡ true) c after b.pair
          (probe-ok k (b.pair c) (view b.service c) (h.phases c) sent kept) (λ d ne. h.phases d);
      awaited = awaited_by b.service (set c after b.pair) c (rw (set-same c after b.pair) refl);
      asked_cap = asked_cap-set b.service c after b.pair refl h.asked_cap;
      own_source = h.own_source;
      alone = λ i j trunk probed ne. rw (quiet_same j)
          (h.alone i j (rw (recorded_same i) at trunk) (rw (quiet_same i) at probed) ne);
      one_owner = λ i j trunk ne. rw (recorded_same j) (h.one_owner i j (rw (recorded_same i) at trunk) ne);
      outside = λ d plain. elim (cases_eq d c) [
        | inl same ↦ absurd (not_resting (b.pair c) k sent (h.outside c (rw same at plain)))
        | inr other ↦ rw (set-other c d after b.pair other) (h.outside d plain)
      ];
      copies = λ d some. elim (cases_eq d c) [
        | inl same ↦ rw same (h.copies c (less_left k (b.pair c).held (rw (same, set-same c after b.pair) at some)))
        | inr other ↦ h.copies d (rw (set-other c d after b.pair other) at some)
      ];
      memory = λ none. h.memory (λ d. rw (recorded_same d) at (none d));
    }
  where
    not_resting : (p : ClientBlock) (k : Cap) → p.probing ≡ ProbeSent k → p ≡ resting → ⊥
    not_resting p k e f = grind arith

-- ---- the whole

abbrev pub probe_moves : ℕ → Channel → Move
probe_moves n Channel.B = Pops Probe n
probe_moves n Channel.C = Pushes ProbeAck n
probe_moves n _ = Stays

probe_shows : (n : ℕ) (k : Kind) (j : Cap) (p : ClientBlock) (v : View) → is_transfer k ≡ true → p.probing ≡ ProbeSent j
    → agrees (probe_moves n (channel_for k)) k n (shows k p v) (shows k (after_probe j p) v) ≡ true
probe_shows n Probe j p v t e = rw (same_number n) refl
probe_shows n ProbeAck j p v t e = rw (e, same_number n) refl
probe_shows n k j p v t e = same_again (shows k p v)

pub probe_taken-kept : {X : Type 0} {caching : ℕ → Bool} (c n : ℕ) (k : Cap) (rest : List Packet) {s : State X}
    → IsInvariant caching s → (s.link c).b ≡ packet Probe n ∷ rest → ((s.block n).pair c).probing ≡ ProbeSent k
    → ((s.block n).pair c).letting ≡ NoRelease → IsInvariant caching (probe_taken c n k rest s)
probe_taken-kept {X} {caching} c n k rest {s} inv first sent kept =
    let here : Link = probed_link n rest (s.link c) in
    let moved : AreMoved (probe_moves n) (s.link c) here = elim [ Channel.B ↦ first | _ ↦ refl ] in
    let own : (ch : Channel) → is_own_move ch (probe_moves n ch) ≡ true = elim [ Channel.A ↦ refl | ch ↦ refl ] in
    let after : ClientBlock = after_probe k ((s.block n).pair c) in
    let new : Block X = probed_block c k (s.block n) in
    let number_is : (m : ℕ) → Pushes ProbeAck n ≡ Pushes ProbeAck m → m ≡ n = λ m e. cc in
    let ordered : (m : ℕ) → m ≡ n → count Release m (s.link c).c ≡ 0 =
    λ m e. rw e (inv.transfers c Release refl n ∙ rw kept refl) in
    invariant-moved s.lets s.tracked inv (event-at (record {
      well = probed-block c k (inv.blocks n) sent kept;
      moved = moved;
      own = own;
      fits = λ j t. rw (set-same c after (s.block n).pair)
          (probe_shows n j k ((s.block n).pair c) (view (s.block n).service c) t sent);
      others = λ d ne j t. ap (λ p. shows j p (view (s.block n).service d)) (set-other c d after (s.block n).pair ne);
      in_order = λ m e. ordered m (number_is m e);
    }))
    (bare-at c (probe_moves n) refl refl) (names-kept n new (set c here s.link) s inv.named
    (λ d i. rw (set-part (λ p. p.acquiring) c after (s.block n).pair refl d) refl) (λ d i. refl)
    (λ d i. rw (set-part (λ p. p.letting) c after (s.block n).pair refl d) refl) (λ i. refl))
