-- A request that is taken, and for which clients are probed, keeps the invariant.
-- Where nothing is on channels B, C, D and E, no block is in service: so requests can move.
-- How many requests, GrantAcks and Releases are open, as the uses of one source change.
use Rattle.std.proofs.Common.{◌≡◌, ℕ, ◌+◌, ◌<◌, Bool, true, false, not, ◌&&◌, ◌==◌, if◌then◌else◌, List, [], ◌∷◌, Some}
use Rattle.std.proofs.Common.{None, refl, sym, ◌∙◌, ap, arith, ◌⊎◌, inl, inr, length, eqb-true, ne_eqb}
use Rattle.tl_coherence.proofs
use proofs.Imports.{cases_eq, Channel, Config, Cap, Grow, Perm, same_perm, one_if, is_let, is_used, open_releases}
use proofs.Imports.{open_requests, total, IsAskedCap, IsAwaited, IsInvariant, IsOwnSource, IsWell, acquires_of}
use proofs.Imports.{acquires_with, cap_asked, is_of, is_out, releases_with, resting, serves_of, serves_with}
use proofs.Imports.{tracks_with, Acquire, Answer, Grant, GrantAck, Kind, Packet, Probe, ProbeAck, Request, set, set_at}
use proofs.Imports.{count, AcquireOpen, ClientBlock, Idle, NoProbe, Other, Own, ProbePhase, ProbeSent, View}
use proofs.Imports.{is_unprobed, same_cap, ok, after_served, is_above, Asked, Block, Free, GrantSent, GrantTaken}
use proofs.Imports.{InService, Service, State, Waits, access_served, acquire_served, is_probed, on, packet, packets_on}
use proofs.Imports.{served_block, served_link, served_pair, view, with_probe, is_answered, is_granting, is_sent}
use proofs.Imports.{is_transfer, is_wanting, shown, shows, IsMoved, Move, Pops, Pushes, Stays, agrees, channel_for}
use proofs.Imports.{is_own_move, sources_of, terms_at}
use Rattle.tl_coherence.specs.protocol.Protocol.{Link}
use proofs.queues.{Phases.and_left, Phases.and_right, Facts.quiet_at_rest, PhaseSteps.serve-ok, PhaseSteps.served-ok}
use proofs.queues.Tokens.{total-same, total-plus, total-set, set-same, set-other, set-part, same_number}
use proofs.queues.Moves.{same_again, spares, spared-agrees, IsEvent, names-block, names-set, names-set_at}
use proofs.queues.Moves.{invariant-moved, invariant-moved_use}
use proofs.protocol.BothParts.{quiet_unanswered, waits_ungranted}

-- ---- who is probed

-- a part that no Probe changes
unprobed_part : {A : Type 0} (part : ClientBlock → A) (r : ℕ) (own : Bool) (k : Cap) (pair : ℕ → ClientBlock)
    → ((p : ClientBlock) → part (after_served k p) ≡ part p) → (d : ℕ)
    → part (served_pair r own k pair d) ≡ part (pair d)
unprobed_part part r own k pair e d =
    let go : (b : Bool) → part (if b then pair d else after_served k (pair d)) ≡ part (pair d) =
    elim [ true ↦ refl | false ↦ e (pair d) ] in
    go (own && (d == r))

-- one who has nothing isn't probed
none_above : (k : Cap) (p : Perm) → same_perm p Perm.None ≡ true → is_above k p ≡ false
none_above k p e = grind arith

-- ---- the block

out_same : (p q : ClientBlock) (v u : View) → q.recorded ≡ p.recorded → is_granting u ≡ is_granting v
    → is_out q u ≡ is_out p v
out_same p q v u e f = rw (e, f) refl

never_top : (k : Cap) (whole : Bool) (g : Grow) → same_cap k (cap_asked (AcquireOpen whole g)) ≡ true
    → same_cap k Cap.ToT ≡ false
never_top k whole g e = grind arith

-- the request probes with this cap: an Acquire (`own`) with the cap that it asks for, and no access with toT
abbrev pub Probes : Bool → Cap → ClientBlock → Type 0
Probes true k p = (whole : Bool) × (g : Grow) × (p.acquiring ≡ AcquireOpen whole g)
    × (same_cap k (cap_asked (AcquireOpen whole g)) ≡ true)
Probes false k p = same_cap k Cap.ToT ≡ false

is_low : (own : Bool) (k : Cap) (p : ClientBlock) → Probes own k p → same_cap k Cap.ToT ≡ false
is_low own k p e = grind (arith, never_top)

served-block : {X : Type 0} {caching : ℕ → Bool} (r : ℕ) {own : Bool} (source tracker : ℕ) {k : Cap} {b : Block X}
    → IsWell caching b → b.service ≡ Free → Probes own k (b.pair r) → IsOwnSource (Waits r own source k) b.source
    → (w : ℕ) → is_probed r own k (b.pair w).recorded w ≡ true → IsWell caching (served_block r own source tracker k b)
served-block r {own} source tracker {k} {b} h free asks sourced w probed =
    let quiet : (d : ℕ) → is_unprobed (b.pair d).probing ≡ true = λ d. quiet_at_rest _ _ (h.phases d) (idle d) in
    let sent : (x : Bool) → (not x && is_above k (b.pair w).recorded) ≡ true → is_unprobed (if x then b.pair w else
    after_served k (b.pair w)).probing ≡ false = elim [ true ↦ λ e. absurd cc | false ↦ λ e. rw e refl ] in
    let left : (j : ℕ) (x : Bool) → same_perm (b.pair j).recorded Perm.None ≡ true
    → is_unprobed (if x then b.pair j else after_served k (b.pair j)).probing ≡ true =
    λ j. elim [ true ↦ λ none. quiet j | false ↦ λ none. rw (none_above k (b.pair j).recorded none) (quiet j) ] in
    let bare : (d : ℕ) (x : Bool) → b.pair d ≡ resting → (if x then b.pair d else after_served k (b.pair d)) ≡ resting =
    λ d. elim [ true ↦ λ e. e | false ↦ λ e. rw (e, none_above k Perm.None refl) refl ] in
    let recorded_same = unprobed_part (λ p. p.recorded) r own k b.pair (λ p. refl) in
    record {
      phases = λ d. phase d (own && (d == r)) refl;
      awaited = (w, sent (own && (w == r)) probed);
      asked_cap = asked own asks;
      own_source = sourced;
      alone = λ i j trunk sent_ ne. left j (own && (j == r)) (h.one_owner i j (rw (recorded_same i) at trunk) ne);
      one_owner = λ i j trunk ne. rw (recorded_same j) (h.one_owner i j (rw (recorded_same i) at trunk) ne);
      outside = λ d plain. bare d (own && (d == r)) (h.outside d plain);
      copies = λ d some. h.copies d (rw ((unprobed_part (λ p. p.held) r own k b.pair (λ p. refl)) d) at some);
      memory = λ none. h.memory (λ d.
          let before : is_granting (view b.service d) ≡ false = rw (idle d) refl in
          sym (out_same (b.pair d) (served_pair r own k b.pair d) (view b.service d) (view (Waits r own source k) d)
          (recorded_same d) (waits_ungranted own r source k d ∙ sym before)) ∙ none d);
    }
  where
    idle : (d : ℕ) → view b.service d ≡ Idle
    idle d = rw free refl

    acquiring : (o : Bool) → o ≡ true → Probes o k (b.pair r) → (d : ℕ) → d ≡ r → ok (b.pair d) Own ≡ true
    acquiring false e a d f = absurd cc
    acquiring true e a d f = rw f (serve-ok a.0 a.1 (b.pair r) (view b.service r) (h.phases r) (idle r) a.2)

    phase : (d : ℕ) (x : Bool) → (own && (d == r)) ≡ x → ok (if x then b.pair d else after_served k (b.pair d))
        (if x then Own else Other k) ≡ true
    phase d true e = acquiring own (and_left own (d == r) e) asks d (eqb-true d r (and_right own (d == r) e))
    phase d false e = served-ok k _ _ (h.phases d) (idle d) (is_low own k (b.pair r) asks)

    asked : (o : Bool) → Probes o k (b.pair r) → IsAskedCap (Waits r o source k) (served_pair r o k b.pair)
    asked true a = rw (unprobed_part (λ p. p.acquiring) r true k b.pair (λ p. refl) r, a.2) a.3
    asked false a = tt

-- ---- one link

-- this move on channel A, and a Probe on B to one who is probed
abbrev pub request_move : Move → Bool → ℕ → Channel → Move
request_move m probe n Channel.A = m
request_move m probe n Channel.B = if probe then Pushes Probe n else Stays
request_move m probe n _ = Stays

-- the token of the request: of an Acquire by the block, of an access by the source
abbrev pub kind_served : Bool → Kind
kind_served true = Acquire
kind_served false = Request

abbrev pub number_served : Bool → ℕ → ℕ → ℕ
number_served true n source = n
number_served false n source = source

abbrev pub served_moves : ℕ → Bool → ℕ → ℕ → Cap → (ℕ → ClientBlock) → ℕ → Channel → Move
served_moves r own n source k pair d = request_move (if d == r then Pops (kind_served own) (number_served own n source)
    else Stays) (is_probed r own k (pair d).recorded d) n

-- what the sender of an Acquire shows
sender_shows : (n : ℕ) (j : Kind) (p : ClientBlock) → is_transfer j ≡ true → is_wanting p.acquiring ≡ true
    → agrees (request_move (Pops Acquire n) false n (channel_for j)) j n (shows j p Idle) (shows j p Own) ≡ true
sender_shows n Acquire p t e = rw (e, same_number n) refl
sender_shows n j p t e = same_again (shows j p Idle)

-- what another shows, or the sender of an access
other_shows : (n : ℕ) (j : Kind) (m : Move) (k : Cap) (p : ClientBlock) (above : Bool) → is_transfer j ≡ true
    → spares m Acquire ≡ true → is_unprobed p.probing ≡ true → is_above k p.recorded ≡ above
    → agrees (request_move m above n (channel_for j)) j n (shows j p Idle) (shows j (after_served k p) (Other k)) ≡ true
other_shows n Acquire m k p above t u q e = spared-agrees m Acquire n (is_wanting p.acquiring && true) u
other_shows n Probe m k p true t u q e =
    let not_sent : (y : ProbePhase) → is_unprobed y ≡ true → is_sent y ≡ false =
    elim [ ProbeSent c ↦ λ f. absurd cc | y ↦ λ f. refl ] in
    rw (e, same_number n, not_sent p.probing q) refl
other_shows n Probe m k p false t u q e = rw e (same_again (is_sent p.probing))
other_shows n ProbeAck m k p true t u q e = rw (e, quiet_unanswered p.probing q) refl
other_shows n ProbeAck m k p false t u q e = rw e (same_again (is_answered p.probing))
other_shows n Request m k p above t u q e = absurd cc
other_shows n j m k p above t u q e = same_again (shows j p Idle)

-- both, by whether it is an Acquire, and whether this is the sender
any_shows : (n source : ℕ) (j : Kind) (own x : Bool) (k : Cap) (p : ClientBlock) → is_transfer j ≡ true
    → (own ≡ true → x ≡ true → is_wanting p.acquiring ≡ true) → is_unprobed p.probing ≡ true
    → agrees (request_move (if x then Pops (kind_served own) (number_served own n source) else Stays)
    (not (own && x) && is_above k p.recorded) n (channel_for j)) j n (shows j p Idle)
    (shows j (if own && x then p else after_served k p) (if own && x then Own else Other k)) ≡ true
any_shows n source j true true k p t wants q = sender_shows n j p t (wants refl refl)
any_shows n source j true false k p t wants q = other_shows n j Stays k p (is_above k p.recorded) t refl q refl
any_shows n source j false true k p t wants q = other_shows n j (Pops Request source) k p (is_above k p.recorded) t refl
    q refl
any_shows n source j false false k p t wants q = other_shows n j Stays k p (is_above k p.recorded) t refl q refl

-- the channels of a client, by whether it asked, and whether it is probed
pub any_moved : (x y : Bool) (ch : Channel) (j : Kind) (i n : ℕ) (l : Link) (rest : List Packet)
    → (x ≡ true → l.a ≡ packet j i ∷ rest) → IsMoved (request_move (if x then Pops j i else Stays) y n ch)
    (packets_on ch l) (packets_on ch (with_probe n y (if x then record l { a = rest } else l)))
any_moved x y ch j i n l rest e = grind arith

any_own : (ch : Channel) (n source : ℕ) (own x p : Bool)
    → is_own_move ch (request_move (if x then Pops (kind_served own) (number_served own n source) else Stays) p n ch)
    ≡ true
any_own ch n source own x p = grind arith

-- ---- the whole

served-event : {X : Type 0} {caching : ℕ → Bool} (r n : ℕ) {own : Bool} (source tracker : ℕ) {k : Cap}
    (rest : List Packet) {s : State X} → IsInvariant caching s
    → (s.link r).a ≡ packet (kind_served own) (number_served own n source) ∷ rest → (s.block n).service ≡ Free
    → Probes own k ((s.block n).pair r) → IsOwnSource (Waits r own source k) (s.block n).source → (w : ℕ)
    → is_probed r own k ((s.block n).pair w).recorded w ≡ true
    → IsEvent caching n (served_block r own source tracker k (s.block n))
    (served_link r own n k rest (s.block n) s.link) (served_moves r own n source k (s.block n).pair) s
served-event {caching} r n {own} source tracker {k} rest {s} inv first free asks sourced w probed =
    let wants : (o : Bool) → Probes o k ((s.block n).pair r) → (d : ℕ) → o ≡ true → (d == r) ≡ true
    → is_wanting ((s.block n).pair d).acquiring ≡ true =
    elim [ false ↦ λ a d e f. absurd cc | true ↦ λ a d e f. rw (eqb-true d r f, a.2) refl ] in
    let before : (j : Kind) (d : ℕ) (after : Bool) (m : Move) → agrees m j n (shows j ((s.block n).pair d) Idle) after
    ≡ true → agrees m j n (shown j d (s.block n)) after ≡ true = λ j d after m h. rw free h in
    let quiet : (d : ℕ) → is_unprobed ((s.block n).pair d).probing ≡ true =
    λ d. quiet_at_rest _ _ ((inv.blocks n).phases d) (rw free refl) in
    record {
      well = served-block r source tracker (inv.blocks n) free asks sourced w probed;
      moved = λ d ch. any_moved (d == r) (is_probed r own k ((s.block n).pair d).recorded d) ch (kind_served own)
          (number_served own n source) n (s.link d) rest (λ e. rw (eqb-true d r e) first);
      own = λ d ch. any_own ch n source own (d == r) (is_probed r own k ((s.block n).pair d).recorded d);
      fits = λ d j t. before j d (shown j d (served_block r own source tracker k (s.block n)))
          (served_moves r own n source k (s.block n).pair d (channel_for j))
          (any_shows n source j own (d == r) k ((s.block n).pair d) t (wants own asks d) (quiet d));
      in_order = λ d m e. absurd (let f : Stays ≡ Pushes ProbeAck m = e in cc);
    }

-- no access is taken or answered where an Acquire is taken
bare_move : (x p : Bool) (n : ℕ) → (spares (request_move (if x then Pops Acquire n else Stays) p n Channel.A) Request
    ≡ true) × (spares (request_move (if x then Pops Acquire n else Stays) p n Channel.D) Answer ≡ true)
bare_move x p n = grind arith

-- where Acquires stay, and Releases
abbrev same_acquires : {X : Type 0} (r source tracker : ℕ) (own : Bool) (k : Cap) (b : Block X) → (c i : ℕ)
    → acquires_with c i (served_block r own source tracker k b) ≡ acquires_with c i b
same_acquires r source tracker own k b c i =
    rw (unprobed_part (λ (p : ClientBlock). p.acquiring) r own k b.pair (λ p. refl) c) refl

abbrev same_releases : {X : Type 0} (r source tracker : ℕ) (own : Bool) (k : Cap) (b : Block X) → (c i : ℕ)
    → releases_with c i (served_block r own source tracker k b) ≡ releases_with c i b
same_releases r source tracker own k b c i =
    rw (unprobed_part (λ (p : ClientBlock). p.letting) r own k b.pair (λ p. refl) c) refl

not_named : (n m : ℕ) → (m ≡ n → ⊥) → is_of m (Some n) ≡ is_of m None
not_named n m ne = ne_eqb m n ne

-- an Acquire
pub acquire_served-kept : {X : Type 0} {caching : ℕ → Bool} (r n source tracker : ℕ) (whole : Bool) (g : Grow) (k : Cap)
    (rest : List Packet) {s : State X} → IsInvariant caching s → (s.link r).a ≡ packet Acquire n ∷ rest
    → (s.block n).service ≡ Free → ((s.block n).pair r).acquiring ≡ AcquireOpen whole g
    → same_cap k (cap_asked (AcquireOpen whole g)) ≡ true → s.tracked tracker ≡ None → source ≡ (s.block n).source r
    → (w : ℕ) → is_probed r true k ((s.block n).pair w).recorded w ≡ true
    → IsInvariant caching (acquire_served r n source tracker k rest s)
acquire_served-kept {X} r n source tracker whole g k rest {s} inv first free wants low unused sourced w probed =
    let new : Block X = served_block r true source tracker k (s.block n) in
    invariant-moved s.lets (set tracker (Some n) s.tracked) inv
    (served-event r n source tracker rest inv first free (whole, g, wants, low) sourced w probed)
    (λ d. bare_move (d == r) (is_probed r true k ((s.block n).pair d).recorded d) n) (record {
      acquires = λ c. names-block acquires_of (acquires_with c) (s.uses c) n new s.block
          (same_acquires r source tracker true k (s.block n) c) (inv.named.acquires c);
      serves = λ c. names-block serves_of (serves_with c) (s.uses c) n new s.block (λ i. rw free refl)
          (inv.named.serves c);
      releases = λ c. names-block is_of (releases_with c) (s.lets c) n new s.block
          (same_releases r source tracker true k (s.block n) c) (inv.named.releases c);
      trackers = names-set is_of tracks_with s.tracked tracker (Some n) n new s.block
          (rw (same_number n, same_number tracker) refl)
          (λ m ne. rw unused (not_named n m ne)) (λ i ne. rw (free, ne_eqb i tracker ne) refl) inv.named.trackers;
    })

-- an access
pub access_served-kept : {X : Type 0} {caching : ℕ → Bool} (r n source tracker : ℕ) (k : Cap) (rest : List Packet)
    {s : State X} → IsInvariant caching s → (s.link r).a ≡ packet Request source ∷ rest → (s.block n).service ≡ Free
    → s.uses r source ≡ Asked → same_cap k Cap.ToT ≡ false → s.tracked tracker ≡ None → (w : ℕ)
    → is_probed r false k ((s.block n).pair w).recorded w ≡ true
    → IsInvariant caching (access_served r n source tracker k rest s)
access_served-kept {X} r n source tracker k rest {s} inv first free asked low unused w probed =
    let new : Block X = served_block r false source tracker k (s.block n) in
    invariant-moved_use r source _ (set tracker (Some n) s.tracked) inv (served-event r n source tracker
    rest inv first free low tt w probed) (rw (asked, same_number r, same_number source) refl) (rw asked refl)
    (λ d ne. (rw (ne_eqb d r ne) refl, refl)) (record {
      acquires = names-set_at acquires_of acquires_with r source _ s.uses n new s.block
          ((rw asked at (inv.named.acquires r source n)) ∙ sym (same_acquires r source tracker false k (s.block n) r
          source)) (λ m ne. rw asked refl) (λ i ne. same_acquires r source tracker false k (s.block n) r i)
          (λ d i ne. same_acquires r source tracker false k (s.block n) d i) inv.named.acquires;
      serves = names-set_at serves_of serves_with r source (InService n) s.uses n new s.block
          (rw (same_number n, same_number r, same_number source) refl) (λ m ne. rw asked (ne_eqb m n ne)) (λ i ne.
          rw (free, ne_eqb i source ne, same_number r) refl) (λ d i ne. rw (free, ne_eqb d r ne) refl) inv.named.serves;
      releases = λ c. names-block is_of (releases_with c) (s.lets c) n new s.block
          (same_releases r source tracker false k (s.block n) c) (inv.named.releases c);
      trackers = names-set is_of tracks_with s.tracked tracker (Some n) n new s.block
          (rw (same_number n, same_number tracker) refl)
          (λ m ne. rw unused (not_named n m ne)) (λ i ne. rw (free, ne_eqb i tracker ne) refl) inv.named.trackers;
    })

-- a channel without tokens shows nothing
nothing_shown : {X : Type 0} {caching : ℕ → Bool} {s : State X} (c n : ℕ) (k : Kind) → IsInvariant caching s
    → is_transfer k ≡ true → on k (s.link c) ≡ [] → shown k c (s.block n) ≡ false
unfolding count
nothing_shown {s} c n k inv t none =
    let go : (b : Bool) → 0 ≡ one_if b → b ≡ false = elim [ true ↦ λ e. absurd (omega (arith, e)) | false ↦ λ e. refl ]
    in
    go (shown k c (s.block n)) (rw none at (inv.transfers c k t n))

pub record IsSilent {X : Type 0} (s : State X) : Type 0 where
  pub b : (c : ℕ) → (s.link c).b ≡ []
  pub c : (c : ℕ) → (s.link c).c ≡ []
  pub d : (c : ℕ) → (s.link c).d ≡ []
  pub e : (c : ℕ) → (s.link c).e ≡ []

pub free-when_silent : {X : Type 0} {caching : ℕ → Bool} {s : State X} (n : ℕ) → IsInvariant caching s → IsSilent s
    → (s.block n).service ≡ Free
free-when_silent {X} {caching} {s} n inv silent = go (s.block n).service refl
  where
    not_probed : (c : ℕ) → is_unprobed ((s.block n).pair c).probing ≡ true
    not_probed c =
        let quiet_of : (x : ProbePhase) → is_sent x ≡ false → is_answered x ≡ false → is_unprobed x ≡ true =
        elim [ NoProbe ↦ λ e f. refl | x ↦ λ e f. absurd cc ] in
        quiet_of ((s.block n).pair c).probing (nothing_shown c n Probe inv refl (silent.b c))
        (nothing_shown c n ProbeAck inv refl (silent.c c))

    go : (service : Service) → (s.block n).service ≡ service → service ≡ Free
    go Free e = refl
    go (Waits r own source k) e =
        let someone : IsAwaited (Waits r own source k) (s.block n).pair = rw e at (inv.blocks n).awaited in
        absurd (let f = not_probed someone.0 in absurd cc)
    go (GrantSent q d k) e =
        let none : shown Grant q (s.block n) ≡ false = nothing_shown q n Grant inv refl (silent.d q) in
        let some : shown Grant q (s.block n) ≡ true = rw (e, same_number q) refl in
        absurd cc
    go (GrantTaken q) e =
        let none : shown GrantAck q (s.block n) ≡ false = nothing_shown q n GrantAck inv refl (silent.e q) in
        let some : shown GrantAck q (s.block n) ≡ true = rw (e, same_number q) refl in
        absurd cc

-- one summand differs
total-at : (n m : ℕ) (f g : ℕ → ℕ) → m < n → ((i : ℕ) → (i ≡ m → ⊥) → f i ≡ g i) → total n f + g m ≡ total n g + f m
total-at n m f g lt others =
    omega (arith, total-same n f (set m (f m) g) (λ i below. each i (cases_eq i m)), total-set n m (f m) g lt)
  where
    each : (i : ℕ) → (i ≡ m) ⊎ (i ≡ m → ⊥) → f i ≡ set m (f m) g i
    each i (inl e) = rw e (sym (set-same m (f m) g))
    each i (inr ne) = others i ne ∙ sym (set-other m i (f m) g ne)

-- ---- a table by client and source

-- how many of its places pass a test
abbrev pub marked : {B : Type 0} → (B → Bool) → ℕ → (ℕ → ℕ) → (ℕ → ℕ → B) → ℕ
marked test clients sources f = total clients (λ c. total (sources c) (λ i. one_if (test (f c i))))

-- one place changes
pub marked-set : {B : Type 0} (test : B → Bool) (clients : ℕ) (sources : ℕ → ℕ) (c k : ℕ) (x : B) (f : ℕ → ℕ → B)
    → c < clients → k < sources c → marked test clients sources (set_at c k x f) + one_if (test (f c k))
    ≡ marked test clients sources f + one_if (test x)
marked-set {B} test clients sources c k x f few lt =
    let row : ℕ → (ℕ → B) → ℕ = λ d g. total (sources d) (λ i. one_if (test (g i))) in
    let inner = total-at _ k (λ i. one_if (test (set k x (f c) i))) (λ i. one_if (test (f c i))) lt
    (λ i ne. ap (λ y. one_if (test y)) (set-other k i x (f c) ne)) in
    let outer = total-at clients c (λ d. row d (set_at c k x f d)) (λ d. row d (f d)) few
    (λ d ne. ap (row d) (set-other c d (set k x (f c)) f ne)) in
    let changed : row c (set_at c k x f c) ≡ row c (set k x (f c)) = ap (row c) (set-same c (set k x (f c)) f) in
    omega (arith, inner, ap (λ y. one_if (test y)) (set-same k x (f c)), outer, changed)

-- no place changes, as the test has it
marked-same : {B : Type 0} (test : B → Bool) (clients : ℕ) (sources : ℕ → ℕ) (f g : ℕ → ℕ → B)
    → ((c i : ℕ) → test (f c i) ≡ test (g c i)) → marked test clients sources f ≡ marked test clients sources g
marked-same test clients sources f g same = cc (total-same clients (λ c. total (sources c) (λ i. one_if (test (f c i))))
    (λ c. total (sources c) (λ i. one_if (test (g c i)))) (λ c few. total-same (sources c) (λ i. one_if (test (f c i)))
    (λ i. one_if (test (g c i))) (λ i lt. ap one_if (same c i))))

pub set_at-part : {A B : Type 0} (part : B → A) (c k : ℕ) (x : B) (f : ℕ → ℕ → B) → part x ≡ part (f c k) → (d i : ℕ)
    → part (set_at c k x f d i) ≡ part (f d i)
set_at-part part c k x f same d i = go (cases_eq d c)
  where
    go : (d ≡ c) ⊎ (d ≡ c → ⊥) → part (set_at c k x f d i) ≡ part (f d i)
    go (inl e) = rw e (ap (λ g. part (g i)) (set-same c (set k x (f c)) f) ∙ set-part part k x (f c) same i)
    go (inr ne) = ap (λ g. part (g i)) (set-other c d (set k x (f c)) f ne)

-- ---- GrantAcks

abbrev pub acks : ℕ → (ℕ → Link) → ℕ
acks clients link = total clients (λ c. length (link c).e)

pub acks-set : (clients c : ℕ) (l : Link) (link : ℕ → Link) → c < clients
    → acks clients (set c l link) + length (link c).e ≡ acks clients link + length l.e
acks-set clients c l link few =
    let changed = total-at clients c (λ d. length (set c l link d).e) (λ d. length (link d).e) few
    (λ d ne. ap (λ x. length x.e) (set-other c d l link ne)) in
    omega (arith, ap (λ x. length x.e) (set-same c l link), changed)

pub acks-same : (clients : ℕ) (f g : ℕ → Link) → ((c : ℕ) → (f c).e ≡ (g c).e) → acks clients f ≡ acks clients g
acks-same clients f g same = grind (arith, total-same)

-- ---- the whole

abbrev pub clients_in : Config → ℕ
clients_in config = length config.clients.items

abbrev pub sources_in : Config → ℕ → ℕ
sources_in config c = sources_of (terms_at config c)

-- this many requests and Releases more are open, and this many less
pub record IsBalance {X : Type 0} (config : Config) (s s' : State X) (starts ends lets lets_go : Bool) : Type 0 where
  pub requests : open_requests config s' + one_if ends ≡ open_requests config s + one_if starts
  pub releases : open_releases config s' + one_if lets_go ≡ open_releases config s + one_if lets

pub requests-split : {X : Type 0} (config : Config) (s : State X)
    → open_requests config s ≡ marked is_used (clients_in config) (sources_in config) s.uses + acks (clients_in config)
    s.link
requests-split config s = total-plus (clients_in config)
    (λ c. total (sources_in config c) (λ i. one_if (is_used (s.uses c i)))) (λ c. length (s.link c).e)

-- nothing is opened or ended
pub balance-same : {X : Type 0} (config : Config) (s s' : State X)
    → ((c i : ℕ) → is_used (s'.uses c i) ≡ is_used (s.uses c i))
    → ((c i : ℕ) → is_let (s'.lets c i) ≡ is_let (s.lets c i)) → ((c : ℕ) → (s'.link c).e ≡ (s.link c).e)
    → IsBalance config s s' false false false false
balance-same config s s' uses lets links =
    let u = marked-same is_used (clients_in config) (sources_in config) s'.uses s.uses uses in
    let a = acks-same (clients_in config) s'.link s.link links in
    record {
      requests = omega (arith, u, a, requests-split config s, requests-split config s');
      releases = omega (arith, marked-same is_let (clients_in config) (sources_in config) s'.lets s.lets lets);
    }
