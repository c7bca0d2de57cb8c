-- An access that is answered as it is taken, and an answer that is taken, keep the invariant.
-- Each request that is taken keeps the invariant of the protocol, and what that needs of the clients that are probed.
-- A Grant that is taken keeps what holds of a block, also where it changes what all copies stand for.
use Rattle.std.proofs.Common.{◌≡◌, ℕ, zero, suc, ◌*◌, ◌<◌, ◌≤◌, Bool, true, false, not, ◌&&◌, ◌||◌, ◌==◌, List, ◌∷◌}
use Rattle.std.proofs.Common.{Option, Some, None, refl, sym, ◌∙◌, ap, arith, ◌⊎◌, inl, inr, length, ne_eqb, slice_index}
use Rattle.tl_coherence.proofs
use proofs.Imports.{and-false, cases_eq, cases_lt, not-false, not-true, Channel, Message, MessageA, Config, Cap, Grow}
use proofs.Imports.{Perm, Profile, cap_right, same_perm, Memory, bytes_from, effect, block_at, is_acquire, bytes_are}
use proofs.Imports.{cap_probed, AreOutside, IsInvariant, IsWell, acquires_of, acquires_with, cap_asked, is_of, is_out}
use proofs.Imports.{releases_with, resting, serves_of, serves_with, tracks_with, Acquire, Answer, Kind, Packet}
use proofs.Imports.{ProbeAck, Request, set, Acknowledging, AcquireOpen, ClientBlock, GrantedOther, Granting, cap_fits}
use proofs.Imports.{grant_fits, grow_fits, is_unprobed, same_cap, after_grant, is_above, is_granted_data, Asked, Block}
use proofs.Imports.{Free, GrantSent, GrantTaken, Replied, State, access_answered, access_served, acquire_granted}
use proofs.Imports.{acquire_served, answer_taken, answered_link, granted_copy, granted_truth, is_probed, packet}
use proofs.Imports.{performed_block, taken_block, view, is_transfer, shown, AbstractState, bytes_at, gift, is_unheld}
use proofs.Imports.{performs, probes_some, some_below, AreMoved, Move, Pops, Pushes, Stays, channel_for, is_own_move}
use Rattle.tl_coherence.specs.protocol.Protocol.{Link}
use proofs.queues.{PhaseSteps.grant_taken-ok, Facts.held_at_most, Facts.grant_is_fit, Facts.acquire_fits, Codes.low_cap}
use proofs.queues.Phases.{and_left, and_right, nothing_below, whole_cap, none-above, nothing-above}
use proofs.queues.Tokens.{same_number, set-same, set-other, set-part}
use proofs.queues.Moves.{event-at, bare-elsewhere, invariant-moved_access, names-block, names-set_at}
use proofs.queues.Moves.{invariant-moved_use, spares, spared-agrees}
use proofs.protocol.{Served.access_served-kept, Served.acquire_served-kept, BothParts.first-request}
use proofs.protocol.Granted.{grows_to_trunk, low-unprobed, none-unprobed, acquire_granted-kept}

-- ---- the block

-- the access leaves the bytes as they are, or nobody has a copy
abbrev pub Spares : {X : Type 0} → (X → X) → Block X → Type 0
Spares f b = (f b.truth ≡ b.truth) ⊎ ((d : ℕ) → same_perm (b.pair d).recorded Perm.None ≡ true)

pub performed-block : {X : Type 0} {caching : ℕ → Bool} (f : X → X) {b : Block X} → IsWell caching b → Spares f b
    → IsWell caching (performed_block f b)
performed-block {X} f {b} h spared = record {
  phases = h.phases;
  awaited = h.awaited;
  asked_cap = h.asked_cap;
  own_source = h.own_source;
  alone = h.alone;
  one_owner = h.one_owner;
  outside = h.outside;
  copies = λ d some. copy_is d some spared;
  memory = λ none. ap f (h.memory none);
}
  where
    copy_is : (d : ℕ) → same_perm (b.pair d).held Perm.None ≡ false → Spares f b → b.copy d ≡ f b.truth
    copy_is d some (inl same) = h.copies d some ∙ sym same
    copy_is d some (inr none) = absurd (let no = nothing_below _ _ (held_at_most
        (b.pair d) (view b.service d) (h.phases d)) (none d) in let differs : true ≡ false = sym no ∙ some in cc)

-- ---- the whole

-- an access is taken and its answer handed out
abbrev pub answer_moves : ℕ → Channel → Move
answer_moves source Channel.A = Pops Request source
answer_moves source Channel.D = Pushes Answer source
answer_moves source _ = Stays

answer_spared : (source : ℕ) (k : Kind) → is_transfer k ≡ true → spares (answer_moves source (channel_for k)) k ≡ true
answer_spared source k e = grind arith

pub access_answered-kept : {X : Type 0} {caching : ℕ → Bool} (c n source : ℕ) (f : X → X) (rest : List Packet)
    {s : State X} → IsInvariant caching s → (s.link c).a ≡ packet Request source ∷ rest → s.uses c source ≡ Asked
    → Spares f (s.block n) → IsInvariant caching (access_answered c n source f rest s)
access_answered-kept {X} {caching} c n source f rest {s} inv first asked spared =
    let here : Link = answered_link (packet Answer source) rest (s.link c) in
    let moved : AreMoved (answer_moves source) (s.link c) here = elim [ Channel.A ↦ first | _ ↦ refl ] in
    let own : (ch : Channel) → is_own_move ch (answer_moves source ch) ≡ true = elim [ Channel.A ↦ refl | ch ↦ refl ] in
    let new : Block X = performed_block f (s.block n) in
    invariant-moved_use c source Replied s.tracked inv (event-at (record {
      well = performed-block f (inv.blocks n) spared;
      moved = moved;
      own = own;
      fits = λ k t. spared-agrees _ k n (shown k c (s.block n)) (answer_spared source k t);
      others = λ d ne k t. refl;
      in_order = λ m e. absurd (let f : Stays ≡ Pushes ProbeAck m = e in cc);
    }))
    (rw (same_number c, same_number source) refl) (rw (same_number c, asked, same_number source) refl)
    (bare-elsewhere c (answer_moves source)) (record {
      acquires = names-set_at acquires_of acquires_with c source Replied s.uses n new s.block (rw asked at
          (inv.named.acquires c source n)) (λ m ne. rw asked refl) (λ i ne. refl) (λ d i ne. refl) inv.named.acquires;
      serves = names-set_at serves_of serves_with c source Replied s.uses n new s.block (rw asked at
          (inv.named.serves c source n)) (λ m ne. rw asked refl) (λ i ne. refl) (λ d i ne. refl) inv.named.serves;
      releases = λ d. names-block is_of (releases_with d) (s.lets d) n new s.block (λ i. refl) (inv.named.releases d);
      trackers = names-block is_of tracks_with s.tracked n new s.block (λ i. refl) inv.named.trackers;
    })

-- an answer is taken
abbrev pub done_moves : ℕ → Channel → Move
done_moves source Channel.D = Pops Answer source
done_moves source _ = Stays

done_spared : (source : ℕ) (k : Kind) → is_transfer k ≡ true → spares (done_moves source (channel_for k)) k ≡ true
done_spared source k e = grind arith

pub answer_taken-kept : {X : Type 0} {caching : ℕ → Bool} (c source : ℕ) (rest : List Packet) {s : State X}
    → IsInvariant caching s → (s.link c).d ≡ packet Answer source ∷ rest → s.uses c source ≡ Replied
    → IsInvariant caching (answer_taken c source rest s)
answer_taken-kept c source rest {s} inv first replied =
    let here : Link = record (s.link c) { d = rest } in
    let moved : AreMoved (done_moves source) (s.link c) here = elim [ Channel.D ↦ first | _ ↦ refl ] in
    let own : (ch : Channel) → is_own_move ch (done_moves source ch) ≡ true = elim [ Channel.A ↦ refl | ch ↦ refl ] in
    invariant-moved_access inv (record {
      moved = moved;
      own = own;
      spared = done_spared source;
      still = refl;
      asked = rw replied refl;
      replied = rw (same_number source) refl;
      acquires = λ m. rw replied refl;
      serves = λ m. rw replied refl;
    })

-- ---- clients that pass a test

pub some-none : (n : ℕ) (test : ℕ → Bool) → some_below n test ≡ false → (i : ℕ) → i < n → test i ≡ false
unfolding some_below
some-none zero test e i lt = absurd (omega (arith, lt))
some-none (suc n) test e i lt = go (test n) refl e (λ f. some-none n test f i)
  where
    go : (b : Bool) → test n ≡ b → (b || some_below n test) ≡ false
        → (some_below n test ≡ false → i < n → test i ≡ false) → test i ≡ false
    go b e f g = grind arith

pub some-one : (n : ℕ) (test : ℕ → Bool) → some_below n test ≡ true → (i : ℕ) × (test i ≡ true)
unfolding some_below
some-one zero test e = absurd cc
some-one (suc n) test e =
    let go : (b : Bool) → test n ≡ b → (b || some_below n test) ≡ true → (some_below n test ≡ true
    → (i : ℕ) × (test i ≡ true)) → (i : ℕ) × (test i ≡ true) = elim [ true ↦ λ f g h. (n, f) | false ↦ λ f g h. h g ] in
    go (test n) refl e (λ f. some-one n test f)

-- who isn't a client has nothing, and isn't probed
pub unprobed : (clients : ℕ) (caching : ℕ → Bool) (c : ℕ) (own : Bool) (k : Cap) (pair : ℕ → ClientBlock)
    → ((d : ℕ) → clients ≤ d → caching d ≡ false) → AreOutside caching pair
    → some_below clients (λ d. is_probed c own k (pair d).recorded d) ≡ false → (d : ℕ) → (own && (d == c)) ≡ false
    → is_above k (pair d).recorded ≡ false
unprobed clients caching c own k pair plain outside none d spared = elim (cases_lt d clients) [
  | inl lt ↦ let e : (not (own && (d == c)) && is_above k (pair d).recorded) ≡ false =
      some-none _ (λ i. is_probed c own k (pair i).recorded i) none d lt in rw spared at e
  | inr le ↦ rw (outside d (plain d le)) (nothing-above k)
]

pub settled_all : (clients : ℕ) (caching : ℕ → Bool) (c : ℕ) (pair : ℕ → ClientBlock)
    → ((d : ℕ) → clients ≤ d → caching d ≡ false) → AreOutside caching pair
    → some_below clients (λ d. not (d == c) && not (is_unprobed (pair d).probing)) ≡ false → (d : ℕ) → (d ≡ c → ⊥)
    → is_unprobed (pair d).probing ≡ true
settled_all clients caching c pair plain outside none d ne = elim (cases_lt d clients) [
  | inl lt ↦ let e : (not (d == c) && not (is_unprobed (pair d).probing)) ≡ false =
      some-none _ (λ i. not (i == c) && not (is_unprobed (pair i).probing)) none d lt in
      not-false (is_unprobed (pair d).probing) (rw (ne_eqb d c ne) at e)
  | inr le ↦ rw (outside d (plain d le)) refl
]

-- ---- what accesses do to the bytes of a block

-- an access that doesn't probe all leaves the memory
leaves_memory : {w : ℕ} (m : MessageA w) (memory : Memory) → is_acquire m.opcode ≡ false
    → (cap_probed m.opcode m.param ≡ Some Cap.ToN) ⊎ ((effect (Message.A m) memory).0 ≡ memory)
unfolding effect
leaves_memory m memory e = grind arith

pub leaves-bytes : {w : ℕ} (m : MessageA w) (bytes : List ℕ) → is_acquire m.opcode ≡ false → length bytes ≡ 64
    → (performs m bytes ≡ bytes) ⊎ (cap_probed m.opcode m.param ≡ Some Cap.ToN)
leaves-bytes m bytes e long = elim (leaves_memory m (bytes_at (block_at m.address) bytes) e) [
  | inl all ↦ inr all
  | inr same ↦ inl (ap (λ f. bytes_from f (64 * block_at m.address) 64) same
      ∙ (rw long at (bytes_are (bytes_at (block_at m.address) bytes) (64 * (block_at m.address)) bytes
      (λ i lt. ap (slice_index bytes) (omega arith)))))
]

-- ---- what is granted

-- what is granted fits what was asked for
pub gift_fits : (p : Profile) (whole : Bool) (g : Grow) (held : Perm) (unheld : Bool)
    → grow_fits held (AcquireOpen whole g) ≡ true → cap_fits whole g (gift p whole g unheld) ≡ true
gift_fits p whole g held unheld e = grind arith

-- Trunk is granted to who asked for it, or where nobody has a copy
pub gift_trunk : (p : Profile) (whole : Bool) (g : Grow) (held : Perm) (unheld : Bool)
    → grow_fits held (AcquireOpen whole g) ≡ true → same_cap (gift p whole g unheld) Cap.ToT ≡ true
    → (grows_to_trunk g ≡ true) ⊎ (unheld ≡ true)
gift_trunk p whole g held unheld e f = grind arith

-- nobody is recorded
pub unheld_none : (clients : ℕ) (caching : ℕ → Bool) (pair : ℕ → ClientBlock)
    → ((d : ℕ) → clients ≤ d → caching d ≡ false) → AreOutside caching pair → is_unheld clients pair ≡ true → (d : ℕ)
    → same_perm (pair d).recorded Perm.None ≡ true
unheld_none clients caching pair plain outside e d = elim (cases_lt d clients) [
  | inl lt ↦ not-false (same_perm (pair d).recorded Perm.None)
      (some-none clients (λ i. not (same_perm (pair i).recorded Perm.None))
      (not-true (some_below clients (λ i. not (same_perm (pair i).recorded Perm.None))) e) d lt)
  | inr le ↦ rw (outside d (plain d le)) refl
]

-- ---- requests that are taken

module _ {w : ℕ} {caching : ℕ → Bool} (config : Config) (c : ℕ) (rest : List Packet) (h : AbstractState w)
    (inv : IsInvariant caching h.state) (plain : (d : ℕ) → length config.clients.items ≤ d → caching d ≡ false) where
  abbrev clients : ℕ
  clients = length config.clients.items

  abbrev probed_for_acquire : ℕ → Bool → Grow → ℕ → Bool
  probed_for_acquire n whole g d =
      is_probed c true (cap_asked (AcquireOpen whole g)) ((h.state.block n).pair d).recorded d

  pub access_answered-followed : (source : ℕ) (m : MessageA w) (o : Option Cap)
      → (h.state.link c).a ≡ packet Request source ∷ rest → is_acquire m.opcode ≡ false
      → length (h.state.block (block_at m.address)).truth ≡ 64 → cap_probed m.opcode m.param ≡ o
      → probes_some clients c false o (h.state.block (block_at m.address)).pair ≡ false
      → IsInvariant caching (access_answered c (block_at m.address) source (performs m) rest h.state)
  access_answered-followed source m o first access long caps none = access_answered-kept c _ _ (performs m) rest inv
      first (first-request inv first) (elim (leaves-bytes m (h.state.block (block_at m.address)).truth access long) [
        | inl same ↦ inl same
        | inr all ↦ inr (λ d. none-above _ (unprobed clients caching c false Cap.ToN
            (h.state.block (block_at m.address)).pair plain (inv.blocks (block_at m.address)).outside
            (let same : o ≡ Some Cap.ToN = cc in rw same at none) d refl))
      ])

  pub access_served-followed : (tracker source : ℕ) (m : MessageA w) (k : Cap)
      → (h.state.link c).a ≡ packet Request source ∷ rest → (h.state.block (block_at m.address)).service ≡ Free
      → h.state.tracked tracker ≡ None → cap_probed m.opcode m.param ≡ Some k
      → some_below clients (λ d. is_probed c false k ((h.state.block (block_at m.address)).pair d).recorded d) ≡ true
      → IsInvariant caching (access_served c (block_at m.address) source tracker k rest h.state)
  access_served-followed tracker source m k first free unused caps some =
      let one = some-one _ (λ d. is_probed c false k ((h.state.block (block_at m.address)).pair d).recorded d) some in
      access_served-kept c _ _ _ k rest inv first free (first-request inv first)
      (low_cap m.opcode m.param k caps) unused one.0 one.1

  pub acquire_served-followed : (tracker n : ℕ) (whole : Bool) (g : Grow)
      → (h.state.link c).a ≡ packet Acquire n ∷ rest → (h.state.block n).service ≡ Free
      → h.state.tracked tracker ≡ None → ((h.state.block n).pair c).acquiring ≡ AcquireOpen whole g
      → some_below clients (probed_for_acquire n whole g) ≡ true
      → IsInvariant caching (acquire_served c n ((h.state.block n).source c) tracker (cap_asked (AcquireOpen whole g))
      rest h.state)
  acquire_served-followed tracker n whole g first free unused wants some =
      let same_again : (k : Cap) → same_cap k k ≡ true = elim [ Cap.ToT ↦ refl | k ↦ refl ] in
      let one = some-one _ (probed_for_acquire n whole g) some in
      acquire_served-kept c n ((h.state.block n).source c) _ whole g _ rest inv
      first free wants (same_again (cap_asked (AcquireOpen whole g))) unused refl one.0 one.1

  pub acquire_granted-followed : (tracker n : ℕ) (whole : Bool) (g : Grow)
      → (h.state.link c).a ≡ packet Acquire n ∷ rest → (h.state.block n).service ≡ Free
      → h.state.tracked tracker ≡ None → ((h.state.block n).pair c).acquiring ≡ AcquireOpen whole g
      → some_below clients (probed_for_acquire n whole g) ≡ false
      → IsInvariant caching (acquire_granted c n tracker (is_granted_data whole g ((h.state.block n).pair c).recorded)
      (gift config.profile whole g (is_unheld clients (h.state.block n).pair)) rest h.state)
  acquire_granted-followed tracker n whole g first free unused wants none =
      acquire_granted-kept n _ rest inv first (record {
        free = free;
        wants = wants;
        fits = gift_fits config.profile whole g _ (is_unheld clients b.pair) fits;
        low = λ d ne. low-unprobed whole g _ (spared d ne);
        room = λ top d ne.
            elim (gift_trunk config.profile whole g (b.pair c).held (is_unheld clients b.pair) fits top) [
              | inl grows ↦ none-unprobed whole g _ grows (spared d ne)
              | inr unheld ↦ unheld_none clients caching b.pair plain (inv.blocks n).outside unheld d
            ];
      }) unused
    where
      b : Block (List ℕ)
      b = h.state.block n

      fits : grow_fits (b.pair c).held (AcquireOpen whole g) ≡ true
      fits = acquire_fits whole g _ _ ((inv.blocks n).phases c) wants

      spared : (d : ℕ) → (d ≡ c → ⊥) → is_above (cap_asked (AcquireOpen whole g)) (b.pair d).recorded ≡ false
      spared d ne = unprobed _ caching c true _ b.pair plain (inv.blocks n).outside none d (ne_eqb d c ne)

-- a Grant for a store of the whole block gives Trunk
whole_trunk : (g : Grow) (k : Cap) (p : Perm) → same_perm p (cap_right k) ≡ true → cap_fits true g k ≡ true
    → same_perm p Perm.Trunk ≡ true
whole_trunk g k p e f = sym (ap (λ j. same_perm p (cap_right j)) (whole_cap g k f)) ∙ e

some_held : (p : Perm) → same_perm p Perm.Branch ≡ true → same_perm p Perm.None ≡ false
some_held p e = grind arith

pub taken-block : {X : Type 0} {caching : ℕ → Bool} (c : ℕ) (d whole : Bool) (g : Grow) (k : Cap) {b : Block X}
    → IsWell caching b → b.service ≡ GrantSent c d k
    → (b.pair c).acquiring ≡ AcquireOpen whole g → IsWell caching (taken_block c whole d k b)
taken-block c d whole g k {b} h granting wants = record {
  phases = λ i. elim (cases_eq i c) [
    | inl same ↦ rw (same, set-same c after b.pair, view_here)
        (grant_taken-ok d k (b.pair c) (view b.service c) (h.phases c) seen)
    | inr other ↦ rw (set-other c i after b.pair other, view_there i other) (rw (seen_by i other) at (h.phases i))
  ];
  awaited = tt;
  asked_cap = tt;
  own_source = tt;
  alone = λ i j trunk probed ne. rw (quiet_same j)
      (h.alone i j (rw (recorded_same i) at trunk) (rw (quiet_same i) at probed) ne);
  one_owner = λ i j trunk ne. rw (recorded_same j) (h.one_owner i j (rw (recorded_same i) at trunk) ne);
  outside = λ i plain. elim (cases_eq i c) [
    | inl same ↦ absurd (not_calm (b.pair c) wants (h.outside c (rw same at plain)))
    | inr other ↦ rw (set-other c i after b.pair other) (h.outside i plain)
  ];
  copies = λ i some. elim (cases_eq i c) [
    | inl same ↦ rw (same, set-same c (granted_copy whole d (b.waiting c) b.truth (b.copy c)) b.copy)
        (own_copy whole refl d refl)
    | inr other ↦ rw (set-other c i (granted_copy whole d (b.waiting c) b.truth (b.copy c)) b.copy other)
        (other_copy i other whole refl (rw (set-other c i after b.pair other) at some))
  ];
  memory = λ none. memory_is whole refl none;
}
  where
    after : ClientBlock
    after = after_grant k (b.pair c)

    seen : view b.service c ≡ Granting d k
    seen = rw (granting, same_number c) refl

    seen_by : (i : ℕ) → (i ≡ c → ⊥) → view b.service i ≡ GrantedOther
    seen_by i ne = rw (granting, ne_eqb i c ne) refl

    view_here : view (GrantTaken c) c ≡ Acknowledging
    view_here = rw (same_number c) refl

    view_there : (i : ℕ) → (i ≡ c → ⊥) → view (GrantTaken c) i ≡ GrantedOther
    view_there i ne = rw (ne_eqb i c ne) refl

    recorded_same : (i : ℕ) → (set c after b.pair i).recorded ≡ (b.pair i).recorded
    recorded_same = set-part (λ p. p.recorded) c after b.pair refl

    quiet_same : (i : ℕ) → is_unprobed (set c after b.pair i).probing ≡ is_unprobed (b.pair i).probing
    quiet_same = set-part (λ p. is_unprobed p.probing) c after b.pair refl

    -- what the Grant is
    fit : grant_fits (b.pair c).recorded (b.pair c).held d k (AcquireOpen whole g) ≡ true
    fit = rw wants at (grant_is_fit d k (b.pair c) (view b.service c) (h.phases c) seen)

    fit_rest : (cap_fits whole g k && (not (whole && d) && (whole || (d || same_perm (b.pair c).held Perm.Branch))))
        ≡ true
    fit_rest = and_right (same_perm (b.pair c).recorded (cap_right k))
        (cap_fits whole g k && (not (whole && d) && (whole || (d || same_perm (b.pair c).held Perm.Branch)))) fit

    owns : whole ≡ true → same_perm (b.pair c).recorded Perm.Trunk ≡ true
    owns e = whole_trunk g k _ (and_left (same_perm (b.pair c).recorded (cap_right k)) (cap_fits whole g k
        && (not (whole && d) && (whole || (d || same_perm (b.pair c).held Perm.Branch)))) fit) (rw e at (and_left
        (cap_fits whole g k) (not (whole && d) && (whole || (d || same_perm (b.pair c).held Perm.Branch))) fit_rest))

    own_copy : (all : Bool) → whole ≡ all → (data_too : Bool) → d ≡ data_too
        → granted_copy whole d (b.waiting c) b.truth (b.copy c) ≡ granted_truth whole (b.waiting c) b.truth
    own_copy true e data_too f = rw e refl
    own_copy false e true f = rw (e, f) refl
    own_copy false e false f = let had = some_held (b.pair c).held (rw (e, f) at (and_right (not (whole && d))
        (whole || (d || same_perm (b.pair c).held Perm.Branch)) (and_right (cap_fits whole g k) (not (whole && d)
        && (whole || (d || same_perm (b.pair c).held Perm.Branch))) fit_rest))) in rw (e, f) (h.copies c had)

    other_copy : (i : ℕ) → (i ≡ c → ⊥) → (all : Bool) → whole ≡ all → same_perm (b.pair i).held Perm.None ≡ false
        → b.copy i ≡ granted_truth whole (b.waiting c) b.truth
    other_copy i ne true e some =
        let none = nothing_below _ _
        (held_at_most (b.pair i) (view b.service i) (h.phases i)) (h.one_owner c i (owns e) ne) in
        absurd cc
    other_copy i ne false e some = rw e (h.copies i some)

    memory_is : (all : Bool) → whole ≡ all → ((i : ℕ) → is_out (set c after b.pair i) (view (GrantTaken c) i) ≡ false)
        → b.memory ≡ granted_truth whole (b.waiting c) b.truth
    memory_is true e none =
        let out : is_out (set c after b.pair c) (view (GrantTaken c) c) ≡ true =
        rw (recorded_same c, view_here, owns e) refl in
        let in_ : is_out (set c after b.pair c) (view (GrantTaken c) c) ≡ false = none c in
        absurd cc
    memory_is false e none = rw e (h.memory (λ i. elim (cases_eq i c) [
      | inl same ↦ rw (same, seen) (and-false (same_perm (b.pair c).recorded Perm.Trunk))
      | inr other ↦ let was : is_out (set c after b.pair i) (view (GrantTaken c) i) ≡ false = none i in
          rw (seen_by i other) (rw (recorded_same i, view_there i other) at was)
    ]))

    not_calm : (p : ClientBlock) → p.acquiring ≡ AcquireOpen whole g → p ≡ resting → ⊥
    not_calm p e f = grind arith
