-- The last ProbeAck that is taken, with which the Acquire that waited is granted, keeps what holds of a block.
-- An Acquire that is granted as it is taken keeps the invariant.
use Rattle.std.proofs.Common.{◌≡◌, ℕ, Bool, true, false, not, List, ◌∷◌, Some, None, refl, sym, ◌∙◌, arith, ◌⊎◌, inl}
use Rattle.std.proofs.Common.{inr, ne_eqb}
use Rattle.tl_coherence.proofs
use proofs.Imports.{cases_eq, not-true, Channel, Cap, Grow, Report, Perm, cap_right, report_left, same_perm, IsAskedCap}
use proofs.Imports.{IsInvariant, IsWell, acquires_of, acquires_with, cap_asked, is_of, is_out, releases_with, resting}
use proofs.Imports.{serves_of, serves_with, tracks_with, Acquire, Grant, Kind, Packet, ProbeAck, set, AcquireOpen}
use proofs.Imports.{ClientBlock, GrantedOther, Granting, Idle, Other, Own, ProbeAnswered, cap_fits, is_unacquired}
use proofs.Imports.{is_unprobed, same_cap, ok, after_grant_sent, after_report, is_above, is_granted_data, Block, Free}
use proofs.Imports.{GrantSent, State, Waits, acquire_granted, answered_link, granted_at_once, granted_block}
use proofs.Imports.{granted_pair, packet, view, written, is_transfer, is_wanting, shows, AreMoved, Move, Pops, Pushes}
use proofs.Imports.{Stays, agrees, channel_for, is_own_move, perm_le}
use Rattle.tl_coherence.specs.protocol.Protocol.{Link}
use proofs.queues.{Phases.not_out, Tokens.same_number, Tokens.set-same, Tokens.set-other, Tokens.set-part}
use proofs.queues.Facts.{quiet_at_rest, asked_low, spared_within, reported_within, cap_is_low, own_low, own_quiet}
use proofs.queues.Facts.{report_begins}
use proofs.queues.Moves.{same_again, event-at, bare-at, names-block, names-set, invariant-moved}
use proofs.queues.PhaseSteps.{grant_at_once-ok, granted_other-ok, grant_last-ok, report-ok, ended-ok}
use proofs.protocol.{Asked.busy-inside, Asked.outside-set, BothParts.shows-beside, BothParts.quiet-is}

-- ---- the views before and after

own_view : (q s : ℕ) (k : Cap) → view (Waits q true s k) q ≡ Own
own_view q s k = rw (same_number q) refl

other_view : (q s d : ℕ) (k : Cap) → (d ≡ q → ⊥) → view (Waits q true s k) d ≡ Other k
other_view q s d k ne = rw (ne_eqb d q ne) refl

granting_view : (q : ℕ) (d : Bool) (k : Cap) → view (GrantSent q d k) q ≡ Granting d k
granting_view q d k = rw (same_number q) refl

granted_view : (q c : ℕ) (d : Bool) (k : Cap) → (c ≡ q → ⊥) → view (GrantSent q d k) c ≡ GrantedOther
granted_view q c d k ne = rw (ne_eqb c q ne) refl

-- ---- permissions

-- what is within a low cap isn't Trunk
pub low_within : (p : Perm) (k : Cap) → perm_le p (cap_right k) ≡ true → same_cap k Cap.ToT ≡ false
    → same_perm p Perm.Trunk ≡ false
low_within p k e f = grind arith

pub both_trunk : (p q : Perm) → same_perm p q ≡ true → same_perm p Perm.Trunk ≡ false → same_perm q Perm.Trunk ≡ false
both_trunk p q e f = grind arith

pub none_or_trunk : (p : Perm) → same_perm p Perm.None ≡ true → same_perm p Perm.Trunk ≡ true → ⊥
none_or_trunk p e f = grind arith

-- a Grant that fits gives Trunk or Branch
pub gives : (whole : Bool) (g : Grow) (k : Cap) → cap_fits whole g k ≡ true → (same_cap k Cap.ToT ≡ true)
    ⊎ (same_perm (cap_right k) Perm.Trunk ≡ false)
gives whole g k e = grind arith

-- ---- the block

-- after its last ProbeAck nobody is recorded with more than a service's cap lets stay
pub recorded_within : {X : Type 0} {caching : ℕ → Bool} (c : ℕ) (r : Report) (k : Cap) {b : Block X} → IsWell caching b
    → (b.pair c).probing ≡ ProbeAnswered r → ((d : ℕ) → (d ≡ c → ⊥) → is_unprobed (b.pair d).probing ≡ true)
    → view b.service c ≡ Other k → (d : ℕ) → view b.service d ≡ Other k
    → perm_le (set c (after_report r (b.pair c)) b.pair d).recorded (cap_right k) ≡ true
recorded_within c r k {b} h answered settled seen d other = elim (cases_eq d c) [
  | inl same ↦ rw (same, set-same c (after_report r (b.pair c)) b.pair)
      (reported_within k r (b.pair c) (view b.service c) (h.phases c) seen answered)
  | inr ne ↦ rw (set-other c d (after_report r (b.pair c)) b.pair ne)
      (spared_within k (b.pair d) (view b.service d) (h.phases d) other (quiet-is (b.pair d).probing (settled d ne)))
]

-- what the premises say: c's ProbeAck is the last one that q's Acquire waits for
pub record IsLast {X : Type 0} (c q : ℕ) (r : Report) (whole : Bool) (g : Grow) (gift : Cap) (source : ℕ) (k : Cap)
    (b : Block X) : Type 0 where
  pub waits : b.service ≡ Waits q true source k
  pub answered : (b.pair c).probing ≡ ProbeAnswered r
  pub settled : (d : ℕ) → (d ≡ c → ⊥) → is_unprobed (b.pair d).probing ≡ true
  pub wants : (b.pair q).acquiring ≡ AcquireOpen whole g
  pub fits : cap_fits whole g gift ≡ true
  -- Trunk is granted only where nobody else is recorded
  pub room : same_cap gift Cap.ToT ≡ true → (d : ℕ) → (d ≡ q → ⊥)
      → same_perm (set c (after_report r (b.pair c)) b.pair d).recorded Perm.None ≡ true

pub granted-block : {X : Type 0} {caching : ℕ → Bool} {c q : ℕ} {r : Report} {whole : Bool} {g : Grow} {gift : Cap}
    {source : ℕ} {k : Cap} {b : Block X} → IsWell caching b → IsLast c q r whole g gift source k b
    → IsWell caching (granted_block c q r (is_granted_data whole g (b.pair q).recorded) gift b)
granted-block {X} {c} {q} {r} {whole} {g} {gift} {source} {k} {b} h last =
    -- before, nobody had a Trunk but the client whose ProbeAck is taken, if that carries data
    let none_out : same_perm (report_left r) Perm.Trunk ≡ false → (d : ℕ) → is_out (b.pair d) (view b.service d)
    ≡ false = λ bare d. not_out (b.pair d) (view b.service d) (elim (cases_eq d q) [
      | inl same ↦ rw same (not-true (same_perm (b.pair q).recorded Perm.Trunk)
          (own_low (b.pair q) (view b.service q) (h.phases q) own))
      | inr ne ↦ elim (cases_eq d c) [
        | inl also ↦ rw also (both_trunk (report_left r) (b.pair c).recorded
            (report_begins r (b.pair c) (view b.service c) (h.phases c) last.answered) bare)
        | inr neither ↦ low_within (b.pair d).recorded k (spared_within k (b.pair d) (view b.service d) (h.phases d)
            (other d ne) (quiet-is (b.pair d).probing (last.settled d neither))) low
      ]
    ]) in
    let memory_is : (data_too : Bool) → same_perm (report_left r) Perm.Trunk ≡ data_too → written r b.truth b.memory
    ≡ b.truth = elim [ true ↦ λ e. rw e refl | false ↦ λ e. rw e (h.memory (none_out e)) ] in
    let with_data : Bool = is_granted_data whole g (b.pair q).recorded in
    let all_quiet : (j : ℕ) → is_unprobed (granted_pair c q r gift b.pair j).probing ≡ true = λ j. elim (cases_eq j q) [
      | inl same ↦ rw (same, granted_here) (own_quiet (b.pair q) (view b.service q) (h.phases q) own)
      | inr ne ↦ rw (granted_elsewhere j ne) (elim (cases_eq j c) [
        | inl also ↦ rw (also, set-same c after b.pair) refl
        | inr neither ↦ rw (set-other c j after b.pair neither) (last.settled j neither)
      ])
    ] in
    record {
      phases = λ d. elim (cases_eq d q) [
        | inl same ↦ rw (same, granted_here, granting_view q with_data gift)
            (grant_last-ok whole g gift (b.pair q) (view b.service q) (h.phases q) own last.wants last.fits)
        | inr ne ↦ rw (granted_elsewhere d ne, granted_view q d with_data gift ne) (reported_phase d ne (cases_eq d c))
      ];
      awaited = tt;
      asked_cap = tt;
      own_source = tt;
      alone = λ i j trunk probed ne. all_quiet j;
      one_owner = λ i j trunk ne. owner (gives whole g gift last.fits) i j trunk ne;
      outside = λ d plain. elim (cases_eq d q) [
        | inl same ↦ absurd (not_calm (b.pair q) last.wants (h.outside q (rw same at plain)))
        | inr ne ↦ rw (granted_elsewhere d ne) (elim (cases_eq d c) [
          | inl also ↦ absurd (not_quiet (b.pair c) last.answered (h.outside c (rw also at plain)))
          | inr neither ↦ rw (set-other c d after b.pair neither) (h.outside d plain)
        ])
      ];
      copies = λ d some. h.copies d (rw (held_same d) at some);
      memory = λ none. memory_is (same_perm (report_left r) Perm.Trunk) refl;
    }
  where
    after : ClientBlock
    after = after_report r (b.pair c)

    own : view b.service q ≡ Own
    own = rw last.waits (own_view q source k)

    other : (d : ℕ) → (d ≡ q → ⊥) → view b.service d ≡ Other k
    other d ne = rw last.waits (other_view q source d k ne)

    apart : c ≡ q → ⊥
    apart e =
        let quiet : is_unprobed (b.pair q).probing ≡ true = own_quiet (b.pair q) _ (h.phases q) own in
        let no : is_unprobed (ProbeAnswered r) ≡ true = rw (rw e at last.answered) at quiet in
        absurd cc

    low : same_cap k Cap.ToT ≡ false
    low = cap_is_low k (b.pair c) _ (h.phases c) (other c apart)

    granted_here : granted_pair c q r gift b.pair q ≡ after_grant_sent gift (b.pair q)
    granted_here = set-same q (after_grant_sent gift (b.pair q)) (set c after b.pair)

    granted_elsewhere : (d : ℕ) → (d ≡ q → ⊥) → granted_pair c q r gift b.pair d ≡ set c after b.pair d
    granted_elsewhere d ne = set-other q d (after_grant_sent gift (b.pair q)) (set c after b.pair) ne

    reported_phase : (d : ℕ) → (d ≡ q → ⊥) → (d ≡ c) ⊎ (d ≡ c → ⊥) → ok (set c after b.pair d) GrantedOther ≡ true
    reported_phase d ne (inl same) =
        rw (same, set-same c after b.pair) (report-ok r (b.pair c) (view b.service c) (h.phases c) last.answered).2
    reported_phase d ne (inr neither) = rw (set-other c d after b.pair neither) (ended-ok k (b.pair d)
        (view b.service d) (h.phases d) (other d ne) (quiet-is (b.pair d).probing (last.settled d neither))).1

    held_same : (d : ℕ) → (granted_pair c q r gift b.pair d).held ≡ (b.pair d).held
    held_same d =
        let first = set-part (λ p. p.held) c after b.pair refl q in
        set-part (λ p. p.held) q (after_grant_sent gift (b.pair q)) (set c after b.pair) (sym first)
        d ∙ set-part (λ p. p.held) c after b.pair refl d

    -- those who aren't granted have no Trunk
    low_elsewhere : (d : ℕ) → (d ≡ q → ⊥) → same_perm (set c after b.pair d).recorded Perm.Trunk ≡ false
    low_elsewhere d ne = low_within (set c after b.pair d).recorded k
        (recorded_within c r k h last.answered last.settled (other c apart) d (other d ne)) low

    owner : (same_cap gift Cap.ToT ≡ true) ⊎ (same_perm (cap_right gift) Perm.Trunk ≡ false) → (i j : ℕ)
        → same_perm (granted_pair c q r gift b.pair i).recorded Perm.Trunk ≡ true → (j ≡ i → ⊥)
        → same_perm (granted_pair c q r gift b.pair j).recorded Perm.None ≡ true
    owner (inl top) i j trunk ne = elim (cases_eq i q) [
      | inl same ↦ let differs : j ≡ q → ⊥ = λ e. ne (e ∙ sym same) in
          rw (granted_elsewhere j differs) (last.room top j differs)
      | inr differs ↦ absurd (none_or_trunk (set c after b.pair i).recorded (last.room top i differs)
          (rw (granted_elsewhere i differs) at trunk))
    ]
    owner (inr less) i j trunk ne = elim (cases_eq i q) [
      | inl same ↦ absurd (let t : same_perm (cap_right gift) Perm.Trunk ≡ true = rw (same, granted_here) at trunk in
          cc)
      | inr differs ↦ absurd (let t : same_perm (set c after b.pair i).recorded Perm.Trunk ≡ true =
          rw (granted_elsewhere i differs) at trunk in let u = low_elsewhere i differs in cc)
    ]

    not_calm : (p : ClientBlock) → p.acquiring ≡ AcquireOpen whole g → p ≡ resting → ⊥
    not_calm p e f = grind arith

    not_quiet : (p : ClientBlock) → p.probing ≡ ProbeAnswered r → p ≡ resting → ⊥
    not_quiet p e f = grind arith

-- ---- the cap of a Grant that gives Trunk

abbrev pub grows_to_trunk : Grow → Bool
grows_to_trunk Grow.NtoB = false
grows_to_trunk _ = true

-- ---- Trunk is granted only where nobody else is recorded

pub low_none : (k : Cap) (p : Perm) → k ≡ Cap.ToN → perm_le p (cap_right k) ≡ true → same_perm p Perm.None ≡ true
low_none k p e f = grind arith

is_none : (k : Cap) → same_cap k Cap.ToN ≡ true → k ≡ Cap.ToN
is_none k e = grind arith

asks_none : (k : Cap) (whole : Bool) (g : Grow) → grows_to_trunk g ≡ true
    → same_cap k (cap_asked (AcquireOpen whole g)) ≡ true → k ≡ Cap.ToN
asks_none k whole g e f = grind (arith, is_none)

-- where the Acquire asks for Trunk, all others were probed to None
pub room-trunk : {X : Type 0} {caching : ℕ → Bool} (c q : ℕ) (r : Report) (whole : Bool) (g : Grow) (source : ℕ)
    (k : Cap) {b : Block X} → IsWell caching b → b.service ≡ Waits q true source k
    → (b.pair c).probing ≡ ProbeAnswered r → ((d : ℕ) → (d ≡ c → ⊥) → is_unprobed (b.pair d).probing ≡ true)
    → (b.pair q).acquiring ≡ AcquireOpen whole g → grows_to_trunk g ≡ true → (c ≡ q → ⊥) → (d : ℕ) → (d ≡ q → ⊥)
    → same_perm (set c (after_report r (b.pair c)) b.pair d).recorded Perm.None ≡ true
room-trunk c q r whole g source k {b} h waits answered settled wants trunk apart d ne =
    let seen : (i : ℕ) → (i ≡ q → ⊥) → view b.service i ≡ Other k =
    λ i differs. rw waits (other_view q source i k differs) in
    let asked : IsAskedCap (Waits q true source k) b.pair = rw waits at h.asked_cap in
    low_none k _ (asks_none k whole g trunk (rw wants at asked))
    (recorded_within c r k h answered settled (seen c apart) d (seen d ne))

-- ---- the block

-- the block isn't in service, nobody else is recorded with Trunk, and nobody at all where Trunk is granted
pub record IsGrantable {X : Type 0} (r : ℕ) (whole : Bool) (g : Grow) (gift : Cap) (b : Block X) : Type 0 where
  pub free : b.service ≡ Free
  pub wants : (b.pair r).acquiring ≡ AcquireOpen whole g
  pub fits : cap_fits whole g gift ≡ true
  pub low : (d : ℕ) → (d ≡ r → ⊥) → same_perm (b.pair d).recorded Perm.Trunk ≡ false
  pub room : same_cap gift Cap.ToT ≡ true → (d : ℕ) → (d ≡ r → ⊥) → same_perm (b.pair d).recorded Perm.None ≡ true

granted_at_once-block : {X : Type 0} {caching : ℕ → Bool} {r : ℕ} (tracker : ℕ) {whole : Bool} {g : Grow}
    {gift : Cap} {b : Block X} → IsWell caching b → IsGrantable r whole g gift b
    → IsWell caching (granted_at_once r tracker (is_granted_data whole g (b.pair r).recorded) gift b)
granted_at_once-block {caching} {r} tracker {whole} {g} {gift} {b} h is =
    let quiet : (d : ℕ) → is_unprobed (b.pair d).probing ≡ true =
    λ d. quiet_at_rest (b.pair d) _ (h.phases d) (idle d) in
    let quiet_same = set-part (λ p. is_unprobed p.probing) r after b.pair refl in
    record {
      phases = λ d. elim (cases_eq d r) [
        | inl same ↦ rw (same, set-same r after b.pair, same_number r)
            (grant_at_once-ok whole g gift (b.pair r) (view b.service r) (h.phases r) (idle r) is.wants is.fits)
        | inr other ↦ rw (set-other r d after b.pair other, ne_eqb d r other)
            (granted_other-ok (b.pair d) (view b.service d) (h.phases d) (idle d) (is.low d other))
      ];
      awaited = tt;
      asked_cap = tt;
      own_source = tt;
      alone = λ i j trunk probed ne. rw (quiet_same j) (quiet j);
      one_owner = λ i j trunk ne. owner (gives whole g gift is.fits) i j trunk ne;
      outside = outside-set caching r after b.pair (busy-inside caching r b.pair (λ p. not (is_unacquired p.acquiring))
          refl (rw is.wants refl) h.outside) h.outside;
      copies = λ d some. h.copies d (rw ((set-part (λ p. p.held) r after b.pair refl) d) at some);
      memory = λ none. h.memory (λ d. not_out (b.pair d) (view b.service d) (low d (cases_eq d r)));
    }
  where
    after : ClientBlock
    after = after_grant_sent gift (b.pair r)

    idle : (d : ℕ) → view b.service d ≡ Idle
    idle d = rw is.free refl

    low : (d : ℕ) → (d ≡ r) ⊎ (d ≡ r → ⊥) → same_perm (b.pair d).recorded Perm.Trunk ≡ false
    low d (inl same) = rw same (asked_low whole g (b.pair r) (view b.service r) (h.phases r) (idle r) is.wants)
    low d (inr other) = is.low d other

    owner : (same_cap gift Cap.ToT ≡ true) ⊎ (same_perm (cap_right gift) Perm.Trunk ≡ false) → (i j : ℕ)
        → same_perm (set r after b.pair i).recorded Perm.Trunk ≡ true → (j ≡ i → ⊥)
        → same_perm (set r after b.pair j).recorded Perm.None ≡ true
    owner (inl top) i j trunk ne = elim (cases_eq i r) [
      | inl same ↦ let differs : j ≡ r → ⊥ = λ e. ne (e ∙ sym same) in
          rw (set-other r j after b.pair differs) (is.room top j differs)
      | inr differs ↦ absurd (none_or_trunk (b.pair i).recorded (is.room top i differs)
          (rw (set-other r i after b.pair differs) at trunk))
    ]
    owner (inr less) i j trunk ne = elim (cases_eq i r) [
      | inl same ↦ absurd (let t : same_perm (cap_right gift) Perm.Trunk ≡ true =
          rw (same, set-same r after b.pair) at trunk in cc)
      | inr differs ↦ absurd (let t : same_perm (b.pair i).recorded Perm.Trunk ≡ true =
          rw (set-other r i after b.pair differs) at trunk in let u = is.low i differs in cc)
    ]

-- nobody is to be probed with the cap that an Acquire asks for: so nobody has Trunk
pub low-unprobed : (whole : Bool) (g : Grow) (p : Perm) → is_above (cap_asked (AcquireOpen whole g)) p ≡ false
    → same_perm p Perm.Trunk ≡ false
low-unprobed whole g p e = grind arith

-- and nobody is recorded where it asks for Trunk
pub none-unprobed : (whole : Bool) (g : Grow) (p : Perm) → grows_to_trunk g ≡ true
    → is_above (cap_asked (AcquireOpen whole g)) p ≡ false → same_perm p Perm.None ≡ true
none-unprobed whole g p e f = grind arith

-- ---- the whole

abbrev pub once_moves : ℕ → Channel → Move
once_moves n Channel.A = Pops Acquire n
once_moves n Channel.D = Pushes Grant n
once_moves n _ = Stays

once_shows : (n : ℕ) (k : Kind) (p : ClientBlock) (d : Bool) (gift : Cap) → is_transfer k ≡ true
    → is_wanting p.acquiring ≡ true → agrees (once_moves n (channel_for k)) k n (shows k p Idle)
    (shows k (after_grant_sent gift p) (Granting d gift)) ≡ true
once_shows n Acquire p d gift t e = rw (e, same_number n) refl
once_shows n Grant p d gift t e = rw (same_number n) refl
once_shows n k p d gift t e = same_again (shows k p Idle)

pub acquire_granted-kept : {X : Type 0} {caching : ℕ → Bool} {r : ℕ} (n tracker : ℕ) {whole : Bool} {g : Grow}
    {gift : Cap} (rest : List Packet) {s : State X} → IsInvariant caching s → (s.link r).a ≡ packet Acquire n ∷ rest
    → IsGrantable r whole g gift (s.block n) → s.tracked tracker ≡ None
    → IsInvariant caching (acquire_granted r n tracker (is_granted_data whole g ((s.block n).pair r).recorded) gift rest
    s)
acquire_granted-kept {X} {caching} {r} n tracker {whole} {g} {gift} rest {s} inv first is unused =
    let here : Link = answered_link (packet Grant n) rest (s.link r) in
    let moved : AreMoved (once_moves n) (s.link r) here = elim [ Channel.A ↦ first | _ ↦ refl ] in
    let own : (ch : Channel) → is_own_move ch (once_moves n ch) ≡ true = elim [ Channel.A ↦ refl | ch ↦ refl ] in
    let with_data : Bool = is_granted_data whole g ((s.block n).pair r).recorded in
    let old : ℕ → ClientBlock = (s.block n).pair in
    let after : ClientBlock = after_grant_sent gift (old r) in
    let new : Block X = granted_at_once r tracker with_data gift (s.block n) in
    invariant-moved s.lets (set tracker (Some n) s.tracked) inv (event-at (record {
      well = granted_at_once-block tracker (inv.blocks n) is;
      moved = moved;
      own = own;
      fits = λ k t. rw (is.free, set-same r after old, same_number r)
          (once_shows n k (old r) with_data gift t (rw is.wants refl));
      others = λ d ne k t. rw (is.free, set-other r d after old ne, ne_eqb d r ne) (shows-beside k (old d));
      in_order = λ m e. absurd (let f : Stays ≡ Pushes ProbeAck m = e in cc);
    }))
    (bare-at r (once_moves n) refl refl) (record {
      acquires = λ d. names-block acquires_of (acquires_with d) (s.uses d) n new s.block
          (λ i. rw (set-part (λ p. p.acquiring) r after old refl d) refl) (inv.named.acquires d);
      serves = λ d. names-block serves_of (serves_with d) (s.uses d) n new s.block (λ i. rw is.free refl)
          (inv.named.serves d);
      releases = λ d. names-block is_of (releases_with d) (s.lets d) n new s.block
          (λ i. rw (set-part (λ p. p.letting) r after old refl d) refl) (inv.named.releases d);
      trackers = names-set is_of tracks_with s.tracked tracker (Some n) n new s.block
          (rw (same_number n, same_number tracker) refl)
          (λ m ne. rw unused (ne_eqb m n ne)) (λ i ne. rw (is.free, ne_eqb i tracker ne) refl) inv.named.trackers;
    })
