-- What a move of one token does to each kind of token on a channel.
-- Tokens, and what they stand for, after the moves of an event: one lemma for all events.
use Rattle.std.proofs.Common.{◌≡◌, ℕ, Bool, true, false, not, ◌&&◌, ◌==◌, if◌then◌else◌, List, [], ◌∷◌, ◌++◌, Option}
use Rattle.std.proofs.Common.{refl, sym, ◌∙◌, ap, arith, ◌⊎◌, inl, inr, ne_eqb, eqb-true}
use Rattle.tl_coherence.proofs
use proofs.Imports.{cases_eq, not-true, beq, Channel, AreNamed, IsInvariant, IsWell, acquires_of, acquires_with}
use proofs.Imports.{is_asked, is_of, is_replied, releases_with, serves_of, serves_with, tracks_with, Answer, Holds}
use proofs.Imports.{IsOrdered, Kind, Packet, ProbeAck, Release, Request, same_kind, set, set_at, count, Block}
use proofs.Imports.{SourceState, State, is_on, on, packet, packets_on, is_transfer, shown, AreMoved, IsMoved, Move}
use proofs.Imports.{Pops, Pushes, Stays, agrees, channel_for, is_own_move}
use Rattle.tl_coherence.{specs.protocol.Protocol.Link, specs.protocol.Invariant.Names}
use proofs.queues.Phases.{and_left, and_right}
use proofs.queues.Tokens.{holds-set, holds-push, holds-push_other, holds-pop, holds-pop_other, none-push, none-pop}
use proofs.queues.Tokens.{ordered-pop, ordered-push_other, ordered-push_report, same_number, set-same, set-other}
use proofs.queues.Tokens.{set-each}

pub same_again : (b : Bool) → beq b b ≡ true
same_again b = grind arith

same_bools : (a b : Bool) → beq a b ≡ true → b ≡ a
same_bools a b e = grind arith

-- the tokens of a kind after a move, where number n gets another value
pub holds-moved : {B : Type 0} (k : Kind) (move : Move) (xs ys : List Packet) (q : B → Bool) (f : ℕ → B) (n : ℕ) (y : B)
    → IsMoved move xs ys → agrees move k n (q (f n)) (q y) ≡ true
    → Holds k xs (λ i. q (f i)) → Holds k ys (λ i. q (set n y f i))
holds-moved k Stays xs ys q f n y moved fits h = rw moved (holds-set k xs q f n y (same_bools (q (f n)) (q y) fits) h)
holds-moved {B} k (Pushes j i) xs ys q f n y moved fits h = rw moved (go (same_kind j k) refl fits)
  where
    both : (a b : Bool) → (not a && b) ≡ true → (a ≡ false) × (b ≡ true)
    both a b e = grind arith

    go : (own : Bool) → same_kind j k ≡ own → (if own then (i == n) && (not (q (f n)) && q y) else beq (q (f n)) (q y))
        ≡ true → Holds k (xs ++ packet j i ∷ []) (λ m. q (set n y f m))
    go true e g =
        let p = both (q (f n)) (q y) (and_right (i == n) (not (q (f n)) && q y) g) in
        holds-push k xs _ q f n y e (eqb-true i n (and_left (i == n) (not (q (f n)) && q y) g)) p.0 p.1 h
    go false e g = holds-push_other k xs _ (λ m. q (set n y f m)) e
        (holds-set k xs q f n y (same_bools (q (f n)) (q y) g) h)
holds-moved k (Pops j i) xs ys q f n y moved fits h = go (same_kind j k) refl fits
  where
    go : (own : Bool) → same_kind j k ≡ own → (if own then (i == n) && not (q y) else beq (q (f n)) (q y)) ≡ true
        → Holds k ys (λ m. q (set n y f m))
    go true e g = holds-pop k xs ys _ q f n y moved e (eqb-true i n (and_left (i == n) (not (q y)) g))
        (not-true (q y) (and_right (i == n) (not (q y)) g)) h
    go false e g = holds-set k ys q f n y (same_bools (q (f n)) (q y) g)
        (holds-pop_other k xs ys (packet j i) (λ m. q (f m)) moved e h)

-- a kind that doesn't move
abbrev pub spares : Move → Kind → Bool
spares Stays k = true
spares (Pushes j i) k = not (same_kind j k)
spares (Pops j i) k = not (same_kind j k)

pub spared-agrees : (m : Move) (k : Kind) (n : ℕ) (a : Bool) → spares m k ≡ true → agrees m k n a a ≡ true
spared-agrees m k n a e = grind (arith, same_again, not-true)

pub holds-spared : (k : Kind) (move : Move) (xs ys : List Packet) (test : ℕ → Bool) → IsMoved move xs ys
    → spares move k ≡ true → Holds k xs test → Holds k ys test
holds-spared k Stays xs ys test moved fits h = rw moved h
holds-spared k (Pushes j i) xs ys test moved fits h =
    rw moved (holds-push_other k xs (packet j i) test (not-true (same_kind j k) fits) h)
holds-spared k (Pops j i) xs ys test moved fits h =
    holds-pop_other k xs ys _ test moved (not-true (same_kind j k) fits) h

pub on_is : (k : Kind) (l : Link) → on k l ≡ packets_on (channel_for k) l
on_is k l = grind arith

-- the kind is one of its channel alone
pub kind_channel : (ch : Channel) (k : Kind) → is_on ch k ≡ true → channel_for k ≡ ch
kind_channel ch k e = grind arith

pub on_same : (ch : Channel) (k : Kind) (l : Link) → is_on ch k ≡ true → on k l ≡ packets_on ch l
on_same ch k l own = on_is k l ∙ ap (λ i. packets_on i l) (kind_channel ch k own)

-- all transfers of a client after the moves of its link, where one block changes
pub transfers-moved : {X : Type 0} (moves : Channel → Move) (l m : Link) (d n : ℕ) (b : Block X) (block : ℕ → Block X)
    → AreMoved moves l m → ((k : Kind) → is_transfer k ≡ true → agrees (moves (channel_for k)) k n (shown k d (block n))
    (shown k d b) ≡ true) → ((k : Kind) → is_transfer k ≡ true → Holds k (on k l) (λ i. shown k d (block i)))
    → (k : Kind) → is_transfer k ≡ true → Holds k (on k m) (λ i. shown k d (set n b block i))
transfers-moved moves l m d n b block moved fits h k t =
    rw (on_is k m) (holds-moved k (moves (channel_for k)) (packets_on (channel_for k) l) (packets_on (channel_for k) m)
    (shown k d) block n b (moved (channel_for k)) (fits k t) (rw (on_is k l) at (h k t)))

pub kind_is : (k j : Kind) → same_kind k j ≡ true → k ≡ j
kind_is k j e = grind arith

-- a kind that isn't one of the channel isn't one that is
kinds_apart : (ch : Channel) (k j : Kind) → is_on ch k ≡ true → is_on ch j ≡ false → same_kind k j ≡ false
kinds_apart ch k j e f = grind (arith, kind_is)

-- a channel has tokens of its own kinds after its move
pub own_kinds-moved : (ch : Channel) (move : Move) (xs ys : List Packet) (k : Kind) (i : ℕ) → is_own_move ch move ≡ true
    → IsMoved move xs ys → is_on ch k ≡ false → count k i xs ≡ 0 → count k i ys ≡ 0
own_kinds-moved ch Stays xs ys k i own moved off none = rw moved none
own_kinds-moved ch (Pushes j n) xs ys k i own moved off none =
    rw moved (none-push k i xs (packet j n) (kinds_apart ch j k own off) none)
own_kinds-moved ch (Pops j n) xs ys k i own moved off none = none-pop k i xs ys _ moved none

pub ordered-moved : (move : Move) (m : ℕ) (xs ys : List Packet) → IsMoved move xs ys
    → ((n : ℕ) → move ≡ Pushes ProbeAck n → count Release n xs ≡ 0) → IsOrdered m xs → IsOrdered m ys
ordered-moved Stays m xs ys moved order h = rw moved h
ordered-moved (Pops j n) m xs ys moved order h = ordered-pop m xs ys _ moved h
ordered-moved (Pushes ProbeAck n) m xs ys moved order h = rw moved (go (cases_eq m n))
  where
    go : (m ≡ n) ⊎ (m ≡ n → ⊥) → IsOrdered m (xs ++ packet ProbeAck n ∷ [])
    go (inl same) = ordered-push_report m xs (packet ProbeAck n) (rw same (order n refl)) h
    go (inr other) = ordered-push_other m xs _ (ne_eqb m n other) h
ordered-moved (Pushes k n) m xs ys moved order h = rw moved (ordered-push_other m xs (packet k n) refl h)

-- ---- the whole invariant

-- what an event that changes block n, and moves tokens, has to show
pub record IsEvent {X : Type 0} (caching : ℕ → Bool) (n : ℕ) (b : Block X) (link : ℕ → Link) (moves : ℕ → Channel
    → Move) (s : State X) : Type 0 where
  pub well : IsWell caching b
  pub moved : (d : ℕ) → AreMoved (moves d) (s.link d) (link d)
  pub own : (d : ℕ) (ch : Channel) → is_own_move ch (moves d ch) ≡ true
  pub fits : (d : ℕ) (k : Kind) → is_transfer k ≡ true → agrees (moves d (channel_for k)) k n (shown k d (s.block n))
      (shown k d b) ≡ true
  -- a ProbeAck isn't sent behind a Release of its block
  pub in_order : (d m : ℕ) → moves d Channel.C ≡ Pushes ProbeAck m → count Release m (s.link d).c ≡ 0

-- ---- which block a source or a tracker is of, where one block changes

-- no number changes
pub names-block : {A B : Type 0} (of : ℕ → A → Bool) (holds : ℕ → B → Bool) (f : ℕ → A) (n : ℕ) (b : B) (block : ℕ → B)
    → ((i : ℕ) → holds i b ≡ holds i (block n)) → Names of holds f block → Names of holds f (set n b block)
names-block of holds f n b block e h i = set-each (λ m x. of m (f i) ≡ holds i x) n b block (h i n ∙ sym (e i))
    (λ m other. h i m)

-- the value of number i changes from one of no other block than n to another
pub names-set : {A B : Type 0} (of : ℕ → A → Bool) (holds : ℕ → B → Bool) (f : ℕ → A) (i : ℕ) (y : A) (n : ℕ) (b : B)
    (block : ℕ → B) → of n y ≡ holds i b → ((m : ℕ) → (m ≡ n → ⊥) → of m y ≡ of m (f i))
    → ((j : ℕ) → (j ≡ i → ⊥) → holds j b ≡ holds j (block n)) → Names of holds f block
    → Names of holds (set i y f) (set n b block)
names-set of holds f i y n b block here elsewhere e h j = elim (cases_eq j i) [
  | inl same ↦ rw (same, set-same i y f) (set-each (λ m x. of m y ≡ holds i x) n b block here
      (λ m other. elsewhere m other ∙ h i m))
  | inr other ↦ rw (set-other i j y f other) (set-each (λ m x. of m (f j) ≡ holds j x) n b block
      (h j n ∙ sym (e j other)) (λ m differs. h j m))
]

-- the value of number i of client c changes
pub names-set_at : {A B : Type 0} (of : ℕ → A → Bool) (holds : ℕ → ℕ → B → Bool) (c i : ℕ) (y : A) (f : ℕ → ℕ → A)
    (n : ℕ) (b : B) (block : ℕ → B) → of n y ≡ holds c i b → ((m : ℕ) → (m ≡ n → ⊥) → of m y ≡ of m (f c i))
    → ((j : ℕ) → (j ≡ i → ⊥) → holds c j b ≡ holds c j (block n))
    → ((d j : ℕ) → (d ≡ c → ⊥) → holds d j b ≡ holds d j (block n)) → ((d : ℕ) → Names of (holds d) (f d) block)
    → (d : ℕ) → Names of (holds d) (set_at c i y f d) (set n b block)
names-set_at of holds c i y f n b block here elsewhere e others h d = elim (cases_eq d c) [
  | inl same ↦ rw (same, set-same c (set i y (f c)) f) (names-set of (holds c) (f c) i y n b block here elsewhere e
      (h c))
  | inr other ↦ rw (set-other c d (set i y (f c)) f other)
      (names-block of (holds d) (f d) n b block (λ j. others d j other) (h d))
]

-- where no source and no tracker changes
pub names-kept : {X : Type 0} (n : ℕ) (b : Block X) (link : ℕ → Link) (s : State X) → AreNamed s
    → ((c i : ℕ) → acquires_with c i b ≡ acquires_with c i (s.block n))
    → ((c i : ℕ) → serves_with c i b ≡ serves_with c i (s.block n))
    → ((c i : ℕ) → releases_with c i b ≡ releases_with c i (s.block n))
    → ((i : ℕ) → tracks_with i b ≡ tracks_with i (s.block n))
    → AreNamed (record s { block = set n b s.block; link = link })
names-kept n b link s h acquires serves releases trackers = record {
  acquires = λ c. names-block acquires_of (acquires_with c) (s.uses c) n b s.block (acquires c) (h.acquires c);
  serves = λ c. names-block serves_of (serves_with c) (s.uses c) n b s.block (serves c) (h.serves c);
  releases = λ c. names-block is_of (releases_with c) (s.lets c) n b s.block (releases c) (h.releases c);
  trackers = names-block is_of tracks_with s.tracked n b s.block trackers h.trackers;
}

-- ---- accesses and their answers, where one source's use changes

-- the tokens of a kind of all clients, where the value of number i of client c changes, and others move no token of it
holds-set_at : {A : Type 0} (k : Kind) (moves : ℕ → Move) (f g : ℕ → List Packet) (q : A → Bool) (uses : ℕ → ℕ → A)
    (c i : ℕ) (y : A) → ((d : ℕ) → IsMoved (moves d) (f d) (g d)) → agrees (moves c) k i (q (uses c i)) (q y) ≡ true
    → ((d : ℕ) → (d ≡ c → ⊥) → spares (moves d) k ≡ true) → ((d : ℕ) → Holds k (f d) (λ j. q (uses d j))) → (d : ℕ)
    → Holds k (g d) (λ j. q (set_at c i y uses d j))
holds-set_at k moves f g q uses c i y moved fits others h d = elim (cases_eq d c) [
  | inl same ↦ rw (same, set-same c (set i y (uses c)) uses) (holds-moved k (moves c) (f c) (g c) q (uses c) i y
      (moved c) fits (h c))
  | inr other ↦ rw (set-other c d (set i y (uses c)) uses other)
      (holds-spared k (moves d) (f d) (g d) (λ j. q (uses d j)) (moved d) (others d other) (h d))
]

-- ---- the whole invariant

-- the invariant is kept by every event that has shown this, with these accesses and numbers
invariant-moved_with : {X : Type 0} {caching : ℕ → Bool} {n : ℕ} {b : Block X} {link : ℕ → Link} {moves : ℕ
    → Channel → Move} (uses : ℕ → ℕ → SourceState) (lets : ℕ → ℕ → Option ℕ) (tracked : ℕ → Option ℕ) {s : State X}
    → IsInvariant caching s → IsEvent caching n b link moves s
    → ((d : ℕ) → Holds Request (link d).a (λ i. is_asked (uses d i)))
    → ((d : ℕ) → Holds Answer (link d).d (λ i. is_replied (uses d i)))
    → AreNamed (record { block = set n b s.block; link = link; uses = uses; lets = lets; tracked = tracked })
    → IsInvariant caching (record { block = set n b s.block; link = link; uses = uses; lets = lets; tracked = tracked })
invariant-moved_with {caching} {n} {b} {link} {moves} uses lets tracked {s} inv event requests answers named = record {
  blocks = set-each (λ m. IsWell caching) n b s.block event.well (λ m other. inv.blocks m);
  transfers = λ d. transfers-moved (moves d) _ (link d) d n b s.block (event.moved d) (event.fits d) (inv.transfers d);
  requests = requests;
  answers = answers;
  own_kinds = λ d ch k i off. own_kinds-moved ch _ _ _ k i
      (event.own d ch) (event.moved d ch) off (inv.own_kinds d ch k i off);
  ordered = λ d m. ordered-moved _ m _ _ (event.moved d Channel.C) (event.in_order d) (inv.ordered d m);
  named = named;
}

-- by every event that moves no access
pub invariant-moved : {X : Type 0} {caching : ℕ → Bool} {n : ℕ} {b : Block X} {link : ℕ → Link} {moves : ℕ → Channel
    → Move} (lets : ℕ → ℕ → Option ℕ) (tracked : ℕ → Option ℕ) {s : State X}
    → IsInvariant caching s → IsEvent caching n b link moves s
    → ((d : ℕ) → (spares (moves d Channel.A) Request ≡ true) × (spares (moves d Channel.D) Answer ≡ true))
    → AreNamed (record s { block = set n b s.block; link = link; lets = lets; tracked = tracked })
    → IsInvariant caching (record s { block = set n b s.block; link = link; lets = lets; tracked = tracked })
invariant-moved {link} {moves} lets tracked {s} inv event bare named = invariant-moved_with s.uses lets tracked
    inv event (λ d. holds-spared Request _ _ _ (λ m. is_asked (s.uses d m)) (event.moved d Channel.A) (bare d).0
    (inv.requests d)) (λ d. holds-spared Answer _ _ _ (λ m. is_replied (s.uses d m)) (event.moved d Channel.D)
    (bare d).1 (inv.answers d)) named

-- and by every event that changes the use of a source of client c
pub invariant-moved_use : {X : Type 0} {caching : ℕ → Bool} {n : ℕ} {b : Block X} {link : ℕ → Link} {moves : ℕ → Channel
    → Move} (c source : ℕ) (u : SourceState) (tracked : ℕ → Option ℕ) {s : State X}
    → IsInvariant caching s → IsEvent caching n b link moves s
    → agrees (moves c Channel.A) Request source (is_asked (s.uses c source)) (is_asked u) ≡ true
    → agrees (moves c Channel.D) Answer source (is_replied (s.uses c source)) (is_replied u) ≡ true
    → ((d : ℕ) → (d ≡ c → ⊥) → (spares (moves d Channel.A) Request ≡ true) × (spares (moves d Channel.D) Answer ≡ true))
    → AreNamed (record s { block = set n b s.block; link = link; uses = set_at c source u s.uses; tracked = tracked })
    → IsInvariant caching (record s {
      block = set n b s.block;
      link = link;
      uses = set_at c source u s.uses;
      tracked = tracked;
    })
invariant-moved_use {link} {moves} c source u tracked {s} inv event asked replied bare named = invariant-moved_with
    (set_at c source u s.uses) s.lets tracked inv event (holds-set_at Request (λ d. moves d Channel.A)
    (λ d. (s.link d).a) (λ d. (link d).a) is_asked s.uses c source u (λ d. event.moved d Channel.A) asked (λ d ne.
    (bare d ne).0) inv.requests) (holds-set_at Answer (λ d. moves d Channel.D) (λ d. (s.link d).d) (λ d. (link d).d)
    is_replied s.uses c source u (λ d. event.moved d Channel.D) replied (λ d ne. (bare d ne).1) inv.answers) named

-- ---- events at one client

-- the moves of an event at client c
abbrev pub moves_at : ℕ → (Channel → Move) → ℕ → Channel → Move
moves_at c moves d ch = if d == c then moves ch else Stays

moves-here : (c : ℕ) (moves : Channel → Move) (ch : Channel) → moves_at c moves c ch ≡ moves ch
moves-here c moves ch = rw (same_number c) refl

moves-there : (c d : ℕ) (moves : Channel → Move) (ch : Channel) → (d ≡ c → ⊥) → moves_at c moves d ch ≡ Stays
moves-there c d moves ch ne = rw (ne_eqb d c ne) refl

pub moved_as : (m p : Move) (xs ys zs : List Packet) → m ≡ p → ys ≡ zs → IsMoved p xs zs → IsMoved m xs ys
moved_as m p xs ys zs e f h = rw (e, f) h

agrees_as : (k : Kind) (n : ℕ) (m p : Move) (a b : Bool) → m ≡ p → agrees p k n a b ≡ true → agrees m k n a b ≡ true
agrees_as k n m p a b e h = rw e h

agrees_still : (k : Kind) (n : ℕ) (m : Move) (a b : Bool) → m ≡ Stays → b ≡ a → agrees m k n a b ≡ true
agrees_still k n m a b e f = grind arith

never_pushed : (m : Move) (i : ℕ) {A : Type 0} → m ≡ Stays → m ≡ Pushes ProbeAck i → A
never_pushed m i e f = absurd (let g : Stays ≡ Pushes ProbeAck i = sym e ∙ f in cc)

-- what such an event has to show
pub record IsEventAt {X : Type 0} (caching : ℕ → Bool) (c n : ℕ) (b : Block X) (l : Link) (moves : Channel → Move)
    (s : State X) : Type 0 where
  pub well : IsWell caching b
  pub moved : AreMoved moves (s.link c) l
  pub own : (ch : Channel) → is_own_move ch (moves ch) ≡ true
  pub fits : (k : Kind) → is_transfer k ≡ true → agrees (moves (channel_for k)) k n (shown k c (s.block n))
      (shown k c b) ≡ true
  pub others : (d : ℕ) → (d ≡ c → ⊥) → (k : Kind) → is_transfer k ≡ true → shown k d b ≡ shown k d (s.block n)
  pub in_order : (m : ℕ) → moves Channel.C ≡ Pushes ProbeAck m → count Release m (s.link c).c ≡ 0

pub event-at : {X : Type 0} {caching : ℕ → Bool} {c n : ℕ} {b : Block X} {l : Link} {moves : Channel → Move}
    {s : State X} → IsEventAt caching c n b l moves s → IsEvent caching n b (set c l s.link) (moves_at c moves) s
event-at {c} {n} {b} {l} {moves} {s} event = record {
  well = event.well;
  moved = λ d ch. elim (cases_eq d c) [
    | inl same ↦ rw same (moved_as (moves_at c moves c ch) (moves ch) (packets_on ch (s.link c))
        (packets_on ch (set c l s.link c)) (packets_on ch l)
        (moves-here c moves ch) (ap (packets_on ch) (set-same c l s.link)) (event.moved ch))
    | inr ne ↦ moved_as _ Stays (packets_on ch (s.link d)) _
        _ (moves-there c d moves ch ne) (ap (packets_on ch) (set-other c d l s.link ne)) refl
  ];
  own = λ d ch. own ch (d == c);
  fits = λ d k t. elim (cases_eq d c) [
    | inl same ↦ rw same (agrees_as k n (moves_at c moves c (channel_for k)) (moves (channel_for k))
        (shown k c (s.block n)) (shown k c b) (moves-here c moves (channel_for k)) (event.fits k t))
    | inr ne ↦ agrees_still k n _ (shown k d (s.block n)) (shown k d b)
        (moves-there c d moves (channel_for k) ne) (event.others d ne k t)
  ];
  in_order = λ d m e. elim (cases_eq d c) [
    | inl same ↦ rw same (event.in_order m (sym (moves-here c moves Channel.C) ∙ (rw same at e)))
    | inr ne ↦ never_pushed _ m (moves-there c d moves Channel.C ne) e
  ];
}
  where
    own : (ch : Channel) (b : Bool) → is_own_move ch (if b then moves ch else Stays) ≡ true
    own ch b = grind arith

-- where no access is taken or answered at client c
pub bare-at : (c : ℕ) (moves : Channel → Move) → spares (moves Channel.A) Request ≡ true
    → spares (moves Channel.D) Answer ≡ true → (d : ℕ)
    → (spares (moves_at c moves d Channel.A) Request ≡ true) × (spares (moves_at c moves d Channel.D) Answer ≡ true)
bare-at c moves a e d = grind arith

-- at other clients than c nothing moves
pub bare-elsewhere : (c : ℕ) (moves : Channel → Move) (d : ℕ) → (d ≡ c → ⊥)
    → (spares (moves_at c moves d Channel.A) Request ≡ true) × (spares (moves_at c moves d Channel.D) Answer ≡ true)
bare-elsewhere c moves d ne = grind (arith, moves-there)

-- ---- accesses, which change no block's tokens

names-use : {A B : Type 0} (of : ℕ → A → Bool) (holds : ℕ → ℕ → B → Bool) (c i : ℕ) (y : A) (f : ℕ → ℕ → A) (block : ℕ
    → B) → ((m : ℕ) → of m y ≡ of m (f c i)) → ((d : ℕ) → Names of (holds d) (f d) block) → (d : ℕ)
    → Names of (holds d) (set_at c i y f d) block
names-use of holds c i y f block e h d = elim (cases_eq d c) [
  | inl same ↦ rw (same, set-same c (set i y (f c)) f) (λ j m. elim (cases_eq j i) [
    | inl also ↦ rw (also, set-same i y (f c)) (e m ∙ h c i m)
    | inr other ↦ rw (set-other i j y (f c) other) (h c j m)
  ])
  | inr other ↦ rw (set-other c d (set i y (f c)) f other) (h d)
]

-- what such an event at client c has to show
pub record IsAccessEvent {X : Type 0} (c source : ℕ) (u : SourceState) (l : Link) (moves : Channel → Move)
    (s : State X) : Type 0 where
  pub moved : AreMoved moves (s.link c) l
  pub own : (ch : Channel) → is_own_move ch (moves ch) ≡ true
  pub spared : (k : Kind) → is_transfer k ≡ true → spares (moves (channel_for k)) k ≡ true
  pub still : moves Channel.C ≡ Stays
  pub asked : agrees (moves Channel.A) Request source (is_asked (s.uses c source)) (is_asked u) ≡ true
  pub replied : agrees (moves Channel.D) Answer source (is_replied (s.uses c source)) (is_replied u) ≡ true
  pub acquires : (m : ℕ) → acquires_of m u ≡ acquires_of m (s.uses c source)
  pub serves : (m : ℕ) → serves_of m u ≡ serves_of m (s.uses c source)

pub invariant-moved_access : {X : Type 0} {caching : ℕ → Bool} {c source : ℕ} {u : SourceState} {l : Link}
    {moves : Channel → Move} {s : State X} → IsInvariant caching s → IsAccessEvent c source u l moves s
    → IsInvariant caching (record s { link = set c l s.link; uses = set_at c source u s.uses })
invariant-moved_access {c} {source} {u} {l} {moves} {s} inv event = record {
  blocks = inv.blocks;
  transfers = λ d k t. elim (cases_eq d c) [
    | inl same ↦ rw (same, set-same c l s.link) (rw (on_is k l) (holds-spared k (moves (channel_for k))
        (packets_on (channel_for k) (s.link c)) (packets_on (channel_for k) l) (λ i. shown k c (s.block i))
        (event.moved (channel_for k)) (event.spared k t) (rw (on_is k (s.link c)) at (inv.transfers c k t))))
    | inr other ↦ rw (set-other c d l s.link other) (inv.transfers d k t)
  ];
  requests = holds-set_at Request (λ d. moves_at c moves d Channel.A) (λ d. (s.link d).a) (λ d. (set c l s.link d).a)
      is_asked s.uses c source u (λ d. moved d Channel.A) (agrees_as Request source (moves_at c moves c Channel.A)
      (moves Channel.A) (is_asked (s.uses c source)) (is_asked u) (moves-here c moves Channel.A) event.asked)
      (λ d ne. (bare-elsewhere c moves d ne).0) inv.requests;
  answers = holds-set_at Answer (λ d. moves_at c moves d Channel.D) (λ d. (s.link d).d) (λ d. (set c l s.link d).d)
      is_replied s.uses c source u (λ d. moved d Channel.D) (agrees_as Answer source (moves_at c moves c Channel.D)
      (moves Channel.D) (is_replied (s.uses c source)) (is_replied u) (moves-here c moves Channel.D) event.replied)
      (λ d ne. (bare-elsewhere c moves d ne).1) inv.answers;
  own_kinds = λ d ch k i off. elim (cases_eq d c) [
    | inl same ↦ rw (same, set-same c l s.link) (own_kinds-moved ch (moves ch) (packets_on ch (s.link c))
        (packets_on ch l) k i (event.own ch) (event.moved ch) off (inv.own_kinds c ch k i off))
    | inr other ↦ rw (set-other c d l s.link other) (inv.own_kinds d ch k i off)
  ];
  ordered = λ d m. elim (cases_eq d c) [
    | inl same ↦ rw (same, set-same c l s.link) (ordered-moved (moves Channel.C) m (s.link c).c l.c
        (event.moved Channel.C) (λ n e. never_pushed _ n event.still e) (inv.ordered c m))
    | inr other ↦ rw (set-other c d l s.link other) (inv.ordered d m)
  ];
  named = record {
    acquires = names-use acquires_of acquires_with c _ u s.uses s.block event.acquires inv.named.acquires;
    serves = names-use serves_of serves_with c _ u s.uses s.block event.serves inv.named.serves;
    releases = inv.named.releases;
    trackers = inv.named.trackers;
  };
}
  where
    moved : (d : ℕ) (ch : Channel) → IsMoved (moves_at c moves d ch) (packets_on ch (s.link d))
        (packets_on ch (set c l s.link d))
    moved d ch = elim (cases_eq d c) [
      | inl same ↦ rw same (moved_as (moves_at c moves c ch) (moves ch) (packets_on ch (s.link c))
          (packets_on ch (set c l s.link c)) (packets_on ch l)
          (moves-here c moves ch) (ap (packets_on ch) (set-same c l s.link)) (event.moved ch))
      | inr ne ↦ moved_as _ Stays (packets_on ch (s.link d)) _
          _ (moves-there c d moves ch ne) (ap (packets_on ch) (set-other c d l s.link ne)) refl
    ]
