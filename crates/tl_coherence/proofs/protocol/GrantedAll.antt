-- The last ProbeAck that is taken, with which the Acquire that waited is granted, keeps the invariant.
-- Where nothing is on a channel, nothing is open; and where nothing is open and no GrantAck is on its way, nothing is
-- on a channel.
use Rattle.std.proofs.Common.{◌≡◌, ℕ, ◌<◌, Bool, true, false, not, ◌&&◌, ◌||◌, ◌==◌, if◌then◌else◌, List, [], ◌∷◌, ◌++◌}
use Rattle.std.proofs.Common.{Option, Some, None, refl, sym, ◌∙◌, ap, ap₂, arith, ◌⊎◌, inl, inr, ne_eqb}
use Rattle.tl_coherence.proofs
use proofs.Imports.{cases_eq, beq, Channel, Cap, Grow, Report, part_bit, one_if, IsInvariant, acquires_of, is_asked}
use proofs.Imports.{is_of, is_replied, serves_of, serves_with, Acquire, Answer, Grant, GrantAck, Kind, Packet, Probe}
use proofs.Imports.{ProbeAck, Release, ReleaseAck, Request, set, count, ClientBlock, GrantedOther, Granting, NoRelease}
use proofs.Imports.{Other, Own, ProbeAnswered, ReleaseAcked, ReleasePhase, ReleaseSent, View, is_unprobed}
use proofs.Imports.{is_unreleased, ok, after_grant_sent, after_report, is_granted_data, Acquires, Asked, Block, Free}
use proofs.Imports.{GrantSent, GrantTaken, InService, Replied, Service, SourceFree, SourceState, State, Waits}
use proofs.Imports.{granted_block, granted_link, is_on, on, packet, packets_on, report_grants, view, is_transfer}
use proofs.Imports.{is_wanting, shown, shows, is_own, IsMoved, Move, Pops, Pushes, Stays, agrees, channel_for}
use proofs.Imports.{is_own_move}
use Rattle.tl_coherence.specs.protocol.Protocol.{Link}
use proofs.protocol.{Served.IsSilent, Served.free-when_silent, Granted.IsLast, Granted.granted-block}
use proofs.protocol.Capacities.{acquire_named, grant_named, release_named, release_ack_named, shown_there, kind_there}
use proofs.protocol.Capacities.{source_of_acquire}
use proofs.protocol.BothParts.{not-sent, not-answered, taken-unseen, granted-unseen}
use proofs.queues.{FirstToken.IsThere, FirstToken.first-there, Facts.is_other, Facts.own_quiet}
use proofs.queues.Tokens.{same_number, set-same, set-other, set-part}
use proofs.queues.Phases.{each_phase, of_phase, and_left}
use proofs.queues.Moves.{spares, same_again, names-kept, invariant-moved, moved_as}

-- c's ProbeAck goes, and q's Grant comes
abbrev pub granted_moves : ℕ → ℕ → ℕ → ℕ → Channel → Move
granted_moves n c q d Channel.C = if d == c then Pops ProbeAck n else Stays
granted_moves n c q d Channel.D = if d == q then Pushes Grant n else Stays
granted_moves n c q d _ = Stays

-- what one shows before and after it, by the parts that the event leaves
at_sender : (n : ℕ) (k : Kind) (p : ClientBlock) (d : Bool) (gift : Cap) → is_transfer k ≡ true
    → agrees (granted_moves n 0 1 1 (channel_for k)) k n (shows k p Own)
    (shows k (after_grant_sent gift p) (Granting d gift)) ≡ true
at_sender n Acquire p d gift t =
    let go : (b : Bool) → beq (b && false) (b && false) ≡ true = elim [ true ↦ refl | false ↦ refl ] in
    go (is_wanting p.acquiring)
at_sender n Grant p d gift t = rw (same_number n) refl
at_sender n k p d gift t = same_again (shows k p Own)

at_reporter : (n : ℕ) (k : Kind) (r : Report) (p : ClientBlock) (j : Cap) → is_transfer k ≡ true
    → p.probing ≡ ProbeAnswered r → agrees (granted_moves n 1 0 1 (channel_for k)) k n (shows k p (Other j))
    (shows k (after_report r p) GrantedOther) ≡ true
at_reporter n Probe r p j t e = rw e refl
at_reporter n ProbeAck r p j t e = rw (same_number n) refl
at_reporter n k r p j t e = same_again (shows k p (Other j))

at_other : (n : ℕ) (k : Kind) (p : ClientBlock) (j : Cap) → is_transfer k ≡ true
    → agrees Stays k n (shows k p (Other j)) (shows k p GrantedOther) ≡ true
at_other n GrantAck p j t = refl
at_other n k p j t = same_again (shows k p (Other j))

-- moves by the place of the client
moves_of_sender : (n c q : ℕ) (ch : Channel) → (q ≡ c → ⊥) → granted_moves n c q q ch ≡ granted_moves n 0 1 1 ch
moves_of_sender n c q Channel.C ne = rw (ne_eqb q c ne) refl
moves_of_sender n c q Channel.D ne = rw (same_number q) refl
moves_of_sender n c q ch ne = refl

moves_of_reporter : (n c q : ℕ) (ch : Channel) → (c ≡ q → ⊥) → granted_moves n c q c ch ≡ granted_moves n 1 0 1 ch
moves_of_reporter n c q Channel.C ne = rw (same_number c) refl
moves_of_reporter n c q Channel.D ne = rw (ne_eqb c q ne) refl
moves_of_reporter n c q ch ne = refl

moves_of_other : (n c q d : ℕ) (ch : Channel) → (d ≡ c → ⊥) → (d ≡ q → ⊥) → granted_moves n c q d ch ≡ Stays
moves_of_other n c q d Channel.C o m = rw (ne_eqb d c o) refl
moves_of_other n c q d Channel.D o m = rw (ne_eqb d q m) refl
moves_of_other n c q d ch o m = refl

pub report_grants-kept : {X : Type 0} {caching : ℕ → Bool} {c q : ℕ} (n : ℕ) {r : Report} {whole : Bool} {g : Grow}
    {gift : Cap} {source : ℕ} {k : Cap} (rest : List Packet) {s : State X} → IsInvariant caching s
    → (s.link c).c ≡ packet ProbeAck n ∷ rest → IsLast c q r whole g gift source k (s.block n)
    → IsInvariant caching (report_grants c q n r (is_granted_data whole g ((s.block n).pair q).recorded) gift rest s)
report_grants-kept {X} {caching} {c} {q} n {r} {whole} {g} {gift} {source} {k} rest {s} inv first last =
    let links : ℕ → Link = granted_link c q n rest s.link in
    let links_other : (d : ℕ) → (d ≡ q → ⊥) → (d ≡ c → ⊥) → links d ≡ s.link d =
    λ d m o. set-other q d at_q (set c at_c s.link) m ∙ set-other c d at_c s.link o in
    let moved : (d : ℕ) (ch : Channel) → IsMoved (granted_moves n c q d ch) (packets_on ch (s.link d))
    (packets_on ch (links d)) = λ d ch. elim (cases_eq d q) [
      | inl same ↦ rw same (moved_as (granted_moves n c q q ch) (granted_moves n 0 1 1 ch) (packets_on ch (s.link q))
          (packets_on ch (links q)) (packets_on ch at_q) (moves_of_sender n c q ch apart_too)
          (ap (packets_on ch) (set-same q at_q (set c at_c s.link))) (moved_q ch))
      | inr m ↦ elim (cases_eq d c) [
        | inl same ↦ rw same (moved_as (granted_moves n c q c ch) (granted_moves n 1 0 1 ch) (packets_on ch (s.link c))
            (packets_on ch (links c)) (packets_on ch at_c) (moves_of_reporter n c q ch apart)
            (ap (packets_on ch) (set-other q c at_q (set c at_c s.link) apart ∙ set-same c at_c s.link)) (moved_c ch))
        | inr o ↦ moved_as _ Stays (packets_on ch (s.link d)) _
            _ (moves_of_other n c q d ch o m) (ap (packets_on ch) (links_other d m o)) refl
      ]
    ] in
    invariant-moved {n = n} {b = new} {link = links} {moves = (granted_moves n c q)} s.lets s.tracked inv (record {
      well = granted-block (inv.blocks n) last;
      moved = λ d ch. moved d ch;
      own = λ d ch. own d ch;
      fits = λ d j t. fits d j t (cases_eq d q) (cases_eq d c);
      in_order = λ d m e. never (d == c) m e;
    }) (λ d. (refl, bare (d == q)))
    (names-kept n new links s inv.named (λ d i. rw (acquiring_same d) refl) (λ d i. rw last.waits refl)
    (λ d i. rw (letting_same d) refl) (λ i. rw last.waits refl))
  where
    with_data : Bool
    with_data = is_granted_data whole g ((s.block n).pair q).recorded

    new : Block X
    new = granted_block c q r with_data gift (s.block n)

    apart : c ≡ q → ⊥
    apart e =
        let own : view (s.block n).service q ≡ Own = rw (last.waits, same_number q) refl in
        let quiet = own_quiet _ _ ((inv.blocks n).phases q) own in
        let differs : is_unprobed (ProbeAnswered r) ≡ true = rw (rw e at last.answered) at quiet in
        absurd cc

    apart_too : q ≡ c → ⊥
    apart_too e = apart (sym e)

    bare : (b : Bool) → spares (if b then Pushes Grant n else Stays) Answer ≡ true
    bare true = refl
    bare false = refl

    never : (b : Bool) (m : ℕ) → (if b then Pops ProbeAck n else Stays) ≡ Pushes ProbeAck m → {A : Type 0} → A
    never true m e = absurd cc
    never false m e = absurd cc

    own : (d : ℕ) (ch : Channel) → is_own_move ch (granted_moves n c q d ch) ≡ true
    own d Channel.C = go (d == c)
      where
        go : (b : Bool) → is_own_move Channel.C (if b then Pops ProbeAck n else Stays) ≡ true
        go true = refl
        go false = refl
    own d Channel.D = go (d == q)
      where
        go : (b : Bool) → is_own_move Channel.D (if b then Pushes Grant n else Stays) ≡ true
        go true = refl
        go false = refl
    own d ch = refl

    at_q : Link
    at_q = record (s.link q) { d = (s.link q).d ++ packet Grant n ∷ [] }

    at_c : Link
    at_c = record (s.link c) { c = rest }

    moved_q : (ch : Channel) → IsMoved (granted_moves n 0 1 1 ch) (packets_on ch (s.link q)) (packets_on ch at_q)
    moved_q Channel.A = refl
    moved_q ch = refl

    moved_c : (ch : Channel) → IsMoved (granted_moves n 1 0 1 ch) (packets_on ch (s.link c)) (packets_on ch at_c)
    moved_c Channel.C = first
    moved_c ch = refl

    agrees_as : (j : Kind) (m p : Move) (a b x y : Bool) → m ≡ p → a ≡ x → b ≡ y → agrees p j n x y ≡ true
        → agrees m j n a b ≡ true
    agrees_as j m p a b x y e f h t = rw (e, f, h) t

    old : ℕ → ClientBlock
    old = (s.block n).pair

    after : ClientBlock
    after = after_report r (old c)

    view_other : (d : ℕ) → (d ≡ q → ⊥) → view (s.block n).service d ≡ Other k
    view_other d m = rw (last.waits, ne_eqb d q m) refl

    new_other : (d : ℕ) → (d ≡ q → ⊥) → view new.service d ≡ GrantedOther
    new_other d m = rw (ne_eqb d q m) refl

    acquiring_same : (d : ℕ) → (new.pair d).acquiring ≡ (old d).acquiring
    acquiring_same d =
        let first_ = set-part (λ p. p.acquiring) c after old refl q in
        set-part (λ p. p.acquiring) q _ (set c after old) (sym first_)
        d ∙ set-part (λ p. p.acquiring) c after old refl d

    letting_same : (d : ℕ) → (new.pair d).letting ≡ (old d).letting
    letting_same d =
        let first_ = set-part (λ p. p.letting) c after old refl q in
        set-part (λ p. p.letting) q _ (set c after old) (sym first_) d ∙ set-part (λ p. p.letting) c after old refl d

    fits : (d : ℕ) (j : Kind) → is_transfer j ≡ true → (d ≡ q) ⊎ (d ≡ q → ⊥) → (d ≡ c) ⊎ (d ≡ c → ⊥)
        → agrees (granted_moves n c q d (channel_for j)) j n (shown j d (s.block n)) (shown j d new) ≡ true
    fits d j t (inl same) o = rw same (agrees_as j (granted_moves n c q q (channel_for j))
        (granted_moves n 0 1 1 (channel_for j)) (shown j q (s.block n)) (shown j q new) (shows j (old q) Own) (shows j
        (after_grant_sent gift (old q)) (Granting with_data gift)) (moves_of_sender n c q (channel_for j) apart_too)
        (ap (shows j (old q)) (rw (last.waits, same_number q) refl)) (ap₂ (shows j) (set-same q (after_grant_sent gift
        (old q)) (set c after old)) (rw (same_number q) refl)) (at_sender n j (old q) with_data gift t))
    fits d j t (inr m) (inl same) = rw same (agrees_as j (granted_moves n c q c (channel_for j))
        (granted_moves n 1 0 1 (channel_for j)) (shown j c (s.block n)) (shown j c new) (shows j (old c) (Other k))
        (shows j after GrantedOther) (moves_of_reporter n c q (channel_for j) apart) (ap (shows j (old c))
        (view_other c apart)) (ap₂ (shows j) (set-other q c (after_grant_sent gift (old q)) (set c after old) apart
        ∙ set-same c after old) (new_other c apart)) (at_reporter n j r (old c) k t last.answered))
    fits d j t (inr m) (inr o) = agrees_as j _ Stays (shown j d (s.block n)) (shown j d new)
        (shows j (old d) (Other k)) (shows j (old d) GrantedOther) (moves_of_other n c q d (channel_for j) o m)
        (ap (shows j (old d)) (view_other d m)) (ap₂ (shows j) (set-other q d (after_grant_sent gift (old q))
        (set c after old) m ∙ set-other c d after old o) (new_other d m)) (at_other n j (old d) k t)

-- ---- nothing is on a channel

pub record IsBare {X : Type 0} (s : State X) : Type 0 where
  pub a : (c : ℕ) → (s.link c).a ≡ []
  pub silent : IsSilent s

-- nothing is open
pub record IsClosed {X : Type 0} (s : State X) : Type 0 where
  pub uses : (c source : ℕ) → s.uses c source ≡ SourceFree
  pub lets : (c source : ℕ) → s.lets c source ≡ None

none_there : (n : ℕ) (b : Bool) → 0 ≡ one_if b → b ≡ true → ⊥
none_there n b e f = grind arith

probed_by_other : ClientBlock → View → Bool
probed_by_other p v = is_unprobed p.probing || is_other v

asks_for_own : ClientBlock → View → Bool
asks_for_own p v = not (is_own v) || is_wanting p.acquiring

or_second : (a b : Bool) → (a || b) ≡ true → a ≡ false → b ≡ true
or_second a b e f = grind arith

pub serves_another : (p : ClientBlock) (v : View) → ok p v ≡ true → is_unprobed p.probing ≡ false → is_other v ≡ true
unfolding each_phase probed_by_other
serves_another p v h = or_second (is_unprobed p.probing) (is_other v) (of_phase probed_by_other refl p v h)

pub owns_ask : (p : ClientBlock) (v : View) → ok p v ≡ true → is_own v ≡ true → is_wanting p.acquiring ≡ true
unfolding each_phase asks_for_own
owns_ask p v h = part_bit (is_own v) (is_wanting p.acquiring) (of_phase asks_for_own refl p v h)

module _ {X : Type 0} {caching : ℕ → Bool} {s : State X} (inv : IsInvariant caching s) where
  -- a kind that is on no channel is shown nowhere
  not_shown : (c n : ℕ) (k : Kind) → is_transfer k ≡ true → on k (s.link c) ≡ [] → shown k c (s.block n) ≡ true → ⊥
  unfolding count
  not_shown c n k t none is = none_there n (shown k c (s.block n)) (rw none at (inv.transfers c k t n)) is

  pub closed-when_bare : IsBare s → IsClosed s
  unfolding count
  closed-when_bare bare = record {
    uses = λ c source. use_is c source (s.uses c source) refl;
    lets = λ c source. let_is c source (s.lets c source) refl;
  }
    where
      free : (n : ℕ) → (s.block n).service ≡ Free
      free n = free-when_silent n inv bare.silent

      use_is : (c source : ℕ) (u : SourceState) → s.uses c source ≡ u → u ≡ SourceFree
      use_is c source SourceFree e = refl
      use_is c source Asked e =
          absurd (none_there source (is_asked (s.uses c source)) (rw (bare.a c) at (inv.requests c source)) (rw e refl))
      use_is c source Replied e = absurd (none_there source (is_replied (s.uses c source))
          (rw (bare.silent.d c) at (inv.answers c source)) (rw e refl))
      use_is c source (InService n) e =
          let it : serves_of n (s.uses c source) ≡ true = rw e (same_number n) in
          let not_it : serves_with c source (s.block n) ≡ false = rw (free n) refl in
          absurd (let both : true ≡ false = sym it ∙ (inv.named.serves c source n) ∙ not_it in cc)
      use_is c source (Acquires n) e =
          let named = inv.named.acquires c source n in
          let it : acquires_of n (s.uses c source) ≡ true = rw e (same_number n) in
          let wants = and_left (is_wanting ((s.block n).pair c).acquiring) _ (sym named ∙ it) in
          absurd (not_shown c n Acquire refl (bare.a c) (rw (free n, wants) refl))

      let_of : (c n : ℕ) (x : ReleasePhase) → ((s.block n).pair c).letting ≡ x → not (is_unreleased x) ≡ true → ⊥
      let_of c n NoRelease e f = absurd cc
      let_of c n (ReleaseSent r) e f = not_shown c n Release refl (bare.silent.c c) (rw e refl)
      let_of c n ReleaseAcked e f = not_shown c n ReleaseAck refl (bare.silent.d c) (rw e refl)

      let_is : (c source : ℕ) (o : Option ℕ) → s.lets c source ≡ o → o ≡ None
      let_is c source None e = refl
      let_is c source (Some n) e =
          let it : is_of n (s.lets c source) ≡ true = rw e (same_number n) in
          absurd (let_of c n ((s.block n).pair c).letting refl (and_left
          (not (is_unreleased ((s.block n).pair c).letting)) _ (sym (inv.named.releases c source n) ∙ it)))

  -- ---- the other way round

  -- a client that is probed is probed for a request that is open
  probed-for : (c n : ℕ) → is_unprobed ((s.block n).pair c).probing ≡ false → IsClosed s → ⊥
  probed-for c n probed closed = go _ refl
      (serves_another ((s.block n).pair c) (view (s.block n).service c) ((inv.blocks n).phases c) probed)
    where
      go : (service : Service) → (s.block n).service ≡ service → is_other (view service c) ≡ true → ⊥
      go Free e is = absurd cc
      go (GrantSent q d k) e is = granted-unseen (c == q) d k is
      go (GrantTaken q) e is = taken-unseen (c == q) is
      go (Waits r true source k) e is =
          let own : view (s.block n).service r ≡ Own = rw (e, same_number r) refl in
          let used : s.uses r ((s.block n).source r) ≡ Acquires n = source_of_acquire r n inv
          (owns_ask ((s.block n).pair r) (view (s.block n).service r) ((inv.blocks n).phases r) (rw own refl)) in
          absurd (let both : Acquires n ≡ SourceFree = sym used ∙ closed.uses r ((s.block n).source r) in cc)
      go (Waits r false source k) e is =
          let it : serves_with r source (s.block n) ≡ true = rw (e, same_number r, same_number source) refl in
          let none : serves_of n (s.uses r source) ≡ false = rw (closed.uses r source) refl in
          absurd (let both : true ≡ false = sym it ∙ sym (inv.named.serves r source n) ∙ none in cc)

  no_use : (c source n : ℕ) → s.uses c source ≡ Acquires n → IsClosed s → ⊥
  no_use c source n e closed = absurd (let both : Acquires n ≡ SourceFree = sym e ∙ closed.uses c source in cc)

  no_let : (c source n : ℕ) → s.lets c source ≡ Some n → IsClosed s → ⊥
  no_let c source n e closed = absurd (let both : Some n ≡ None = sym e ∙ closed.lets c source in cc)

  not_asked : (c n : ℕ) → is_asked (s.uses c n) ≡ true → IsClosed s → ⊥
  not_asked c n e closed = absurd (let no : is_asked (s.uses c n) ≡ false = rw (closed.uses c n) refl in cc)

  not_replied : (c n : ℕ) → is_replied (s.uses c n) ≡ true → IsClosed s → ⊥
  not_replied c n e closed = absurd (let no : is_replied (s.uses c n) ≡ false = rw (closed.uses c n) refl in cc)

  -- no kind but a GrantAck is shown
  nothing_shown : (c : ℕ) (ch : Channel) (k : Kind) (n : ℕ) → IsClosed s → is_on ch k ≡ true → is_on Channel.E k ≡ false
      → 0 < count k n (packets_on ch (s.link c)) → ⊥
  nothing_shown c ch Request n closed on_it other there =
      not_asked c n (shown_there c ch Request n inv on_it there) closed
  nothing_shown c ch Answer n closed on_it other there =
      not_replied c n (shown_there c ch Answer n inv on_it there) closed
  nothing_shown c ch Acquire n closed on_it other there =
      no_use c _ n (acquire_named c n inv (shown_there c ch Acquire n inv on_it there)) closed
  nothing_shown c ch Grant n closed on_it other there =
      no_use c _ n (grant_named c n inv (shown_there c ch Grant n inv on_it there)) closed
  nothing_shown c ch Release n closed on_it other there =
      no_let c _ n (release_named c n inv (shown_there c ch Release n inv on_it there)) closed
  nothing_shown c ch ReleaseAck n closed on_it other there =
      no_let c _ n (release_ack_named c n inv (shown_there c ch ReleaseAck n inv on_it there)) closed
  nothing_shown c ch Probe n closed on_it other there =
      probed-for c n (not-sent _ (shown_there c ch Probe n inv on_it there)) closed
  nothing_shown c ch ProbeAck n closed on_it other there =
      probed-for c n (not-answered _ (shown_there c ch ProbeAck n inv on_it there)) closed
  nothing_shown c ch GrantAck n closed on_it other there = absurd cc

  empty_list : (xs : List Packet) → ((x : Packet) → IsThere x xs → ⊥) → xs ≡ []
  empty_list [] none = refl
  empty_list (x ∷ xs) none = absurd (none x (first-there x xs))

  nothing_on : (c : ℕ) (ch : Channel) → IsClosed s → ((k : Kind) → is_on ch k ≡ true → is_on Channel.E k ≡ false)
      → packets_on ch (s.link c) ≡ []
  nothing_on c ch closed apart = empty_list (packets_on ch (s.link c)) (λ x there.
      let on_it = kind_there c ch x inv there in
      nothing_shown c ch x.kind x.number closed on_it (apart x.kind on_it) there)

  pub bare-when-closed : IsClosed s → ((c : ℕ) → (s.link c).e ≡ []) → IsBare s
  bare-when-closed closed no_acks = record {
    a = λ c. nothing_on c Channel.A closed (apart Channel.A refl);
    silent = record {
      b = λ c. nothing_on c Channel.B closed (apart Channel.B refl);
      c = λ c. nothing_on c Channel.C closed (apart Channel.C refl);
      d = λ c. nothing_on c Channel.D closed (apart Channel.D refl);
      e = no_acks;
    };
  }
    where
      is_e : Channel → Bool
      is_e Channel.E = true
      is_e _ = false

      apart : (ch : Channel) → is_e ch ≡ false → (k : Kind) → is_on ch k ≡ true → is_on Channel.E k ≡ false
      apart ch e k f = grind arith
