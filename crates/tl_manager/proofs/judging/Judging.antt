-- How a beat is judged, from what a manager keeps.
use Rattle.tl_manager.proofs.Imports.{Beat, Link, Channel, History, channel_of, unfinished, breaks_burst, is_empty}
use Rattle.tl_manager.proofs.Imports.{Config, Rule, L1, S1, is_outside, is_spoiled, Trace, on_link, broken_in_order}
use Rattle.tl_manager.proofs.Imports.{broken_order, illegal, admission_of, Perm, Knows, services, is_in_service}
use Rattle.tl_manager.proofs.Imports.{tracker_at, is_of, is_free, ManagerState, End, is_from_client, open_level, judged}
use Rattle.tl_manager.proofs.Imports.{judged_at, must_wait, breaks_or, IsLinkState, LinkState}
use Rattle.std.proofs.Common.{◌≡◌, ℕ, ◌<◌, Bool, true, false, not, cond, ◌||◌, List, [], ◌∷◌, length, Option, Some}
use Rattle.std.proofs.Common.{None, Ok, Err, refl, sym, ap}
use Rattle.std.specs.Prelude.{Result, OnOk, nat_le, is_some, IfSome}
use Rattle.tl_beat.specs.declared.beat.Beat.TheVariants.{A, B, C, D, E}
use Rattle.tl_burst.{specs.declared.part.Broken.Broken, specs.declared.part.Part.Part}
use Rattle.tl_burst.specs.declared.part.Part.TheVariants.{First, Middle, Last, Only}
use Rattle.tl_burst.specs.statement.Part.{completes, place, part_of}
use Rattle.tl_manager.{specs.code.Admission.judged_by, specs.code.Admission.judged_in_order}
use Rattle.tl_manager.{specs.code.BurstFor.burst_for, specs.code.LinkState.IsCarried}
use Rattle.tl_manager.{proofs.pending.LinkHistories.none-on_e}
use Rattle.tl_params.specs.statement.Refusal.{ok_unless}
use Rattle.tl_manager.proofs.services.Busy.{unserved-among, all-taken, one-free}
use Rattle.tl_manager.specs.code.PartIs.{IsPartOf, is_first_part, is_last_part}

-- the burst that a client's beat is of
pub burst-is : {w : ℕ} (link_state : LinkState w) (client : ℕ) (x : Beat w) (t : Trace w) → is_from_client x ≡ true
    → IsCarried link_state client t
    → burst_for link_state.requests link_state.reports x ≡ unfinished (channel_of x) (on_link client t)
burst-is link_state client (A x) t theirs is = is.requests
burst-is link_state client (C x) t theirs is = is.reports
burst-is link_state client (E x) t theirs is = sym (none-on_e (on_link client t))
burst-is link_state client v t theirs is = absurd cc

-- ---- parts

place-parts : (b c d : Bool) (part : Part) → Ok part ≡ cond b (Err Broken.S1) (Ok (place c d))
    → (b ≡ false) × (is_first_part part ≡ c) × (is_last_part part ≡ d)
place-parts true c d part e = absurd cc
place-parts false true true part e = let is : part ≡ Only = cc in rw is (refl, refl, refl)
place-parts false true false part e = let is : part ≡ First = cc in rw is (refl, refl, refl)
place-parts false false true part e = let is : part ≡ Last = cc in rw is (refl, refl, refl)
place-parts false false false part e = let is : part ≡ Middle = cc in rw is (refl, refl, refl)

pub parts : {w : ℕ} (x : Beat w) (part : Part) (t : History w) → IsPartOf x part t
    → (breaks_burst x (unfinished (channel_of x) t) ≡ false)
    × (is_first_part part ≡ is_empty (unfinished (channel_of x) t))
    × (is_last_part part ≡ completes x (unfinished (channel_of x) t))
parts x part t is = place-parts (breaks_burst x (unfinished (channel_of x) t)) (is_empty (unfinished (channel_of x) t))
    (completes x (unfinished (channel_of x) t)) part is

pub begins-so : {w : ℕ} (config : Config) (x : Beat w) (part : Part) (t : History w) → IsPartOf x part t
    → is_first_part part ≡ true
    → broken_order config.profile x t ≡ broken_in_order config.profile x t
begins-so config x part t is first = let p = parts x part t is in rw (sym p.1, first) refl

-- one that doesn't breaks S1
breaks-first : {w : ℕ} (x : Beat w) (burst : List (Beat w)) (b : Broken) → Err b ≡ part_of x burst
    → (is_empty burst ≡ false) × (breaks_burst x burst ≡ true)
breaks-first x [] b e = absurd cc
breaks-first {w} x (y ∷ ys) b e = (refl, go (breaks_burst x (y ∷ ys)) e)
  where
    go : (d : Bool) → Err b ≡ cond d (Err Broken.S1) (Ok (place false (completes x (y ∷ ys)))) → d ≡ true
    go true i = refl
    go false i = absurd cc

pub breaks-off : {w : ℕ} (config : Config) (link : Link) (x : Beat w) (t : Trace w) (b : Broken)
    → Err b ≡ part_of x (unfinished (channel_of x) (on_link link.0 t))
    → Err S1 ≡ admission_of (judged_in_order config link x t)
breaks-off {w} config link x t b e =
    let p = breaks-first x (unfinished (channel_of x) (on_link link.0 t)) b e in
    let rule : broken_in_order config.profile x (on_link link.0 t) ≡ Some S1 = rw (p.0, p.1) refl in
    ap (λ o. admission_of (judged_by o (must_wait config link x t) (is_outside config.blocks x) (is_spoiled x)))
    (sym rule)

-- ---- levels

pub level-open : {w : ℕ} (config : Config) (link : Link) (link_state : LinkState w) (e : End w)
    → IsLinkState config link_state link.0 e → link_state.closed ≡ false
    → open_level config link e ≡ Some link_state.level
level-open config link link_state e is open_yet = rw (sym is.closed, open_yet) is.level

pub judged-ours : {w : ℕ} (config : Config) (link : Link) (ch : Channel) (link_state : LinkState w) (x : Beat w)
    (e : End w) → IsLinkState config link_state link.0 e → link_state.closed ≡ false
    → is_from_client x ≡ false → Err L1 ≡ admission_of (judged config link ch x e)
unfolding judged_at
judged-ours config link ch link_state x e is open_yet ours = rw (level-open config link link_state e is open_yet, ours)
    refl

pub judged-illegal : {w : ℕ} (config : Config) (link : Link) (ch : Channel) (link_state : LinkState w) (x : Beat w)
    (e : End w) (rule : Rule) → IsLinkState config link_state link.0 e → link_state.closed ≡ false
    → is_from_client x ≡ true → Err rule ≡ ok_unless (illegal link_state.level ch x)
    → Err rule ≡ admission_of (judged config link ch x e)
unfolding judged_at
judged-illegal config link ch link_state x e rule is open_yet theirs broken =
    rw (level-open config link link_state e is open_yet, theirs) (go (illegal link_state.level ch x) broken)
  where
    go : (o : Option Rule) → Err rule ≡ ok_unless o
        → Err rule ≡ admission_of (breaks_or o (judged_in_order config link x e.trace))
    go None f = absurd cc
    go (Some r) f = cc

pub judged-legal : {w : ℕ} (config : Config) (link : Link) (ch : Channel) (link_state : LinkState w) (x : Beat w)
    (e : End w) → IsLinkState config link_state link.0 e → link_state.closed ≡ false
    → is_from_client x ≡ true → Ok tt ≡ ok_unless (illegal link_state.level ch x)
    → judged_in_order config link x e.trace ≡ judged config link ch x e
unfolding judged_at
judged-legal config link ch link_state x e is open_yet theirs legal =
    rw (level-open config link link_state e is open_yet, theirs) (go (illegal link_state.level ch x) legal)
  where
    go : (o : Option Rule) → Ok tt ≡ ok_unless o → judged_in_order config link x e.trace ≡ breaks_or o
        (judged_in_order config link x e.trace)
    go None f = refl
    go (Some r) f = absurd cc

-- ---- whether it has to wait

none_of : {X : Type 0} (o : Option X) → is_some o ≡ false → o ≡ None
none_of None e = refl
none_of (Some x) e = absurd cc

pub busy-free : {w : ℕ} {M : Type 0} (perm_of : M → ℕ → ℕ → Perm) (state : ManagerState w M) (config : Config)
    (e : End w) (block : ℕ) (o : Option ℕ) (least : Option ℕ)
    → Knows perm_of state config e → is_some o ≡ false
    → (o ≡ None → (i : ℕ) → is_of block (tracker_at state.block_state.trackers i) ≡ false)
    → IfSome least (λ n. (n < state.block_state.trackers.count)
    × (is_free (tracker_at state.block_state.trackers n) ≡ true)
    × ((i : ℕ) → i < n → is_free (tracker_at state.block_state.trackers i) ≡ false))
    → (least ≡ None → (i : ℕ) → i < state.block_state.trackers.count
    → is_free (tracker_at state.block_state.trackers i) ≡ false)
    → not (is_some least) ≡ (is_in_service block (services e.trace) || nat_le config.trackers
    (length (services e.trace)))
busy-free {w} perm_of state config e block o least k none away found full =
    rw (unserved-among block (tracker_at state.block_state.trackers) e.trace k.kept.trackers_apart
    (λ n. k.block_state.tracked n tt) (away (none_of o none))) (go least found full)
  where
    go : (l : Option ℕ) → IfSome l (λ n. (n < state.block_state.trackers.count)
        × (is_free (tracker_at state.block_state.trackers n) ≡ true)
        × ((i : ℕ) → i < n → is_free (tracker_at state.block_state.trackers i) ≡ false))
        → (l ≡ None → (i : ℕ) → i < state.block_state.trackers.count
        → is_free (tracker_at state.block_state.trackers i) ≡ false)
        → not (is_some l) ≡ nat_le config.trackers (length (services e.trace))
    go None f all = sym (all-taken config.trackers (tracker_at state.block_state.trackers) e.trace
        (λ n. k.block_state.tracked n tt) (rw k.block_state.count at (all refl)))
    go (Some n) f all = sym (one-free config.trackers n (tracker_at state.block_state.trackers) e.trace
        k.kept.trackers_apart k.kept.tracked (λ i. k.block_state.tracked i tt) (rw k.block_state.count at f.0) f.1)

pub on-ok : {X E : Type 0} (r : Result X E) (P : Type 0) → P → OnOk r P
on-ok (Ok x) P p = p
on-ok (Err e) P p = tt
