-- A beat of channel A that is delivered breaks no rule: it is taken, unless it has to wait.
use Rattle.std.proofs.Common.{◌≡◌, ℕ, zero, suc, Bool, true, false, ◌&&◌, ◌==◌, List, [], ◌∷◌, Option, Some, None, refl}
use Rattle.std.proofs.Common.{sym, ◌∙◌, ap, arith, eqb-true, All, is_some}
use Rattle.tl_coherence.proofs
use proofs.Imports.{Beat, BeatA, Link, Channel, OpB, first_if, Message, MessageA, a_beat_of, begun, History, unfinished}
use proofs.Imports.{Config, Key, Level, Grow, Prune, Report, Perm, Profile, H4, H5, grow_code, report_left, later-legal}
use proofs.Imports.{is_outside, is_spoiled, Trace, broken_in_order, grows_from, same_perm, broken_order, on_link}
use proofs.Imports.{is_acquire, held, pending, is_one_of, illegal, same_block, acquisition, probe_ack, release}
use proofs.Imports.{judged-passes, tracker_among, IsSound, comes_of, End, Passes, before_stall, level_of}
use proofs.Imports.{must_wait, offered_as, open_level, reaction, is_in_service, service_of_block, trackers_of}
use proofs.Imports.{least_untaken, services, IsInvariant, is_busy, tracks_with, Kind, Packet, ProbeAck, Release, is}
use proofs.Imports.{AcquireOpen, ClientBlock, Idle, Own, ReleasePhase, View, grow_fits, is_unprobed}
use proofs.Imports.{is_unreleased, ok, Asked, Free, GrantSent, GrantTaken, Service, State, Waits, packet, view}
use proofs.Imports.{is_releasing, is_unserved, acquire_opcode, ManagerRelation, client_in, is_own}
use proofs.Imports.{service_with, AccessMessages, prune_told, report_told, block_message, AreLanes}
use proofs.Imports.{SimulationRelation, is_served, Log, System}
use Rattle.tl_manager.{proofs.messages.Sound.leveled, proofs.words_of_clients.Free.least_free-is_free}
use Rattle.tl_manager.{specs.code.Kept.IsTyped}
use Rattle.tl_manager.specs.statement.Offer.{judged, offered, taken, judged_at}
use Rattle.tl_manager.specs.statement.Offer as manager
use proofs.client.HalfTaken.{half-taken}
use proofs.Imports.{is_on, message_of_kind}
use proofs.manager.{Probing.link_of, ManagerTakes.acquire-legal}
use proofs.queues.{Phases.and_left, Phases.and_right, Tokens.same_number, Codes.acquires-so}
use proofs.queues.Facts.{acquire_fits, asked_alone}
use proofs.protocol.{Room.IsWanted, BothParts.first-shown}

-- ---- a Release that is unfinished at the manager is on its way

-- the beats of a ProbeAck are of no Release
ack_comes : (w : ℕ) (p : Perm) (r : Report) (i n k : ℕ) (payload : List ℕ)
    → comes_of n (begun (probe_ack {w = w} OpB.ProbeBlock p r i payload) k) ≡ false
ack_comes w p r i n k payload = grind arith

-- those of a Release are of its block
release_comes : (w : ℕ) (r : Prune) (source i n k : ℕ) (payload : List ℕ) → (i ≡ n → ⊥)
    → comes_of n (begun (release {w = w} r source i payload) k) ≡ false
release_comes w r source i n k payload e = grind (arith, same_block)

release-comes : {w : ℕ} {config : Config} {log : Log w} {mail : AccessMessages w} {request : ℕ → MessageA w}
    {s : State (List ℕ)} {sys : System w} (c n : ℕ)
    → SimulationRelation config log mail request s sys → is_releasing ((s.block n).pair c).letting ≡ false
    → comes_of n (unfinished Channel.C (on_link c sys.manager.trace)) ≡ false
unfolding block_message
release-comes {w} {mail} {s} c n is kept = half-taken c Channel.C (λ beats. comes_of n beats ≡ false) is refl each
  where
    each : (k : Kind) (m : ℕ) (rest : List Packet) (i : ℕ) → (s.link c).c ≡ packet k m ∷ rest
        → is_on Channel.C k ≡ true → comes_of n (begun (message_of_kind k mail s c m) i) ≡ false
    each ProbeAck m rest i first own = ack_comes w (report_left (report_told ((s.block m).pair c).probing))
        (report_told ((s.block m).pair c).probing) m n i (s.block m).truth
    each Release m rest i first own = release_comes w (prune_told ((s.block m).pair c).letting)
        ((s.block m).release_source c) m n i (s.block m).truth (λ same.
        let shows = first-shown is.invariant c Release refl first in
        let no : true ≡ false = sym shows ∙ ap (λ j. is_releasing ((s.block j).pair c).letting) same ∙ kept in
        cc)
    each k m rest i first own = absurd cc

-- ---- the order of messages

-- a source that isn't in service, and of which no burst is unfinished, is free
source-free : {w : ℕ} {config : Config} {log : Log w} {mail : AccessMessages w} {request : ℕ → MessageA w}
    {s : State (List ℕ)} {sys : System w} (c source : ℕ) → SimulationRelation config log mail request s sys
    → is_served c (s.uses c source) s ≡ false → unfinished Channel.A (on_link c sys.manager.trace) ≡ []
    → pending (Key.RequestSource source) (on_link c sys.manager.trace) ≡ false
source-free c source is unserved none = is.served.sources c source ∙ rw (unserved, none) refl

access-order : {w : ℕ} (p : Profile) (x : BeatA w) (t : History w) → is_acquire x.opcode ≡ false
    → unfinished Channel.A t ≡ []
    → pending (Key.RequestSource x.source) t ≡ false → broken_in_order p (Beat.A x) t ≡ None
unfolding broken_order
access-order p x t access none free = rw (none, free, access) refl

-- a beat of an access that was asked
pub order-access : {w : ℕ} {config : Config} {log : Log w} {mail : AccessMessages w} {request : ℕ → MessageA w}
    {s : State (List ℕ)} {sys : System w} (c source : ℕ) (m : MessageA w) (k : ℕ)
    → SimulationRelation config log mail request s sys → s.uses c source ≡ Asked → m.source ≡ source
    → is_acquire m.opcode ≡ false → unfinished Channel.A (on_link c sys.manager.trace) ≡ begun (Message.A m) k
    → broken_in_order config.profile (Beat.A (a_beat_of m k)) (on_link c sys.manager.trace) ≡ None
order-access {config} c source m zero is used source_is access burst = access-order config.profile (a_beat_of m 0)
    _ access burst (rw source_is (source-free c source is (rw used refl) burst))
order-access {config} c source m (suc i) is used source_is access burst =
    later-legal config.profile (Message.A m) i _ burst

none_grows : (g : Grow) → grows_from (grow_code g) Perm.None ≡ true
none_grows g = grind arith

-- what may grow from what is held may grow from what is recorded, where they agree
pub grows : (whole : Bool) (p q : Perm) (g : Grow) → grow_fits q (AcquireOpen whole g) ≡ true → same_perm p q ≡ true
    → grows_from (grow_code g) p ≡ true
grows whole p q g e f = grind (arith, none_grows)

kept-is : (x : ReleasePhase) → is_unreleased x ≡ true → is_releasing x ≡ false
kept-is x e = grind arith

pub first_three : (x y z more : Bool) → (x && (y && (z && more))) ≡ true → ((x && y) && z) ≡ true
first_three x y z more e = grind arith

-- a beat of an Acquire that is wanted, whose block isn't in service
pub order-acquire : {w : ℕ} {config : Config} {log : Log w} {mail : AccessMessages w} {request : ℕ → MessageA w}
    {s : State (List ℕ)} {sys : System w} {c n : ℕ} (k : ℕ) → SimulationRelation config log mail request s sys
    → (is_it : IsWanted w c n s) → (s.block n).service ≡ Free → unfinished Channel.A (on_link c sys.manager.trace)
    ≡ begun (Message.A (acquisition (acquire_opcode is_it.whole) is_it.grow ((s.block n).source c) n)) k
    → broken_in_order config.profile
    (Beat.A (a_beat_of (acquisition (acquire_opcode is_it.whole) is_it.grow ((s.block n).source c) n) k))
    (on_link c sys.manager.trace) ≡ None
order-acquire {config} {s} {c} {n} zero is is_it free burst =
    let p : ClientBlock = (s.block n).pair c in
    let well : ok p (view (s.block n).service c) ≡ true = (is.invariant.blocks n).phases c in
    let idle : view (s.block n).service c ≡ Idle = rw free refl in
    let settled = first_three (is_unprobed p.probing) (is_unreleased p.letting) (same_perm p.recorded p.held) _
    (asked_alone is_it.whole is_it.grow p (view (s.block n).service c) well idle is_it.wants) in
    acquire-legal config.profile n _
    (a_beat_of (acquisition (acquire_opcode is_it.whole) is_it.grow ((s.block n).source c) n) 0)
    _ (acquires-so is_it.whole) (same_block n) burst
    (source-free c ((s.block n).source c) is (rw (is_it.used, idle) refl) burst)
    (is.managed.acquires c n ∙ rw idle refl)
    ((is.manager_kept.releases c).blocks n ∙ release-comes c n is
    (kept-is p.letting (and_right (is_unprobed p.probing) (is_unreleased p.letting)
    (and_left (is_unprobed p.probing && is_unreleased p.letting) (same_perm p.recorded p.held) settled))))
    (is.managed.recorded_is c n)
    (grows is_it.whole p.recorded p.held is_it.grow (acquire_fits is_it.whole is_it.grow p (view (s.block n).service c)
    well is_it.wants)
    (and_right (is_unprobed p.probing && is_unreleased p.letting) (same_perm p.recorded p.held) settled))
order-acquire {config} {s} {c} {n} (suc i) is is_it free burst = later-legal config.profile
    (Message.A (acquisition (acquire_opcode is_it.whole) is_it.grow ((s.block n).source c) n)) i _ burst

-- ---- what a beat that needn't wait finds

pub unserved-free : {w : ℕ} {X : Type 0} {request : ℕ → MessageA w} {s : State X} {t : Trace w} (n : ℕ)
    → ManagerRelation request s t → is_in_service n (services t) ≡ false → (s.block n).service ≡ Free
unserved-free {w} {request} {s} n is none =
    let go : (service : Service) → is_some (service_with (client_in service) (s.block n).tracker (request n)) ≡ false
    → service ≡ Free = elim [ Free ↦ λ e. refl | service ↦ λ e. absurd cc ] in
    go (s.block n).service (ap is_some (sym (is.serving_is n)) ∙ none)

-- the tracker of the next service is of no block
pub free-untracked : {w : ℕ} {X : Type 0} {caching : ℕ → Bool} {request : ℕ → MessageA w} {s : State X} {t : Trace w}
    → IsInvariant caching s → ManagerRelation request s t → s.tracked (least_untaken (trackers_of (services t))) ≡ None
free-untracked {w} {request} {s} {t} inv is = go (s.tracked i) refl
  where
    i : ℕ
    i = least_untaken (trackers_of (services t))

    among : (n r : ℕ) → service_of_block n (services t) ≡ service_with (Some r) (s.block n).tracker (request n)
        → i ≡ (s.block n).tracker → ⊥
    among n r found same =
        let one : is_one_of (s.block n).tracker (trackers_of (services t)) ≡ true = tracker_among n _ _ found in
        let none : is_one_of (s.block n).tracker (trackers_of (services t)) ≡ false =
        cc (same, least_free-is_free (trackers_of (services t))) in
        cc

    taken : (n : ℕ) (service : Service) → (s.block n).service ≡ service → is_busy service ≡ true
        → (i == (s.block n).tracker) ≡ true → ⊥
    taken n Free f busy same = cc
    taken n (Waits r own source k) f busy same = among n r (cc (is.serving_is n)) (eqb-true i (s.block n).tracker same)
    taken n (GrantSent q d k) f busy same = among n q (cc (is.serving_is n)) (eqb-true i (s.block n).tracker same)
    taken n (GrantTaken q) f busy same = among n q (is.serving_is n ∙ rw f refl) (eqb-true i (s.block n).tracker same)

    go : (o : Option ℕ) → s.tracked i ≡ o → o ≡ None
    go None e = refl
    go (Some n) e =
        let tracks : tracks_with i (s.block n) ≡ true = sym (inv.named.trackers i n) ∙ rw (e, same_number n) refl in
        absurd (taken n (s.block n).service refl (and_left (is_busy (s.block n).service) (i == (s.block n).tracker)
        tracks) (and_right (is_busy (s.block n).service) (i == (s.block n).tracker) tracks))

-- ---- it is taken, or has to wait

open-level : {w : ℕ} (config : Config) (l : Level) (c : ℕ) (e : End w) → e.closed ≡ [] → level_of config c ≡ Some l
    → open_level config (link_of c) e ≡ Some l
open-level config l c e live level = rw live level

-- the first of the beats that are on a channel
pub head_all : {X : Type 0} (P : X → Type 0) (x : X) (xs ys : List X) → ys ≡ x ∷ xs → All P ys → P x
head_all P x xs ys e h =
    let first : All P (x ∷ xs) → P x = λ h. h 0 x (omega arith) in
    first (rw e at h)

-- what the first beat of a channel of a client is by itself
pub record IsFirstBeat {w : ℕ} (config : Config) (c : ℕ) (x : BeatA w) (sys : System w) : Type 0 where
  pub level : Level
  pub level_is : level_of config c ≡ Some level
  pub lawful : illegal level Channel.A (Beat.A x) ≡ None
  pub inside : is_outside config.blocks (Beat.A x) ≡ false
  pub clean : is_spoiled (Beat.A x) ≡ false
  pub typed : IsTyped (Beat.A x)

pub first-beat : {w : ℕ} {config : Config} {log : Log w} {mail : AccessMessages w} {request : ℕ → MessageA w}
    {s : State (List ℕ)} {sys : System w} (c : ℕ) (x : BeatA w) (queue : List (Beat w))
    → SimulationRelation config log mail request s sys → sys.channels c Channel.A ≡ Beat.A x ∷ queue
    → IsFirstBeat config c x sys
first-beat {config} c x queue is beats =
    let sound : IsSound config (link_of c, Beat.A x) = head_all (λ y. IsSound config (link_of c, y)) _ queue
    _ beats (is.sound c Channel.A) in
    let typed = head_all AreLanes _ queue _ beats (is.typed c Channel.A) in
    let l = leveled _ _ sound.lawful in
    record { level = l.0; level_is = l.1; lawful = l.2; inside = sound.inside; clean = sound.clean; typed = typed }

pub passes-first : {w : ℕ} {config : Config} {c : ℕ} {x : BeatA w} {sys : System w} → sys.manager.closed ≡ []
    → IsFirstBeat config c x sys → broken_in_order config.profile (Beat.A x) (on_link c sys.manager.trace) ≡ None
    → must_wait config (link_of c) (Beat.A x) sys.manager.trace ≡ false
    → judged config (link_of c) Channel.A (Beat.A x) sys.manager ≡ Passes
passes-first {config} {c} {x} {sys} live is order moves = judged-passes config _ (link_of c) Channel.A (Beat.A x)
    sys.manager (open-level config is.level c sys.manager live is.level_is) is.lawful order moves is.inside is.clean

waits_at : {w : ℕ} (config : Config) (l : Level) (link : Link) (x : BeatA w) (t : Trace w)
    → illegal l Channel.A (Beat.A x) ≡ None
    → before_stall (broken_in_order config.profile (Beat.A x) (on_link link.0 t)) ≡ None
    → must_wait config link (Beat.A x) t ≡ true → judged_at config l link Channel.A (Beat.A x) t ≡ manager.Waits
unfolding judged_at
waits_at config l link x t lawful order waits = rw (lawful, order, waits) refl

-- one that has to wait is stalled, and not refused
pub waits-first : {w : ℕ} {config : Config} {c : ℕ} {x : BeatA w} {sys : System w} → sys.manager.closed ≡ []
    → IsFirstBeat config c x sys
    → before_stall (broken_in_order config.profile (Beat.A x) (on_link c sys.manager.trace)) ≡ None
    → must_wait config (link_of c) (Beat.A x) sys.manager.trace ≡ true
    → judged config (link_of c) Channel.A (Beat.A x) sys.manager ≡ manager.Waits
waits-first {config} {c} {x} {sys} live is order waits = rw (open-level config is.level c sys.manager live is.level_is)
    (waits_at config is.level (link_of c) x sys.manager.trace is.lawful order waits)

-- what is judged before the stall is none of an Acquire either
early_none : (x y : Bool) → before_stall (first_if x H4 (first_if y H5 None)) ≡ None
early_none x y = grind arith

early_first : {w : ℕ} (p : Profile) (x : BeatA w) (t : History w) → unfinished Channel.A t ≡ []
    → pending (Key.RequestSource x.source) t ≡ false → before_stall (broken_in_order p (Beat.A x) t) ≡ None
unfolding broken_order
early_first p x t none free = grind (arith, early_none, held)

pub early-acquire : {w : ℕ} {config : Config} {log : Log w} {mail : AccessMessages w} {request : ℕ → MessageA w}
    {s : State (List ℕ)} {sys : System w} {c n : ℕ} (k : ℕ) → SimulationRelation config log mail request s sys
    → (is_it : IsWanted w c n s) → unfinished Channel.A (on_link c sys.manager.trace)
    ≡ begun (Message.A (acquisition (acquire_opcode is_it.whole) is_it.grow ((s.block n).source c) n)) k
    → before_stall (broken_in_order config.profile
    (Beat.A (a_beat_of (acquisition (acquire_opcode is_it.whole) is_it.grow ((s.block n).source c) n) k))
    (on_link c sys.manager.trace)) ≡ None
early-acquire {w} {config} {log} {mail} {request} {s} {sys} {c} {n} zero is is_it burst =
    let unserved_own : (v : View) → is_unserved v ≡ true → is_own v ≡ false =
    elim [ Own ↦ λ e. absurd cc | v ↦ λ e. refl ] in
    early_first config.profile (a_beat_of (acquisition (acquire_opcode is_it.whole)
    is_it.grow ((s.block n).source c) n) 0) _ burst (source-free c ((s.block n).source c) is
    (rw is_it.used (unserved_own (view (s.block n).service c) is_it.unserved)) burst)
early-acquire {config} {s} {sys} {c} {n} (suc i) is is_it burst = ap before_stall (later-legal config.profile
    (Message.A (acquisition (acquire_opcode is_it.whole) is_it.grow ((s.block n).source c) n)) i
    (on_link c sys.manager.trace) burst)

-- ---- the answers

pub offered-taken : {w : ℕ} (config : Config) (link : Link) (ch : Channel) (x : Beat w) (e : End w)
    → judged config link ch x e ≡ Passes
    → offered config link ch x e
    ≡ (manager.Sent (reaction config link x e).handed, taken link x (reaction config link x e) e)
unfolding offered
offered-taken config link ch x e f = ap (λ j. offered_as j config link x e) f

pub offered-stalled : {w : ℕ} (config : Config) (link : Link) (ch : Channel) (x : Beat w) (e : End w)
    → judged config link ch x e ≡ manager.Waits → offered config link ch x e ≡ (manager.Stalled, e)
unfolding offered
offered-stalled config link ch x e f = ap (λ j. offered_as j config link x e) f
