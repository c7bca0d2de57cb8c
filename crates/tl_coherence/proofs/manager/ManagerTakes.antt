-- A message that the values of a history allow breaks no rule of order after it: for the manager's end and for what is
-- delivered alike.
-- A beat that is delivered on channel C or E breaks no rule after what the manager has of the link, and is taken.
use Rattle.std.proofs.Common.{◌≡◌, ℕ, zero, suc, Bool, true, false, not, ◌&&◌, ◌||◌, ◌==◌, if◌then◌else◌, List, [], ◌∷◌}
use Rattle.std.proofs.Common.{Option, Some, None, refl, sym, ◌∙◌, ap, subst, arith, map}
use Rattle.tl_coherence.proofs
use proofs.Imports.{and-false, Beat, BeatA, BeatC, BeatE, Channel, first_if, c_carries_data, Message, MessageA}
use proofs.Imports.{MessageC, begun, c_beat_of, History, channel_of, unfinished, Config, Key, Level, Cap, Prune, Report}
use proofs.Imports.{Perm, Profile, H1, H4, H5, prune_code, prune_left, prune_of, report_at, report_code, later-legal}
use proofs.Imports.{broken_in_order, grows_from, prunes_from, same_perm, broken_order, on_link, block_at, is_acquire}
use proofs.Imports.{is_probe_ack, is_release, held, pending, probe_of, judged-passes, whole-e, IsKept, IsSound}
use proofs.Imports.{illegal_at, one_if, End, Passes, is_from_client, level_of, must_wait, open_level, reaction}
use proofs.Imports.{AreNamed, IsInvariant, GrantAck, Kind, Packet, ProbeAck, Release, is, count, Acknowledging}
use proofs.Imports.{GrantedOther, Own, ProbeAnswered, ReleaseSent, View, is_unprobed, is_unreleased, same_report, Block}
use proofs.Imports.{GrantTaken, Service, State, is_on, packet, view, is_acknowledging, is_answered, is_granting}
use proofs.Imports.{ManagerRelation, is_own, AccessMessages, message_of, message_of_kind, probe_beat, block_message}
use proofs.Imports.{ServedSourceRelation, cap_waited, is_granted, System}
use Rattle.tl_rules.specs.statement.Conformance.{answers_wrong_probe, misreports}
use Rattle.tl_params.specs.declared.rule.Rule.TheVariants.{H8}
use Rattle.tl_manager.specs.statement.Offer.{judged, offered, taken, unlawful}
use Rattle.tl_manager.proofs.judging.Judged.{manager-takes}
use Rattle.tl_manager.specs.statement.Offer as manager_offer
use proofs.queues.{Tokens.same_number, Tokens.ordered-first, Codes.cap-again, FirstToken.IsFirst, Carried.IsNext}
use proofs.queues.{Phases.and_left, Phases.and_right, PhaseSteps.on_other}
use proofs.queues.Facts.{is_other, release_begins, report_fits, own_alone}
use proofs.protocol.BothParts.{cap-waited}
use proofs.manager.{ManagedGrants.tracker-of, Reporting.IsAbout}

-- ---- a ProbeAck: H10, H11 and H12

pub report-legal : {w : ℕ} (profile : Profile) (n : ℕ) (k : Cap) (r : Report) (p : Perm) (x : BeatC w) (t : History w)
    → is_probe_ack x.opcode ≡ true → is_release x.opcode ≡ false → block_at x.address ≡ n → x.param ≡ report_code r
    → unfinished Channel.C t ≡ [] → pending (Key.ProbeOf n) t ≡ true → pending (Key.ReleaseOf n) t ≡ false
    → probe_of n t ≡ Some (probe_beat n k) → held n t ≡ p → r ≡ report_at k p → broken_in_order profile (Beat.C x) t
    ≡ None
unfolding broken_order
report-legal profile n k r p x t acks not_release block param none probed released probe is told =
    let found : probe_of (block_at x.address) t ≡ Some (probe_beat n k) = rw block probe in
    let wrong : (not (pending (Key.ProbeOf (block_at x.address)) t) || answers_wrong_probe x
    (probe_of (block_at x.address) t)) ≡ false = rw (block, probed) (rw probe (and-false (c_carries_data x.opcode))) in
    let late : pending (Key.ReleaseOf (block_at x.address)) t ≡ false = rw block released in
    let bad : misreports x (probe_of (block_at x.address) t) (held (block_at x.address) t) ≡ false =
    rw (block, is) (rw (probe, cap-again k, param, told, same_number (report_code (report_at k p))) refl) in
    rw (none, not_release, acks) (rw (wrong, late, bad) refl)

-- ---- an Acquire: H1, H4 and H5

requests : (taken twice low : Bool) → taken ≡ false → twice ≡ false → low ≡ true
    → first_if taken H1 (first_if (true && twice) H4 (first_if (true && not low) H5 None)) ≡ None
requests taken twice low e f g = rw (e, f, g) refl

pub acquire-legal : {w : ℕ} (profile : Profile) (n : ℕ) (p : Perm) (x : BeatA w) (t : History w)
    → is_acquire x.opcode ≡ true → block_at x.address ≡ n → unfinished Channel.A t ≡ []
    → pending (Key.RequestSource x.source) t ≡ false → pending (Key.AcquireOf n) t ≡ false
    → pending (Key.ReleaseOf n) t ≡ false → held n t ≡ p → grows_from x.param p ≡ true
    → broken_in_order profile (Beat.A x) t ≡ None
unfolding broken_order
acquire-legal profile n p x t acquires block none free once released is grows = grind (arith, requests)

-- ---- the first message of channel C or E

-- it is a ProbeAck or a Release
pub by-first_c : {w : ℕ} (P : List Packet → Type 0) (c : ℕ) (mail : AccessMessages w) (s : State (List ℕ))
    (sys : System w) (x : Beat w) (queue : List (Beat w)) → IsFirst Channel.C c mail s sys x queue
    → ((n : ℕ) (rest : List Packet) → (s.link c).c ≡ packet ProbeAck n ∷ rest
    → IsNext x (unfinished Channel.C (on_link c sys.manager.trace)) (block_message ProbeAck c n (s.block n))
    (map (message_of mail s c) rest) queue → P (packet ProbeAck n ∷ rest))
    → ((n : ℕ) (rest : List Packet) → (s.link c).c ≡ packet Release n ∷ rest
    → IsNext x (unfinished Channel.C (on_link c sys.manager.trace)) (block_message Release c n (s.block n))
    (map (message_of mail s c) rest) queue → P (packet Release n ∷ rest)) → P (s.link c).c
by-first_c {w} P c mail s sys x queue at report release = subst P (sym at.tokens) (go at.kind at.own at.tokens at.next)
  where
    Next : Kind → Type 0
    Next k = IsNext x (unfinished Channel.C (on_link c sys.manager.trace)) (message_of_kind k mail s c at.number)
        (map (message_of mail s c) at.rest) queue

    go : (k : Kind) → is_on Channel.C k ≡ true → (s.link c).c ≡ packet k at.number ∷ at.rest → Next k
        → P (packet k at.number ∷ at.rest)
    go k e f g = grind (arith, report, release)

-- or a GrantAck
pub by-first_e : {w : ℕ} (P : List Packet → Type 0) {c : ℕ} {mail : AccessMessages w} {s : State (List ℕ)}
    {sys : System w} {x : Beat w} {queue : List (Beat w)} → IsFirst Channel.E c mail s sys x queue
    → ((n : ℕ) (rest : List Packet) → (s.link c).e ≡ packet GrantAck n ∷ rest
    → IsNext x (unfinished Channel.E (on_link c sys.manager.trace)) (block_message GrantAck c n (s.block n))
    (map (message_of mail s c) rest) queue → P (packet GrantAck n ∷ rest)) → P (s.link c).e
by-first_e {w} P {c} {mail} {s} {sys} {x} {queue} at ack =
    let Next : Kind → Type 0 = λ k. IsNext x (unfinished Channel.E (on_link c sys.manager.trace))
    (message_of_kind k mail s c at.number) (map (message_of mail s c) at.rest) queue in
    let go : (k : Kind) → is_on Channel.E k ≡ true → (s.link c).e ≡ packet k at.number ∷ at.rest → Next k
    → P (packet k at.number ∷ at.rest) =
    elim [ GrantAck ↦ λ e first next. ack at.number at.rest first next | k ↦ λ e first next. absurd cc ] in
    subst P (sym at.tokens) (go at.kind at.own at.tokens at.next)

-- ---- a beat that breaks no rule of order is taken

pub record IsTakenUp {w : ℕ} (config : Config) (c : ℕ) (ch : Channel) (x : Beat w) (e : End w) : Type 0 where
  pub passes : judged config (record { 0 = c }) ch x e ≡ Passes
  pub answer : offered config (record { 0 = c }) ch x e ≡ (
    manager_offer.Sent (reaction config (record { 0 = c }) x e).handed,
    taken (record { 0 = c }) x (reaction config (record { 0 = c }) x e) e,
  )

pub takes : {w : ℕ} {config : Config} (c : ℕ) (ch : Channel) (x : Beat w) (e : End w)
    → IsSound config (record { 0 = c }, x) → is_from_client x ≡ true → channel_of x ≡ ch → e.closed ≡ []
    → broken_in_order config.profile x (on_link c e.trace) ≡ None
    → must_wait config (record { 0 = c }) x e.trace ≡ false → IsTakenUp config c ch x e
takes {w} {config} c ch x e sound theirs own live order free = go (level_of config c) refl sound.lawful
  where
    go : (o : Option Level) → level_of config c ≡ o → illegal_at o x ≡ None → IsTakenUp config c ch x e
    go None f lawful = absurd cc
    go (Some l) f lawful =
        let opened : open_level config (record { 0 = c }) e ≡ Some l = rw (live, f) refl in
        let legal : unlawful l ch x ≡ None = rw (theirs, ← own) lawful in
        record {
          passes = judged-passes config l _ ch x e opened legal order free sound.inside sound.clean;
          answer = manager-takes config l _ ch x e opened legal order free sound.inside sound.clean;
        }

-- ---- a ProbeAck

pub same_report-is : (p q : Report) → same_report p q ≡ true → p ≡ q
same_report-is p q e = grind arith

-- what holds of the cap that a client sees holds of that of the service
pub seen_cap : (test : Cap → Bool) (s : Service) (c : ℕ) → (on_other (view s c) test && is_other (view s c)) ≡ true
    → test (cap_waited s) ≡ true
seen_cap test s c = grind (arith, cap-waited, and_left)

-- the place of a beat in its message
abbrev NextOrder : {w : ℕ} → Profile → MessageC w → ℕ → History w → Type 0
NextOrder profile m k t = broken_in_order profile (Beat.C (c_beat_of m k)) t ≡ None

by_place : {w : ℕ} (profile : Profile) (m : MessageC w) (k : ℕ) (t : History w)
    → unfinished Channel.C t ≡ begun (Message.C m) k
    → (unfinished Channel.C t ≡ [] → NextOrder profile m 0 t) → NextOrder profile m k t
by_place profile m zero t rest first = first rest
by_place profile m (suc k) t rest first = later-legal profile (Message.C m) k t rest

pub report-order : {w : ℕ} {config : Config} {caching : ℕ → Bool} {request : ℕ → MessageA w} (c : ℕ) {n : ℕ} (k : ℕ)
    (r : Report) {truth : List ℕ} {carries : Bool} {m : MessageC w} {s : State (List ℕ)} {e : End w}
    → IsInvariant caching s → ManagerRelation request s e.trace → ServedSourceRelation request s e.trace
    → IsKept config e → ((s.block n).pair c).probing ≡ ProbeAnswered r → IsAbout true n (report_code r) carries truth m
    → unfinished Channel.C (on_link c e.trace) ≡ begun (Message.C m) k
    → broken_in_order config.profile (Beat.C (c_beat_of m k)) (on_link c e.trace) ≡ None
report-order {w} {config} c {n} k r {m} {s} {e} inv managed served kept answered about rest =
    by_place _ m k t rest first
  where
    t : History w
    t = on_link c e.trace

    b : Block (List ℕ)
    b = s.block n

    first : unfinished Channel.C t ≡ [] → NextOrder config.profile m 0 t
    first none =
        let missing : pending (Key.ProbeOf n) t ≡ true = managed.probes c n ∙ rw answered refl in
        let released : pending (Key.ReleaseOf n) t ≡ false = (kept.releases c).blocks n ∙ rw none refl in
        let probe = served.probes c n (rw answered refl) in
        report-legal config.profile n _ r _
        _ t about.reports about.releases about.block about.param_is none missing released probe
        (managed.recorded_is c n) (cc (same_report-is r (report_at (cap_waited b.service) (b.pair c).recorded)
        (seen_cap (λ k. same_report r (report_at k (b.pair c).recorded)) b.service c
        (report_fits r (b.pair c) (view b.service c) ((inv.blocks n).phases c) answered))))

-- ---- a Release

pruned : (r : Prune) (p : Perm) → same_perm (prune_left r) p ≡ true → prunes_from (prune_of (prune_code r)) p ≡ true
pruned r p e = grind arith

-- a Release that is first has no ProbeAck of its block behind it
pub unanswered : (caching : ℕ → Bool) (c n : ℕ) (rest : List Packet) (s : State (List ℕ)) → IsInvariant caching s
    → (s.link c).c ≡ packet Release n ∷ rest → is_answered ((s.block n).pair c).probing ≡ false
unfolding count
unanswered caching c n rest s inv first =
    let none : (b : Bool) → one_if b ≡ 0 → b ≡ false =
    elim [ true ↦ λ e. absurd (omega (arith, e)) | false ↦ λ e. refl ] in
    let behind = ordered-first n _ rest _ first (rw (same_number n) refl) (inv.ordered c n) in
    let all : count ProbeAck n (packet Release n ∷ rest) ≡ one_if (is_answered ((s.block n).pair c).probing) =
    rw first at (inv.transfers c ProbeAck refl n) in
    let release : one_if (is ProbeAck n (packet Release n)) ≡ 0 = refl in
    none (is_answered ((s.block n).pair c).probing) (omega (arith, all, behind, release))

pub release-order : {w : ℕ} {config : Config} {caching : ℕ → Bool} {request : ℕ → MessageA w} (c : ℕ) {n : ℕ} (k : ℕ)
    (r : Prune) (rest : List Packet) {truth : List ℕ} {carries : Bool} {m : MessageC w} {s : State (List ℕ)} {e : End w}
    → IsInvariant caching s → ManagerRelation request s e.trace → IsKept config e
    → (s.link c).c ≡ packet Release n ∷ rest → ((s.block n).pair c).letting ≡ ReleaseSent r
    → IsAbout false n (prune_code r) carries truth m → unfinished Channel.C (on_link c e.trace) ≡ begun (Message.C m) k
    → broken_in_order config.profile (Beat.C (c_beat_of m k)) (on_link c e.trace) ≡ None
unfolding broken_order
release-order {w} {config} {caching} c {n} k r rest {m} {s} {e} inv managed kept tokens releasing about
    before = by_place config.profile m k t before first
  where
    t : History w
    t = on_link c e.trace

    b : Block (List ℕ)
    b = s.block n

    not_own : (x : View) → view b.service c ≡ x → is_own x ≡ false
    not_own Own f =
        let alone = own_alone (b.pair c) _ ((inv.blocks n).phases c) f in
        let held_back : is_unreleased (b.pair c).letting ≡ true =
        and_left (is_unreleased (b.pair c).letting) _ (and_right (is_unprobed (b.pair c).probing) _ alone) in
        absurd (let no : false ≡ true = rw releasing at held_back in cc)
    not_own x f = refl

    fits : same_perm (prune_left r) (b.pair c).recorded ≡ true
    fits = release_begins r (b.pair c) (view b.service c) ((inv.blocks n).phases c) releasing
        (unanswered caching c n rest s inv tokens)

    first : unfinished Channel.C t ≡ [] → NextOrder config.profile m 0 t
    first none =
        let used : pending (Key.ReleaseSource m.source) t ≡ false = (kept.releases c).sources m.source ∙ rw none refl in
        let releases : pending (Key.ReleaseOf n) t ≡ false = (kept.releases c).blocks n ∙ rw none refl in
        let legal : prunes_from (prune_of (prune_code r)) (held n t) ≡ true =
        rw (managed.recorded_is c n) (pruned r (b.pair c).recorded fits) in
        rw (none, about.releases, about.block, about.param_is)
        (rw (used, managed.acquires c n ∙ not_own (view b.service c) refl, releases, legal) refl)

-- ---- a GrantAck

ack_rule : (pends coming : Bool) → pends ≡ true → coming ≡ false → first_if (not pends || coming) H8 None ≡ None
ack_rule pends coming e f = rw (e, f) refl

pub ack-order : {w : ℕ} {config : Config} {request : ℕ → MessageA w} (c n : ℕ) (x : BeatE) {s : State (List ℕ)}
    {e : End w} → AreNamed s
    → ServedSourceRelation request s e.trace → IsKept config e → (s.block n).service ≡ GrantTaken c
    → x.sink ≡ (s.block n).tracker → (pending (Key.GrantSink x.sink) (on_link c e.trace) ≡ true)
    × (broken_in_order {w = w} config.profile (Beat.E x) (on_link c e.trace) ≡ None)
unfolding broken_order
ack-order {w} c n x {s} {e} named served kept taken_is sink =
    let awaits : (b : Bool) → b ≡ true → (is_granting (if b then Acknowledging else GrantedOther) || is_acknowledging
    (if b then Acknowledging else GrantedOther)) ≡ true = λ b f. rw f refl in
    let pends : pending (Key.GrantSink x.sink) (on_link c e.trace) ≡ true = served.sinks c x.sink
    ∙ ap (λ i. is_granted c (s.tracked i) s) sink
    ∙ ap (λ o. is_granted c o s) (tracker-of n named (rw taken_is refl))
    ∙ rw taken_is (awaits (c == c) (same_number c)) in (
      pends,
      rw ((whole-e {w = w} x (on_link c e.trace)).0, (kept.whole c).1)
          (ack_rule (pending (Key.GrantSink x.sink) (on_link c e.trace)) false pends refl),
    )
