-- A message of channel A, B, C or E that is delivered breaks no rule of order after what was delivered before it.
-- A beat of channel B or C that is delivered breaks no rule after what was delivered before it.
-- A beat of channel A that needn't wait breaks no rule after what was delivered before it.
use Rattle.std.proofs.Common.{◌≡◌, ℕ, zero, suc, Bool, true, false, ◌&&◌, ◌||◌, List, [], ◌∷◌, Option, Some, None, refl}
use Rattle.std.proofs.Common.{sym, ◌∙◌, ap, subst, arith, length, map, nat_le}
use Rattle.tl_coherence.proofs
use proofs.Imports.{and-false, or_parts, Beat, BeatA, BeatB, BeatC, BeatE, Channel, first_if, IsWidth, Message}
use proofs.Imports.{MessageA, MessageC, a_beat_of, beat_of, beats_of, begun, History, channel_in, channel_of}
use proofs.Imports.{unfinished, Config, Key, Level, Cap, Prune, Report, Profile, prune_code, prune_left, prune_of}
use proofs.Imports.{report_at, report_code, later-legal, is_last, broken_in_order, comes_in_grant, grows_from}
use proofs.Imports.{prunes_from, same_perm, broken_after, broken_order, on_link, block_at, ends, is_acquire, is_probe}
use proofs.Imports.{is_probe_ack, is_release, held, pending, illegal, same_block, level_of, must_wait, is_in_service}
use proofs.Imports.{services, Acquire, Kind, Packet, Probe, ProbeAck, Release, Request, Acknowledging, AcquireOpen}
use proofs.Imports.{AcquirePhase, ClientBlock, Granting, Idle, NoAcquire, NoRelease, ProbeAnswered, ProbePhase}
use proofs.Imports.{ProbeSent, ReleaseAcked, ReleasePhase, ReleaseSent, View, is_unprobed, is_unreleased, same_report}
use proofs.Imports.{ok, Acquires, Asked, Block, Free, State, is_on, packet, view, is_acked, is_acknowledging}
use proofs.Imports.{is_answered, is_granting, is_sent, is_wanting, comes_granting, MonitorRelation, is_release_pending}
use proofs.Imports.{AccessMessages, message_of, message_of_kind, probe_beat, prune_told, report_told, block_message}
use proofs.Imports.{MonitorRelations, SimulationRelation, is_caching, cap_waited, flow, Log, System}
use Rattle.tl_params.specs.declared.rule.Rule.TheVariants.{H9}
use Rattle.tl_client.proofs.messages.InOrder.{prune_again}
use proofs.manager.{RequestsTaken.acquire_wanted, Reporting.report-about, Reporting.release-about}
use proofs.manager.ManagerTakes.{report-legal, acquire-legal, by-first_c, same_report-is, seen_cap, unanswered}
use proofs.manager.Admitted.{first_three, grows, unserved-free}
use proofs.queues.{Carried.IsNext, Phases.and_left, Phases.and_right, Codes.acquires-so, Tokens.same_number}
use proofs.queues.Facts.{acquire_fits, answered_other, granting_alone, is_other, release_begins, asked_alone}
use proofs.queues.Facts.{acknowledging_quiet, release_alone, report_first, report_fits}
use proofs.queues.FirstToken.{IsFirst, first-token}
use proofs.deliveries.FirstRequest.{ends-burst}
use proofs.protocol.BothParts.{kept-is, is_of-is, first-release, first-report, first-shown}
use proofs.protocol.Room.{IsAsked, asked-first, IsWanted, wanted-first, acquisition_beats}
use proofs.client.{ClientEnd.sound-beat, ProbeDelivered.not_coming}

-- who isn't granted the block holds what is recorded, as far as was delivered
held_as : {w : ℕ} {X : Type 0} {c : ℕ} (n : ℕ) {asked : ℕ → Option (BeatA w)} {rest : Channel → List (Beat w)}
    {s : State X} {t : History w} → MonitorRelation asked rest c s t → is_granting (view (s.block n).service c) ≡ false
    → held n t ≡ ((s.block n).pair c).recorded
held_as n flowed none = cc (flowed.held_is n, none)

-- ---- channel A

pub request-flows : {w : ℕ} {X : Type 0} (p : Profile) {c : ℕ} (x : BeatA w) {asked : ℕ → Option (BeatA w)}
    {rest : Channel → List (Beat w)} {s : State X} {t : History w} → MonitorRelation asked rest c s t
    → rest Channel.A ≡ [] → is_acquire x.opcode ≡ false → s.uses c x.source ≡ Asked → broken_in_order p (Beat.A x) t
    ≡ None
unfolding broken_order
request-flows {w} p x {t} flowed whole plain used =
    let free : pending (Key.RequestSource x.source) t ≡ false = cc (flowed.requests x.source, used, whole) in
    rw (flowed.rest_is Channel.A ∙ whole, plain, free) refl

pub acquire-flows : {w : ℕ} {X : Type 0} (p : Profile) {c : ℕ} (n : ℕ) (x : BeatA w) {asked : ℕ → Option (BeatA w)}
    {rest : Channel → List (Beat w)} {s : State X} {t : History w} → MonitorRelation asked rest c s t
    → rest Channel.A ≡ [] → is_acquire x.opcode ≡ true → block_at x.address ≡ n → s.uses c x.source ≡ Acquires n
    → view (s.block n).service c ≡ Idle → ((s.block n).pair c).letting ≡ NoRelease
    → grows_from x.param ((s.block n).pair c).recorded ≡ true → broken_in_order p (Beat.A x) t ≡ None
acquire-flows {w} p {c} n x {asked} {rest} {s} {t} flowed whole acquires block used idle kept grows =
    cc (acquire-legal p n ((s.block n).pair c).recorded x t acquires block (flowed.rest_is Channel.A ∙ whole)
    (cc (flowed.requests x.source)) (cc (flowed.acquires n, and-false (is_wanting ((s.block n).pair c).acquiring)))
    (flowed.releases n ∙ ap (is_release_pending ((s.block n).release_source c) (rest Channel.C)) kept)
    (held_as n flowed (ap is_granting idle)) grows)

-- ---- channel B

unprobed : (probes a b : Bool) → a ≡ false → b ≡ false → first_if (probes && (a || b)) H9 None ≡ None
unprobed probes a b e f = grind arith

pub probe-flows : {w : ℕ} {X : Type 0} (p : Profile) {c : ℕ} (n : ℕ) (x : BeatB w) {asked : ℕ → Option (BeatA w)}
    {rest : Channel → List (Beat w)} {s : State X} {t : History w} → MonitorRelation asked rest c s t
    → rest Channel.B ≡ [] → block_at x.address ≡ n → is_answered ((s.block n).pair c).probing ≡ false
    → is_acknowledging (view (s.block n).service c) ≡ false → comes_granting n asked (rest Channel.D) ≡ false
    → broken_in_order p (Beat.B x) t ≡ None
unfolding broken_order
probe-flows {w} p n x {t} flowed whole block unanswered open_ none_comes =
    rw (flowed.rest_is Channel.B ∙ whole, block) (unprobed (is_probe x.opcode) (pending (Key.ProbeOf n) t)
    (pending (Key.GrantAckOf n) t) (flowed.probes n ∙ unanswered) (cc (flowed.grants n, open_, none_comes)))

-- ---- channel C

unlet : {w : ℕ} (source : ℕ) (rest : List (Beat w)) (l : ReleasePhase) → rest ≡ [] → is_acked l ≡ false
    → is_release_pending source rest l ≡ false
unlet source rest l e f = grind arith

pub report-flows : {w : ℕ} {X : Type 0} (p : Profile) {c : ℕ} (n : ℕ) (k : Cap) (r : Report) (x : BeatC w) {asked : ℕ
    → Option (BeatA w)} {rest : Channel → List (Beat w)} {s : State X} {t : History w}
    → MonitorRelation asked rest c s t → rest Channel.C ≡ [] → is_probe_ack x.opcode ≡ true
    → is_release x.opcode ≡ false → block_at x.address ≡ n → x.param ≡ report_code r → ((s.block n).pair c).probing
    ≡ ProbeAnswered r → cap_waited (s.block n).service ≡ k → is_acked ((s.block n).pair c).letting ≡ false
    → is_granting (view (s.block n).service c) ≡ false → r ≡ report_at k ((s.block n).pair c).recorded
    → broken_in_order p (Beat.C x) t ≡ None
report-flows p {c} n k r x {s} {t} flowed whole acks other block param answered waited unacked ungranted told =
    let answers : is_answered ((s.block n).pair c).probing ≡ true = ap is_answered answered in
    report-legal p n k r _ x t acks other block param (flowed.rest_is Channel.C ∙ whole)
    (flowed.probes n ∙ answers) (flowed.releases n ∙ unlet ((s.block n).release_source c) _ _ whole unacked)
    (flowed.probed n answers ∙ ap (λ j. Some (probe_beat n j)) waited) (held_as n flowed ungranted) told

pub release-flows : {w : ℕ} {X : Type 0} (p : Profile) {c : ℕ} (n : ℕ) (r : Prune) (x : BeatC w) {asked : ℕ
    → Option (BeatA w)} {rest : Channel → List (Beat w)} {s : State X} {t : History w}
    → MonitorRelation asked rest c s t → rest Channel.C ≡ [] → is_release x.opcode ≡ true → block_at x.address ≡ n
    → x.param ≡ prune_code r → s.lets c x.source ≡ Some n → ((s.block n).pair c).letting ≡ ReleaseSent r
    → ((s.block n).pair c).acquiring ≡ NoAcquire → is_granting (view (s.block n).service c) ≡ false
    → same_perm (prune_left r) ((s.block n).pair c).recorded ≡ true → broken_in_order p (Beat.C x) t ≡ None
unfolding broken_order
release-flows {w} p {c} n r x {asked} {rest} {s} {t} flowed whole is block param used lets calm ungranted left =
    let none : unfinished Channel.C t ≡ [] = flowed.rest_is Channel.C ∙ whole in
    let free : pending (Key.ReleaseSource x.source) t ≡ false = cc (
      flowed.release_sources x.source,
      used,
      unlet x.source _ _ whole (ap is_acked lets),
    ) in
    let once : pending (Key.AcquireOf n) t ≡ false = cc (flowed.acquires n, calm) in
    let again : pending (Key.ReleaseOf n) t ≡ false = flowed.releases n ∙ unlet ((s.block n).release_source c)
    _ _ whole (ap is_acked lets) in
    let prunes : prunes_from (prune_of x.param) (held n t) ≡ true =
    rw (param, prune_again r, held_as n flowed ungranted) left in
    rw (none, is, block) (rw (free, once, again, prunes) refl)

-- ---- channel E

pub grant_ack-flows : {w : ℕ} {X : Type 0} (p : Profile) {c : ℕ} (x : BeatE) {asked : ℕ → Option (BeatA w)}
    {rest : Channel → List (Beat w)} {s : State X} {t : History w} → MonitorRelation asked rest c s t
    → rest Channel.E ≡ [] → pending (Key.GrantSink x.sink) t ≡ true → comes_in_grant x.sink (rest Channel.D) ≡ false → broken_in_order p (Beat.E x) t ≡ None
unfolding broken_order
grant_ack-flows {w} p x {t} flowed whole sunk none_comes =
    let apart : comes_in_grant x.sink (unfinished Channel.D t) ≡ false = cc (flowed.rest_is Channel.D, none_comes) in
    rw (flowed.rest_is Channel.E ∙ whole, sunk, apart) refl

-- ---- each beat of a message

-- a message whose first beat breaks no rule of order breaks none, as its beats are lawful
pub beat-flows : {w : ℕ} (l : Level) (p : Profile) (m : Message w) (i : ℕ) (t : History w)
    → illegal l (channel_of (beat_of m i)) (beat_of m i) ≡ None → unfinished (channel_in m) t ≡ begun m i
    → (unfinished (channel_in m) t ≡ [] → broken_in_order p (beat_of m 0) t ≡ None)
    → broken_after l p (beat_of m i) t ≡ None
unfolding broken_after
beat-flows l p m zero t lawful rest first = rw lawful (first rest)
beat-flows l p m (suc i) t lawful rest first = rw lawful (later-legal p m i t rest)

-- the next beat of a message whose first breaks no rule of order
pub next-flows : {w : ℕ} (l : Level) (p : Profile) {m : Message w} {x : Beat w} {rest : List (Beat w)}
    {ms : List (Message w)} {queue : List (Beat w)}
    (t : History w) → illegal l (channel_of x) x ≡ None → IsNext x rest m ms queue → unfinished (channel_in m) t ≡ rest
    → (rest ≡ [] → broken_in_order p (beat_of m 0) t ≡ None) → broken_after l p x t ≡ None
next-flows {w} l p {m} t lawful next is first =
    cc (next.beat_is, beat-flows l p m next.k t (cc next.beat_is) (is ∙ next.rest_is) (λ e. first (sym is ∙ e)))

pub lawful-beat : {w : ℕ} {config : Config} {log : Log w} {mail : AccessMessages w} {request : ℕ → MessageA w}
    {s : State (List ℕ)} {sys : System w} (c : ℕ)
    (ch : Channel) (l : Level) (x : Beat w) (queue : List (Beat w)) → SimulationRelation config log mail request s sys
    → sys.channels c ch ≡ x ∷ queue → level_of config c ≡ Some l → illegal l (channel_of x) x ≡ None
lawful-beat c ch l x queue is beats level = cc (level, (sound-beat c ch x queue is beats).lawful)

-- ---- channel C

-- who sees another's service isn't granted the block
pub other_ungranted : (v : View) → is_other v ≡ true → is_granting v ≡ false
other_ungranted v e = grind arith

report-lawful : {w : ℕ} {config : Config} {log : Log w} {mail : AccessMessages w} {request : ℕ → MessageA w}
    {s : State (List ℕ)} {sys : System w} (c n : ℕ) (toks : List Packet) (l : Level) {x : Beat w}
    {ms : List (Message w)} {queue : List (Beat w)} → IsWidth w → SimulationRelation config log mail request s sys
    → MonitorRelations log mail s sys → illegal l (channel_of x) x ≡ None → (s.link c).c ≡ packet ProbeAck n ∷ toks
    → IsNext x (unfinished Channel.C (on_link c sys.manager.trace)) (block_message ProbeAck c n (s.block n)) ms queue
    → broken_after l config.profile x (flow c log) ≡ None
unfolding block_message
report-lawful {w} {config} {log} {mail} {s} {sys} c n toks l {x} {ms} {queue} width is flowed lawful tokens next =
    let rest : List (Beat w) = unfinished Channel.C (on_link c sys.manager.trace) in
    let about = report-about r n b.truth width (is.sized n).truth in
    let m : MessageC w = about.0 in
    let told : r ≡ report_at (cap_waited b.service) (b.pair c).recorded =
    cc (same_report-is r (report_at (cap_waited b.service) (b.pair c).recorded) (seen_cap (λ k. same_report r
    (report_at k (b.pair c).recorded)) b.service c (report_fits r (b.pair c) (view b.service c) ok_is answered))) in
    next-flows l config.profile _ lawful (subst (λ i. IsNext x rest i ms queue) about.1 next)
    ((flowed c).rest_is Channel.C) (λ none. report-flows config.profile n _ r _ (flowed c) none about.2.reports
    about.2.releases about.2.block about.2.param_is answered refl (unacked (b.pair c).letting refl)
    (other_ungranted (view b.service c) (answered_other r (b.pair c) (view b.service c) ok_is answered)) told)
  where
    b : Block (List ℕ)
    b = s.block n

    r : Report
    r = report_told (b.pair c).probing

    ok_is : ok (b.pair c) (view b.service c) ≡ true
    ok_is = (is.invariant.blocks n).phases c

    answered : (b.pair c).probing ≡ ProbeAnswered r
    answered = first-report is.invariant tokens

    unacked : (y : ReleasePhase) → (b.pair c).letting ≡ y → is_acked y ≡ false
    unacked ReleaseAcked f = absurd (let first = report_first r _ _ ok_is answered in
        let no : false ≡ true = rw f at first in cc)
    unacked y f = refl

release-lawful : {w : ℕ} {config : Config} {log : Log w} {mail : AccessMessages w} {request : ℕ → MessageA w}
    {s : State (List ℕ)} {sys : System w} (c n : ℕ) (toks : List Packet) (l : Level) {x : Beat w}
    {ms : List (Message w)} {queue : List (Beat w)} → IsWidth w → SimulationRelation config log mail request s sys
    → MonitorRelations log mail s sys → illegal l (channel_of x) x ≡ None → (s.link c).c ≡ packet Release n ∷ toks
    → IsNext x (unfinished Channel.C (on_link c sys.manager.trace)) (block_message Release c n (s.block n)) ms queue
    → broken_after l config.profile x (flow c log) ≡ None
unfolding block_message
release-lawful {w} {config} {log} {mail} {s} {sys} c n toks l {x} {ms} {queue} width is flowed lawful tokens next =
    let rest : List (Beat w) = unfinished Channel.C (on_link c sys.manager.trace) in
    let about = release-about r (b.release_source c) n b.truth width (is.sized n).truth in
    let used = is_of-is n _ (is.invariant.named.releases c (b.release_source c) n
    ∙ rw (releasing, same_number (b.release_source c)) refl) in
    next-flows l config.profile _ lawful (subst (λ i. IsNext x rest i ms queue) about.1 next)
    ((flowed c).rest_is Channel.C) (λ none. release-flows config.profile n r _ (flowed c) none about.2.releases
    about.2.block about.2.param_is (ap (s.lets c) about.3 ∙ used) releasing (calm (b.pair c).acquiring refl)
    (ungranted (view b.service c) refl) (release_begins r (b.pair c) (view b.service c) ok_is releasing
    (unanswered (is_caching config) c n toks s is.invariant tokens)))
  where
    b : Block (List ℕ)
    b = s.block n

    r : Prune
    r = prune_told (b.pair c).letting

    ok_is : ok (b.pair c) (view b.service c) ≡ true
    ok_is = (is.invariant.blocks n).phases c

    releasing : (b.pair c).letting ≡ ReleaseSent r
    releasing = first-release is.invariant tokens

    calm : (y : AcquirePhase) → (b.pair c).acquiring ≡ y → y ≡ NoAcquire
    calm NoAcquire f = refl
    calm (AcquireOpen whole g) f = absurd (let alone = release_alone _ _ ok_is in
        let no : false ≡ true = rw (releasing, f) at alone in cc)

    ungranted : (v : View) → view b.service c ≡ v → is_granting v ≡ false
    ungranted (Granting d k) f =
        let held_back : is_unreleased (b.pair c).letting ≡ true = and_left (is_unreleased (b.pair c).letting) _
        (and_right (is_unprobed (b.pair c).probing) _ (granting_alone d k (b.pair c) (view b.service c) ok_is f)) in
        absurd (let no : false ≡ true = rw releasing at held_back in cc)
    ungranted v f = refl

pub flows-c : {w : ℕ} {config : Config} {log : Log w} {mail : AccessMessages w} {request : ℕ → MessageA w}
    {s : State (List ℕ)} {sys : System w} (c : ℕ) (l : Level) (x : Beat w) (queue : List (Beat w)) → IsWidth w
    → SimulationRelation config log mail request s sys → MonitorRelations log mail s sys
    → sys.channels c Channel.C ≡ x ∷ queue → level_of config c ≡ Some l → broken_after l config.profile x (flow c log)
    ≡ None
flows-c {w} {config} {log} {mail} {request} {s} {sys} c l x queue width is flowed beats level =
    let lawful = lawful-beat c Channel.C l x queue is beats level in
    cc (by-first_c (λ i. broken_after l config.profile x (flow c log) ≡ None) c mail s sys x queue
    (first-token (is_caching config) Channel.C c mail s sys x queue width is.invariant is.carried beats)
    (λ n rest tokens next. report-lawful c n rest l width is flowed lawful tokens next)
    (λ n rest tokens next. release-lawful c n rest l width is flowed lawful tokens next))

-- ---- channel B

unanswered_yet : (p : ProbePhase) → is_sent p ≡ true → is_answered p ≡ false
unanswered_yet p e = grind arith

-- a Probe on its way hasn't been answered, and is of another's service
probe-lawful : {w : ℕ} {config : Config} {log : Log w} {mail : AccessMessages w} {request : ℕ → MessageA w}
    {s : State (List ℕ)} {sys : System w} (c n : ℕ) (toks : List Packet) (l : Level) {x : Beat w}
    {ms : List (Message w)} {queue : List (Beat w)} → SimulationRelation config log mail request s sys
    → MonitorRelations log mail s sys → illegal l (channel_of x) x ≡ None → (s.link c).b ≡ packet Probe n ∷ toks
    → is_acknowledging (view (s.block n).service c) ≡ false → IsNext x (unfinished Channel.B (sys.clients c).past)
    (block_message Probe c n (s.block n)) ms queue → broken_after l config.profile x (flow c log) ≡ None
unfolding block_message
probe-lawful {config} {s} c n toks l is flowed lawful tokens unacknowledged next =
    let b : Block (List ℕ) = s.block n in
    let shows : is_sent (b.pair c).probing ≡ true = first-shown is.invariant c Probe refl tokens in
    next-flows l config.profile _ lawful next ((flowed c).rest_is Channel.B) (λ none. probe-flows config.profile n _
    (flowed c) none (same_block n) (unanswered_yet (b.pair c).probing shows) unacknowledged (not_coming c n is shows))

pub flows-b : {w : ℕ} {config : Config} {log : Log w} {mail : AccessMessages w} {request : ℕ → MessageA w}
    {s : State (List ℕ)} {sys : System w} (c : ℕ) (l : Level) (x : Beat w) (queue : List (Beat w)) → IsWidth w
    → SimulationRelation config log mail request s sys → MonitorRelations log mail s sys
    → sys.channels c Channel.B ≡ x ∷ queue → level_of config c ≡ Some l → broken_after l config.profile x (flow c log)
    ≡ None
flows-b {w} {config} {log} {mail} {request} {s} {sys} c l x queue width is flowed beats level =
    go first.kind first.number first.tokens first.own first.next
  where
    first : IsFirst Channel.B c mail s sys x queue
    first = first-token (is_caching config) Channel.B c mail s sys x queue width is.invariant is.carried beats

    unacknowledged : (n : ℕ) → is_sent ((s.block n).pair c).probing ≡ true → (v : View) → view (s.block n).service c ≡ v
        → is_acknowledging v ≡ false
    unacknowledged n shows Acknowledging f =
        let not_both : (p : ProbePhase) → is_sent p ≡ true → is_unprobed p ≡ true → ⊥ =
        elim [ ProbeSent k ↦ λ g i. cc | p ↦ λ g i. cc ] in
        let quiet = acknowledging_quiet _ _
        ((is.invariant.blocks n).phases c) f in absurd (not_both ((s.block n).pair c).probing shows quiet)
    unacknowledged n shows v f = refl

    go : (k : Kind) (i : ℕ) → (s.link c).b ≡ packet k i ∷ first.rest → is_on Channel.B k ≡ true
        → IsNext x (unfinished Channel.B (sys.clients c).past) (message_of_kind k mail s c i)
        (map (message_of mail s c) first.rest) queue → broken_after l config.profile x (flow c log) ≡ None
    go Probe i tokens own next =
        cc (probe-lawful c i first.rest l is flowed (lawful-beat c Channel.B l x queue is beats level) tokens
        (unacknowledged i (first-shown is.invariant c Probe refl tokens) (view (s.block i).service c) refl) next)
    go k i tokens own next = absurd cc

access-lawful : {w : ℕ} {config : Config} {log : Log w} {mail : AccessMessages w} {request : ℕ → MessageA w}
    {s : State (List ℕ)} {sys : System w} {c source : ℕ} (l : Level) {x : Beat w} {ms : List (Message w)}
    {queue : List (Beat w)} → SimulationRelation config log mail request s sys → MonitorRelations log mail s sys
    → illegal l (channel_of x) x ≡ None → IsAsked config c source mail s
    → IsNext x (unfinished Channel.A (on_link c sys.manager.trace)) (mail.request c source) ms queue
    → broken_after l config.profile x (flow c log) ≡ None
access-lawful {w} {config} {s} {sys} {c} l {x} {ms} {queue} is flowed lawful asked next =
    let rest : List (Beat w) = unfinished Channel.A (on_link c sys.manager.trace) in
    next-flows l config.profile _ lawful (subst (λ i. IsNext x rest i ms queue) asked.is_it next)
    ((flowed c).rest_is Channel.A) (λ none. request-flows config.profile _ (flowed c) none asked.access
    (ap (s.uses c) asked.source_is ∙ asked.used))

acquire-lawful : {w : ℕ} {config : Config} {log : Log w} {mail : AccessMessages w} {request : ℕ → MessageA w}
    {s : State (List ℕ)} {sys : System w} {c n : ℕ} (l : Level) {x : Beat w} {ms : List (Message w)}
    {queue : List (Beat w)} → SimulationRelation config log mail request s sys → MonitorRelations log mail s sys
    → illegal l (channel_of x) x ≡ None → (wanted : IsWanted w c n s)
    → IsNext x (unfinished Channel.A (on_link c sys.manager.trace)) (Message.A (acquire_wanted c n s wanted)) ms queue
    → must_wait config (record { 0 = c }) x sys.manager.trace ≡ false → broken_after l config.profile x (flow c log)
    ≡ None
acquire-lawful {w} {config} {log} {s} {sys} {c} {n} l is flowed lawful wanted next moves =
    let p : ClientBlock = (s.block n).pair c in
    let well : ok p (view (s.block n).service c) ≡ true = (is.invariant.blocks n).phases c in
    let idle : view (s.block n).service c ≡ Idle = rw free refl in
    let settled = first_three (is_unprobed p.probing) (is_unreleased p.letting) (same_perm p.recorded p.held) _
    (asked_alone wanted.whole wanted.grow p (view (s.block n).service c) well idle wanted.wants) in
    next-flows l config.profile
    _ lawful next ((flowed c).rest_is Channel.A)
    (λ none. acquire-flows config.profile n _ (flowed c) none (acquires-so wanted.whole) (same_block n)
    wanted.used idle (kept-is p.letting (and_right (is_unprobed p.probing) (is_unreleased p.letting)
    (and_left (is_unprobed p.probing && is_unreleased p.letting) (same_perm p.recorded p.held) settled)))
    (grows wanted.whole p.recorded p.held wanted.grow
    (acquire_fits wanted.whole wanted.grow p (view (s.block n).service c) well wanted.wants)
    (and_right (is_unprobed p.probing && is_unreleased p.letting) (same_perm p.recorded p.held) settled)))
  where
    m : MessageA w
    m = acquire_wanted c n s wanted

    free : (s.block n).service ≡ Free
    free =
        let moves_so : must_wait config (record { 0 = c }) (Beat.A (a_beat_of m next.k)) sys.manager.trace ≡ false =
        rw next.beat_is at moves in
        let ended : ends (Beat.A (a_beat_of m next.k)) (on_link c sys.manager.trace) ≡ true =
        ends-burst c next.k m sys.manager next.rest_is ∙ is_last next.k (beats_of (Message.A m))
        (omega (arith, next.within, acquisition_beats w wanted.whole wanted.grow ((s.block n).source c) n)) in
        let free_at = unserved-free _ is.managed
        (or_parts (is_in_service (block_at m.address) (services sys.manager.trace))
        (nat_le config.trackers (length (services sys.manager.trace))) (rw ended at moves_so)).0 in
        ap (λ i. (s.block i).service) (sym (same_block n)) ∙ free_at

pub flows-a : {w : ℕ} {config : Config} {log : Log w} {mail : AccessMessages w} {request : ℕ → MessageA w}
    {s : State (List ℕ)} {sys : System w} (c : ℕ) (l : Level) (x : Beat w) (queue : List (Beat w)) → IsWidth w
    → SimulationRelation config log mail request s sys → MonitorRelations log mail s sys
    → sys.channels c Channel.A ≡ x ∷ queue → level_of config c ≡ Some l
    → must_wait config (record { 0 = c }) x sys.manager.trace ≡ false → broken_after l config.profile x (flow c log)
    ≡ None
flows-a {w} {config} {log} {mail} {request} {s} {sys} c l x queue width is flowed beats level moves =
    go first.kind first.number first.tokens first.own first.next
  where
    rest : List (Beat w)
    rest = unfinished Channel.A (on_link c sys.manager.trace)

    first : IsFirst Channel.A c mail s sys x queue
    first = first-token (is_caching config) Channel.A c mail s sys x queue width is.invariant is.carried beats

    lawful : illegal l (channel_of x) x ≡ None
    lawful = lawful-beat c Channel.A l x queue is beats level

    go : (k : Kind) (i : ℕ) → (s.link c).a ≡ packet k i ∷ first.rest → is_on Channel.A k ≡ true
        → IsNext x rest (message_of_kind k mail s c i) (map (message_of mail s c) first.rest) queue
        → broken_after l config.profile x (flow c log) ≡ None
    go Request i tokens own next = access-lawful l is flowed lawful (asked-first c i first.rest is tokens) next
    go Acquire i tokens own next =
        let wanted = wanted-first c i _ is tokens in
        acquire-lawful l is flowed lawful wanted (subst (λ j. IsNext x rest j (map (message_of mail s c) first.rest)
        queue) wanted.renders next) moves
    go k i tokens own next = absurd cc
