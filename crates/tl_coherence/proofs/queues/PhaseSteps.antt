-- Each event leads from a phase that is well to one that is well: by computation over all phases.
use Rattle.std.proofs.Common.{◌≡◌, refl, Bool, true, false, not, ◌&&◌, ◌||◌, arith}
use Rattle.tl_coherence.proofs
use proofs.Imports.{Cap, Grow, Prune, Report, Perm, prune_left, same_perm, ClientBlock, View, Idle, Own, Other}
use proofs.Imports.{Granting, Acknowledging, GrantedOther, ProbePhase, NoProbe, ProbeAnswered, ReleasePhase}
use proofs.Imports.{ReleaseSent, NoAcquire, AcquireOpen, ok, same_cap, ProbeSent, NoRelease, ReleaseAcked, AcquirePhase}
use proofs.Imports.{grow_fits, cap_fits, is_unacquired, is_unreleased, after_acquire, after_release, after_served}
use proofs.Imports.{is_granted_data, after_grant_sent, after_probe, after_report, after_release_taken}
use proofs.Imports.{after_release_ack, after_grant, is_answered}
use proofs.queues.Phases.{where_true, where_is, and_left, and_right, each_bool, each_grow, each_cap, each_prune}
use proofs.queues.Phases.{each_phase, of_bool, of_grow, of_cap, of_prune, of_phase}

-- ---- a test of one case of a part

abbrev pub on_idle : View → Bool → Bool
on_idle Idle b = b
on_idle _ b = true

abbrev pub on_own : View → Bool → Bool
on_own Own b = b
on_own _ b = true

abbrev pub on_other : View → (Cap → Bool) → Bool
on_other (Other k) f = f k
on_other _ f = true

abbrev pub on_granting : View → (Bool → Cap → Bool) → Bool
on_granting (Granting d k) f = f d k
on_granting _ f = true

abbrev pub on_acknowledging : View → Bool → Bool
on_acknowledging Acknowledging b = b
on_acknowledging _ b = true

abbrev pub on_granted_other : View → Bool → Bool
on_granted_other GrantedOther b = b
on_granted_other _ b = true

abbrev pub on_quiet : ProbePhase → Bool → Bool
on_quiet NoProbe b = b
on_quiet _ b = true

abbrev pub on_sent : ProbePhase → (Cap → Bool) → Bool
on_sent (ProbeSent k) f = f k
on_sent _ f = true

abbrev pub on_answered : ProbePhase → (Report → Bool) → Bool
on_answered (ProbeAnswered r) f = f r
on_answered _ f = true

abbrev pub on_releasing : ReleasePhase → (Prune → Bool) → Bool
on_releasing (ReleaseSent r) f = f r
on_releasing _ f = true

abbrev pub on_acked : ReleasePhase → Bool → Bool
on_acked ReleaseAcked b = b
on_acked _ b = true

abbrev pub on_wants : AcquirePhase → (Bool → Grow → Bool) → Bool
on_wants (AcquireOpen whole g) f = f whole g
on_wants _ f = true

pub idle_is : (v : View) (b : Bool) → v ≡ Idle → on_idle v b ≡ true → b ≡ true
idle_is v b e h = rw e at h

pub own_is : (v : View) (b : Bool) → v ≡ Own → on_own v b ≡ true → b ≡ true
own_is v b e h = rw e at h

pub other_is : (v : View) (f : Cap → Bool) (k : Cap) → v ≡ Other k → on_other v f ≡ true → f k ≡ true
other_is v f k e h = rw e at h

pub granting_is : (v : View) (f : Bool → Cap → Bool) (d : Bool) (k : Cap) → v ≡ Granting d k → on_granting v f ≡ true
    → f d k ≡ true
granting_is v f d k e h = rw e at h

pub acknowledging_is : (v : View) (b : Bool) → v ≡ Acknowledging → on_acknowledging v b ≡ true → b ≡ true
acknowledging_is v b e h = rw e at h

pub quiet_is : (x : ProbePhase) (b : Bool) → x ≡ NoProbe → on_quiet x b ≡ true → b ≡ true
quiet_is x b e h = rw e at h

pub answered_is : (x : ProbePhase) (f : Report → Bool) (r : Report) → x ≡ ProbeAnswered r → on_answered x f ≡ true
    → f r ≡ true
answered_is x f r e h = rw e at h

pub releasing_is : (x : ReleasePhase) (f : Prune → Bool) (r : Prune) → x ≡ ReleaseSent r → on_releasing x f ≡ true
    → f r ≡ true
releasing_is x f r e h = rw e at h

pub wants_is : (x : AcquirePhase) (f : Bool → Grow → Bool) (whole : Bool) (g : Grow) → x ≡ AcquireOpen whole g
    → on_wants x f ≡ true → f whole g ≡ true
wants_is x f whole g e h = rw e at h

-- ---- operations

may_acquire : Bool → Grow → ClientBlock → Bool
may_acquire whole g p = is_unacquired p.acquiring && (is_unreleased p.letting && grow_fits p.held (AcquireOpen whole g))

acquire_test : ClientBlock → View → Bool
acquire_test p v = each_bool
    (λ whole. each_grow (λ g. where_true (may_acquire whole g p) (λ u. ok (after_acquire whole g p) v)))

acquire_all : each_phase acquire_test ≡ true
unfolding each_phase acquire_test may_acquire ok
acquire_all = refl

pub acquire-ok : (whole : Bool) (g : Grow) (p : ClientBlock) (v : View) → ok p v ≡ true → p.acquiring ≡ NoAcquire
    → p.letting ≡ NoRelease → grow_fits p.held (AcquireOpen whole g) ≡ true → ok (after_acquire whole g p) v ≡ true
unfolding acquire_test may_acquire
acquire-ok whole g p v h calm kept fits =
    let t = of_grow (λ j. where_true (may_acquire whole j p) (λ u. ok (after_acquire whole j p) v))
    (of_bool (λ b. each_grow (λ j. where_true (may_acquire b j p) (λ u. ok (after_acquire b j p) v)))
    (of_phase acquire_test acquire_all p v h) whole) g in
    where_is (may_acquire whole g p) (λ u. ok (after_acquire whole g p) v) t (rw (calm, kept, fits) refl)

may_release : Prune → ClientBlock → Bool
may_release r p = is_unacquired p.acquiring && (is_unreleased p.letting && same_perm p.held (prune_left r))

release_test : ClientBlock → View → Bool
release_test p v = each_prune (λ r. where_true (may_release r p) (λ u. ok (after_release r p) v))

release_all : each_phase release_test ≡ true
unfolding each_phase release_test may_release ok
release_all = refl

pub release-ok : (r : Prune) (p : ClientBlock) (v : View) → ok p v ≡ true → p.acquiring ≡ NoAcquire
    → p.letting ≡ NoRelease → same_perm p.held (prune_left r) ≡ true → ok (after_release r p) v ≡ true
unfolding release_test may_release
release-ok r p v h calm kept fits =
    let t = of_prune (λ j. where_true (may_release j p) (λ u. ok (after_release j p) v))
    (of_phase release_test release_all p v h) r in
    where_is (may_release r p) (λ u. ok (after_release r p) v) t (rw (calm, kept, fits) refl)

-- ---- requests that are taken

-- the Acquire is taken and others are probed
serve_test : ClientBlock → View → Bool
serve_test p v = on_idle v (on_wants p.acquiring (λ whole g. ok p Own))

serve_all : each_phase serve_test ≡ true
unfolding each_phase serve_test ok
serve_all = refl

pub serve-ok : (whole : Bool) (g : Grow) (p : ClientBlock) (v : View) → ok p v ≡ true → v ≡ Idle
    → p.acquiring ≡ AcquireOpen whole g → ok p Own ≡ true
unfolding serve_test
serve-ok whole g p v h idle wants = wants_is _ (λ w j. ok p Own) whole g wants
    (idle_is v (on_wants p.acquiring (λ w j. ok p Own)) idle (of_phase serve_test serve_all p v h))

-- another request is taken, which probes with this cap
served_test : ClientBlock → View → Bool
served_test p v = on_idle v
    (each_cap (λ k. not (same_cap k Cap.ToT) && ok (after_served k p) (Other k) || same_cap k Cap.ToT))

served_all : each_phase served_test ≡ true
unfolding each_phase served_test ok
served_all = refl

pub served-ok : (k : Cap) (p : ClientBlock) (v : View) → ok p v ≡ true → v ≡ Idle → same_cap k Cap.ToT ≡ false
    → ok (after_served k p) (Other k) ≡ true
unfolding served_test
served-ok k p v h idle low = go (same_cap k Cap.ToT) low (ok (after_served k p) (Other k))
    (of_cap (λ j. not (same_cap j Cap.ToT) && ok (after_served j p) (Other j) || same_cap j Cap.ToT)
    (idle_is v (each_cap (λ j. not (same_cap j Cap.ToT) && ok (after_served j p) (Other j) || same_cap j Cap.ToT)) idle
    (of_phase served_test served_all p v h)) k)
  where
    go : (a : Bool) → a ≡ false → (b : Bool) → (not a && b || a) ≡ true → b ≡ true
    go a e b f = grind arith

-- a Grant is handed out, at once or with the last ProbeAck
granted_to : ClientBlock → Bool → Grow → Cap → Bool
granted_to p whole g k =
    where_true (cap_fits whole g k) (λ u. ok (after_grant_sent k p) (Granting (is_granted_data whole g p.recorded) k))

granted_well : ClientBlock → Bool
granted_well p = on_wants p.acquiring (λ whole g. each_cap (λ k. granted_to p whole g k))

granted_from : (p : ClientBlock) (whole : Bool) (g : Grow) (k : Cap) → p.acquiring ≡ AcquireOpen whole g
    → cap_fits whole g k ≡ true → granted_well p ≡ true
    → ok (after_grant_sent k p) (Granting (is_granted_data whole g p.recorded) k) ≡ true
unfolding granted_well granted_to
granted_from p whole g k wants fits h = where_is (cap_fits whole g k) (λ u. ok (after_grant_sent k p)
    (Granting (is_granted_data whole g p.recorded) k)) (of_cap (λ j. granted_to p whole g j)
    (wants_is p.acquiring (λ w i. each_cap (λ j. granted_to p w i j)) whole g wants h) k) fits

grant_test : ClientBlock → View → Bool
grant_test p v = on_idle v (granted_well p) && on_own v (granted_well p)

grant_all : each_phase grant_test ≡ true
unfolding each_phase grant_test granted_well granted_to ok
grant_all = refl

pub grant_at_once-ok : (whole : Bool) (g : Grow) (k : Cap) (p : ClientBlock) (v : View) → ok p v ≡ true → v ≡ Idle
    → p.acquiring ≡ AcquireOpen whole g → cap_fits whole g k ≡ true
    → ok (after_grant_sent k p) (Granting (is_granted_data whole g p.recorded) k) ≡ true
unfolding grant_test
grant_at_once-ok whole g k p v h idle wants fits = granted_from p whole g k wants fits (idle_is v (granted_well p) idle
    (and_left (on_idle v (granted_well p)) (on_own v (granted_well p)) (of_phase grant_test grant_all p v h)))

pub grant_last-ok : (whole : Bool) (g : Grow) (k : Cap) (p : ClientBlock) (v : View) → ok p v ≡ true → v ≡ Own
    → p.acquiring ≡ AcquireOpen whole g → cap_fits whole g k ≡ true
    → ok (after_grant_sent k p) (Granting (is_granted_data whole g p.recorded) k) ≡ true
unfolding grant_test
grant_last-ok whole g k p v h own wants fits = granted_from p whole g k wants fits (own_is v (granted_well p) own
    (and_right (on_idle v (granted_well p)) (on_own v (granted_well p)) (of_phase grant_test grant_all p v h)))

-- ---- messages that are taken

probe_test : ClientBlock → View → Bool
probe_test p v = on_sent p.probing (λ k. where_true (is_unreleased p.letting) (λ u. ok (after_probe k p) v))

probe_all : each_phase probe_test ≡ true
unfolding each_phase probe_test ok
probe_all = refl

pub probe-ok : (k : Cap) (p : ClientBlock) (v : View) → ok p v ≡ true → p.probing ≡ ProbeSent k → p.letting ≡ NoRelease
    → ok (after_probe k p) v ≡ true
unfolding probe_test
probe-ok k p v h sent kept = where_is (is_unreleased p.letting) (λ u. ok (after_probe k p) v)
    (rw sent at (of_phase probe_test probe_all p v h)) (rw kept refl)

-- a ProbeAck is taken: others are missing, the access is answered, or another's Acquire is granted
report_test : ClientBlock → View → Bool
report_test p v = on_answered p.probing
    (λ r. ok (after_report r p) v && (ok (after_report r p) Idle && ok (after_report r p) GrantedOther))

report_all : each_phase report_test ≡ true
unfolding each_phase report_test ok
report_all = refl

pub report-ok : (r : Report) (p : ClientBlock) (v : View) → ok p v ≡ true → p.probing ≡ ProbeAnswered r
    → (ok (after_report r p) v ≡ true) × (ok (after_report r p) Idle ≡ true)
    × (ok (after_report r p) GrantedOther ≡ true)
unfolding report_test
report-ok r p v h answered =
    let t = answered_is _ (λ j. ok (after_report j p) v && (ok (after_report j p) Idle && ok
    (after_report j p) GrantedOther)) r answered (of_phase report_test report_all p v h) in
    let u = and_right (ok (after_report r p) v) (ok (after_report r p) Idle && ok (after_report r p) GrantedOther) t in
    let fact =
    and_left (ok (after_report r p) v) (ok (after_report r p) Idle && ok (after_report r p) GrantedOther) t in
    let other_fact = and_right (ok (after_report r p) Idle) (ok (after_report r p) GrantedOther) u in
    (fact, and_left (ok (after_report r p) Idle) (ok (after_report r p) GrantedOther) u, other_fact)

release_taken_test : ClientBlock → View → Bool
release_taken_test p v =
    on_releasing p.letting (λ r. where_true (not (is_answered p.probing)) (λ u. ok (after_release_taken r p) v))

release_taken_all : each_phase release_taken_test ≡ true
unfolding each_phase release_taken_test ok
release_taken_all = refl

pub release_taken-ok : (r : Prune) (p : ClientBlock) (v : View) → ok p v ≡ true → p.letting ≡ ReleaseSent r
    → is_answered p.probing ≡ false → ok (after_release_taken r p) v ≡ true
unfolding release_taken_test
release_taken-ok r p v h releasing first = where_is (not (is_answered p.probing)) (λ u. ok (after_release_taken r p) v)
    (releasing_is p.letting (λ j. where_true (not (is_answered p.probing)) (λ u. ok (after_release_taken j p) v)) r
    releasing (of_phase release_taken_test release_taken_all p v h)) (rw first refl)

release_ack_test : ClientBlock → View → Bool
release_ack_test p v = on_acked p.letting (ok (after_release_ack p) v)

release_ack_all : each_phase release_ack_test ≡ true
unfolding each_phase release_ack_test ok
release_ack_all = refl

pub release_ack-ok : (p : ClientBlock) (v : View) → ok p v ≡ true → p.letting ≡ ReleaseAcked
    → ok (after_release_ack p) v ≡ true
unfolding release_ack_test
release_ack-ok p v h acked = rw acked at (of_phase release_ack_test release_ack_all p v h)

grant_taken_test : ClientBlock → View → Bool
grant_taken_test p v = on_granting v (λ d k. ok (after_grant k p) Acknowledging)

grant_taken_all : each_phase grant_taken_test ≡ true
unfolding each_phase grant_taken_test ok
grant_taken_all = refl

pub grant_taken-ok : (d : Bool) (k : Cap) (p : ClientBlock) (v : View) → ok p v ≡ true → v ≡ Granting d k
    → ok (after_grant k p) Acknowledging ≡ true
unfolding grant_taken_test
grant_taken-ok d k p v h granting = granting_is v (λ c j. ok (after_grant j p) Acknowledging) d k granting
    (of_phase grant_taken_test grant_taken_all p v h)

ack_taken_test : ClientBlock → View → Bool
ack_taken_test p v = on_acknowledging v (ok p Idle) && on_granted_other v (ok p Idle)

ack_taken_all : each_phase ack_taken_test ≡ true
unfolding each_phase ack_taken_test ok
ack_taken_all = refl

pub ack_taken-ok : (p : ClientBlock) (v : View) → ok p v ≡ true → v ≡ Acknowledging → ok p Idle ≡ true
unfolding ack_taken_test
ack_taken-ok p v h e = acknowledging_is v (ok p Idle) e (and_left (on_acknowledging v (ok p Idle))
    (on_granted_other v (ok p Idle)) (of_phase ack_taken_test ack_taken_all p v h))

pub ack_taken_other-ok : (p : ClientBlock) (v : View) → ok p v ≡ true → v ≡ GrantedOther → ok p Idle ≡ true
unfolding ack_taken_test
ack_taken_other-ok p v h e = rw e at (and_right (on_acknowledging v (ok p Idle)) (on_granted_other v (ok p Idle))
    (of_phase ack_taken_test ack_taken_all p v h))

-- ---- what others do

-- another Acquire is granted at once
granted_other_test : ClientBlock → View → Bool
granted_other_test p v = on_idle v (where_true (not (same_perm p.recorded Perm.Trunk)) (λ u. ok p GrantedOther))

granted_other_all : each_phase granted_other_test ≡ true
unfolding each_phase granted_other_test ok
granted_other_all = refl

pub granted_other-ok : (p : ClientBlock) (v : View) → ok p v ≡ true → v ≡ Idle → same_perm p.recorded Perm.Trunk ≡ false
    → ok p GrantedOther ≡ true
unfolding granted_other_test
granted_other-ok p v h idle low = where_is (not (same_perm p.recorded Perm.Trunk)) (λ u. ok p GrantedOther)
    (idle_is v (where_true (not (same_perm p.recorded Perm.Trunk)) (λ u. ok p GrantedOther)) idle
    (of_phase granted_other_test granted_other_all p v h)) (rw low refl)

-- the service ends, for one who isn't probed
ended_test : ClientBlock → View → Bool
ended_test p v = on_other v (λ k. on_quiet p.probing (ok p Idle && ok p GrantedOther))

ended_all : each_phase ended_test ≡ true
unfolding each_phase ended_test ok
ended_all = refl

pub ended-ok : (k : Cap) (p : ClientBlock) (v : View) → ok p v ≡ true → v ≡ Other k → p.probing ≡ NoProbe
    → (ok p Idle ≡ true) × (ok p GrantedOther ≡ true)
unfolding ended_test
ended-ok k p v h other quiet =
    let t = quiet_is _ (ok p Idle && ok p GrantedOther) quiet (other_is v
    (λ j. on_quiet p.probing (ok p Idle && ok p GrantedOther)) k other (of_phase ended_test ended_all p v h)) in
    (and_left (ok p Idle) (ok p GrantedOther) t, and_right (ok p Idle) (ok p GrantedOther) t)
