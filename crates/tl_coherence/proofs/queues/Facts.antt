-- What the phases of a client say of what it holds and of what is on its channels.
-- What holds in every phase that is well, and that no message is refused: by computation.
use Rattle.std.proofs.Common.{◌≡◌, Bool, true, false, not, ◌&&◌, ◌||◌, refl}
use Rattle.tl_coherence.proofs
use proofs.Imports.{not-true, Cap, Grow, Prune, Report, Perm, cap_right, prune_left, report_at, report_left}
use proofs.Imports.{report_right, same_perm, is_out, Acknowledging, AcquireOpen, ClientBlock, Granting, Idle, NoAcquire}
use proofs.Imports.{NoProbe, Other, Own, ProbeAnswered, ProbePhase, ReleasePhase, ReleaseSent, View, grant_fits}
use proofs.Imports.{grow_fits, is_unacquired, is_unprobed, is_unreleased, same_cap, same_report, ok, is_acked}
use proofs.Imports.{is_answered, is_granting, is_unserved, perm_le}
use proofs.queues.Phases.{each_phase, of_phase, implies, implies_is, and_left, and_right}
use proofs.queues.PhaseSteps.{on_idle, on_own, on_other, on_granting, on_acknowledging, on_answered, on_wants, idle_is}
use proofs.queues.PhaseSteps.{own_is, granting_is, acknowledging_is, answered_is, wants_is, on_quiet, on_releasing}
use proofs.queues.PhaseSteps.{other_is, quiet_is, releasing_is}

-- ---- what is held is no more than is recorded

below_test : ClientBlock → View → Bool
below_test p v = perm_le p.held p.recorded

below_all : each_phase below_test ≡ true
unfolding each_phase below_test
below_all = refl

pub held_at_most : (p : ClientBlock) (v : View) → ok p v ≡ true → perm_le p.held p.recorded ≡ true
unfolding below_test
held_at_most p v h = of_phase below_test below_all p v h

-- a block that isn't in service probes nobody
rest_test : ClientBlock → View → Bool
rest_test p v = on_idle v (is_unprobed p.probing)

rest_all : each_phase rest_test ≡ true
unfolding each_phase rest_test
rest_all = refl

pub quiet_at_rest : (p : ClientBlock) (v : View) → ok p v ≡ true → v ≡ Idle → is_unprobed p.probing ≡ true
unfolding rest_test
quiet_at_rest p v h e = idle_is v (is_unprobed p.probing) e (of_phase rest_test rest_all p v h)

-- ---- a message on C with left end Trunk: recorded Trunk, held less, no Grant on D

abbrev carries_data : ProbePhase → ReleasePhase → Bool
carries_data (ProbeAnswered r) letting = same_perm (report_left r) Perm.Trunk
carries_data _ (ReleaseSent r) = same_perm (prune_left r) Perm.Trunk
carries_data _ _ = false

carried_test : ClientBlock → View → Bool
carried_test p v = implies (carries_data p.probing p.letting)
    (same_perm p.recorded Perm.Trunk && (not (same_perm p.held Perm.Trunk) && not (is_granting v)))

carried_all : each_phase carried_test ≡ true
unfolding each_phase carried_test
carried_all = refl

pub data_carried : (p : ClientBlock) (v : View) → ok p v ≡ true → carries_data p.probing p.letting ≡ true
    → (same_perm p.recorded Perm.Trunk && (not (same_perm p.held Perm.Trunk) && not (is_granting v))) ≡ true
unfolding carried_test
data_carried p v h e = implies_is (carries_data p.probing p.letting) (same_perm p.recorded Perm.Trunk
    && (not (same_perm p.held Perm.Trunk) && not (is_granting v))) (of_phase carried_test carried_all p v h) e

-- ---- held Trunk: recorded Trunk, nothing on C, no Acquire, no Grant

abbrev is_silent : ProbePhase → ReleasePhase → Bool
is_silent (ProbeAnswered r) letting = false
is_silent _ (ReleaseSent r) = false
is_silent _ _ = true

trunk_test : ClientBlock → View → Bool
trunk_test p v = implies (same_perm p.held Perm.Trunk) (same_perm p.recorded Perm.Trunk
    && (is_silent p.probing p.letting && (is_unacquired p.acquiring && not (is_granting v))))

trunk_all : each_phase trunk_test ≡ true
unfolding each_phase trunk_test
trunk_all = refl

pub trunk_held : (p : ClientBlock) (v : View) → ok p v ≡ true → same_perm p.held Perm.Trunk ≡ true
    → (same_perm p.recorded Perm.Trunk
    && (is_silent p.probing p.letting && (is_unacquired p.acquiring && not (is_granting v)))) ≡ true
unfolding trunk_test
trunk_held p v h e = implies_is (same_perm p.held Perm.Trunk) (same_perm p.recorded Perm.Trunk && (is_silent p.probing
    p.letting && (is_unacquired p.acquiring && not (is_granting v)))) (of_phase trunk_test trunk_all p v h) e

-- ---- Grant on D: no Probe, no Release

granting_test : ClientBlock → View → Bool
granting_test p v = on_granting v
    (λ d k. is_unprobed p.probing && (is_unreleased p.letting && same_perm p.recorded (cap_right k)))

granting_all : each_phase granting_test ≡ true
unfolding each_phase granting_test
granting_all = refl

pub granting_alone : (d : Bool) (k : Cap) (p : ClientBlock) (v : View) → ok p v ≡ true → v ≡ Granting d k
    → (is_unprobed p.probing && (is_unreleased p.letting && same_perm p.recorded (cap_right k))) ≡ true
unfolding granting_test
granting_alone d k p v h e = granting_is v (λ c j. is_unprobed p.probing && (is_unreleased p.letting
    && same_perm p.recorded (cap_right j))) d k e (of_phase granting_test granting_all p v h)

-- ---- in service for the client's own Acquire: no Probe, no Release, recorded is held

own_test : ClientBlock → View → Bool
own_test p v = on_own v (is_unprobed p.probing && (is_unreleased p.letting && same_perm p.recorded p.held))

own_all : each_phase own_test ≡ true
unfolding each_phase own_test
own_all = refl

pub own_alone : (p : ClientBlock) (v : View) → ok p v ≡ true → v ≡ Own
    → (is_unprobed p.probing && (is_unreleased p.letting && same_perm p.recorded p.held)) ≡ true
unfolding own_test
own_alone p v h e = own_is v (is_unprobed p.probing && (is_unreleased p.letting && same_perm p.recorded p.held)) e
    (of_phase own_test own_all p v h)

-- ---- H4, H5: an Acquire at a block that isn't in service

abbrev grows_from : Grow → Perm → Bool
grows_from Grow.BtoT p = not (same_perm p Perm.Trunk)
grows_from _ p = same_perm p Perm.None

asked_test : ClientBlock → View → Bool
asked_test p v = on_idle v (on_wants p.acquiring (λ whole g. is_unprobed p.probing
    && (is_unreleased p.letting && (same_perm p.recorded p.held && grows_from g p.recorded))))

asked_all : each_phase asked_test ≡ true
unfolding each_phase asked_test
asked_all = refl

pub asked_alone : (whole : Bool) (g : Grow) (p : ClientBlock) (v : View) → ok p v ≡ true → v ≡ Idle
    → p.acquiring ≡ AcquireOpen whole g
    → (is_unprobed p.probing && (is_unreleased p.letting && (same_perm p.recorded p.held && grows_from g p.recorded)))
    ≡ true
unfolding asked_test
asked_alone whole g p v h e f = wants_is _ (λ w j. is_unprobed p.probing
    && (is_unreleased p.letting && (same_perm p.recorded p.held && grows_from j p.recorded))) whole g f
    (idle_is v (on_wants p.acquiring (λ w j. is_unprobed p.probing && (is_unreleased p.letting
    && (same_perm p.recorded p.held && grows_from j p.recorded)))) e (of_phase asked_test asked_all p v h))

-- ---- H9: GrantAck on E: no Probe

acknowledging_test : ClientBlock → View → Bool
acknowledging_test p v = on_acknowledging v (is_unprobed p.probing)

acknowledging_all : each_phase acknowledging_test ≡ true
unfolding each_phase acknowledging_test
acknowledging_all = refl

pub acknowledging_quiet : (p : ClientBlock) (v : View) → ok p v ≡ true → v ≡ Acknowledging
    → is_unprobed p.probing ≡ true
unfolding acknowledging_test
acknowledging_quiet p v h e =
    acknowledging_is v (is_unprobed p.probing) e (of_phase acknowledging_test acknowledging_all p v h)

-- ---- H10, H12: the report is that of the Probe's cap and of what is recorded

abbrev pub is_other : View → Bool
is_other (Other k) = true
is_other _ = false

report_test : ClientBlock → View → Bool
report_test p v = on_answered p.probing (λ r. on_other v (λ k. same_report r (report_at k p.recorded)) && is_other v)

report_all : each_phase report_test ≡ true
unfolding each_phase report_test
report_all = refl

pub report_fits : (r : Report) (p : ClientBlock) (v : View) → ok p v ≡ true → p.probing ≡ ProbeAnswered r
    → (on_other v (λ k. same_report r (report_at k p.recorded)) && is_other v) ≡ true
unfolding report_test
report_fits r p v h e = answered_is _ (λ j. on_other v (λ k. same_report j (report_at k p.recorded)) && is_other
    v) r e (of_phase report_test report_all p v h)

-- ---- H11 of what is delivered

flow_test : ClientBlock → View → Bool
flow_test p v = on_answered p.probing (λ r. not (is_acked p.letting))

flow_all : each_phase flow_test ≡ true
unfolding each_phase flow_test
flow_all = refl

pub report_first : (r : Report) (p : ClientBlock) (v : View) → ok p v ≡ true → p.probing ≡ ProbeAnswered r
    → not (is_acked p.letting) ≡ true
unfolding flow_test
report_first r p v h e = answered_is _ (λ j. not (is_acked p.letting)) r e (of_phase flow_test flow_all p v h)

-- ---- no Release beside an Acquire

release_alone_test : ClientBlock → View → Bool
release_alone_test p v = is_unreleased p.letting || is_unacquired p.acquiring

release_alone_all : each_phase release_alone_test ≡ true
unfolding each_phase release_alone_test
release_alone_all = refl

pub release_alone : (p : ClientBlock) (v : View) → ok p v ≡ true
    → (is_unreleased p.letting || is_unacquired p.acquiring) ≡ true
unfolding release_alone_test
release_alone p v h = of_phase release_alone_test release_alone_all p v h

-- ---- the left end of the first message on C is what is recorded (H12, H13)

first_left_test : ClientBlock → View → Bool
first_left_test p v = on_answered p.probing (λ r. same_perm (report_left r) p.recorded) && on_releasing p.letting
    (λ r. is_answered p.probing || same_perm (prune_left r) p.recorded)

first_left_all : each_phase first_left_test ≡ true
unfolding each_phase first_left_test
first_left_all = refl

-- ---- one who isn't probed, or has answered, keeps no more than the cap

within_test : ClientBlock → View → Bool
within_test p v = on_other v (λ k. not (same_cap k Cap.ToT) && (on_quiet p.probing
    (perm_le p.recorded (cap_right k)) && on_answered p.probing (λ r. perm_le (report_right r) (cap_right k))))

within_all : each_phase within_test ≡ true
unfolding each_phase within_test
within_all = refl

within_of : (k : Cap) (p : ClientBlock) (v : View) → ok p v ≡ true → v ≡ Other k
    → (not (same_cap k Cap.ToT) && (on_quiet p.probing (perm_le p.recorded (cap_right k)) && on_answered p.probing
    (λ r. perm_le (report_right r) (cap_right k)))) ≡ true
unfolding within_test
within_of k p v h e =
    other_is v (λ j. not (same_cap j Cap.ToT) && (on_quiet p.probing (perm_le p.recorded (cap_right j))
    && on_answered p.probing (λ r. perm_le (report_right r) (cap_right j)))) k e (of_phase within_test within_all p v h)

pub spared_within : (k : Cap) (p : ClientBlock) (v : View) → ok p v ≡ true → v ≡ Other k → p.probing ≡ NoProbe
    → perm_le p.recorded (cap_right k) ≡ true
spared_within k p v h e quiet =
    let t = and_right (not (same_cap k Cap.ToT)) (on_quiet p.probing (perm_le p.recorded (cap_right k)) && on_answered
    p.probing (λ r. perm_le (report_right r) (cap_right k))) (within_of k p v h e) in
    quiet_is _ (perm_le p.recorded (cap_right k)) quiet (and_left (on_quiet p.probing
    (perm_le p.recorded (cap_right k))) (on_answered p.probing (λ r. perm_le (report_right r) (cap_right k))) t)

pub reported_within : (k : Cap) (r : Report) (p : ClientBlock) (v : View) → ok p v ≡ true → v ≡ Other k
    → p.probing ≡ ProbeAnswered r → perm_le (report_right r) (cap_right k) ≡ true
reported_within k r p v h e answered =
    let t = and_right (not (same_cap k Cap.ToT)) (on_quiet p.probing (perm_le p.recorded (cap_right k)) && on_answered
    p.probing (λ j. perm_le (report_right j) (cap_right k))) (within_of k p v h e) in
    answered_is _ (λ j. perm_le (report_right j) (cap_right k)) r answered (and_right (on_quiet p.probing
    (perm_le p.recorded (cap_right k))) (on_answered p.probing (λ j. perm_le (report_right j) (cap_right k))) t)

pub cap_is_low : (k : Cap) (p : ClientBlock) (v : View) → ok p v ≡ true → v ≡ Other k → same_cap k Cap.ToT ≡ false
cap_is_low k p v h e = not-true (same_cap k Cap.ToT)
    (and_left (not (same_cap k Cap.ToT)) (on_quiet p.probing (perm_le p.recorded (cap_right k)) && on_answered p.probing
    (λ r. perm_le (report_right r) (cap_right k))) (within_of k p v h e))

-- one whose own Acquire is served isn't recorded Trunk
own_low_test : ClientBlock → View → Bool
own_low_test p v = on_own v (not (same_perm p.recorded Perm.Trunk))

own_low_all : each_phase own_low_test ≡ true
unfolding each_phase own_low_test
own_low_all = refl

pub own_low : (p : ClientBlock) (v : View) → ok p v ≡ true → v ≡ Own → not (same_perm p.recorded Perm.Trunk) ≡ true
unfolding own_low_test
own_low p v h e = own_is v (not (same_perm p.recorded Perm.Trunk)) e (of_phase own_low_test own_low_all p v h)

-- a ProbeAck begins at what is recorded
pub report_begins : (r : Report) (p : ClientBlock) (v : View) → ok p v ≡ true → p.probing ≡ ProbeAnswered r
    → same_perm (report_left r) p.recorded ≡ true
unfolding first_left_test
report_begins r p v h e = answered_is _ (λ j. same_perm (report_left j) p.recorded) r e
    (and_left (on_answered p.probing (λ j. same_perm (report_left j) p.recorded))
    (on_releasing p.letting (λ j. is_answered p.probing || same_perm (prune_left j) p.recorded))
    (of_phase first_left_test first_left_all p v h))

own_quiet_test : ClientBlock → View → Bool
own_quiet_test p v = on_own v (is_unprobed p.probing)

own_quiet_all : each_phase own_quiet_test ≡ true
unfolding each_phase own_quiet_test
own_quiet_all = refl

pub own_quiet : (p : ClientBlock) (v : View) → ok p v ≡ true → v ≡ Own → is_unprobed p.probing ≡ true
unfolding own_quiet_test
own_quiet p v h e = own_is v (is_unprobed p.probing) e (of_phase own_quiet_test own_quiet_all p v h)

-- a Grant on its way fits the Acquire and what is held
fit_test : ClientBlock → View → Bool
fit_test p v = on_granting v (λ d k. grant_fits p.recorded p.held d k p.acquiring)

fit_all : each_phase fit_test ≡ true
unfolding each_phase fit_test
fit_all = refl

pub grant_is_fit : (d : Bool) (k : Cap) (p : ClientBlock) (v : View) → ok p v ≡ true → v ≡ Granting d k
    → grant_fits p.recorded p.held d k p.acquiring ≡ true
unfolding fit_test
grant_is_fit d k p v h e = granting_is v (λ c j. grant_fits p.recorded p.held c j p.acquiring) d k e
    (of_phase fit_test fit_all p v h)

-- one whose own Acquire is served has it open
own_wants_test : ClientBlock → View → Bool
own_wants_test p v = on_own v (not (is_unacquired p.acquiring))

own_wants_all : each_phase own_wants_test ≡ true
unfolding each_phase own_wants_test
own_wants_all = refl

pub own_wants : (p : ClientBlock) (v : View) → ok p v ≡ true → v ≡ Own → not (is_unacquired p.acquiring) ≡ true
unfolding own_wants_test
own_wants p v h e = own_is v (not (is_unacquired p.acquiring)) e (of_phase own_wants_test own_wants_all p v h)

-- a Release that is first begins at what is recorded
pub release_begins : (r : Prune) (p : ClientBlock) (v : View) → ok p v ≡ true → p.letting ≡ ReleaseSent r
    → is_answered p.probing ≡ false → same_perm (prune_left r) p.recorded ≡ true
unfolding first_left_test
release_begins r p v h e first =
    let t = and_right (on_answered p.probing (λ j. same_perm (report_left j) p.recorded)) (on_releasing p.letting (λ j.
    is_answered p.probing || same_perm (prune_left j) p.recorded)) (of_phase first_left_test first_left_all p v h) in
    rw first at (releasing_is p.letting (λ j. is_answered p.probing || same_perm (prune_left j) p.recorded) r e t)

-- one who is to be granted at once isn't recorded Trunk
asked_low_test : ClientBlock → View → Bool
asked_low_test p v = on_idle v (is_unacquired p.acquiring || not (same_perm p.recorded Perm.Trunk))

asked_low_all : each_phase asked_low_test ≡ true
unfolding each_phase asked_low_test
asked_low_all = refl

pub asked_low : (whole : Bool) (g : Grow) (p : ClientBlock) (v : View) → ok p v ≡ true → v ≡ Idle
    → p.acquiring ≡ AcquireOpen whole g → same_perm p.recorded Perm.Trunk ≡ false
unfolding asked_low_test
asked_low whole g p v h e wants =
    not-true (same_perm p.recorded Perm.Trunk) (rw wants at (idle_is v (is_unacquired p.acquiring
    || not (same_perm p.recorded Perm.Trunk)) e (of_phase asked_low_test asked_low_all p v h)))

-- what one holds Trunk of is out
out_test : ClientBlock → View → Bool
out_test p v = implies (same_perm p.held Perm.Trunk) (is_out p v)

out_all : each_phase out_test ≡ true
unfolding each_phase out_test
out_all = refl

pub held_out : (p : ClientBlock) (v : View) → ok p v ≡ true → same_perm p.held Perm.Trunk ≡ true → is_out p v ≡ true
unfolding out_test
held_out p v h e = implies_is (same_perm p.held Perm.Trunk) (is_out p v) (of_phase out_test out_all p v h) e

-- one who has no Acquire open isn't served or granted one
calm_test : ClientBlock → View → Bool
calm_test p v = implies (is_unacquired p.acquiring) (is_unserved v)

calm_all : each_phase calm_test ≡ true
unfolding each_phase calm_test
calm_all = refl

pub unserved_calm : (p : ClientBlock) (v : View) → ok p v ≡ true → p.acquiring ≡ NoAcquire → is_unserved v ≡ true
unfolding calm_test
unserved_calm p v h e = implies_is (is_unacquired p.acquiring) (is_unserved v) (of_phase calm_test calm_all p v h)
    (rw e refl)

-- an Acquire for a store of the whole block grows to Trunk
acquire_test : ClientBlock → View → Bool
acquire_test p v = on_wants p.acquiring (λ whole g. grow_fits p.held (AcquireOpen whole g))

acquire_all : each_phase acquire_test ≡ true
unfolding each_phase acquire_test
acquire_all = refl

pub acquire_fits : (whole : Bool) (g : Grow) (p : ClientBlock) (v : View) → ok p v ≡ true
    → p.acquiring ≡ AcquireOpen whole g → grow_fits p.held (AcquireOpen whole g) ≡ true
unfolding acquire_test
acquire_fits whole g p v h e = wants_is _ (λ w j. grow_fits p.held (AcquireOpen w j)) whole g e
    (of_phase acquire_test acquire_all p v h)

-- who has answered a Probe sees another's service
answered_test : ClientBlock → View → Bool
answered_test p v = on_answered p.probing (λ r. is_other v)

answered_all : each_phase answered_test ≡ true
unfolding each_phase answered_test
answered_all = refl

pub answered_other : (r : Report) (p : ClientBlock) (v : View) → ok p v ≡ true → p.probing ≡ ProbeAnswered r
    → is_other v ≡ true
unfolding answered_test
answered_other r p v h e = answered_is _ (λ j. is_other v) r e (of_phase answered_test answered_all p v h)

-- who is granted has an Acquire open
granting_asks_test : ClientBlock → View → Bool
granting_asks_test p v = on_granting v (λ d k. not (is_unacquired p.acquiring))

granting_asks_all : each_phase granting_asks_test ≡ true
unfolding each_phase granting_asks_test
granting_asks_all = refl

pub granting_asks : (d : Bool) (k : Cap) (p : ClientBlock) (v : View) → ok p v ≡ true → v ≡ Granting d k
    → not (is_unacquired p.acquiring) ≡ true
unfolding granting_asks_test
granting_asks d k p v h e = granting_is v (λ c j. not (is_unacquired p.acquiring)) d k e
    (of_phase granting_asks_test granting_asks_all p v h)
