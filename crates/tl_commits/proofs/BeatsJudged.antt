-- The answers of a judge to beats.
use Rattle.std.proofs.Common.{◌≡◌, ℕ, Bool, true, false, List, refl, sym, ap, subst, ◌∙◌, length}
use Rattle.std.specs.Prelude.{if◌then◌else◌, Option, Some, None, Err}
use Rattle.tl_beat.specs.declared.beat.Beat.{Beat}
use Rattle.tl_beat.specs.declared.beat.Link.{Link}
use Rattle.tl_beat.specs.statement.Opcode.{c_carries_data}
use Rattle.tl_memory.specs.statement.Links.{KeepsRules}
use Rattle.tl_params.specs.declared.level.Level.{Level}
use Rattle.tl_params.specs.declared.liberties.Liberties.{Liberties}
use Rattle.tl_params.specs.declared.memory_rule.MemoryRule.{MemoryRule}
use Rattle.tl_params.specs.declared.rule.Rule.{Rule}
use Rattle.tl_together.specs.declared.breach.Breach.{Breach}
use Rattle.tl_together.specs.declared.breach.Breach.TheVariants.{OfMemory}
use Rattle.tl_together.specs.statement.Coherence.{broken_access, broken_beginning, broken_but_bytes, broken_grant}
use Rattle.tl_together.specs.statement.Coherence.{broken_memory, broken_response, but_bytes, first_broken, is_access_ack}
use Rattle.tl_together.specs.statement.Coherence.{is_grantable, memory_rule_or, rule_of_bytes}
use Rattle.tl_params.specs.declared.memory_rule.MemoryRule.TheVariants.{M1, M2, M3, M4}
use Rattle.tl_rules.specs.code.Open.{open_request}
use Rattle.tl_rules.specs.declared.past.Request.{Request}
use Rattle.tl_rules.specs.statement.Conformance.{Trace, on_link}
use Rattle.tl_rules.specs.statement.History.{begins, capped, is_grant}
use Rattle.tl_rules.specs.statement.Liberties.{broken_on_link_under}
use Rattle.tl_rules.specs.statement.Windows.{needs}
use Rattle.tl_bytes.specs.statement.Shown.{had_window}
use Rattle.tl_together.specs.declared.fault.JudgeFault.{JudgeFault}
use Rattle.tl_together.specs.declared.fault.JudgeFault.TheVariants as judge
use Rattle.tl_together.specs.statement.Coherence.{broken_together}
use Rattle.tl_together.specs.statement.Knows.{broken, Knows}
use Rattle.tl_together.specs.statement.Knows as together
use Rattle.tl_bytes.proofs.Finding.{same-some}
use Rattle.tl_commits.specs.code.Granting.{KnowsGrants, grants_truly, is_grant_data}
use Rattle.tl_commits.specs.code.Reading.{KnowsReadings, brings_read, reads_truly}
use Rattle.tl_commits.specs.code.Judging.{breach_or, broken_bytes, of_judge}
use Rattle.tl_commits.specs.declared.rule.CommitBreach.TheVariants.{OfBeats, OfCommits}
use Rattle.tl_events.specs.declared.commit.Event.TheVariants as event
use Rattle.tl_commits.specs.code.ValueTable.{KnowsTable}
use Rattle.tl_commits.specs.declared.fault.CommitFault.{CommitFault}
use Rattle.tl_commits.specs.declared.judge.CommitJudge.{CommitJudge}
use Rattle.tl_events.specs.declared.rule.CommitRule.{CommitRule}
use Rattle.tl_events.specs.declared.rule.CommitRule.TheVariants.{M7}
use Rattle.tl_commits.specs.statement.Completeness.{Completeness}
use Rattle.tl_commits.specs.statement.Breaches.{breach_of, broken_event, broken_memory_seen}
use Rattle.tl_commits.specs.statement.Commits.{broken_report, gives_truly, keeps_stores, takes_trunk}
use Rattle.tl_commits.specs.code.GivingBack.{carries}
use Rattle.tl_beat.specs.declared.beat.BeatC.{BeatC}
use Rattle.tl_beat.specs.declared.beat.BeatD.{BeatD}
use Rattle.tl_beat.specs.declared.opcode.OpD.{OpD}
use Rattle.tl_bytes.specs.statement.Bytes.{is_true}
use Rattle.tl_commits.specs.statement.True.{is_true_seen}
use Rattle.tl_commits.specs.statement.Copies.{link_beats}
use Rattle.tl_commits.specs.statement.Events.{Events, beats_of}
use Rattle.tl_commits.specs.statement.Knows.{Answers, KnowsCommits}

-- M7 of a beat that has no data on channel C
pub report-bare : {w : ℕ} (complete : Completeness) (n link : ℕ) (x : Beat w) (e : Events w) → carries x ≡ false
    → (if keeps_stores complete n link (takes_trunk x (link_beats link e)) e then None else Some M7)
    ≡ broken_report complete n link x e
report-bare complete n link (Beat.C x) e bare = rw bare refl
report-bare complete n link (Beat.A x) e bare = refl
report-bare complete n link (Beat.B x) e bare = refl
report-bare complete n link (Beat.D x) e bare = refl
report-bare complete n link (Beat.E x) e bare = refl

-- and of one that has
pub report-full : {w : ℕ} (complete : Completeness) (n link : ℕ) (x : BeatC w) (e : Events w) (keeps : Bool)
    → keeps ≡ gives_truly complete n link x e → c_carries_data x.opcode ≡ true
    → (if keeps then None else Some M7) ≡ broken_report complete n link (Beat.C x) e
report-full complete n link x e keeps is on = rw (on, is) refl

-- the judge of beats was asked
pub judge-asked : {w : ℕ} (old new : CommitJudge w) (levels : List Level) (complete : Completeness) (l : Liberties)
    (e : Events w) → KnowsCommits old levels complete l e → Knows new.judge levels l (beats_of e) false
    → new.levels ≡ old.levels → new.complete ≡ old.complete → new.loads ≡ old.loads → new.values ≡ old.values
    → new.grants ≡ old.grants → new.readings ≡ old.readings → KnowsCommits new levels complete l e
judge-asked old new levels complete l e k judge levels_are complete_are loads_are values_are grants_are readings_are = record {
  judge_is = judge;
  levels_are = ap (λ v. v.items) levels_are ∙ k.levels_are;
  complete_are = ap (λ v. v.items) complete_are ∙ k.complete_are;
  loads_are = rw loads_are k.loads_are;
  values_are = rw values_are k.values_are;
  grants_are = rw grants_are k.grants_are;
  readings_are = rw readings_are k.readings_are;
}

-- the values of a block, the bytes of a Grant and a reading were made, or weren't
pub table-met : {w : ℕ} (old new : CommitJudge w) (levels : List Level) (complete : Completeness) (l : Liberties)
    (e : Events w) → KnowsCommits old levels complete l e → Knows new.judge levels l (beats_of e) false
    → new.levels ≡ old.levels → new.complete ≡ old.complete → new.loads ≡ old.loads
    → (KnowsTable old.values complete (length levels) e → KnowsTable new.values complete (length levels) e)
    → (KnowsGrants old.grants.items complete (length levels) e → KnowsGrants new.grants.items complete (length levels) e)
    → (KnowsReadings old.readings.items complete (length levels) e
    → KnowsReadings new.readings.items complete (length levels) e) → KnowsCommits new levels complete l e
table-met old new levels complete l e k judge levels_are complete_are loads_are table grants readings = record {
  judge_is = judge;
  levels_are = ap (λ v. v.items) levels_are ∙ k.levels_are;
  complete_are = ap (λ v. v.items) complete_are ∙ k.complete_are;
  loads_are = rw loads_are k.loads_are;
  values_are = table k.values_are;
  grants_are = grants k.grants_are;
  readings_are = readings k.readings_are;
}

-- a beat that breaks no rule of beats breaks none of its link
pub fine-beat : {w : ℕ} (levels : List Level) (l : Liberties) (x : Link × Beat w) (e : Events w)
    (memory : Option MemoryRule) → broken (first_broken (broken_on_link_under l levels x (beats_of e)) memory) ≡ None
    → KeepsRules l levels x (beats_of e)
fine-beat levels l x e memory is = go (broken_on_link_under l levels x (beats_of e)) memory is
  where
    go : (rule : Option Rule) (memory : Option MemoryRule) → broken (first_broken rule memory) ≡ None → rule ≡ None
    go None memory f = refl
    go (Some rule) memory f = absurd cc

pub beat-refused : (o : Option Breach) (rule : Option CommitRule) (f : JudgeFault) → together.Answers (broken o) (Err f)
    → Answers (breach_of o rule) (Err (of_judge f))
beat-refused None rule judge.Levels is = absurd cc
beat-refused (Some breach) rule judge.Levels is = absurd cc
beat-refused None rule (judge.Broken found) is = absurd cc
beat-refused (Some breach) rule (judge.Broken found) is =
    let same : breach ≡ found = cc in
    rw same refl
beat-refused o rule judge.Memory is = tt
beat-refused o rule judge.Closed is = tt

pub beat-taken : (o : Option Breach) (rule : Option CommitRule) → broken o ≡ None → (o ≡ None → rule ≡ None)
    → breach_of o rule ≡ None
beat-taken None rule is none = rw (none refl) refl
beat-taken (Some breach) rule is none = absurd cc

-- ---- M2 and M3

-- a response breaks neither by beginning
beginning-kept : {w : ℕ} (n link : ℕ) (x : BeatD w) (t : Trace w)
    → but_bytes (broken_beginning n link x t) ≡ broken_beginning n link x t
beginning-kept n link x t = either (begins (Beat.D x) (on_link link t)) (broken_response n link x t) response
  where
    either : (b : Bool) (o : Option MemoryRule) → but_bytes o ≡ o
        → but_bytes (if b then o else None) ≡ (if b then o else None)
    either true o e = e
    either false o e = refl

    neither : (b : Bool) (o : Option MemoryRule) → but_bytes o ≡ o
        → but_bytes (if b then None else o) ≡ (if b then None else o)
    neither true o e = refl
    neither false o e = e

    chosen : (b : Bool) (o p : Option MemoryRule) → but_bytes o ≡ o → but_bytes p ≡ p
        → but_bytes (if b then o else p) ≡ (if b then o else p)
    chosen true o p e f = e
    chosen false o p e f = f

    grant : (asked : Option Request) → but_bytes (broken_grant n link x asked t) ≡ broken_grant n link x asked t
    grant None = refl
    grant (Some asked) = neither (is_grantable n link (capped x.param) asked.block t) (Some M1) refl

    access : (asked : Option Request) → but_bytes (broken_access n link x asked t) ≡ broken_access n link x asked t
    access None = refl
    access (Some asked) =
        neither (had_window n link x.source (needs asked.opcode) asked.block t) (Some M4) refl

    response : but_bytes (broken_response n link x t) ≡ broken_response n link x t
    response = neither x.denied _ (chosen (is_grant x.opcode) _ _ (grant (open_request x.source (on_link link t)))
        (either (is_access_ack x.opcode) _ (access (open_request x.source (on_link link t)))))

-- a GrantData has other bytes than may be granted
pub bytes-granted : {w : ℕ} (complete : Completeness) (n link : ℕ) (x : Beat w) (e : Events w)
    → grants_truly complete n link x e ≡ false → Some M2 ≡ broken_bytes complete n link x e
bytes-granted {w} complete n link (Beat.D z) e off = go z.opcode off
  where
    go : (opcode : OpD) → (if is_grant_data opcode then is_true_seen complete OpD.GrantData n link z e else true) ≡ false
        → Some M2 ≡ (if is_true_seen complete opcode n link z e then None else Some (rule_of_bytes opcode))
    go OpD.GrantData off = rw off refl
    go OpD.AccessAck off = absurd cc
    go OpD.AccessAckData off = absurd cc
    go OpD.HintAck off = absurd cc
    go OpD.Grant off = absurd cc
    go OpD.ReleaseAck off = absurd cc
bytes-granted complete n link (Beat.A x) e off = absurd cc
bytes-granted complete n link (Beat.B x) e off = absurd cc
bytes-granted complete n link (Beat.C x) e off = absurd cc
bytes-granted complete n link (Beat.E x) e off = absurd cc

-- an AccessAckData has other bytes than the access may have found
pub bytes-read : {w : ℕ} (complete : Completeness) (n link : ℕ) (x : Beat w) (e : Events w)
    → reads_truly complete n link x e ≡ false → Some M3 ≡ broken_bytes complete n link x e
bytes-read {w} complete n link (Beat.D z) e off = go z.opcode off
  where
    go : (opcode : OpD) → (if brings_read opcode then is_true_seen complete OpD.AccessAckData n link z e else true) ≡ false
        → Some M3 ≡ (if is_true_seen complete opcode n link z e then None else Some (rule_of_bytes opcode))
    go OpD.AccessAckData off = rw off refl
    go OpD.GrantData off = absurd cc
    go OpD.AccessAck off = absurd cc
    go OpD.HintAck off = absurd cc
    go OpD.Grant off = absurd cc
    go OpD.ReleaseAck off = absurd cc
bytes-read complete n link (Beat.A x) e off = absurd cc
bytes-read complete n link (Beat.B x) e off = absurd cc
bytes-read complete n link (Beat.C x) e off = absurd cc
bytes-read complete n link (Beat.E x) e off = absurd cc

-- neither has
pub bytes-true : {w : ℕ} (complete : Completeness) (n link : ℕ) (x : Beat w) (e : Events w)
    → grants_truly complete n link x e ≡ true → reads_truly complete n link x e ≡ true
    → None ≡ broken_bytes complete n link x e
bytes-true {w} complete n link (Beat.D z) e on too = go z.opcode on too
  where
    go : (opcode : OpD) → (if is_grant_data opcode then is_true_seen complete OpD.GrantData n link z e else true) ≡ true
        → (if brings_read opcode then is_true_seen complete OpD.AccessAckData n link z e else true) ≡ true
        → None ≡ (if is_true_seen complete opcode n link z e then None else Some (rule_of_bytes opcode))
    go OpD.GrantData on too = rw on refl
    go OpD.AccessAckData on too = rw too refl
    go OpD.AccessAck on too = refl
    go OpD.HintAck on too = refl
    go OpD.Grant on too = refl
    go OpD.ReleaseAck on too = refl
bytes-true complete n link (Beat.A x) e on too = refl
bytes-true complete n link (Beat.B x) e on too = refl
bytes-true complete n link (Beat.C x) e on too = refl
bytes-true complete n link (Beat.E x) e on too = refl

-- the bytes that the beats alone allow aren't judged
bytes-left : (opcode : OpD) (begun : Option MemoryRule) (alone : Bool) → but_bytes begun ≡ begun
    → but_bytes (memory_rule_or begun (if alone then None else Some (rule_of_bytes opcode))) ≡ memory_rule_or begun None
bytes-left opcode (Some rule) alone kept = kept
bytes-left opcode None true kept = refl
bytes-left OpD.GrantData None false kept = refl
bytes-left OpD.AccessAck None false kept = refl
bytes-left OpD.AccessAckData None false kept = refl
bytes-left OpD.HintAck None false kept = refl
bytes-left OpD.Grant None false kept = refl
bytes-left OpD.ReleaseAck None false kept = refl

-- the rule of memory that a beat breaks but for M2 and M3 is the first of all, if its bytes are true
memory-judged : {w : ℕ} (complete : Completeness) (n link : ℕ) (x : Beat w) (e : Events w)
    → broken_bytes complete n link x e ≡ None
    → but_bytes (broken_memory n link x (beats_of e)) ≡ broken_memory_seen complete n link x e
memory-judged complete n link (Beat.D x) e truly =
    bytes-left x.opcode (broken_beginning n link x (beats_of e)) (is_true x.opcode n link x (beats_of e))
    (beginning-kept n link x (beats_of e))
    ∙ ap (memory_rule_or (broken_beginning n link x (beats_of e))) (sym truly)
memory-judged complete n link (Beat.A x) e truly = refl
memory-judged complete n link (Beat.B x) e truly = refl
memory-judged complete n link (Beat.C x) e truly = refl
memory-judged complete n link (Beat.E x) e truly = refl

-- the first rule of beats that a beat breaks by beats and commits
abbrev pub broken_seen : {w : ℕ} → List Level → Completeness → Liberties → Link → Beat w → Events w → Option Breach
broken_seen levels complete l link x e = first_broken (broken_on_link_under l levels (link, x) (beats_of e))
    (broken_memory_seen complete (length levels) link.0 x e)

-- so is the first rule
pub first-judged : {w : ℕ} (levels : List Level) (complete : Completeness) (l : Liberties) (link : Link) (x : Beat w)
    (e : Events w)
    → (KeepsRules l levels (link, x) (beats_of e) → broken_bytes complete (length levels) link.0 x e ≡ None)
    → broken_but_bytes levels l (link, x) (beats_of e) ≡ broken_seen levels complete l link x e
first-judged levels complete l link x e truly =
    go (broken_on_link_under l levels (link, x) (beats_of e)) _ _
    (λ fine. memory-judged complete (length levels) link.0 x e (truly fine))
  where
    go : (rule : Option Rule) (one other : Option MemoryRule) → (rule ≡ None → one ≡ other)
        → first_broken rule one ≡ first_broken rule other
    go None one other same = ap (first_broken None) (same refl)
    go (Some rule) one other same = refl

-- ---- refusals

-- a beat that breaks M7, if it breaks none of beats
pub refused-report : {w : ℕ} (levels : List Level) (complete : Completeness) (l : Liberties) (link : Link) (x : Beat w)
    (e : Events w) (rule : CommitRule) (f : CommitFault)
    → Answers (breach_or (broken_together levels l (link, x) (beats_of e)) (OfCommits rule)) (Err f)
    → (KeepsRules l levels (link, x) (beats_of e)
    → Some rule ≡ broken_report complete (length levels) link.0 x e)
    → Answers (broken_event levels complete l link (event.Beat x) e) (Err f)
refused-report {w} levels complete l link x e rule f is same =
    go (broken_on_link_under l levels (link, x) (beats_of e)) x is same
  where
    n : ℕ
    n = length levels

    go : (o : Option Rule) (x : Beat w)
        → Answers (breach_or (first_broken o (broken_memory n link.0 x (beats_of e))) (OfCommits rule)) (Err f)
        → (o ≡ None → Some rule ≡ broken_report complete n link.0 x e)
        → Answers (breach_of (first_broken o (broken_memory_seen complete n link.0 x e))
        (broken_report complete n link.0 x e)) (Err f)
    go (Some first) x is same = is
    go None (Beat.D x) is same = absurd (let no : Some rule ≡ None = same refl in cc)
    go None (Beat.A x) is same = subst (λ r. Answers (breach_of None r) (Err f)) (same refl) is
    go None (Beat.B x) is same = subst (λ r. Answers (breach_of None r) (Err f)) (same refl) is
    go None (Beat.C x) is same = subst (λ r. Answers (breach_of None r) (Err f)) (same refl) is
    go None (Beat.E x) is same = subst (λ r. Answers (breach_of None r) (Err f)) (same refl) is

-- a beat that breaks M2 or M3, if it breaks none of its link and neither M1 nor M4
pub refused-bytes : {w : ℕ} (levels : List Level) (complete : Completeness) (l : Liberties) (link : Link) (x : Beat w)
    (e : Events w) (rule : MemoryRule) (f : CommitFault)
    → Answers (breach_or (broken_together levels l (link, x) (beats_of e)) (OfBeats (OfMemory rule))) (Err f)
    → (KeepsRules l levels (link, x) (beats_of e) → Some rule ≡ broken_bytes complete (length levels) link.0 x e)
    → Answers (broken_event levels complete l link (event.Beat x) e) (Err f)
refused-bytes {w} levels complete l link x e rule f is same =
    go (broken_on_link_under l levels (link, x) (beats_of e)) x is same
  where
    n : ℕ
    n = length levels

    no : {X : Type 0} → Some rule ≡ None → X
    no e = absurd cc

    -- the beats alone allow the bytes, or don't
    either : (begun : Option MemoryRule) (alone : Bool)
        → Answers (breach_or (first_broken None (memory_rule_or begun (if alone then None else Some rule)))
        (OfBeats (OfMemory rule))) (Err f)
        → Answers (breach_of (first_broken None (memory_rule_or begun (Some rule))) None) (Err f)
    either (Some other) alone is = is
    either None true is = is
    either None false is = is

    -- the rule is that of the opcode
    rule-is : (seen : Bool) (own : MemoryRule) → Some rule ≡ (if seen then None else Some own) → own ≡ rule
    rule-is true own e = no e
    rule-is false own e = same-some rule own e

    go : (o : Option Rule) (x : Beat w)
        → Answers (breach_or (first_broken o (broken_memory n link.0 x (beats_of e))) (OfBeats (OfMemory rule))) (Err f)
        → (o ≡ None → Some rule ≡ broken_bytes complete n link.0 x e)
        → Answers (breach_of (first_broken o (broken_memory_seen complete n link.0 x e))
        (broken_report complete n link.0 x e)) (Err f)
    go (Some first) x is same = is
    go None (Beat.D x) is same =
        let own = rule-is (is_true_seen complete x.opcode n link.0 x e) (rule_of_bytes x.opcode) (same refl) in
        subst (λ m. Answers (breach_of (first_broken None (memory_rule_or (broken_beginning n link.0 x (beats_of e)) m))
        None) (Err f)) (same refl)
        (either (broken_beginning n link.0 x (beats_of e)) (is_true x.opcode n link.0 x (beats_of e))
        (subst (λ r. Answers (breach_or (first_broken None (memory_rule_or (broken_beginning n link.0 x (beats_of e))
        (if is_true x.opcode n link.0 x (beats_of e) then None else Some r))) (OfBeats (OfMemory rule))) (Err f)) own is))
    go None (Beat.A x) is same = no (same refl)
    go None (Beat.B x) is same = no (same refl)
    go None (Beat.C x) is same = no (same refl)
    go None (Beat.E x) is same = no (same refl)
