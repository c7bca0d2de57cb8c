use Rattle.std.proofs.Common.{◌∷◌, false, length, refl, sym, ap, subst, ◌∙◌}
use Rattle.std.specs.Prelude.{Err}
use Rattle.tl_beat.specs.declared.beat.Link.{Link}
use Rattle.tl_memory.proofs.messages.LinkTables.{link-there}
use Rattle.tl_together.proofs.Following.{followed, one_more}
use Rattle.tl_together.specs.statement.Coherence.{broken_memory, but_bytes}
use Rattle.tl_together.specs.statement.Knows.{Knows, broken}
use Rattle.tl_together.specs.statement.Knows as together
use Rattle.tl_events.specs.declared.commit.Event.{Event}
use Rattle.tl_events.specs.declared.commit.Event.TheVariants as event
use Rattle.tl_commits.specs.code.Reading.{IsMet, KnowsReadings}
use Rattle.tl_commits.specs.statement.Commits.{broken_report}
use Rattle.tl_commits.specs.statement.Events.{beats_of}
use Rattle.tl_commits.proofs.BeatsJudged.{beat-refused, beat-taken, broken_seen, fine-beat, first-judged, refused-bytes}
use Rattle.tl_commits.proofs.BeatsJudged.{refused-report, table-met}
use Rattle.tl_commits.proofs.GrantsKept.{grants-beat}
use Rattle.tl_commits.proofs.Loads.{all-renewed}
use Rattle.tl_commits.proofs.LoadsNext.{loads-other}
use Rattle.tl_commits.proofs.TableJudged.{table-recorded}
use Rattle.tl_commits.proofs.judge.CommitJudge.take_beat.Goals as goal

pub returns-in-Some-clause-answer : goal.returns-in-Some-clause-answer
returns-in-Some-clause-answer g c = λ levels complete l e k.
    refused-report levels complete l c.args.link c.args.beat.now e c.in-Some.rule c.refused.result
    (c.refused.ensures.answer levels complete l e k)
    (λ fine. sym c.in-Some.is ∙ c.broken_report.ensures levels complete l e k fine)

pub returns-in_default-meet-clause-knows : goal.returns-in_default-meet-clause-knows
returns-in_default-meet-clause-knows g c = λ levels complete l e k. c.meet.ensures.knows levels complete l e k

pub returns-in-Some-broken_bytes-clause-answer : goal.returns-in-Some-broken_bytes-clause-answer
returns-in-Some-broken_bytes-clause-answer g c = λ levels complete l e k.
    let met = c.meet.ensures.knows levels complete l e k in
    refused-bytes levels complete l c.args.link c.args.beat.now e c.in-Some-broken_bytes.rule
    c.refused-in-Some-broken_bytes.result (c.refused-in-Some-broken_bytes.ensures.answer levels complete l e met)
    (λ fine. sym c.in-Some-broken_bytes.is ∙ c.broken_bytes.ensures levels complete l e met fine
    (c.in-Ok.ensures.met levels complete l e k fine))

pub returns-in-Some-broken_bytes-clause-knows : goal.returns-in-Some-broken_bytes-clause-knows
returns-in-Some-broken_bytes-clause-knows g c = λ levels complete l e k.
    c.refused-in-Some-broken_bytes.ensures.knows levels complete l e (c.meet.ensures.knows levels complete l e k)

pub returns-in_default-next_values-clause-knows : goal.returns-in_default-next_values-clause-knows
returns-in_default-next_values-clause-knows g c = λ levels complete l e k.
    let met = c.meet.ensures.knows levels complete l e k in
    table-met c.meet.new.self _ levels complete l e met met.judge_is refl refl refl
    (λ table. c.next_values.ensures.knows complete (length levels) e table) (λ grants. grants) (λ readings. readings)

pub returns-in-Err-clause-answer : goal.returns-in-Err-clause-answer
returns-in-Err-clause-answer g c = λ levels complete l e k.
    let met = c.meet.ensures.knows levels complete l e k in
    let same = first-judged levels complete l c.args.link c.args.beat.now e
    (λ fine. sym (c.broken_bytes.ensures levels complete l e met fine (c.in-Ok.ensures.met levels complete l e k fine))
    ∙ c.in_default-broken_bytes.is) in
    rw c.of_judge.ensures
    (beat-refused (broken_seen levels complete l c.args.link c.args.beat.now e)
    (broken_report complete (length levels) c.args.link.0 c.args.beat.now e) c.in-Err.fault
    (subst (λ o. together.Answers (broken o) (Err c.in-Err.fault)) same
    (c.in-Err.ensures.answer levels l (beats_of e) false met.judge_is)))

pub returns-in-Err-clause-knows : goal.returns-in-Err-clause-knows
returns-in-Err-clause-knows g c = λ levels complete l e k.
    let met = c.meet.ensures.knows levels complete l e k in
    table-met c.meet.new.self _ levels complete l e met (c.in-Err.ensures.knows levels l (beats_of e) false met.judge_is)
    refl refl refl (λ table. c.next_values.ensures.knows complete (length levels) e table) (λ grants. grants)
    (λ readings. readings)

pub returns-clause-answer : goal.returns-clause-answer
returns-clause-answer g c = λ levels complete l e k.
    let x = c.args.beat.now in
    let link = c.args.link in
    let met = c.meet.ensures.knows levels complete l e k in
    let same = first-judged levels complete l link x e
    (λ fine. sym (c.broken_bytes.ensures levels complete l e met fine (c.in-Ok.ensures.met levels complete l e k fine))
    ∙ c.in_default-broken_bytes.is) in
    let answer = c.in-Ok-try_push_but_bytes.ensures.answer levels l (beats_of e) false met.judge_is in
    beat-taken (broken_seen levels complete l link x e) (broken_report complete (length levels) link.0 x e)
    (ap broken (sym same) ∙ answer)
    (λ none. sym (c.broken_report.ensures levels complete l e k (fine-beat levels l (link, x) e
    (but_bytes (broken_memory (length levels) link.0 x (beats_of e))) answer)) ∙ c.in_default.is)

pub returns-clause-knows : goal.returns-clause-knows
unfolding beats_of
returns-clause-knows g c = λ levels complete l e k.
    let x : Link × Event g.row.W = (c.args.link, event.Beat c.args.beat.now) in
    let r = c.record.ensures in
    let n = length levels in
    let met = c.meet.ensures.knows levels complete l e k in
    let old = c.meet.new.self in
    let o = (met.judge_is.open_knows refl).monitor_is in
    let knows = c.in-Ok-try_push_but_bytes.ensures.knows levels l (beats_of e) false met.judge_is in
    let fine = fine-beat levels l (c.args.link, c.args.beat.now) e
    (but_bytes (broken_memory n c.args.link.0 c.args.beat.now (beats_of e)))
    (c.in-Ok-try_push_but_bytes.ensures.answer levels l (beats_of e) false met.judge_is) in
    let lt = link-there _ levels (c.args.link, c.args.beat.now) (beats_of e) fine in
    let judge = subst (λ j. Knows j levels l (beats_of (x ∷ e)) false) (sym r.judge_is) knows in
    let table = table-recorded c.next_values.new.table c.record.new.self.values complete n c.in-Ok-next_values.next x e
    r.values_are (c.in-Ok-next_values.ensures.next levels l complete e met.judge_is fine met.values_are) in
    record {
      judge_is = judge;
      levels_are = ap (λ v. v.items) r.levels_are ∙ met.levels_are;
      complete_are = ap (λ v. v.items) r.complete_are ∙ met.complete_are;
      loads_are = loads-other complete n x e old.loads.items c.record.new.self.loads.items met.loads_are
          (all-renewed c.try_push_but_bytes.new.self c.record.new.self.values complete levels l (x ∷ e) old.loads.items
          c.record.new.self.loads.items (rw met.complete_are at r.loads_are) knows table met.loads_are.pieces)
          (λ link piece. refl) (λ link piece. refl);
      values_are = table;
      grants_are = rw r.grants_are (grants-beat levels c.requires complete n e (followed _ levels l (beats_of e) o)
          old.grants.items c.args.link c.args.beat.now
          (one_more _ levels l (c.args.link, c.args.beat.now) (beats_of e) o fine) met.grants_are
          (c.in-Ok.ensures.met levels complete l e k fine));
      readings_are = c.take_beat.ensures levels l complete e judge table
          (c.shown-shown.ensures levels l (beats_of e) met.judge_is lt)
          (subst (λ readings. IsMet readings.items c.args.link.0 c.args.beat.now) (sym r.readings_are) c.in-Ok.ensures.read)
          (subst (λ readings. KnowsReadings readings.items complete n e) (sym r.readings_are) met.readings_are);
    }
