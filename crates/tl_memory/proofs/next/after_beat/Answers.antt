use Rattle.std.{proofs.Common.arith, proofs.Common.◌≡◌, proofs.Common.◌/◌, specs.Prelude.length, specs.Prelude.Some}
use Rattle.std.{proofs.lemmas.Result.IfOk-weaker}
use Rattle.tl_beat.specs.declared.beat.Beat.{Beat}
use Rattle.tl_memory.proofs.{states.Bearing.ack-elsewhere, states.Taken.none-borne, states.Taken.same-block}
use Rattle.tl_memory.proofs.{states.Taken.seen-other}
use Rattle.tl_memory.proofs.next.after_beat.Goals as goal

pub returns-in-A : goal.returns-in-A
returns-in-A g c = IfOk-weaker c.after_asking.result _ _ (λ next h n block free t k m legal asked borne now seen.
    let y = c.in-A.y in
    let is = c.in-A.is in
    rw is (h n block free t k m.a_is (rw is at legal) (same-block (y.address / 64) block (rw is at borne)) now
    (rw is at seen)))
    c.after_asking.ensures

pub returns-in-C : goal.returns-in-C
returns-in-C g c = IfOk-weaker c.after_report.result _ _ (λ next h n block free t k m legal asked borne now seen.
    let y = c.in-C.y in
    let is = c.in-C.is in
    let before : c.saturating_sub-before.result ≡ length t = omega (arith, c.saturating_sub-before.ensures, now) in
    rw is (seen-other next free c.args.state.now n block (c.args.link, Beat.C y) t (rw is at seen)
    (h n block c.args.link t k m (rw is at legal) (same-block (y.address / 64) block (rw is at borne)) before)))
    c.after_report.ensures

pub returns-in-D : goal.returns-in-D
returns-in-D g c = IfOk-weaker c.after_any_response.result _ _ (λ next h n block free t k m legal asked borne now seen.
    let y = c.in-D.y in
    let is = c.in-D.is in
    let before : c.saturating_sub-before.result ≡ length t = omega (arith, c.saturating_sub-before.ensures, now) in
    rw is (seen-other next free c.args.state.now n block (c.args.link, Beat.D y) t (rw is at seen)
    (h n block t k m (rw is at legal) (rw is at asked) (rw is at borne) before)))
    c.after_any_response.ensures

pub returns-in_ok-passed-in-E : goal.returns-in_ok-passed-in-E
returns-in_ok-passed-in-E g c = λ n block free t k m legal asked borne now seen.
    let is = c.in-E.is in
    rw is (seen-other (Some c.in_ok-passed-in-E.field-0) free c.args.state.now n block (c.args.link, Beat.E c.in-E.field-0)
    t (rw is at seen) (c.in_ok-passed-in-E.ensures n block (c.args.link, Beat.E c.in-E.field-0) t k
    (ack-elsewhere block c.args.link c.in-E.field-0 t
    (record { inside = k.accesses_are.inside; reach_inside = k.outrun_are.inside }))))

pub returns-in-B : goal.returns-in-B
returns-in-B g c = λ n block free t k m legal asked borne now seen.
    none-borne c.args.beat.now _ block c.in-B.field-0 c.in-B.is borne
