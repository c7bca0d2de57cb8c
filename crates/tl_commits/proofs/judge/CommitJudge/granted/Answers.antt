use Rattle.std.proofs.Common.{◌≡◌, ◌+◌, ◌*◌, ◌<◌, ◌∙◌, arith, ap, inl, inr, length, refl, rules, sym}
use Rattle.std.proofs.lemmas.Option.{slice_get-get_or}
use Rattle.std.specs.Prelude.{Some, None, slice_get}
use Rattle.tl_beat.specs.declared.beat.Beat.{Beat}
use Rattle.tl_memory.proofs.messages.Judging.{in_block}
use Rattle.tl_memory.proofs.messages.LinkTables.{link-there}
use Rattle.tl_rules.specs.statement.OpenMessages.{open_request}
use Rattle.tl_together.proofs.Following.{followed, one_more}
use Rattle.tl_together.proofs.Noted.{on_levels}
use Rattle.tl_commits.specs.statement.Copies.{link_beats}
use Rattle.tl_commits.specs.statement.Events.{beats_of}
use Rattle.tl_commits.specs.statement.ResponseBytes.{beats_come}
use Rattle.tl_commits.proofs.BytesAnswered.{granted-are, no-slot}
use Rattle.tl_commits.proofs.judge.CommitJudge.granted.Goals as goal

pub returns-in_default-clause-granted : goal.returns-in_default-clause-granted
returns-in_default-clause-granted g c = λ levels complete l e k fine kind.
    let x = c.args.x.now in
    let link = c.args.link in
    let t = beats_of e in
    let lt = link-there _ levels (link, Beat.D x) t fine in
    let gone : c.request.result ≡ None = search rules in
    let none : open_request x.source (link_beats link.0 e) ≡ None =
    sym (on_levels levels link x.source t lt)
    ∙ sym (c.request.ensures levels l t (c.meet.ensures.knows levels complete l e k).judge_is) ∙ gone in
    rw none tt

pub returns-in-None-clause-granted : goal.returns-in-None-clause-granted
returns-in-None-clause-granted g c = λ levels complete l e k fine kind.
    let link = c.args.link in
    let lt = link-there _ levels (link, Beat.D c.args.x.now) (beats_of e) fine in
    let grants = c.meet.new.self.grants.items in
    let count : length grants ≡ length levels = (c.meet.ensures.knows levels complete l e k).grants_are.count_is in
    let gone : slice_get grants c.from.result ≡ None = search rules in
    absurd (no-slot grants c.from.result (omega (arith, lt, count, c.from.ensures)) gone)

pub returns-in-Some-get-clause-granted : goal.returns-in-Some-get-clause-granted
returns-in-Some-get-clause-granted g c = λ levels complete l e k fine kind.
    let x = c.args.x.now in
    let link = c.args.link in
    let t = beats_of e in
    let n = length levels in
    let known = c.meet.ensures.knows levels complete l e k in
    let o = (known.judge_is.open_knows refl).monitor_is in
    let legal = followed _ levels l t o in
    let lawful = one_more _ levels l (link, Beat.D x) t o fine in
    let lt = link-there _ levels (link, Beat.D x) t fine in
    let asked = c.in-Some.asked in
    let opened : open_request x.source (link_beats link.0 e) ≡ Some asked =
    sym (on_levels levels link x.source t lt) ∙ sym (c.request.ensures levels l t known.judge_is) ∙ c.in-Some.is in
    let granted = c.in-Some-get.granted.now in
    let found : slice_get c.deref.result.now c.from.result ≡ Some granted =
    slice_get-get_or c.deref.result.now c.from.result granted c.in-Some-get.ensures.lookup.3.0
    ∙ ap Some (sym c.in-Some-get.ensures.lookup.1) in
    let there : slice_get c.meet.new.self.grants.items link.0 ≡ Some granted =
    ap (λ l. slice_get l link.0) (sym c.deref.ensures.value)
    ∙ ap (slice_get c.deref.result.now) (sym c.from.ensures) ∙ found in
    let room = in_block levels n link x t c.requires legal lawful in
    let count : c.beats_come.result ≡ beats_come link.0 e = c.beats_come.ensures levels l t known.judge_is lt in
    let first : c.saturating_mul.result ≡ g.row.W * beats_come link.0 e =
    omega (arith, c.saturating_mul.ensures, ap (λ m. g.row.W * m) count, room) in
    granted-are complete n link.0 x e asked granted _ opened
    (c.in_ok-meet.ensures.met levels complete l e k fine granted there x refl) kind refl first (omega (arith, first, room))
    c.sets.ensures
