use Rattle.std.proofs.Common.{refl, ◌≡◌, ◌∙◌, ap, length, arith, not, Some}
use Rattle.std.{specs.Prelude.slice_get, proofs.lemmas.Option.slice_get_read}
use Rattle.tl_burst.specs.statement.Part.{is_empty}
use Rattle.tl_manager.{proofs.pending.Past.silent-report}
use Rattle.tl_manager.proofs.manager.state.ManagerState.is_reporting.Goals as goal

pub returns-then-number-len : goal.returns-then-number-len
returns-then-number-len g c = λ config e k. silent-report config c.args.link.0 e.trace k.kept.sound
    (omega (arith, k.count))

pub returns : goal.returns
returns g c = λ config e k.
    let found : slice_get c.args.self.now.link_states.items c.args.link.0 ≡ Some c.index.result.now =
    slice_get_read c.args.self.now.link_states.items (length c.args.self.now.link_states.items) c.args.link.0
    c.index.result.now refl (omega arith) (rw c.from-number.ensures at c.index.ensures) in
    let is = k.link_states c.args.link.0 c.index.result.now found in
    c.has_begun.ensures ∙ ap (λ burst. not (is_empty burst)) is.carried.reports
