use Rattle.std.proofs.Common.{arith, refl, sym, ap, ◌≡◌, ◌<◌, ◌∙◌, length, slice_get, slice_set, Some, true}
use Rattle.std.proofs.Common.{false, inl, inr, ◌≤◌}
use Rattle.std.proofs.lemmas.Bool.{cases_lt}
use Rattle.std.proofs.lemmas.Option.{slice_get_past, slice_get_read}
use Rattle.std.proofs.lemmas.Result.{on_ok_weaker}
use Rattle.tl_bytes.specs.statement.Free.{all_liberties}
use Rattle.tl_witness.proofs.Witnesses.{passed, taken}
use Rattle.tl_witness.proofs.witness.Witness.take.Goals as goal

pub returns-in-Some : goal.returns-in-Some
returns-in-Some g c =
    let items = c.args.self.now.recorders.items in
    let old = c.in-Some.recorder.now in
    let below : c.from.result < length items =
    omega (arith, c.in-Some.ensures.variant.0 refl, c.args.self.now.recorders.ok) in
    let there : slice_get items c.args.link.0 ≡ Some old =
    ap (slice_get items) (sym c.from.ensures)
    ∙ slice_get_read items (length items) c.from.result old refl below c.in-Some.ensures.value in
    on_ok_weaker c.take.result (λ records n block t k number.
    taken c.args.self.now _ old c.take.new.self n block c.args.link c.args.beat.now t refl refl
    (ap (λ i. slice_set items i c.take.new.self) c.from.ensures) there c.take.ensures.subject
    (λ is. records all_liberties t number is) k)
    c.take.ensures.record

pub returns-in-None : goal.returns-in-None
returns-in-None g c = λ n block t k number.
    let items = c.args.self.now.recorders.items in
    let past : length items ≤ c.args.link.0 =
    elim (cases_lt c.from.result c.args.self.now.recorders.len) [
      | inl below ↦ absurd (let no : false ≡ true = c.in-None.ensures.variant.1 below in cc)
      | inr le ↦ omega (arith, le, c.from.ensures, c.args.self.now.recorders.ok)
    ] in
    passed c.args.self.now n block c.args.link c.args.beat.now t (slice_get_past items c.args.link.0 past) k
