use Rattle.std.proofs.Common.{◌≡◌, Err, refl, ap, sym, ◌∙◌, arith}
use Rattle.std.proofs.lemmas.Result.{err_from_is_err_and}
use Rattle.tl_params.specs.statement.Refusal.{ok_unless}
use Rattle.tl_beat.specs.declared.channel.Channel.TheVariants as channel
use Rattle.tl_burst.specs.declared.message.Message.TheVariants.{D}
use Rattle.tl_burst.proofs.Lanes.{few_beats}
use Rattle.tl_rules.proofs.Checks.{broken_control, passed_control, none_yet, none_more, first_own, found_first, d_owns}
use Rattle.tl_rules.proofs.Checks.{d_beats}
use Rattle.tl_rules.proofs.legality.message.check_d.Goals as goal

pub returns-in_err-control_of_d : goal.returns-in_err-control_of_d
returns-in_err-control_of_d g c =
    let p = err_from_is_err_and c.from_residual.result c.from_residual.ensures.1 in
    p.1 ∙ ap Err p.2 ∙ sym (broken_control c.args.level _ _ _ (d_owns c.args.message.now) _
    (d_beats c.args.level c.args.message.now) c.in_err-control_of_d.ensures.value c.requires.width)

pub loop-i-init : goal.loop-i-init
loop-i-init g c = none_yet (d_owns c.args.message.now) 0

pub bit_of-requires : goal.bit_of-requires
bit_of-requires g c = few_beats (D c.args.message.now) c.loop-i.i c.requires.width
    (rw c.requires.beats at c.loop-i-test.true)

pub returns-in_err-own_of_d : goal.returns-in_err-own_of_d
returns-in_err-own_of_d g c =
    let p = err_from_is_err_and c.from_residual-in_err-own_of_d.result c.from_residual-in_err-own_of_d.ensures.1 in
    let control = passed_control c.args.level channel.D (D c.args.message.now) _ (d_owns c.args.message.now)
    (d_beats c.args.level c.args.message.now)
    (sym c.in_ok-control_of_d.was ∙ c.control_of_d.ensures.value) in
    let own : Err c.in_err-own_of_d.field-0.0 ≡ ok_unless (d_owns c.args.message.now c.loop-i.i) =
    c.in_err-own_of_d.ensures ∙ rw c.bit_of.ensures refl in
    p.1 ∙ ap Err p.2 ∙ sym (ap ok_unless control ∙ found_first (d_owns c.args.message.now) c.loop-i.i _ _
    c.loop-i.invariant own (rw c.requires.beats at c.loop-i-test.true))

pub loop-i-preserved : goal.loop-i-preserved
loop-i-preserved g c = none_more (d_owns c.args.message.now) c.loop-i.i c.loop-i.invariant
    (sym c.in_ok-own_of_d.was ∙ c.own_of_d.ensures ∙ rw c.bit_of.ensures refl)

pub returns : goal.returns
returns g c =
    let control = passed_control c.args.level channel.D (D c.args.message.now) _ (d_owns c.args.message.now)
    (d_beats c.args.level c.args.message.now)
    (sym c.in_ok-control_of_d.was ∙ c.control_of_d.ensures.value) in
    let end : c.args.beats ≡ c.loop-i.i = omega arith in
    sym (ap ok_unless (control ∙ ap (first_own (d_owns c.args.message.now) 0) (sym c.requires.beats ∙ end)
    ∙ c.loop-i.invariant))
