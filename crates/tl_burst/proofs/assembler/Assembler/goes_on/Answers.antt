use Rattle.std.proofs.Common.{◌∙◌, IsTrue, refl, sym, ap, arith, rules, true, false}
use Rattle.std.proofs.lemmas.Bool.{eq-eqb, ne_eqb}
use Rattle.tl_burst.specs.statement.Burst.{beat_of}
use Rattle.tl_burst.specs.statement.Messages.{same_control}
use Rattle.tl_burst.specs.statement.Part.{is_middle}
use Rattle.tl_burst.proofs.Begun.{begun_more, part-first, part-later, part-refused}
use Rattle.tl_burst.proofs.Lanes.{within_payload}
use Rattle.tl_burst.proofs.assembler.Assembler.goes_on.Goals as goal

pub returns-then-self-eq0-clause-part : goal.returns-then-self-eq0-clause-part
returns-then-self-eq0-clause-part g c =
    sym (part-first c.self.inside.message c.args.self.now c.args.beat.now c.self.inside.taken c.self.view_is
    c.if-self-eq0.true)

pub returns-then-not-continues-clause-part : goal.returns-then-not-continues-clause-part
returns-then-not-continues-clause-part g c =
    ap is_middle (sym (part-refused c.self.inside.message c.args.self.now c.args.beat.now c.self.inside.taken
    c.self.view_is (omega arith) (sym c.continues.ensures ∙ c.if-not-continues.true)))

pub returns-then-self-burst_length-clause-part : goal.returns-then-self-burst_length-clause-part
returns-then-self-burst_length-clause-part g c =
    ap is_middle (sym (part-later c.self.inside.message c.args.self.now c.args.beat.now c.self.inside.taken
    c.burst_length.result true c.self.view_is (omega arith) c.burst_length.ensures
    (eq-eqb _ _ c.if-self-burst_length.true) (sym c.continues.ensures ∙ c.if-not-continues.false)))

pub write_beat-requires : goal.write_beat-requires
write_beat-requires g c =
    let same : IsTrue (same_control c.args.beat.now (beat_of c.self.inside.message 0)) =
    sym c.continues.ensures ∙ c.if-not-continues.false in
    let within = within_payload c.self.inside.message c.self.inside.taken c.requires.width c.self.invariant.0 in
    let blank = c.self.invariant.1 (omega arith) in
    search (rules, within, same, blank)

pub returns-clause-part : goal.returns-clause-part
returns-clause-part g c =
    ap is_middle (sym (part-later c.self.inside.message c.args.self.now c.args.beat.now c.self.inside.taken
    c.burst_length.result false c.self.view_is (omega arith) c.burst_length.ensures
    (ne_eqb _ _ c.if-self-burst_length.false) (sym c.continues.ensures ∙ c.if-not-continues.false)))

pub returns-clause-grows : goal.returns-clause-grows
returns-clause-grows g c =
    begun_more c.self.inside.message c.self.inside.message c.write_beat.new.message c.args.self.now c.args.beat.now
    c.self.inside.taken c.self.view_is refl c.write_beat.ensures.here c.write_beat.ensures.earlier
