use Rattle.std.proofs.Common.{sym, ◌∙◌}
use Rattle.tl_bytes.proofs.ToldLines.{told-earlier, told-known, told-last}
use Rattle.tl_bytes.proofs.block_bytes.BlockBytes.told_at.Goals as goal

pub returns-then-same_value-clause-kept : goal.returns-then-same_value-clause-kept
returns-then-same_value-clause-kept c =
    told-last c.args.self.now c.args.place c.args.byte c.at-last.result
    c.at-last.ensures (sym c.same_value.ensures ∙ c.if-same_value.true)

pub returns-then-same_value-clause-told : goal.returns-then-same_value-clause-told
returns-then-same_value-clause-told c = λ w n block t k small. told-known c.args.self.now n block c.args.place
    c.args.byte t _ (told-last c.args.self.now c.args.place c.args.byte c.at-last.result
    c.at-last.ensures (sym c.same_value.ensures ∙ c.if-same_value.true)) k small

pub returns-clause-kept : goal.returns-clause-kept
returns-clause-kept c =
    (rw c.as_slice.ensures.value at c.moment_in.ensures)
    ∙ told-earlier c.args.self.now c.args.place c.args.byte c.at-last.result
    c.at-last.ensures (sym c.same_value.ensures ∙ c.if-same_value.false)

pub returns-clause-told : goal.returns-clause-told
returns-clause-told c = λ w n block t k small.
    told-known c.args.self.now n block c.args.place c.args.byte t _ ((rw c.as_slice.ensures.value at
    c.moment_in.ensures) ∙ told-earlier c.args.self.now c.args.place c.args.byte c.at-last.result
    c.at-last.ensures (sym c.same_value.ensures ∙ c.if-same_value.false)) k small
