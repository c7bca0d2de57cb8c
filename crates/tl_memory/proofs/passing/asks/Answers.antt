use Rattle.std.proofs.Common.{◌≡◌, true, refl, sym, ◌∙◌}
use Rattle.tl_beat.specs.declared.opcode.OpA.{OpA}
use Rattle.tl_beat.specs.declared.channel.Channel.{Channel}
use Rattle.tl_burst.specs.statement.Messages.{unfinished}
use Rattle.tl_bytes.specs.statement.Bytes.{is_access, is_put}
use Rattle.tl_memory.proofs.passing.asks.Goals as goal

-- a Put is an access
put-accesses : (opcode : OpA) → is_put opcode ≡ true → is_access opcode ≡ true
put-accesses OpA.PutFullData e = refl
put-accesses OpA.PutPartialData e = refl
put-accesses v e = absurd cc

pub returns-then-is_put : goal.returns-then-is_put
returns-then-is_put g c = λ t k few.
    let put = sym c.is_put.ensures ∙ c.if-is_put.true in
    rw (put, put-accesses c.args.y.now.opcode put) refl

pub returns-then-not-is_access : goal.returns-then-not-is_access
returns-then-not-is_access g c = λ t k few. rw (sym c.is_access.ensures ∙ c.if-not-is_access.true) refl

pub returns : goal.returns
returns g c = λ t k few.
    rw (sym c.is_put.ensures ∙ c.if-is_put.false, sym c.is_access.ensures ∙ c.if-not-is_access.false)
    (c.completes.ensures (unfinished Channel.A t) k few)
