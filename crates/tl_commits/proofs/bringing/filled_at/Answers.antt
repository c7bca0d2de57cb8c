use Rattle.std.proofs.Common.{sym, ◌∙◌}
use Rattle.tl_beat.specs.declared.channel.Channel.{Channel}
use Rattle.tl_burst.specs.statement.Messages.{unfinished}
use Rattle.tl_memory.specs.code.ByteSet.{has}
use Rattle.tl_commits.proofs.LoadedBytes.{fills-none, fills-one}
use Rattle.tl_commits.proofs.bringing.filled_at.Goals as goal

pub returns-then-has_brought_at : goal.returns-then-has_brought_at
returns-then-has_brought_at g c = λ t messages lt v small.
    c.with.ensures v small
    ∙ fills-one c.args.block c.args.place t lt (has c.args.own v) (has c.args.held v) v c.at.result
    (sym (c.has_brought_at.ensures t messages lt) ∙ c.if-has_brought_at.true)
    (c.at.ensures ∙ c.bytes.ensures g.row.W (unfinished Channel.D t) messages.d_is.bytes_are c.args.place lt)

pub returns : goal.returns
returns g c = λ t messages lt v small.
    fills-none c.args.block c.args.place t lt (has c.args.own v) (has c.args.held v) v
    (sym (c.has_brought_at.ensures t messages lt) ∙ c.if-has_brought_at.false)
