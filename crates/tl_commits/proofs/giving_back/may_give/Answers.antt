use Rattle.std.proofs.Common.{sym, ◌∙◌}
use Rattle.tl_beat.specs.declared.channel.Channel.{Channel}
use Rattle.tl_burst.specs.statement.Messages.{unfinished}
use Rattle.tl_commits.specs.statement.Copies.{link_beats}
use Rattle.tl_commits.proofs.GivenBack.{gives-brought, gives-possible}
use Rattle.tl_commits.proofs.giving_back.may_give.Goals as goal

pub returns-then-has_brought_at : goal.returns-then-has_brought_at
returns-then-has_brought_at g c = λ complete n link e k messages small.
    let past = link_beats link e in
    c.could_be.ensures
    ∙ gives-brought complete n link e c.args.block c.args.place c.args.byte small c.at.result
    (sym (c.has_brought_at.ensures past messages small) ∙ c.if-has_brought_at.true)
    (c.at.ensures ∙ c.bytes.ensures g.row.W (unfinished Channel.D past) messages.d_is.bytes_are c.args.place small)

pub returns : goal.returns
returns g c = λ complete n link e k messages small.
    let past = link_beats link e in
    c.is_seen.ensures g.row.W complete n e k small
    ∙ gives-possible complete n link e c.args.block c.args.place c.args.byte small
    (sym (c.has_brought_at.ensures past messages small) ∙ c.if-has_brought_at.false)
