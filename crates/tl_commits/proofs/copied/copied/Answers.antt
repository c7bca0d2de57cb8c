use Rattle.std.proofs.Common.{◌∙◌, refl}
use Rattle.std.proofs.lemmas.Result.{IfOk-weaker}
use Rattle.tl_beat.specs.declared.channel.Channel.{Channel}
use Rattle.tl_burst.specs.statement.Messages.{unfinished}
use Rattle.tl_bytes.proofs.Whole.{whole-mask}
use Rattle.tl_bytes.specs.statement.Known.{tellings_at}
use Rattle.tl_commits.proofs.CopiedBytes.{copied-at}
use Rattle.tl_commits.proofs.TellingLists.{whole}
use Rattle.tl_commits.proofs.copied.copied.Goals as goal

pub returns : goal.returns
returns g c = IfOk-weaker c.replaced.result _ _
    (λ told says. λ t messages p lt.
    says p lt ∙ copied-at c.args.block p t _ _ (tellings_at p c.args.seen.now) lt
    (c.brought_places-places.ensures t messages p lt)
    ((whole-mask (whole c.bytes.result.now) p refl refl lt).1
    ∙ c.bytes.ensures g.row.W (unfinished Channel.D t) messages.d_is.bytes_are p lt))
    c.replaced.ensures
