use Rattle.std.proofs.Common.{◌≡◌, ◌≤◌, ◌+◌, ◌*◌, ◌/◌, ◌++◌, ◌∙◌, ap, arith, length, rules}
use Rattle.tl_beat.specs.declared.channel.Channel.TheVariants as channel
use Rattle.tl_burst.specs.statement.Messages.{unfinished}
use Rattle.tl_commits.specs.statement.Copies.{link_beats}
use Rattle.tl_evidence.proofs.CopyTexts.{given-by}
use Rattle.tl_evidence.proofs.copy_record.CopyRecord.tell_given.Goals as goal

pub returns : goal.returns
returns g c = λ on may levels complete e k came.
    let r = c.args.self.now in
    let here : c.args.x.now.address / 64 ≡ r.block = search rules in
    let room : c.saturating_mul-first.result + length c.in-Some.lanes ≤ 64 = search rules in
    let first : c.saturating_mul-first.result ≡ g.row.W * length (unfinished channel.C (link_beats r.link.0 e)) =
    omega (arith, c.saturating_mul-first.ensures, ap (λ m. g.row.W * m) came, room) in
    c.in_ok-tell_lanes.ensures
    ∙ ap (λ text. c.args.out.now.items ++ text) (given-by (g.X.Places.names c.args.places.now) r may levels complete e k c.args.x.now
    c.saturating_mul-first.result c.possible-values.result.block c.in-Some.lanes c.possible-values.result.set.now
    c.possible-values.ensures.block c.possible-values.ensures.set here first room c.in-Some.is)
