use Rattle.std.proofs.Common.{◌≡◌, ◌++◌, ◌∙◌, ap, false, length, rules, sym}
use Rattle.std.proofs.lemmas.Result.{IfOk-weaker}
use Rattle.tl_beat.specs.declared.beat.Link.{Link}
use Rattle.tl_evidence.specs.statement.ResponseLines.{response_lines}
use Rattle.tl_commit_story.specs.code.Placing.{is_of_links}
use Rattle.tl_commit_story.proofs.response_follower.tell_bytes.Goals as goal

pub returns-clause-tells : goal.returns-clause-tells
returns-clause-tells g c = IfOk-weaker c.tell_response.result _ _
    (λ told says. λ on.
    let of_bytes : is_of_links c.args.rule ≡ false = search rules in
    let same : c.args.link ≡ c.args.kept.now.link = search rules in
    record {
      of_bytes = of_bytes;
      says = λ may levels complete e k. says on may levels complete e k
          ∙ ap (λ (l : Link). c.args.out.now.items ++ response_lines (g.X.Places.names c.args.places.now) complete (length levels) l.0 c.args.x.now e) (sym same);
    })
    c.tell_response.ensures.tells
