use Rattle.std.proofs.Common.{ap, ap₂, false, length, ◌∙◌, ◌≡◌, ◌&&◌, ◌||◌, not, find}
use Rattle.std.specs.Prelude.{is_some, slice_index_or}
use Rattle.tl_commits.specs.code.Loading.{is_of}
use Rattle.tl_commits.specs.statement.Copies.{holds_trunk, link_beats}
use Rattle.tl_commits.specs.statement.Events.{is_loading}
use Rattle.tl_commits.proofs.CommitsJudged.{begun-is}
use Rattle.tl_commits.proofs.judge.CommitJudge.says_piece.Goals as goal

pub returns : goal.returns
returns g c = λ levels complete l e k lt.
    let link = c.args.link.0 in
    let piece = c.args.piece in
    let begun : c.has_begun-begun.result ≡ is_loading link piece e =
    c.has_begun-begun.ensures ∙ ap (λ items. is_some (find (is_of link piece) items)) c.as_slice.ensures.value
    ∙ begun-is _ complete (length levels) link piece e (k.loads_are.are link piece) in
    c.both.ensures ∙ ap₂ (λ a b. not a && b) begun (c.either.ensures ∙ ap₂ (λ a b. a || not b)
    (c.is_complete-complete.ensures ∙ ap (λ items. slice_index_or items link false) k.complete_are)
    (c.holds_trunk-held.ensures levels l e k.judge_is lt ∙ ap (λ b. holds_trunk b (link_beats link e)) c.block_at.ensures))
