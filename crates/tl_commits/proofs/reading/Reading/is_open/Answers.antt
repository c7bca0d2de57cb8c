use Rattle.std.proofs.Common.{◌≡◌, ◌∷◌, ◌&&◌, ◌||◌, rules, ap₂, ◌∙◌, length}
use Rattle.tl_bytes.specs.statement.Shown.{is_window}
use Rattle.tl_params.specs.declared.perm.Perm.TheVariants as perm
use Rattle.tl_rules.specs.statement.Conformance.{same_perm}
use Rattle.tl_commits.proofs.reading.Reading.is_open.Goals as goal

pub returns : goal.returns
returns g c = λ levels l t k lt may.
    let branch : c.eq.result ≡ same_perm c.needs-given.result perm.Branch = search rules in
    c.either.ensures
    ∙ ap₂ (λ a d. a || d) (c.is_free.ensures levels l ((c.args.link, c.args.beat.now) ∷ t) k)
    (c.both.ensures ∙ ap₂ (λ a d. a && d) branch (c.shows-shows.ensures levels l t k lt may))
    ∙ ap₂ (λ given block. is_window (length levels) given block (c.args.link, c.args.beat.now) t) c.needs-given.ensures
    c.block_at-block.ensures
