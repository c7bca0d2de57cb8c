use Rattle.std.proofs.Common.{◌∙◌, ◌%◌, ℕ, ap, refl, sym}
use Rattle.std.proofs.lemmas.Result.{err_from_is_err_and}
use Rattle.tl_wide_events.proofs.NarrowedCommits.{commit-beyond, commit-numbered, probe_of}
use Rattle.tl_wide_events.proofs.narrow.narrow_commit.Goals as goal

pub returns-in_err-named-clause-narrowed : goal.returns-in_err-named-clause-narrowed
returns-in_err-named-clause-narrowed c = λ w t follows.
    let p = err_from_is_err_and c.from_residual.result c.from_residual.ensures.1 in
    rw p.1 (c.in_err-named.ensures.b w (probe_of w c.args.commit) t (sym c.address-address.ensures) refl follows)

pub returns-in_default-clause-narrowed : goal.returns-in_default-clause-narrowed
returns-in_default-clause-narrowed c = λ w t follows.
    commit-beyond c.args.link c.args.commit t _ _ c.in_default.is
    (c.in_ok-named.ensures.b w (probe_of w c.args.commit) t (sym c.address-address.ensures) refl follows)

pub returns-clause-valid : goal.returns-clause-valid
returns-clause-valid c = λ is. c.at.ensures.valid is
    (c.in_block_of.ensures.place ∙ ap (λ (n : ℕ). n % 64) c.address-address.ensures)

pub returns-clause-narrowed : goal.returns-clause-narrowed
returns-clause-narrowed c = λ w t follows.
    commit-numbered c.args.link c.args.commit t _ c.in-Some.named _ c.in_block_of.result _ c.in-Some.is
    (c.in_ok-named.ensures.b w (probe_of w c.args.commit) t (sym c.address-address.ensures) refl follows)
    (c.in_block_of.ensures.place ∙ ap (λ (n : ℕ). n % 64) c.address-address.ensures) c.in_block_of.ensures.block
    c.at.ensures.same
