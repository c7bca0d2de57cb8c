use Rattle.std.proofs.Common.{length, refl, sym, ◌∙◌, ◌≡◌}
use Rattle.std.specs.Prelude.{None}
use Rattle.tl_rules.specs.statement.Liberties.{broken_on_link_under}
use Rattle.tl_together.proofs.judge.Judge.broken.Goals as goal

pub returns-in-Some-clause-broken : goal.returns-in-Some-clause-broken
returns-in-Some-clause-broken g c = λ levels may t k.
    rw (sym (c.broken_under.ensures levels may t _ (k.open_knows refl).monitor_is.knows) ∙ c.in-Some.is) refl

pub returns-in-Some-broken_memory-clause-broken : goal.returns-in-Some-broken_memory-clause-broken
returns-in-Some-broken_memory-clause-broken g c = λ levels may t k.
    let fine : broken_on_link_under may levels (c.args.link, c.args.beat.now) t ≡ None =
    sym (c.broken_under.ensures levels may t _ (k.open_knows refl).monitor_is.knows) ∙ c.in_default.is in
    let known = (c.change.ensures.knows levels may t _ k).open_knows refl in
    rw (
      fine,
      sym (c.broken_memory.ensures levels may t known (c.in_ok-change.ensures.free levels may t k) fine
          (c.in_ok-change.ensures.change levels may t k fine)) ∙ c.in-Some-broken_memory.is,
    ) refl

pub returns-clause-broken : goal.returns-clause-broken
returns-clause-broken g c = λ levels may t k.
    let fine : broken_on_link_under may levels (c.args.link, c.args.beat.now) t ≡ None =
    sym (c.broken_under.ensures levels may t _ (k.open_knows refl).monitor_is.knows) ∙ c.in_default.is in
    let known = (c.change.ensures.knows levels may t _ k).open_knows refl in
    rw (
      fine,
      sym (c.broken_memory.ensures levels may t known (c.in_ok-change.ensures.free levels may t k) fine
          (c.in_ok-change.ensures.change levels may t k fine)) ∙ c.in-None.is,
    ) refl
