use Rattle.std.proofs.Common.{ap, refl, ◌∙◌, ◌||◌}
use Rattle.tl_bytes.specs.code.Tellings.{is_written}
use Rattle.tl_bytes.specs.statement.Known.{tellings_at}
use Rattle.tl_commits.specs.code.Tellings.{with_set}
use Rattle.tl_commits.proofs.TellingLists.{none-in}
use Rattle.tl_commits.proofs.block_values.BlockValues.store.Goals as goal

pub returns-clause-stored : goal.returns-clause-stored
returns-clause-stored c =
    let write = c.args.write.now in
    record {
      seen_is = λ p lt. c.in_ok-set.ensures.set p lt
          ∙ ap (λ b. with_set b write c.args.moment p (tellings_at p c.args.self.now.seen.items))
          (c.with_written-places.ensures p lt ∙ ap (λ b. b || is_written write p) (none-in p lt));
      stored_is = c.with_written-self.ensures;
      memory_is = refl;
    }
