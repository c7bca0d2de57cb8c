use Rattle.std.proofs.Common.{◌-◌, ◌+◌, ◌++◌, ◌≡◌, ◌∙◌, ap, arith, refl, rules, None, option_map}
use Rattle.std.proofs.lemmas.List.{get_or_default}
use Rattle.std.specs.Prelude.{Option, slice_index_or}
use Rattle.tl_commit_story.specs.code.Stored.{last_in, stored_of}
use Rattle.tl_commit_story.specs.statement.Grounds.{number_or, store_words}
use Rattle.tl_commit_story.specs.declared.store_line.StoreLine.{StoreLine}
use Rattle.tl_commit_story.proofs.Told.{all-told, store-told}
use Rattle.tl_commit_story.proofs.stores.Stores.append.Goals as goal

pub loop-place-preserved : goal.loop-place-preserved
loop-place-preserved c =
    let read : slice_index_or c.args.self.now.last c.loop-place.place c.index-self-place.result ≡ slice_index_or c.args.self.now.last c.loop-place.place None =
    get_or_default c.args.self.now.last c.loop-place.place c.index-self-place.result None (search rules) in
    record {
      within = refl;
      past = omega (arith, c.loop-place-test.true);
      told = store-told (last_in c.args.self.now.last) c.loop-place.place c.loop-place.told
          (c.args.first + c.args.count - c.loop-place.place) c.loop-place.out.items _ c.in_ok-told.told
          (c.args.first + c.args.count - (c.loop-place.place + 1)) c.append_store.new.out.items
          (omega (arith, c.loop-place-test.true)) c.loop-place.invariant.told
          (c.in_ok-told.ensures.text
          ∙ ap (λ (o : Option StoreLine). c.loop-place.out.items ++ store_words c.loop-place.told (option_map stored_of o)) read)
          (c.in_ok-told.ensures.number ∙ ap (λ (o : Option StoreLine). number_or c.loop-place.told (option_map stored_of o)) read);
    }

pub returns : goal.returns
returns c = all-told (last_in c.args.self.now.last) c.loop-place.place c.loop-place.told
    (c.args.first + c.args.count - c.loop-place.place) c.loop-place.out.items _
    (omega (arith, c.loop-place-test.false)) c.loop-place.invariant.told
