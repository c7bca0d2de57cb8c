use Rattle.tl_commit_story.proofs.copy_follower.grounds_of.Goals as goal

pub returns-in-Ok : goal.returns-in-Ok
returns-in-Ok g c = c.new.ensures c.args.levels.now c.args.may c.in-Ok.ensures.1
