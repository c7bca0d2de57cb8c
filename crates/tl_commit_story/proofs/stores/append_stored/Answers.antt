use Rattle.std.proofs.Common.{rules}
use Rattle.tl_commit_story.proofs.Told.{appended, stored-after}
use Rattle.tl_commit_story.proofs.stores.append_stored.Goals as goal

pub returns-in_ok-extend_from_slice-in-len1-up : goal.returns-in_ok-extend_from_slice-in-len1-up
returns-in_ok-extend_from_slice-in-len1-up c =
    appended c.extend_from_slice-in-len1-up-2.result c.extend_from_slice-in-len1-up.new.self.items
    c.extend_from_slice-in-len1-up-2.new.self.items c.args.stores.now _ c.extend_from_slice-in-len1-up-2.ensures.items
    (stored-after c.args.out.now.items c.extend_from_slice-in-len1-up.new.self.items c.args.stores.now (search rules)
    c.in-len1-up.len_at_least)
