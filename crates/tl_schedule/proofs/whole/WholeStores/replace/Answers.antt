use Rattle.tl_schedule.proofs.Stored.{store-kept}
use Rattle.tl_schedule.proofs.whole.WholeStores.replace.Goals as goal

pub returns : goal.returns
returns c = λ k s. store-kept k s c.args.begun c.args.self.now.begun.items c.forget.new.begun.items _
    c.forget.ensures c.in_ok-push.ensures.items
