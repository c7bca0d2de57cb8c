use Rattle.std.proofs.Common.{◌≡◌, rules}
use Rattle.tl_schedule.proofs.CommitTexts.{value-written}
use Rattle.tl_schedule.proofs.commit.append_value.Goals as goal

pub returns-in_default-clause-text : goal.returns-in_default-clause-text
returns-in_default-clause-text c =
    let eight : c.args.size ≡ 3 = search rules in
    value-written c.args.text.now.items c.push.new.self.items c.append_digits-in_default.new.text.items
    c.append_digits-in_default-2.new.text.items c.args.size c.args.value eight c.push.ensures.items
    c.append_digits-in_default.ensures.text c.append_digits-in_default-2.ensures.text
