use Rattle.std.proofs.Common.{refl, sym, ◌∙◌}
use Rattle.tl_bytes.proofs.Offered.{offered-again, offered-more}
use Rattle.tl_bytes.proofs.read_bytes.ReadBytes.offer.Goals as goal

pub returns-then-has : goal.returns-then-has
returns-then-has c = λ at v. offered-again c.args.self.now c.args.place c.args.value at v
    (sym c.has.ensures ∙ c.if-has.true)

pub returns : goal.returns
returns c = λ at v. offered-more c.args.self.now (record { first = c.args.self.now.first; more = c.push.new.self })
    c.args.place c.args.value at v refl c.in_ok-push.ensures.items
