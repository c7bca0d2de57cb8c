use Rattle.std.proofs.Common.{rules, refl}
use Rattle.tl_client.proofs.caching_client.Store.{written, does-stored}
use Rattle.tl_client.proofs.caching.Caching.store.Goals as goal

pub returns : goal.returns
returns g c = does-stored c.args.self.now _ c.args.address c.args.size c.args.value c.write_number.new.bytes
    (search rules)
    (written c.args.address c.args.size c.args.value _ _ _ _ c.requires.small c.new-span.ensures.block
    c.new-span.ensures.count (search rules))
    c.set_copy.ensures.held (rw c.block_at-block.ensures at (c.set_copy.ensures.copies (search rules)))
    c.set_copy.ensures.waiting refl refl refl refl refl refl
