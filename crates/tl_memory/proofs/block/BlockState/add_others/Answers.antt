use Rattle.std.proofs.Common.{ap, sym, ◌∙◌, ◌||◌}
use Rattle.tl_bytes.specs.code.Tellings.{leaves, left_as}
use Rattle.tl_memory.specs.code.ByteSet.{has_at}
use Rattle.tl_memory.specs.code.Writers.{writes_but, writes_outrun}
use Rattle.tl_memory.specs.statement.Known.{open_for}
use Rattle.tl_memory.proofs.values.Added.{or-more}
use Rattle.tl_memory.proofs.values.Writing.{all-may-write, found-append}
use Rattle.tl_memory.proofs.block.BlockState.add_others.Goals as goal

pub returns : goal.returns
returns g c = λ n block t k place v lt small.
    let s = c.args.self.now in
    let before = has_at c.args.sets.now place v in
    let pending = writes_but c.args.link.0 c.args.source s.accesses.items in
    let out = writes_outrun s.outrun in
    c.add_outrun.ensures place v lt small
    ∙ ap (λ l. has_at c.add_writes_but.new.sets place v || left_as place v (writes_outrun l)) c.as_slice-2.ensures.value
    ∙ ap (λ b. b || left_as place v out) (c.add_writes_but.ensures place v lt small
    ∙ ap (λ l. before || left_as place v (writes_but c.args.link.0 c.args.source l)) c.as_slice.ensures.value)
    ∙ or-more before (left_as place v pending) (left_as place v out)
    ∙ ap (λ b. before || b) (sym (found-append (leaves place v) pending out)
    ∙ all-may-write n block c.args.link.0 c.args.source t s.accesses.items s.outrun {admits = open_for s.free} k.accesses_are
    k.outrun_are place v lt)
