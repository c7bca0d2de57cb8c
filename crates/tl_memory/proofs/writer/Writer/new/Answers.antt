use Rattle.tl_memory.proofs.writer.Writer.new.Goals as goal

pub returns : goal.returns
returns g c = λ older k wide room lawful.
    let asked = c.new-asked.ensures older k wide room in (
      asked,
      c.pending_write.ensures c.args.link.0 c.args.y.now older c.args.moment asked lawful k wide,
    )
