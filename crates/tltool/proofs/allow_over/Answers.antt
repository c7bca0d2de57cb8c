use Rattle.tltool.proofs.Allowing.{ends_short}
use Rattle.tltool.proofs.allow_over.Goals as goal

pub returns : goal.returns
returns g c = ends_short c.args.explained c.args.allow _ _ _ _ _ _ _ c.in-Err-write_all.fault _ c.new-text.ensures.items
    c.in_default.ensures.ok c.deref.ensures.value c.in-Err-write_all.ensures.err c.in-Err-write_all.ensures.fault
    c.told-in-Err-write_all.ensures
