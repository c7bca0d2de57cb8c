use Rattle.std.proofs.Common.{◌∙◌, length, refl}
use Rattle.tl_together.proofs.Showing.{freedom_is}
use Rattle.tl_together.proofs.shown.freed.Goals as goal

pub returns-in-Some : goal.returns-in-Some
returns-in-Some g c = λ levels may t k links_is lt shows left.
    let free = c.freedom_now.ensures levels may c.args.beat.now t k links_is lt (rw c.in-Some.is at left) in
    rw c.in-Some.is (freedom_is (length levels) c.in-Some.block (c.args.link, c.args.beat.now) t c.freedom_now.result
    (length levels) refl free.0.0 free.0.1 (free.1 ∙ c.is_shown-shows.ensures levels may t k lt shows))
