use Rattle.std.proofs.Common.{refl, subst}
use Rattle.std.specs.Prelude.{Option}
use Rattle.tl_beat.specs.declared.beat.Link.{Link}
use Rattle.tl_pictures.specs.statement.Answer.{ok}
use Rattle.tl_sessions.specs.statement.Manager.{ClosedOnLink}
use Rattle.tl_sessions.proofs.Called.{byte_flag}
use Rattle.tl_sessions.proofs.manager.closed.Goals as goal

pub returns-in-Some : goal.returns-in-Some
returns-in-Some g c =
    subst (λ (o : Option Link). ClosedOnLink c.args.port.now o c.args.is_closed.now c.from.result ok) c.in-Some.ensures (
      refl,
      λ config e k. rw (c.from.ensures, c.closed.ensures.alone config e k) (byte_flag _),
      λ terms config e k. rw (c.from.ensures, c.closed.ensures.under terms config e k) (byte_flag _),
    )
