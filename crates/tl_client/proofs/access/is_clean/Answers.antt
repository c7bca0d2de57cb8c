use Rattle.tl_client.proofs.messages.Clean.{is_clean-from_blank}
use Rattle.tl_client.proofs.access.is_clean.Goals as goal

pub returns-then-access-eq0 : goal.returns-then-access-eq0
returns-then-access-eq0 g c = is_clean-from_blank c.args.access.now c.is_blank.result c.if-access-eq0.true
    (rw c.requires.same at c.is_blank.ensures)
