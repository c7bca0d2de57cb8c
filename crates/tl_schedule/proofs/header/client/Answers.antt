use Rattle.std.proofs.Common.{◌≡◌, rules, refl, None}
use Rattle.tl_params.proofs.Headers.{level_unread}
use Rattle.tl_schedule.proofs.header.client.Goals as goal

pub returns-in_err-level : goal.returns-in_err-level
returns-in_err-level c =
    let none : c.from_residual.result ≡ None = search rules in
    rw (none, level_unread _ c.in_err-level.ensures) refl
