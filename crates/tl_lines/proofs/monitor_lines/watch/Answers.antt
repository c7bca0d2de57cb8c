use Rattle.std.proofs.Common.{refl, sym, inl}
use Rattle.tl_lines.proofs.Judged.{watched_beat}
use Rattle.tl_lines.proofs.monitor_lines.watch.Goals as goal

pub returns-in-Err : goal.returns-in-Err
returns-in-Err g c = λ together levels p t known. inl (c.in-Err.fault, sym c.in-Err.ensures.fault, refl)

pub returns-in-Ok : goal.returns-in-Ok
returns-in-Ok g c = watched_beat _ _ _ _ _ c.push.result c.in-Ok.ensures.spelled c.push.ensures
