use Rattle.std.proofs.Common.{refl}
use Rattle.tl_beat.specs.declared.beat.Beat.TheVariants.{C, E}
use Rattle.tl_manager.proofs.judging.Stalls.{stalls-answered, never-stalled}
use Rattle.tl_manager.proofs.law.stalls_requests.Goals as goal

pub returns-clause-answered : goal.returns-clause-answered
returns-clause-answered g c = λ config link ch x e. stalls-answered config link ch x e

pub returns-clause-never_c : goal.returns-clause-never_c
returns-clause-never_c g c = λ config link ch x e. never-stalled config link ch (C x) e refl

pub returns-clause-never_e : goal.returns-clause-never_e
returns-clause-never_e g c = λ config link ch x e. never-stalled config link ch (E x) e refl
