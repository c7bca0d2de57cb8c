use Rattle.tl_params.specs.statement.Liberties.{liberties_of}
use Rattle.tl_rules.specs.statement.Conformance.{on_link}
use Rattle.tl_monitor.proofs.AtProfile.{answers-of, more-of}
use Rattle.tl_monitor.proofs.Knowing.{to-liberties, to-profile}
use Rattle.tl_monitor.proofs.monitor.Monitor.try_push.Goals as goal

pub returns-clause-answer : goal.returns-clause-answer
returns-clause-answer g c = λ levels p t closed k.
    answers-of levels p t closed (c.args.link, c.args.beat.now) c.judge.result
    (c.judge.ensures.answer levels (liberties_of p) t closed (to-liberties c.args.self.now levels p t closed k))

pub returns-clause-knows : goal.returns-clause-knows
returns-clause-knows g c = λ levels p t closed k.
    to-profile c.judge.new.self levels p _ closed (c.judge.ensures.knows levels (liberties_of p) t closed (to-liberties c.args.self.now levels p t closed k))

pub returns-clause-memory : goal.returns-clause-memory
returns-clause-memory g c = λ levels p t closed k.
    more-of p (on_link c.args.link.0 t) c.args.beat.now c.judge.result
    (c.judge.ensures.memory levels (liberties_of p) t closed (to-liberties c.args.self.now levels p t closed k))
