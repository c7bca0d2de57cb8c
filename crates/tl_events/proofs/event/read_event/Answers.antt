use Rattle.std.proofs.Common.{rules}
use Rattle.tl_events.proofs.EventLines.{none-spelled, ok-event, one-event}
use Rattle.tl_events.specs.declared.commit.Event.TheVariants as event
use Rattle.tl_events.proofs.event.read_event.Goals as goal

pub returns-in-Ok-clause-every_spelling : goal.returns-in-Ok-clause-every_spelling
returns-in-Ok-clause-every_spelling g c = λ link x spells.
    ok-event c.args.line.now c.in-Ok.link link (event.Commit c.in-Ok.commit) x c.requires c.in-Ok.ensures.spelled spells

pub returns-in-Ok-clause-one_event : goal.returns-in-Ok-clause-one_event
returns-in-Ok-clause-one_event g c = λ k l x y s t. one-event c.args.line.now k l x y c.requires s t

pub returns-in-Ok-read_line-clause-every_spelling : goal.returns-in-Ok-read_line-clause-every_spelling
returns-in-Ok-read_line-clause-every_spelling g c = λ link x spells.
    ok-event c.args.line.now c.in-Ok-read_line.link link (event.Beat c.in-Ok-read_line.beat) x c.requires
    c.in-Ok-read_line.ensures.spelled spells

pub returns-in-Ok-read_line-clause-one_event : goal.returns-in-Ok-read_line-clause-one_event
returns-in-Ok-read_line-clause-one_event g c = λ k l x y s t. one-event c.args.line.now k l x y c.requires s t

pub returns-then-ne-clause-every_spelling : goal.returns-then-ne-clause-every_spelling
returns-then-ne-clause-every_spelling g c = λ link x spells.
    absurd (none-spelled c.args.line.now c.in-Err.fault c.requires c.in-Err.ensures.fault (search rules) link x spells)

pub returns-then-ne-clause-one_event : goal.returns-then-ne-clause-one_event
returns-then-ne-clause-one_event g c = λ k l x y s t. one-event c.args.line.now k l x y c.requires s t
