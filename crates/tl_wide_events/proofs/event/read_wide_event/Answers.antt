use Rattle.std.proofs.Common.{rules}
use Rattle.tl_wide_events.proofs.EventLines.{none-spelled, ok-event, same-event}
use Rattle.tl_wide_events.specs.declared.commit.WideEvent.TheVariants as wide
use Rattle.tl_wide_events.proofs.event.read_wide_event.Goals as goal

pub returns-in-Ok-clause-every_spelling : goal.returns-in-Ok-clause-every_spelling
returns-in-Ok-clause-every_spelling g c = λ link x spells.
    ok-event c.args.line.now c.in-Ok.link link (wide.Commit c.in-Ok.commit) x c.requires c.in-Ok.ensures.spelled spells

pub returns-in-Ok-clause-one_event : goal.returns-in-Ok-clause-one_event
returns-in-Ok-clause-one_event g c = λ k l x y s t. same-event c.args.line.now k l x y c.requires s t

pub returns-in-Ok-read_wide_into-clause-every_spelling : goal.returns-in-Ok-read_wide_into-clause-every_spelling
returns-in-Ok-read_wide_into-clause-every_spelling g c = λ link x spells.
    ok-event c.args.line.now c.in-Ok-read_wide_into.link link (wide.Beat c.read_wide_into.new.beat) x c.requires
    c.in-Ok-read_wide_into.ensures.spelled spells

pub returns-in-Ok-read_wide_into-clause-one_event : goal.returns-in-Ok-read_wide_into-clause-one_event
returns-in-Ok-read_wide_into-clause-one_event g c = λ k l x y s t. same-event c.args.line.now k l x y c.requires s t

pub returns-then-ne-clause-every_spelling : goal.returns-then-ne-clause-every_spelling
returns-then-ne-clause-every_spelling g c = λ link x spells.
    absurd (none-spelled c.args.line.now c.in-Err.fault c.requires c.in-Err.ensures.fault (search rules) link x spells)

pub returns-then-ne-clause-one_event : goal.returns-then-ne-clause-one_event
returns-then-ne-clause-one_event g c = λ k l x y s t. same-event c.args.line.now k l x y c.requires s t
