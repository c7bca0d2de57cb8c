use Rattle.std.proofs.Common.{sym, ◌∙◌}
use Rattle.tl_client.proofs.messages.Lawful.{lawful-middle}
use Rattle.tl_client.proofs.response.goes_on.Goals as goal

pub returns-clause-lawful : goal.returns-clause-lawful
returns-clause-lawful g c = lawful-middle c.args.beat.now c.args.response.now c.args.responses.now c.goes_on.result
    c.requires.response (sym c.is_spoiled.ensures ∙ c.if-is_spoiled.false) c.goes_on.ensures.part
