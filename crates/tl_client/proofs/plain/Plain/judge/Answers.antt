use Rattle.tl_client.proofs.plain_client.Calls.{takeable_response}
use Rattle.tl_client.proofs.plain.Plain.judge.Goals as goal

pub returns-in_ok-check_beat-in-D-D-clause-takeable : goal.returns-in_ok-check_beat-in-D-D-clause-takeable
returns-in_ok-check_beat-in-D-D-clause-takeable g c = takeable_response c.judge_order.result c.args.beat.now
    c.in_ok-check_beat-in-D-D.ensures.takeable
