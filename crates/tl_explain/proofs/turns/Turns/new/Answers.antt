use Rattle.tl_explain.proofs.follows.Keys.{no_turn}
use Rattle.tl_explain.proofs.turns.Turns.new.Goals as goal

pub returns : goal.returns
returns c = λ w subject. record {
  request_is = no_turn c.new.result _ _ c.new.ensures.opening c.new.ensures.closing;
  release_with_source_is = no_turn c.new-2.result _ _ c.new-2.ensures.opening c.new-2.ensures.closing;
  acquire_is = no_turn c.new-3.result _ _ c.new-3.ensures.opening c.new-3.ensures.closing;
  release_is = no_turn c.new-4.result _ _ c.new-4.ensures.opening c.new-4.ensures.closing;
  sink_is = no_turn c.new-5.result _ _ c.new-5.ensures.opening c.new-5.ensures.closing;
  grant_ack_is = no_turn c.new-6.result _ _ c.new-6.ensures.opening c.new-6.ensures.closing;
  probe_is = no_turn c.new-7.result _ _ c.new-7.ensures.opening c.new-7.ensures.closing;
}
