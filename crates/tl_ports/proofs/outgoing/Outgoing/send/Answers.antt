use Rattle.std.proofs.Common.{rules, sym, arith, ◌<◌, ◌≤◌}
use Rattle.std.proofs.lemmas.List.{append-nil}
use Rattle.std.specs.Vec.{vec_len, vec_capacity}
use Rattle.tl_burst.specs.statement.Burst.{beats_of}
use Rattle.tl_rules.specs.statement.Legality.{beats_from}
use Rattle.tl_burst.proofs.Lanes.{few_beats}
use Rattle.tl_ports.proofs.Sending.{one_more, most_beats}
use Rattle.tl_ports.proofs.Places.{sent}
use Rattle.tl_ports.proofs.outgoing.Outgoing.send.Goals as goal

pub loop-i-init : goal.loop-i-init
unfolding beats_from
loop-i-init g c = record {
  items = sym (append-nil c.args.self.now.beats.items);
  len = search rules;
  capacity =
      search rules;
}

pub loop-i-preserved : goal.loop-i-preserved
loop-i-preserved g c =
    let inside : c.loop-i.i < beats_of c.args.message.now = search rules in
    let few = few_beats c.args.message.now c.loop-i.i c.requires.width inside in
    let room : vec_len c.loop-i.self.beats < vec_capacity c.loop-i.self.beats =
    omega (arith, few, c.loop-i.invariant.len, c.loop-i.invariant.capacity, c.requires.room) in
    record {
      items = one_more c.args.link c.args.message.now c.loop-i.i c.args.self.now.beats.items c.loop-i.self.beats.items
          c.push.new.self.items _ c.beat_at.result
          c.beat_at.ensures.beat c.loop-i.invariant.items c.push.ensures.items (c.push.ensures.succeeds room);
      len = search (rules, c.push.ensures.succeeds room);
      capacity = search rules;
    }

pub returns-clause-behind : goal.returns-clause-behind
returns-clause-behind g c = λ l ch. sent c.args.link c.args.message.now c.args.self.now c.loop-i.self l ch
    (search rules)

pub returns-clause-room : goal.returns-clause-room
returns-clause-room g c = λ n room.
    let most = most_beats c.args.message.now c.requires.width in
    let done : c.loop-i.i ≤ beats_of c.args.message.now = search rules in
    omega (arith, most, done, room, c.loop-i.invariant.len, c.loop-i.invariant.capacity)
