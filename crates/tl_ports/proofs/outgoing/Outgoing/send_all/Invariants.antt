use Rattle.std.proofs.Common.{ℕ, ◌≡◌, ◌-◌, ◌++◌, drop, length}
use Rattle.tl_beat.specs.declared.channel.Channel.{Channel}
use Rattle.tl_ports.specs.code.Room.{HasRoom}
use Rattle.tl_ports.specs.statement.Waiting.{waiting, handed_all}
use Rattle.tl_ports.proofs.outgoing.Outgoing.send_all.Given as goal

abbrev pub invariant-loop-message : goal.invariant-loop-message
invariant-loop-message g l = record {
  room : HasRoom (length l.handed - l.message-index) l.self;
  sent : (at : ℕ) (ch : Channel) → waiting at ch l.self ++ handed_all at ch (drop l.message-index l.handed)
      ≡ waiting at ch l.fn.self ++ handed_all at ch l.handed;
}
