use Rattle.std.proofs.Common.{rules}
use Rattle.std.specs.Prelude.{option_copied}
use Rattle.tl_memory.proofs.messages.LinkStates.{allowed-none, allowed-some}
use Rattle.tl_memory.proofs.link.is_allowed.Goals as goal

pub returns-in-None : goal.returns-in-None
returns-in-None g c = allowed-none (option_copied c.args.expected) c.args.beats c.args.x.now (search rules)

pub returns-in-Some : goal.returns-in-Some
returns-in-Some g c = allowed-some (option_copied c.args.expected) c.in-Some.known.now c.args.beats c.args.x.now
    c.is_expected.result (search rules) c.is_expected.ensures.granted c.is_expected.ensures.read
