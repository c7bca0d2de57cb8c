-- The number of clients, and the places of their channels among those of a world.
use Rattle.std.specs.Prelude.{ℕ, ◌+◌, ◌*◌, length}
use Rattle.tl_beat.specs.declared.channel.Channel.{Channel}
use Rattle.tl_beat.specs.declared.channel.Channel.TheVariants as channel
use Rattle.tl_params.specs.declared.config.Config.{Config}

-- the place of a channel among those of a link
abbrev pub number : Channel → ℕ
number channel.A = 0
number channel.B = 1
number channel.C = 2
number channel.D = 3
number channel.E = 4

-- the place of a channel of a link among the channels of all links
abbrev pub place : ℕ → Channel → ℕ
place link ch = 5 * link + number ch

-- the number of clients of a configuration
abbrev pub clients_of : Config → ℕ
clients_of config = length config.clients.items
