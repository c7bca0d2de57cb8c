-- The channels of the whole carry the messages of the protocol's tokens.
use Rattle.std.specs.Prelude.{ℕ, List}
use Rattle.tl_beat.specs.declared.channel.Channel.{Channel}
use Rattle.tl_burst.specs.statement.Messages.{unfinished}
use Rattle.tl_coherence.specs.refinement.Carried.{IsCarried}
use Rattle.tl_coherence.specs.protocol.Protocol.{State}
use Rattle.tl_coherence.specs.refinement.PacketMessages.{AccessMessages, messages_on}
use Rattle.tl_coherence.specs.statement.Delivery.{receiver}
use Rattle.tl_coherence.specs.statement.System.{System}

abbrev pub ChannelRelation : {w : ℕ} → AccessMessages w → State (List ℕ) → System w → Type 0
ChannelRelation mail s sys = (c : ℕ) (ch : Channel)
    → IsCarried (unfinished ch (receiver ch c sys)) (messages_on ch mail s c) (sys.channels c ch)
