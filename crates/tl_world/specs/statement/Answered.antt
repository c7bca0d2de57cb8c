-- The outcome of an operation that hands out no message.
use Rattle.std.specs.Prelude.{ℕ, Option, Some, None}
use Rattle.tl_client.specs.declared.reply.Reply.{Reply}
use Rattle.tl_coherence.specs.declared.event.Outcome.{Outcome}
use Rattle.tl_coherence.specs.declared.event.Outcome.TheVariants.{Replied, NoSuchClient}

-- the client's reply, or that there is no such client
abbrev pub answered : {w : ℕ} → Option Reply → Outcome w
answered None = NoSuchClient
answered (Some reply) = Replied reply
