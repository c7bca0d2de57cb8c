-- What is handed out for a beat, as messages.
use Rattle.std.specs.Prelude.{ℕ, [], ◌∷◌, ◌==◌}
use Rattle.std.specs.Int.{bit_at}
use Rattle.tl_manager.specs.statement.Handing.{Handed, probes}
use Rattle.tl_manager.specs.statement.Holders.{clients_from}
use Rattle.tl_manager.specs.declared.manager.reply.Outbox.{Outbox}
use Rattle.tl_manager.specs.declared.manager.reply.Outbox.TheVariants.{Nothing, One, Probes}

-- the messages, in the order in which they are handed out
abbrev pub messages_of : {w : ℕ} → Outbox w → Handed w
messages_of Nothing = []
messages_of (One m) = m ∷ []
messages_of (Probes block cap clients) = probes block cap (clients_from 0 16 (λ c. bit_at clients c == 1))
