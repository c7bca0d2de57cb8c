-- What a call answers, as the definition's answer.
use Rattle.std.specs.Prelude.{ℕ, ◌≡◌, Option, Some, None, Result, Ok, Err}
use Rattle.tl_params.specs.declared.rule.Rule.{Rule}
use Rattle.tl_manager.specs.statement.Offer.{Reception, Refused, Stalled, Sent}
use Rattle.tl_manager.specs.code.Outbox.{messages_of}
use Rattle.tl_manager.specs.declared.manager.Taken.{Taken}
use Rattle.tl_manager.specs.declared.manager.Taken.TheVariants as taken
use Rattle.tl_manager.specs.declared.manager.reply.Outbox.{Outbox}

abbrev pub answer_of : {w : ℕ} → Result (Taken w) Rule → Reception w
answer_of (Err rule) = Refused rule
answer_of (Ok taken.Stalled) = Stalled
answer_of (Ok (taken.Sent handed)) = Sent handed.items

abbrev pub IsAnswer : {w : ℕ} → Result (Taken w) Rule → Reception w → Type 0
IsAnswer result answer = answer_of result ≡ answer

-- of a beat that is taken, what is handed out; None for one that has to wait
abbrev pub sent_of : {w : ℕ} → Result (Option (Outbox w)) Rule → Reception w
sent_of (Err rule) = Refused rule
sent_of (Ok None) = Stalled
sent_of (Ok (Some outbox)) = Sent (messages_of outbox)
