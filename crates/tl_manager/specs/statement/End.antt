-- The manager's end of its links.
use Rattle.std.specs.Prelude.{ℕ, List, []}
use Rattle.tl_rules.specs.statement.Conformance.{Trace}
use Rattle.tl_rules.specs.statement.Effect.{Memory}

-- The manager's end of all links: the beats that it took and the messages that it handed out, the links that a refusal
-- closed, and the memory.
pub record End (w : ℕ) : Type 0 where
  pub trace : Trace w
  pub closed : List ℕ
  pub memory : Memory

-- the end of a new manager: nothing taken or handed out, no link closed, memory all zero
abbrev pub fresh : {w : ℕ} → End w
fresh = record { trace = []; closed = []; memory = λ address. 0 }

-- the same end with this memory
abbrev pub with_memory : {w : ℕ} → Memory → End w → End w
with_memory memory e = record { trace = e.trace; closed = e.closed; memory = memory }
