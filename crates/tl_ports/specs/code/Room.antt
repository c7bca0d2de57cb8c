-- Room for messages.
use Rattle.std.specs.Prelude.{ℕ, ◌≤◌, ◌+◌, ◌*◌}
use Rattle.std.specs.Vec.{vec_len, vec_capacity}
use Rattle.tl_ports.specs.declared.outgoing.Outgoing.{Outgoing}

-- there is room for the beats of n messages, of which each has at most 16
abbrev pub HasRoom : {w : ℕ} → ℕ → Outgoing w → Type 0
HasRoom n outgoing = vec_len outgoing.beats + 16 * n ≤ vec_capacity outgoing.beats
