-- That the bytes which a run of one memory brings are true.
use Rattle.std.specs.Prelude.{ℕ, true, [], ◌∷◌, ◌≡◌, ⊤}
use Rattle.tl_beat.specs.declared.beat.Beat.{Beat}
use Rattle.tl_beat.specs.declared.beat.Beat.TheVariants as beat
use Rattle.tl_rules.specs.statement.Conformance.{Trace}
use Rattle.tl_rules.specs.statement.Effect.{Memory}
use Rattle.tl_bytes.specs.statement.Bytes.{is_true}
use Rattle.tl_one_memory.specs.statement.Run.{Run, IsRun, trace_in}

-- the bytes of a response are true after t
abbrev pub IsTrueBeat : {w : ℕ} → ℕ → ℕ → Beat w → Trace w → Type 0
IsTrueBeat n link (beat.D z) t = is_true z.opcode n link z t ≡ true
IsTrueBeat n link _ t = ⊤

-- so are those of all responses in a trace
unfoldable pub AreTrue : {w : ℕ} → ℕ → Trace w → Type 0
AreTrue n [] = ⊤
AreTrue n (y ∷ t) = IsTrueBeat n y.0.0 y.1 t × AreTrue n t

-- Whatever memory was at first: if there is such a run beside the beats of all links, no GrantData brings bytes that
-- may not be granted, and no AccessAckData bytes that its request may not bring.
abbrev pub TrueBytes : ℕ → Type 0
TrueBytes w = (n : ℕ) (first : Memory) (run : Run w) → IsRun n first run → AreTrue n (trace_in run)
