-- Whether the bytes of a response's beat are allowed, by the values that it may bring.
use Rattle.std.specs.Prelude.{ℕ, Bool, true, false, ◌+◌, ◌*◌, ◌≤◌, ◌≡◌, Option, Some, None}
use Rattle.tl_beat.specs.declared.beat.BeatD.{BeatD}
use Rattle.tl_beat.specs.declared.opcode.OpD.{OpD}
use Rattle.tl_beat.specs.declared.opcode.OpD.TheVariants as d
use Rattle.tl_rules.specs.code.Place.{base_of}
use Rattle.tl_rules.specs.declared.past.Request.{Request}
use Rattle.tl_rules.specs.statement.Conformance.{Trace}
use Rattle.tl_bytes.specs.statement.Bytes.{Access, grants_truly, reads_truly}
use Rattle.tl_memory.specs.declared.expected.Expected.{Expected}
use Rattle.tl_memory.specs.statement.Expecting.{ExpectsGrant, ExpectsRead}

-- the bytes of a response are judged: of one that carries any to a client
abbrev pub is_judged : OpD → Bool
is_judged d.GrantData = true
is_judged d.AccessAckData = true
is_judged _ = false

-- the answer to whether a beat is allowed, before which k came, if this is expected
pub record IsAllowed {w : ℕ} (expected : Option Expected) (k : ℕ) (x : BeatD w) (b : Bool) : Type 0 where
  pub anything : expected ≡ None → b ≡ true
  pub granted : (n : ℕ) (asked : Request) (t : Trace w) → ExpectsGrant expected n (Some asked) t → w * k + w ≤ 64
      → b ≡ grants_truly n asked.block k x t
  pub read : (n : ℕ) (access : Access w) (t : Trace w) → ExpectsRead expected n (Some access) t
      → base_of w access.request.address + w * k + w ≤ 64 → b ≡ reads_truly n (Some access) k x t
