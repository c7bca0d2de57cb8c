-- Reports that take Trunk away, and those that answer a Probe which asks for no data.
use Rattle.std.specs.Prelude.{Bool, not, ◌&&◌}
use Rattle.tl_beat.specs.declared.beat.BeatC.{BeatC}
use Rattle.tl_burst.specs.statement.Messages.{History}
use Rattle.tl_params.specs.declared.perm.Perm.TheVariants as perm
use Rattle.tl_rules.specs.statement.Conformance.{same_perm}
use Rattle.tl_rules.specs.statement.History.{block_at, reported}
use Rattle.tl_rules.specs.statement.OpenMessages.{open_probe}
use Rattle.tl_commits.specs.statement.Copies.{holds_trunk}
use Rattle.tl_commits.specs.statement.Seen.{asks_nothing, is_plain_ack}
use Rattle.std.specs.Prelude.{ℕ}

-- the beat answers a Probe of its block that asks for no data
abbrev pub answers_nothing : {w : ℕ} → BeatC w → History w → Bool
answers_nothing x past = is_plain_ack x.opcode && asks_nothing (open_probe (block_at x.address) past)

-- the beat takes Trunk of its block away
abbrev pub leaves_trunk : {w : ℕ} → BeatC w → History w → Bool
leaves_trunk x past = holds_trunk (block_at x.address) past && not (same_perm (reported x.param) perm.Trunk)
