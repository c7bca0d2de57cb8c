-- Renaming changes no verdict on a link.
use Rattle.std.specs.Prelude.{ℕ, ◌≡◌, List}
use Rattle.tl_beat.specs.declared.beat.Beat.{Beat}
use Rattle.tl_beat.specs.declared.channel.Channel.{Channel}
use Rattle.tl_burst.specs.statement.Messages.{History}
use Rattle.tl_params.specs.declared.level.Level.{Level}
use Rattle.tl_params.specs.declared.liberties.Liberties.{Liberties}
use Rattle.tl_renaming.specs.statement.Renamed.{AreFaithful, IsFaithful, Renaming, Renamings, renamed, renamed_history}
use Rattle.tl_renaming.specs.statement.Renamed.{renamed_trace}
use Rattle.tl_rules.specs.statement.Conformance.{Trace}
use Rattle.tl_rules.specs.statement.Liberties.{broken_after_under, broken_order_under, first_fault_under, illegal_under}

-- a renamed beat breaks the same rule by itself
abbrev pub KeepsLegality : ℕ → Type 0
KeepsLegality w = (l : Liberties) (r : Renaming) (level : Level) (channel : Channel) (x : Beat w) → IsFaithful l r
    → illegal_under l level channel (renamed r x) ≡ illegal_under l level channel x

-- the first beat of a message, renamed, breaks the same rule of order after any renamed history
abbrev pub KeepsOrder : ℕ → Type 0
KeepsOrder w = (l : Liberties) (r : Renaming) (x : Beat w) (t : History w) → IsFaithful l r
    → broken_order_under l (renamed r x) (renamed_history r t) ≡ broken_order_under l x t

-- a renamed beat breaks the same rule of its link after any renamed history
abbrev pub KeepsHistories : ℕ → Type 0
KeepsHistories w = (l : Liberties) (r : Renaming) (level : Level) (x : Beat w) (t : History w) → IsFaithful l r
    → broken_after_under l level (renamed r x) (renamed_history r t) ≡ broken_after_under l level x t

-- a renamed trace has the same first fault: the same rule and place
abbrev pub KeepsTraces : ℕ → Type 0
KeepsTraces w = (l : Liberties) (r : Renamings) (levels : List Level) (trace : Trace w) → AreFaithful l r
    → first_fault_under l levels (renamed_trace r trace) ≡ first_fault_under l levels trace
