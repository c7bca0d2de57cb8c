-- The numbers of pending keys and of blocks held on a link.
use Rattle.std.specs.Prelude.{ℕ, Bool, true, false, List, [], ◌∷◌, ◌<◌, ◌⊎◌, ◌^◌, if◌then◌else◌, length, nat_lt, Result, Err, ⊤}
use Rattle.std.specs.List.{sum}
use Rattle.tl_beat.specs.declared.beat.Beat.{Beat}
use Rattle.tl_beat.specs.declared.beat.Link.{Link}
use Rattle.tl_burst.specs.statement.Messages.{History}
use Rattle.tl_params.specs.declared.key.Key.TheVariants.{RequestSource, ReleaseSource, AcquireOf, ReleaseOf, GrantSink}
use Rattle.tl_params.specs.declared.key.Key.TheVariants.{GrantAckOf, ProbeOf}
use Rattle.tl_params.specs.declared.level.Level.{Level}
use Rattle.tl_params.specs.declared.liberties.Liberties.{Liberties}
use Rattle.tl_params.specs.declared.perm.Perm.{Perm}
use Rattle.tl_params.specs.declared.perm.Perm.TheVariants as perm
use Rattle.tl_rules.specs.statement.Conformance.{Trace, on_link}
use Rattle.tl_rules.specs.statement.History.{pending, held}
use Rattle.tl_rules.specs.statement.Liberties.{held_under}
use Rattle.tl_monitor.specs.statement.Count.{count_below}
use Rattle.tl_monitor.specs.declared.fault.MonitorFault.{MonitorFault}
use Rattle.tl_monitor.specs.declared.fault.MonitorFault.TheVariants as monitor

-- a permission to read or to write
abbrev pub is_held : Perm → Bool
is_held perm.None = false
is_held perm.Branch = true
is_held perm.Trunk = true

-- The number of pending keys of each kind, and of blocks not held as None, under liberties. Sources and sinks are
-- bytes, and block numbers have 32 bits.
abbrev pub numbers_under : {w : ℕ} → Liberties → History w → List ℕ
numbers_under l t =
    count_below 256 (λ s. pending (RequestSource s) t)
    ∷ count_below 256 (λ s. pending (ReleaseSource s) t)
    ∷ count_below 256 (λ s. pending (GrantSink s) t)
    ∷ count_below (2 ^ 32) (λ k. pending (AcquireOf k) t)
    ∷ count_below (2 ^ 32) (λ k. pending (ReleaseOf k) t)
    ∷ count_below (2 ^ 32) (λ k. pending (ProbeOf k) t)
    ∷ count_below (2 ^ 32) (λ k. pending (GrantAckOf k) t)
    ∷ count_below (2 ^ 32) (λ k. is_held (held_under l k t))
    ∷ []

-- the sum of these numbers on a link; 0 on a link without a level
abbrev pub entry_count_under : {w : ℕ} → Liberties → List Level → Link → Trace w → ℕ
entry_count_under l levels link t = if nat_lt link.0 (length levels) then sum (numbers_under l (on_link link.0 t)) else 0

-- the number of pending keys of each kind, and of blocks not held as None, without liberties
abbrev pub numbers : {w : ℕ} → History w → List ℕ
numbers t =
    count_below 256 (λ s. pending (RequestSource s) t)
    ∷ count_below 256 (λ s. pending (ReleaseSource s) t)
    ∷ count_below 256 (λ s. pending (GrantSink s) t)
    ∷ count_below (2 ^ 32) (λ k. pending (AcquireOf k) t)
    ∷ count_below (2 ^ 32) (λ k. pending (ReleaseOf k) t)
    ∷ count_below (2 ^ 32) (λ k. pending (ProbeOf k) t)
    ∷ count_below (2 ^ 32) (λ k. pending (GrantAckOf k) t)
    ∷ count_below (2 ^ 32) (λ k. is_held (held k t))
    ∷ []

-- the sum of these numbers on a link; 0 on a link without a level
abbrev pub entry_count : {w : ℕ} → List Level → Link → Trace w → ℕ
entry_count levels link t = if nat_lt link.0 (length levels) then sum (numbers (on_link link.0 t)) else 0

-- one of these numbers has grown
abbrev pub AnyMore : List ℕ → List ℕ → Type 0
AnyMore (n ∷ before) (m ∷ after) = (n < m) ⊎ AnyMore before after
AnyMore _ _ = ⊥

-- if a beat is refused for lack of memory, it would make one of these numbers grow
abbrev pub IsMoreUnder : {w : ℕ} → Liberties → History w → Beat w → Result ⊤ MonitorFault → Type 0
IsMoreUnder l t x (Err monitor.Memory) = AnyMore (numbers_under l t) (numbers_under l (x ∷ t))
IsMoreUnder l t x _ = ⊤

-- the same without liberties
abbrev pub IsMoreWhereRefused : {w : ℕ} → History w → Beat w → Result ⊤ MonitorFault → Type 0
IsMoreWhereRefused t x (Err monitor.Memory) = AnyMore (numbers t) (numbers (x ∷ t))
IsMoreWhereRefused t x _ = ⊤
