-- How complete a trace is, as its header says.
use Rattle.std.specs.Prelude.{ℕ, Bool, false, List, [], if◌then◌else◌, Option, Some, None, slice_index_or}

-- Of which links all stores are in the trace (`C+`), and whether memory was zero before it (`zero`).
pub record Completeness : Type 0 where
  pub stores : List Bool
  pub zero : Bool

-- all stores of the link are in the trace
abbrev pub is_complete : Completeness → ℕ → Bool
is_complete complete link = slice_index_or complete.stores link false

-- the value of each byte before the trace; None is any
abbrev pub first_value : Bool → Option ℕ
first_value zero = if zero then Some 0 else None

-- the stores of these links are there, and memory may have been anything
abbrev pub with_stores : List Bool → Completeness
with_stores stores = record { stores = stores; zero = false }

-- the header says neither
abbrev pub incomplete : Completeness
incomplete = with_stores []
