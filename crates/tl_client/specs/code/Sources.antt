-- What is open with a source number.
use Rattle.std.specs.Prelude.{ℕ, List, slice_get, Option}
use Rattle.std.specs.Option.{option_flatten}
use Rattle.tl_client.specs.declared.sources.Sources.{Sources}

abbrev pub open_at : {T : Type 0} → Sources T → ℕ → Option T
open_at messages s = option_flatten (slice_get messages.with_source s)

abbrev pub with_each : {T : Type 0} → Sources T → List (Option T)
with_each messages = messages.with_source
