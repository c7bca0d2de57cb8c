-- What an unfinished burst comes as.
use Rattle.std.specs.Prelude.{ℕ, Bool, false, ◌==◌, ◌&&◌, Option, Some, None, ⊤}
use Rattle.tl_rules.specs.statement.History.{is_release, is_grant}
use Rattle.tl_beat.specs.declared.control.Control.{Control}
use Rattle.tl_beat.specs.declared.control.Control.TheVariants.{A, C, D}
use Rattle.tl_monitor.specs.declared.bursts.Unfinished.{Unfinished}

abbrev pub of_request : ℕ → Control → Bool
of_request s (A x) = x.source == s
of_request s _ = false

abbrev pub of_release : ℕ → Control → Bool
of_release s (C x) = is_release x.opcode && (x.source == s)
of_release s _ = false

abbrev pub of_grant : ℕ → Control → Bool
of_grant s (D x) = is_grant x.opcode && (x.sink == s)
of_grant s _ = false

-- a request with this source is unfinished, a Release with it, a Grant with this sink
abbrev pub comes_request : ℕ → Option (Unfinished ⊤) → Bool
comes_request s None = false
comes_request s (Some u) = of_request s u.control

abbrev pub comes_release : ℕ → Option (Unfinished ⊤) → Bool
comes_release s None = false
comes_release s (Some u) = of_release s u.control

abbrev pub comes_grant : ℕ → Option (Unfinished ⊤) → Bool
comes_grant s None = false
comes_grant s (Some u) = of_grant s u.control
