-- The beats that a wide trace became, with the newest first, as rules about earlier beats ask for them.
use Rattle.std.specs.Prelude.{ℕ, List, [], ◌∷◌}
use Rattle.tl_beat.specs.declared.beat.Beat.{Beat}
use Rattle.tl_beat.specs.declared.beat.Link.{Link}
use Rattle.tl_rules.specs.statement.Conformance.{Trace}
use Rattle.tl_wide.specs.statement.Naming.{WideTrace}
use Rattle.tl_wide.specs.statement.Narrowed.{narrowed, on_one_link}
use Rattle.tl_wide.specs.statement.Verdict.{joined}
use Rattle.tl_wide.specs.statement.Width.{part_width}

-- these, of which the newest is the last, after others, of which the newest is the first
unfoldable pub behind : {A : Type 0} → List A → List A → List A
behind [] before = before
behind (x ∷ xs) before = behind xs (x ∷ before)

-- the beats of t, and these parts after them
abbrev pub with_parts : {p : ℕ} → Link → List (Beat p) → Trace p → Trace p
with_parts link parts t = behind (on_one_link link parts) t

-- the beats that a wide trace became, the newest first
abbrev pub beats_taken : {w : ℕ} → WideTrace w → Trace (part_width w)
beats_taken trace = behind (joined (narrowed trace)) []
