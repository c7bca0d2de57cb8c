-- The meaning of the word of `--all`.
use Rattle.std.specs.Prelude.{◌≡◌, ℕ, ◌+◌, ◌-◌, ◌^◌, Bool, true, false, Option, Some, None}
use Rattle.tl_command.specs.declared.search.Inquiry.{Inquiry}
use Rattle.tl_command.specs.statement.Words.{IsNumber, Text}

-- the word is the number of lines at fault to look for: one more than those after the first
abbrev pub IsBehind : Text → ℕ → Type 0
IsBehind word behind = IsNumber (Some word) None 1 (2 ^ 64 - 1) (behind + 1)

-- The inquiry, for all links together or each by itself. With the word of `--all` it looks for that many lines at
-- fault, and writes all. Without it, it looks for the first.
abbrev pub IsInquiry : Bool → Option Text → Inquiry → Type 0
IsInquiry together None q = (q.aim.together ≡ together) × (q.aim.behind ≡ 0) × (q.all ≡ false)
IsInquiry together (Some word) q = (q.aim.together ≡ together) × IsBehind word q.aim.behind × (q.all ≡ true)
