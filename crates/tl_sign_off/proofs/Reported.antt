-- The report as a value of JSON.
use Rattle.std.proofs.Common.{◌≡◌, ◌≤◌, ◌+◌, ℕ, Bool, true, false, List, [], ◌∷◌, ◌++◌, arith, eqb, map, refl}
use Rattle.std.specs.Prelude.{if◌then◌else◌}
use Rattle.serde_json.specs.Data.{Data, depth, items_depth, string, null}
use Rattle.serde_json.specs.View.{items_of}
use Rattle.serde_json.specs.Written.{has_float, items_have_float}
use Rattle.tl_report.specs.declared.findings.Finding.{Finding}
use Rattle.tl_sign_off.specs.declared.account.Account.{Account}
use Rattle.tl_sign_off.specs.statement.Report.{count_data, counted_from, counted_in, fault_data, has_header, header_data}
use Rattle.tl_sign_off.specs.statement.Report.{line_in, report_of}

-- no number of it is a float
no_float_faults : (found : List Finding) → items_have_float (items_of (map fault_data found)) ≡ false
no_float_faults [] = refl
no_float_faults (x ∷ found) = no_float_faults found

no_float_counts : (cell : ℕ) (cells : List ℕ) → items_have_float (items_of (counted_from cell cells)) ≡ false
unfolding counted_from
no_float_counts cell [] = refl
no_float_counts cell (n ∷ ns) = go (eqb n 0) (no_float_counts (cell + 1) ns)
  where
    go : (b : Bool) → items_have_float (items_of (counted_from (cell + 1) ns)) ≡ false
        → items_have_float (items_of ((if b then [] else count_data cell n ∷ []) ++ counted_from (cell + 1) ns)) ≡ false
    go true rest = rest
    go false rest = rest

no_float_header : (found : List Finding) (front : List ℕ) → has_float (header_data found front) ≡ false
no_float_header found front = go (has_header found)
  where
    go : (b : Bool) → has_float (if b then string (line_in front) else null) ≡ false
    go true = refl
    go false = refl

pub no_float : (a : Account) → has_float (report_of a) ≡ false
no_float a = rw (
  no_float_counts 0 a.findings.cells.items,
  no_float_faults a.findings.faults.items,
  no_float_header a.findings.faults.items a.input.front.items,
) refl

-- it nests four deep
depth_faults : (found : List Finding) → items_depth (items_of (map fault_data found)) ≤ 1
depth_faults [] = omega arith
depth_faults (x ∷ found) = let rest = depth_faults found in omega (arith, rest)

depth_counts : (cell : ℕ) (cells : List ℕ) → items_depth (items_of (counted_from cell cells)) ≤ 1
unfolding counted_from
depth_counts cell [] = omega arith
depth_counts cell (n ∷ ns) = go (eqb n 0) (depth_counts (cell + 1) ns)
  where
    go : (b : Bool) → items_depth (items_of (counted_from (cell + 1) ns)) ≤ 1
        → items_depth (items_of ((if b then [] else count_data cell n ∷ []) ++ counted_from (cell + 1) ns)) ≤ 1
    go true rest = rest
    go false rest = omega (arith, rest)

depth_header : (found : List Finding) (front : List ℕ) → depth (header_data found front) ≡ 0
depth_header found front = go (has_header found)
  where
    go : (b : Bool) → depth (if b then string (line_in front) else null) ≡ 0
    go true = refl
    go false = refl

pub few_deep : (a : Account) → depth (report_of a) ≤ 127
few_deep a = omega (
  arith,
  depth_counts 0 a.findings.cells.items,
  depth_faults a.findings.faults.items,
  depth_header a.findings.faults.items a.input.front.items,
)
