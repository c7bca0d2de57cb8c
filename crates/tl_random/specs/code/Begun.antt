-- A schedule of which some lines have been written, and others are gathered.
use Rattle.std.specs.Io.KnownBytes.{Appends}
use Rattle.std.specs.Prelude.{◌≡◌, ℕ, List, ◌++◌, Option}
use Rattle.tl_command.specs.declared.random.Options.{Options}
use Rattle.tl_random.specs.statement.Random.{AreLinesOf, header_of}

-- what was written, and what is gathered after it, is the header and k lines
abbrev pub IsBegun : ℕ → Options → ℕ → List ℕ → Option (List ℕ) → Option (List ℕ) → Type 0
IsBegun w o k out had holds =
    (written lines : List ℕ) × Appends had holds written × (written ++ out ≡ header_of o.version o.config ++ lines)
    × AreLinesOf w o.config k lines
