-- What a handler's answers mean. `knows` and `tells` are those of its trait, `was` and `is` the text
-- appended before and after a call, after a text `before` that has been written already.
use Rattle.std.specs.Prelude.{◌≡◌, ℕ, ◌+◌, List, [], ◌∷◌, ◌++◌, length, Option, Some, None}
use Rattle.tl_lines.specs.declared.fault.Fault.{Fault}
use Rattle.tl_lines.specs.declared.status.Status.{Status}
use Rattle.tl_lines.specs.declared.status.Status.TheVariants.{Clean, Broken}
use Rattle.tl_lines.specs.statement.Fault.{fault_text}

-- the line has its text, and the handler knows one line more
abbrev pub GoesOn : {H : Type 0} → (H → List (List ℕ) → List ℕ → Type 0) → H → H → List ℕ → List ℕ → List ℕ → Type 0
GoesOn knows old new line was is =
    (lines : List (List ℕ)) (before : List ℕ) → knows old lines (before ++ was)
    → knows new (lines ++ line ∷ []) (before ++ is)

-- the line is at fault, and the fault's text is the last, whatever follows the line
abbrev pub Stops : {H : Type 0} → (H → List (List ℕ) → List ℕ → Type 0) → (List (List ℕ) → List ℕ → Status → Type 0) → H
    → List ℕ → List ℕ → List ℕ → Fault → Type 0
Stops knows tells handler line was is fault =
    (lines : List (List ℕ)) (before : List ℕ) → knows handler lines (before ++ was)
    → (more : List (List ℕ)) → tells (lines ++ line ∷ more) (before ++ (is ++ fault_text (length lines + 1) fault))
    Broken

-- what a handler has if this line is at fault, whatever follows it; `ends` is that of its trait
abbrev pub Ends : {H : Type 0} → (H → List (List ℕ) → List ℕ → Type 0) → (H → List (List ℕ) → Type 0) → H → H → List ℕ
    → Type 0
Ends knows ends old new line =
    (lines : List (List ℕ)) (text : List ℕ) → knows old lines text → (more : List (List ℕ))
    → ends new (lines ++ line ∷ more)

-- what a handler has if a line is missing after these
abbrev pub EndsHere : {H : Type 0} → (H → List (List ℕ) → List ℕ → Type 0) → (H → List (List ℕ) → Type 0) → H → Type 0
EndsHere knows ends handler = (lines : List (List ℕ)) (text : List ℕ) → knows handler lines text → ends handler lines

-- what `handler` answered for a line
abbrev pub Judges : {H : Type 0} → (H → List (List ℕ) → List ℕ → Type 0) → (List (List ℕ) → List ℕ → Status → Type 0)
    → H → H → List ℕ → List ℕ → List ℕ → Option Fault → Type 0
Judges knows tells old new line was is None = GoesOn knows old new line was is
Judges knows tells old new line was is (Some fault) = Stops knows tells old line was is fault

-- what `finish` answered at the end of an input of this many lines
abbrev pub Finishes : {H : Type 0} → (H → List (List ℕ) → List ℕ → Type 0) → (List (List ℕ) → List ℕ → Status → Type 0)
    → H → ℕ → List ℕ → List ℕ → Option Fault → Type 0
Finishes knows tells handler count was is None =
    (lines : List (List ℕ)) (before : List ℕ) → knows handler lines (before ++ was) → count ≡ length lines
    → tells lines (before ++ is) Clean
Finishes knows tells handler count was is (Some fault) =
    (lines : List (List ℕ)) (before : List ℕ) → knows handler lines (before ++ was) → count ≡ length lines
    → tells lines (before ++ (is ++ fault_text (length lines + 1) fault)) Broken

-- whatever lines follow those that a handler knows, they have a text for its purpose
abbrev pub IsTotal : {H M : Type 0} → (H → M) → (H → List (List ℕ) → List ℕ → Type 0)
    → (M → List (List ℕ) → List ℕ → Status → Type 0) → Type 0
IsTotal {H} purpose knows tells =
    (handler : H) (lines : List (List ℕ)) (text : List ℕ) → knows handler lines text
    → (more : List (List ℕ)) → (rest : List ℕ) × (status : Status)
    × tells (purpose handler) (lines ++ more) (text ++ rest) status

-- a handler for this purpose knows these lines
abbrev pub KnowsFor : {H M : Type 0} → (H → M) → M → (H → List (List ℕ) → List ℕ → Type 0) → H → List (List ℕ)
    → List ℕ → Type 0
KnowsFor purpose m knows handler lines text = knows handler lines text × (purpose handler ≡ m)
