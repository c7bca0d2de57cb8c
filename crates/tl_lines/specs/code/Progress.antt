-- How far an input has been judged. `knows` and `tells` are those of the handler's trait, `was` and
-- `is` the text appended before and after a call, after a text `before` that has been written already.
use Rattle.std.specs.Prelude.{◌≡◌, ◌≤◌, ℕ, ◌+◌, List, ◌∷◌, ◌++◌, ◌-◌, ◌^◌, ◌⊎◌, length, ⊤}
use Rattle.tl_lines.specs.declared.lines.Lines.{Lines}
use Rattle.tl_lines.specs.declared.status.Status.{Status}
use Rattle.tl_lines.specs.declared.status.Status.TheVariants.{Clean, Broken}
use Rattle.tl_lines.specs.declared.status.ToolFault.{ToolFault}
use Rattle.tl_lines.specs.declared.status.ToolFault.TheVariants.{Memory, Read, Write}
use Rattle.tl_lines.specs.statement.Lines.{lines_of, ended_lines, AreWhole, IsLine, LacksLf, RunsOut}
use Rattle.tl_lines.specs.statement.Run.{StopsAtRest}
use Rattle.tl_lines.specs.code.Judging.{GoesOn}

-- how many lines have been judged
abbrev pub lines_judged : {H : Type 0} → Lines H → ℕ
lines_judged state = state.count

-- after these bytes, none of whose lines was at fault, this text has been appended
pub record Progress {H : Type 0} (knows : H → List (List ℕ) → List ℕ → Type 0) (state : Lines H)
    (read text : List ℕ) : Type 0 where
  pub lines : List (List ℕ)
  pub known : knows state.handler lines text
  pub counted : lines_judged state ≡ length lines
  -- whatever follows continues the line that has begun
  pub cut : (more : List ℕ) → lines_of (read ++ more) ≡ lines ++ lines_of (state.begun.items ++ more)
  pub unended : LacksLf state.begun.items
  pub short : length state.begun.items ≤ 255
  pub ended : ended_lines read ≡ length lines
  pub rest : (front : List ℕ) × (read ≡ front ++ state.begun.items) × AreWhole front

-- the line with this number is at fault, and the text is the last, whatever follows the line
abbrev pub StopsAt : {H : Type 0} → (H → List (List ℕ) → List ℕ → Type 0) → (List (List ℕ) → List ℕ → Status → Type 0)
    → H → ℕ → List ℕ → List ℕ → List ℕ → Type 0
StopsAt knows tells handler count line was is =
    (lines : List (List ℕ)) (before : List ℕ) → knows handler lines (before ++ was) → count ≡ length lines
    → (more : List (List ℕ)) → tells (lines ++ line ∷ more) (before ++ is) Broken

-- a line was judged, and counted if it is good
abbrev pub CountsLine : {H : Type 0} → (H → List (List ℕ) → List ℕ → Type 0)
    → (List (List ℕ) → List ℕ → Status → Type 0) → H → H → ℕ → ℕ → List ℕ → List ℕ → List ℕ → Status → Type 0
CountsLine knows tells old new count_old count_new line was is Clean = GoesOn knows old new line was is
    × (count_new ≡ count_old + 1)
CountsLine knows tells old new count_old count_new line was is Broken = StopsAt knows tells old count_old line was is

-- a piece of the input was judged, up to the first line at fault
abbrev pub Feeds : {H : Type 0} → (H → List (List ℕ) → List ℕ → Type 0) → (List (List ℕ) → List ℕ → Status → Type 0)
    → Lines H → Lines H → List ℕ → List ℕ → List ℕ → Status → Type 0
Feeds knows tells old new piece was is Clean =
    (read before : List ℕ) → Progress knows old read (before ++ was) → Progress knows new (read ++ piece) (before ++ is)
Feeds knows tells old new piece was is Broken =
    (read before : List ℕ) → Progress knows old read (before ++ was) → (more : List ℕ)
    → tells (lines_of ((read ++ piece) ++ more)) (before ++ is) Broken

-- The piece that ends this whole line is `part`: the line began when the lines stood as `begun` says. Since then only
-- the beginning was taken from them.
abbrev pub Continues : {H : Type 0} → Lines H → Lines H → List ℕ → List ℕ → Type 0
Continues begun lines part line = IsLine part × (begun.begun.items ++ part ≡ line) × (begun.handler ≡ lines.handler)
    × (begun.count ≡ lines.count)

-- the end of the input was judged
abbrev pub FinishesInput : {H : Type 0} → (H → List (List ℕ) → List ℕ → Type 0)
    → (List (List ℕ) → List ℕ → Status → Type 0) → Lines H → List ℕ → List ℕ → Status → Type 0
FinishesInput knows tells state was is Clean =
    (read before : List ℕ) → Progress knows state read (before ++ was) → tells (lines_of read) (before ++ is) Clean
FinishesInput knows tells state was is Broken =
    (read before : List ℕ) → Progress knows state read (before ++ was) → tells (lines_of read) (before ++ is) Broken
    × StopsAtRest read (before ++ is)

-- lines are given up for want of memory, or for want of a number after 2^64 - 1 lines
abbrev pub GivesUp : ℕ → ToolFault → Type 0
GivesUp count fault = (fault ≡ Memory) ⊎ ((fault ≡ Read) × (count ≡ 2 ^ 64 - 1))

-- a piece is given up for want of memory, or for want of a number for a line of it
abbrev pub GivesUpWithin : {H : Type 0} → (H → List (List ℕ) → List ℕ → Type 0) → Lines H → List ℕ → List ℕ → ToolFault
    → Type 0
GivesUpWithin knows state piece was Memory = ⊤
GivesUpWithin knows state piece was Read =
    (read before : List ℕ) → Progress knows state read (before ++ was) → RunsOut (read ++ piece)
GivesUpWithin knows state piece was Write = ⊥

-- what a handler has if a line of the piece is at fault, whatever follows it
abbrev pub EndsWithin : {H : Type 0} → (H → List (List ℕ) → List ℕ → Type 0) → (H → List (List ℕ) → Type 0) → Lines H
    → H → List ℕ → List ℕ → Type 0
EndsWithin knows ends old new piece was =
    (read before : List ℕ) → Progress knows old read (before ++ was) → (more : List ℕ)
    → ends new (lines_of ((read ++ piece) ++ more))

-- A handler has been given these lines: it knows them all, or has what it has if one is at fault.
abbrev pub HasAll : {H : Type 0} → (H → List (List ℕ) → List ℕ → Type 0) → (H → List (List ℕ) → Type 0) → H
    → List (List ℕ) → Status → Type 0
HasAll knows ends handler lines Clean = (text : List ℕ) × knows handler lines text
HasAll knows ends handler lines Broken = ends handler lines
