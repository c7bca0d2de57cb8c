-- Texts in a buffer of C.
use Rattle.std.specs.Prelude.{ℕ, ◌≡◌, ◌++◌, ◌==◌, List, [], length, take, drop, min, codes, if◌then◌else◌}

-- the front of the buffer has as much of the text as fits, and the rest is as it was
abbrev pub IsWritten : List ℕ → List ℕ → List ℕ → ℕ → Type 0
IsWritten text old new count = (count ≡ min (length text) (length old)) × (new ≡ take count text ++ drop count old)

-- a text for the code of an answer; empty for another number
abbrev pub code_text : ℕ → List ℕ
code_text code =
    if code == 0 then codes "done" else
    if code == 1 then codes "the beat breaks a rule" else
    if code == 2 then codes "an argument is out of range, or the handle is empty or not yet freed; nothing changed" else
    if code == 3 then codes "there is no memory; nothing changed" else
    if code == 4 then codes "an earlier beat broke a rule" else
    if code == 5 then codes "no beat waits, or no copy is held; nothing changed" else
    if code == 6 then codes "more blocks, sources or sinks than can be numbered; nothing changed" else []
