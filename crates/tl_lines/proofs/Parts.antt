-- Bytes that were written in part.
use Rattle.std.proofs.Common.{◌≡◌, ◌<◌, ℕ, zero, suc, List, [], ◌∷◌, ◌++◌}
use Rattle.std.proofs.Common.{length, take, drop, append_assoc, refl, sym, arith}
use Rattle.std.proofs.lemmas.List.{take-append-drop}
use Rattle.std.proofs.KnownBytes.{Appends-trans}
use Rattle.std.specs.Io.KnownBytes.{Appends}
use Rattle.std.specs.Prelude.{Option}
use Rattle.tl_lines.specs.statement.Parts.{AppendsPart, AppendsShort}

pub part_of : (a b : Option (List ℕ)) (n : ℕ) (bytes : List ℕ) → Appends a b (take n bytes) → AppendsPart a b bytes
part_of a b n bytes p = (take n bytes, drop n bytes, take-append-drop n bytes, p)

-- bytes that were written, and then a part of those that follow
pub part_more : (a b c : Option (List ℕ)) (done next rest whole : List ℕ) → Appends a b done → AppendsPart b c next
    → done ++ (next ++ rest) ≡ whole → AppendsPart a c whole
part_more a b c done next rest whole p (front, left, cut, q) e =
    (done ++ front, left ++ rest, rw (← e, ← cut) (simp append_assoc), Appends-trans a b c done front p q)

-- a part, where more was to be written
pub longer : (a b : Option (List ℕ)) (out rest : List ℕ) → AppendsPart a b out → AppendsPart a b (out ++ rest)
longer a b out rest (front, left, cut, p) = (front, left ++ rest, rw (← cut) (sym (append_assoc front left rest)), p)

pub short_part : (a b : Option (List ℕ)) (bytes : List ℕ) → AppendsShort a b bytes → AppendsPart a b bytes
short_part a b bytes (front, rest, cut, some, p) = (front, rest, cut, p)

pub short_of : (a b : Option (List ℕ)) (n : ℕ) (bytes : List ℕ) → n < length bytes → Appends a b (take n bytes)
    → AppendsShort a b bytes
short_of a b n bytes less p = (take n bytes, drop n bytes, take-append-drop n bytes, left n bytes less, p)
  where
    left : (n : ℕ) (bytes : List ℕ) → n < length bytes → drop n bytes ≡ [] → ⊥
    left n [] less none = absurd (omega arith)
    left zero (b ∷ bytes) less none = absurd cc
    left (suc n) (b ∷ bytes) less none = left n bytes (omega arith) none

-- some of the bytes are left where more was to be written
pub short_longer : (a b : Option (List ℕ)) (one two : List ℕ) → AppendsShort a b one → AppendsShort a b (one ++ two)
short_longer a b one two (front, rest, cut, some, p) =
    (front, rest ++ two, rw (← cut) (sym (append_assoc front rest two)), λ none. some (nothing rest two none), p)
  where
    nothing : (rest two : List ℕ) → rest ++ two ≡ [] → rest ≡ []
    nothing [] two none = refl
    nothing (b ∷ rest) two none = absurd cc

-- bytes that were written, and then some of those that follow are left
pub short_behind : (a b c : Option (List ℕ)) (one two : List ℕ) → Appends a b one → AppendsShort b c two
    → AppendsShort a c (one ++ two)
short_behind a b c one two p (front, rest, cut, some, q) =
    (one ++ front, rest, rw (append_assoc, cut) refl, some, Appends-trans a b c one front p q)
