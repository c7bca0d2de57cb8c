-- What is told of bytes that a response brings and may not bring.
use Rattle.std.proofs.Common.{◌≡◌, ℕ, suc, Bool, true, false, List, ◌∷◌, ◌++◌, ◌+◌, ◌-◌, ◌*◌, ◌/◌, ◌%◌, ◌<◌, ◌≤◌}
use Rattle.std.proofs.Common.{length, refl, ◌∙◌, arith, append_assoc, drop}
use Rattle.std.proofs.lemmas.List.{drop_all}
use Rattle.std.specs.Fmt.{decimal}
use Rattle.std.specs.Prelude.{codes, Option, Some}
use Rattle.tl_memory.specs.code.Lines.{told_by}
use Rattle.tl_memory.specs.statement.Blocks.{state_in}
use Rattle.tl_together.specs.declared.judge.Judge.{Judge}
use Rattle.tl_witness.specs.code.Strays.{told_of}
use Rattle.tl_witness.specs.statement.Naming.{Naming}
use Rattle.tl_witness.specs.statement.Strays.{lead_text, more_text, next_line, strays_text, told_text, value_text, values_text}

-- ---- what one byte may be

-- the line that showed it
pub moment-told : (names : Naming) (moment : Option ℕ) (m n number : ℕ) (out a b : List ℕ) → moment ≡ Some m → n ≡ m
    → number ≡ names.line (n + 2) → a ≡ out ++ codes ", set in line " → b ≡ a ++ decimal number
    → b ≡ out ++ told_text names moment
moment-told names moment m n number out a b is same at a_is b_is =
    rw (b_is, a_is, at, same, is) (append_assoc out (codes ", set in line ") (decimal (names.line (m + 2))))

-- a value that it may not be
pub may-not-be : (names : Naming) (test : ℕ → Bool) (told : ℕ → Option ℕ) (any : Bool) (n v : ℕ) (out : List ℕ)
    → test v ≡ false
    → out ++ values_text names test told any n (v + 1) ≡ out ++ values_text names test told any (suc n) v
unfolding values_text
may-not-be names test told any n v out fails = rw fails refl

three : (out a b c : List ℕ) → ((out ++ a) ++ b) ++ c ≡ out ++ (a ++ (b ++ c))
three out a b c = append_assoc (out ++ a) b c ∙ append_assoc out a (b ++ c)

-- and one that it may be
pub may-be : (names : Naming) (test : ℕ → Bool) (told : ℕ → Option ℕ) (any : Bool) (n v : ℕ) (out front new : List ℕ)
    → test v ≡ true
    → front ≡ out ++ lead_text any → new ≡ front ++ value_text names v (told v)
    → new ++ values_text names test told true n (v + 1) ≡ out ++ values_text names test told any (suc n) v
unfolding values_text
may-be names test told any n v out front new passes first second =
    rw (passes, second, first)
    (three out (lead_text any) (value_text names v (told v)) (values_text names test told true n (v + 1)))

-- the moment that is told of it is that of its address
pub told-there : {w : ℕ} (names : Naming) (j : Judge w) (block at place v : ℕ) (moment : Option ℕ) (front new : List ℕ)
    → place < 64
    → at ≡ block → moment ≡ told_by (state_in j.memory.blocks at) place v → new ≡ front ++ value_text names v moment
    → new ≡ front ++ value_text names v (told_of j (64 * block + place) v)
told-there names j block at place v moment front new small same is line =
    let here : (64 * block + place) / 64 ≡ block = omega (arith, small) in
    let inside : (64 * block + place) % 64 ≡ place = omega (arith, small) in
    rw (here, inside, ← same, ← is) line

-- one of the values that are left is the next
pub next-value : (names : Naming) (test : ℕ → Bool) (told : ℕ → Option ℕ) (any now : Bool) (total v : ℕ)
    (out new whole : List ℕ)
    → v < total
    → ((n : ℕ) → new ++ values_text names test told now n (v + 1) ≡ out ++ values_text names test told any (suc n) v)
    → out ++ values_text names test told any (total - v) v ≡ whole
    → new ++ values_text names test told now (total - (v + 1)) (v + 1) ≡ whole
next-value names test told any now total v out new whole below next so_far =
    let left : total - v ≡ suc (total - (v + 1)) = omega (arith, below) in
    next (total - (v + 1)) ∙ rw left at so_far

-- no value is left
pub all-values : (names : Naming) (test : ℕ → Bool) (told : ℕ → Option ℕ) (any : Bool) (total v : ℕ)
    (out new whole : List ℕ)
    → total ≤ v
    → ((names : Naming) (test : ℕ → Bool) (told : ℕ → Option ℕ) (v : ℕ)
    → new ≡ out ++ values_text names test told any 0 v)
    → out ++ values_text names test told any (total - v) v ≡ whole → new ≡ whole
all-values names test told any total v out new whole past none so_far =
    let left : total - v ≡ 0 = omega (arith, past) in
    none names test told v ∙ rw left at so_far

-- ---- the bytes of a beat

-- a byte that may be brought
pub allowed : (names : Naming) (test : ℕ → ℕ → Bool) (told : ℕ → ℕ → Option ℕ) (n address v : ℕ) (rest out : List ℕ)
    → test address v ≡ true
    → out ++ strays_text names test told n (address + 1) rest ≡ out ++ strays_text names test told n address (v ∷ rest)
unfolding strays_text
allowed names test told n address v rest out passes = rw passes refl

-- and one that may not
pub stray : (names : Naming) (test : ℕ → ℕ → Bool) (told : ℕ → ℕ → Option ℕ) (n m address v : ℕ) (rest out new : List ℕ)
    → test address v ≡ false → m ≡ n + 1
    → new ≡ out ++ next_line names n address v (test address) (told address)
    → new ++ strays_text names test told m (address + 1) rest ≡ out ++ strays_text names test told n address (v ∷ rest)
unfolding strays_text
stray names test told n m address v rest out new fails next line =
    rw (fails, next, line)
    (append_assoc out (next_line names n address v (test address) (told address))
    (strays_text names test told (n + 1) (address + 1) rest))

-- no lane is left
pub all-lanes : (names : Naming) (test : ℕ → ℕ → Bool) (told : ℕ → ℕ → Option ℕ) (lanes : List ℕ) (i n address : ℕ)
    (out whole : List ℕ) → length lanes ≤ i
    → out ++ strays_text names test told n address (drop i lanes) ≡ whole → out ++ more_text n ≡ whole
unfolding strays_text
all-lanes names test told lanes i n address out whole past is = rw (drop_all i lanes past) at is
