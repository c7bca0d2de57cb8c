-- What a read may bring, with one more beat.
use Rattle.tl_bytes.proofs.Imports.{Beat, Link, Trace, BlockBytes, Write, Access, may_be, may_read, told_as}
use Rattle.tl_bytes.proofs.Imports.{tellings_of, KnowsBlock}
use Rattle.std.proofs.Common.{◌≡◌, ℕ, suc, false, ◌&&◌, ◌||◌, ◌+◌, ◌*◌, ◌/◌, ◌<◌, ◌≤◌, List, [], ◌∷◌, length}
use Rattle.std.proofs.Common.{refl, sym, ap, ◌∙◌, arith, Bool}
use Rattle.std.proofs.lemmas.Bool.{le-leb, lt-leb}
use Rattle.tl_rules.specs.statement.{History.block_at, Windows.needs}
use Rattle.tl_bytes.specs.statement.Bytes.{may_find, may_grant, may_write, others}
use Rattle.tl_bytes.specs.statement.Early.{outrun_accesses}
use Rattle.tl_bytes.{specs.code.Tellings.left_as, specs.statement.Shown.is_window}
use Rattle.tl_bytes.specs.statement.Known.{MayWrite, windowed}

-- before its request was complete it may bring nothing
pub nothing-yet : {w : ℕ} (n : ℕ) (access : Access w) (t : Trace w) (address v : ℕ) → length t < access.asked
    → may_read n access t address v ≡ false
unfolding may_read
nothing-yet n access [] address v lt = refl
nothing-yet n access (x ∷ t) address v lt = rw (lt-leb access.asked (suc (length t)) lt) refl

-- from then on it may bring what it might before, and what it may find now, if it has a window
pub read-next : {w : ℕ} (n : ℕ) (access : Access w) (x : Link × Beat w) (t : Trace w) (address v : ℕ)
    → access.asked ≤ suc (length t)
    → may_read n access (x ∷ t) address v
    ≡ ((is_window n (needs access.request.opcode) (block_at address) x t && may_find n access (x ∷ t) address v)
    || may_read n access t address v)
unfolding may_read
read-next n access x t address v le = rw (le-leb access.asked (suc (length t)) le) refl

-- what it may find, by what is kept of the block and of the accesses that are pending beside it
pub find-is : {w : ℕ} (n number : ℕ) (access : Access w) (t : Trace w) (block : BlockBytes) (writes : List Write)
    (p v : ℕ) → KnowsBlock block n number t → MayWrite writes number (others access t) (outrun_accesses t) → p < 64
    → (told_as v (tellings_of block p) || left_as p v writes) ≡ may_find n access t (64 * number + p) v
find-is n number access t block writes p v k written lt =
    ap (λ l. told_as v l || left_as p v writes) (k.bytes_are p lt)
    ∙ ap (λ b. told_as v (may_be n (64 * number + p) t) || b) (written p v lt)

-- what may be granted is what the bytes may be, and what accesses may write that have had a window
pub granted-is : {w : ℕ} (n number : ℕ) (t : Trace w) (block : BlockBytes) (writes : List Write) (p v : ℕ) (now : Bool)
    → now ≡ (told_as v (tellings_of block p) || left_as p v writes) → KnowsBlock block n number t
    → MayWrite writes number (windowed n number t) (outrun_accesses t) → p < 64 → now ≡ may_grant n t (64 * number + p) v
granted-is n number t block writes p v now all k written lt =
    all
    ∙ ap (λ l. told_as v l || left_as p v writes) (k.bytes_are p lt)
    ∙ ap (λ b. told_as v (may_be n (64 * number + p) t) || b) (written p v lt ∙ of_block)
  where
    block_of : (64 * number + p) / 64 ≡ number
    block_of = omega arith

    of_block : may_write (64 * number + p) v (windowed n number t) (outrun_accesses t)
        ≡ may_write (64 * number + p) v (windowed n ((64 * number + p) / 64) t) (outrun_accesses t)
    of_block = ap (λ b. may_write (64 * number + p) v (windowed n b t) (outrun_accesses t)) (sym block_of)
