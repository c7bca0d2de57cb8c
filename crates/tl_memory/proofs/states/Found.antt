-- What an access may have found, with one more beat.
use Rattle.tl_memory.proofs.Imports.{Link, Beat, Trace, on_link, is_free, Access, may_find}
use Rattle.tl_memory.proofs.Imports.{KnowsBlock, may_bring, PendingAccess, IsAsked, KnowsAccesses, Freedom}
use Rattle.tl_memory.proofs.Imports.{IsRenewed, found_by, free_for, freedom, open_for, KeepsFound}
use Rattle.std.proofs.Common.{◌≡◌, ℕ, zero, suc, Bool, true, false, ◌&&◌, ◌||◌, ◌+◌, ◌*◌, ◌/◌, ◌<◌, ◌≤◌, ◌∷◌, ◌++◌, length}
use Rattle.std.proofs.Common.{refl, sym, ap, ap₂, ◌∙◌, arith, List}
use Rattle.tl_params.specs.declared.perm.Perm.{Perm}
use Rattle.tl_rules.specs.statement.{Conformance.same_perm, Windows.needs}
use Rattle.tl_bytes.{specs.declared.block_bytes.BlockBytes.BlockBytes, specs.declared.read_bytes.ReadBytes.ReadBytes}
use Rattle.tl_bytes.{specs.code.Tellings.left_as, specs.statement.Known.tellings_of}
use Rattle.tl_bytes.specs.statement.{Bytes.is_put, Bytes.told_as, Shown.is_window, Shown.shows}
use Rattle.tl_memory.specs.code.Writers.{writes_outrun}
use Rattle.tl_memory.specs.declared.early.OutrunAccess.{OutrunAccess}
use Rattle.tl_memory.specs.statement.Known.{KnowsOutrun}
unfoldable use Rattle.tl_bytes.specs.statement.Early.{outrun_accesses}
use Rattle.tl_bytes.proofs.Reading.{find-is, nothing-yet, read-next}
use Rattle.tl_memory.{specs.code.Taking.none_shown, specs.code.Writers.writes_but}
use Rattle.tl_memory.{proofs.values.Writing.others-may-write}

or_false : (a : Bool) → (a || false) ≡ a
or_false true = refl
or_false false = refl

and_false : (a : Bool) → (a && false) ≡ false
and_false true = refl
and_false false = refl

pub in_block : (block p : ℕ) → p < 64 → (64 * block + p) / 64 ≡ block
in_block block p lt = omega arith

-- ---- windows

-- a block is free for one who needs nothing of it
pub none-free : {w : ℕ} (n block : ℕ) (t : Trace w) → is_free n Perm.None block t ≡ true
unfolding is_free
none-free zero block t = refl
none-free (suc n) block t = rw (none-free n block t) refl

-- one may access it for whom it is free with a beat, or read it where its bytes are shown
pub window-is : {w : ℕ} (n block : ℕ) (given : Perm) (x : Link × Beat w) (t : Trace w)
    → is_window n given block x t ≡ open_for (freedom n block x t) given
window-is n block Perm.Trunk x t = refl
window-is n block Perm.Branch x t = refl
window-is n block Perm.None x t = rw (none-free n block (x ∷ t)) refl

pub unshown-window : {w : ℕ} (n block : ℕ) (given : Perm) (x : Link × Beat w) (t : Trace w)
    → shows block x.1 (on_link x.0.0 t) ≡ false → is_window n given block x t ≡ is_free n given block (x ∷ t)
unshown-window n block given x t unshown =
    rw unshown (ap (λ b. is_free n given block (x ∷ t) || b) (and_false (same_perm given Perm.Branch))
    ∙ or_false (is_free n given block (x ∷ t)))

-- where they aren't shown one may access it for whom it is free
pub hidden-open : (free : Freedom) (given : Perm) → free.shown ≡ false → open_for free given ≡ free_for free given
hidden-open free given hidden =
    rw hidden (ap (λ b. free_for free given || b) (and_false (same_perm given Perm.Branch)) ∙ or_false (free_for free given))

pub hidden : (free : Freedom) (given : Perm)
    → free_for (none_shown free) given ≡ free_for free given
hidden free Perm.Trunk = refl
hidden free Perm.Branch = refl
hidden free Perm.None = refl

pub freedom-is : {w : ℕ} (n block : ℕ) (given : Perm) (x : Link × Beat w) (t : Trace w)
    → free_for (freedom n block x t) given ≡ is_free n given block (x ∷ t)
freedom-is n block Perm.Trunk x t = refl
freedom-is n block Perm.Branch x t = refl
freedom-is n block Perm.None x t = sym (none-free n block (x ∷ t))

-- ---- what an access may have found

-- it is kept before the block changes
pub found-kept : {w : ℕ} (n block : ℕ) (free : Freedom) (bytes : BlockBytes) (pending : List (PendingAccess w))
    (outrun : List OutrunAccess) (old new : PendingAccess w) (access : Access w) (t : Trace w)
    → IsRenewed (found_by free bytes pending outrun) old new
    → KnowsBlock bytes n block t → KnowsAccesses pending (open_for free) n block t t
    → KnowsOutrun outrun block (outrun_accesses t) → IsAsked old.writer.asked access
    → is_put access.request.opcode ≡ false
    → KeepsFound old.read (open_for free (needs access.request.opcode)) n block access t
    → KeepsFound new.read false n block access t
found-kept n block free bytes pending outrun old new access t r known all out asked other found p v lt =
    let a = 64 * block + p in
    let admitted = open_for free (needs access.request.opcode) in
    let writes = writes_but old.writer.asked.link.0 old.writer.asked.request.source pending ++ writes_outrun outrun in
    found p v lt ∙ turned (admitted && may_find n access t a v) (may_bring old.read p v)
    ∙ ap (λ b. may_bring old.read p v || (admitted && b)) (sym (find-is n block access t bytes writes p v known
    (others-may-write n block old.writer.asked access t pending outrun asked all out) lt))
    ∙ ap (λ o. may_bring old.read p v || (open_for free (needs o)
    && (told_as v (tellings_of bytes p) || left_as p v writes))) (sym asked.opcode_is)
    ∙ sym (r.read_is (ap is_put asked.opcode_is ∙ other) p v lt)
  where
    turned : (a b : Bool) → (a || b) ≡ (b || a)
    turned true true = refl
    turned true false = refl
    turned false b = sym (or_false b)

-- with a beat that isn't a request's it may find what there is in a window
pub found-settled : {w : ℕ} (n block : ℕ) (read : ReadBytes) (admitted : Bool) (access : Access w) (x : Link × Beat w)
    (t : Trace w) → is_window n (needs access.request.opcode) block x t ≡ admitted → access.asked ≤ length t
    → KeepsFound read false n block access t → KeepsFound read admitted n block access (x ∷ t)
found-settled n block read admitted access x t window le found p v lt =
    let a = 64 * block + p in
    read-next n access x t a v (omega (arith, le))
    ∙ ap₂ (λ b c. (b && may_find n access (x ∷ t) a v) || c)
    (ap (λ k. is_window n (needs access.request.opcode) k x t) (in_block block p lt) ∙ window) (found p v lt)

-- so it may where its request is complete with the beat
pub found-first : {w : ℕ} (n block : ℕ) (read : ReadBytes) (admitted : Bool) (access : Access w) (x : Link × Beat w)
    (t : Trace w) → is_window n (needs access.request.opcode) block x t ≡ admitted → access.asked ≡ suc (length t)
    → ((p v : ℕ) → may_bring read p v ≡ false) → KeepsFound read admitted n block access (x ∷ t)
found-first n block read admitted access x t window now none p v lt =
    let a = 64 * block + p in
    read-next n access x t a v (omega (arith, now))
    ∙ ap₂ (λ b c. (b && may_find n access (x ∷ t) a v) || c)
    (ap (λ k. is_window n (needs access.request.opcode) k x t) (in_block block p lt) ∙ window)
    (nothing-yet n access t a v (omega (arith, now)) ∙ sym (none p v))

-- and so it stays where the beat changes neither what it may find nor whether it may
pub found-passed : {w : ℕ} (n block : ℕ) (read : ReadBytes) (admitted : Bool) (access : Access w) (x : Link × Beat w)
    (t : Trace w) → (is_window n (needs access.request.opcode) block x t ≡ true → admitted ≡ true)
    → access.asked ≤ length t
    → ((p v : ℕ) → p < 64 → may_find n access (x ∷ t) (64 * block + p) v ≡ may_find n access t (64 * block + p) v)
    → KeepsFound read admitted n block access t → KeepsFound read admitted n block access (x ∷ t)
found-passed n block read admitted access x t within le same found p v lt =
    let a = 64 * block + p in
    let window = is_window n (needs access.request.opcode) block x t in
    read-next n access x t a v (omega (arith, le))
    ∙ ap₂ (λ b c. (b && may_find n access (x ∷ t) a v) || c)
    (ap (λ k. is_window n (needs access.request.opcode) k x t) (in_block block p lt)) (found p v lt)
    ∙ ap (λ f. (window && f) || ((admitted && may_find n access t a v) || may_bring read p v)) (same p v lt)
    ∙ absorbed window admitted (may_find n access t a v) (may_bring read p v) within
    ∙ ap (λ f. (admitted && f) || may_bring read p v) (sym (same p v lt))
  where
    absorbed : (b c f m : Bool) → (b ≡ true → c ≡ true) → ((b && f) || ((c && f) || m)) ≡ ((c && f) || m)
    absorbed true true true m less = refl
    absorbed true true false m less = refl
    absorbed true false f m less = absurd (let no : false ≡ true = less refl in cc)
    absorbed false c f m less = refl
