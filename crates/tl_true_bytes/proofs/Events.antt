-- The run of a log is beside its one-memory machine, event by event.
use Rattle.tl_true_bytes.proofs.Imports.{Beat, Link, Trace, Memory, block_at, reaches, Op, Reply, Finish, Machine, Open}
use Rattle.tl_true_bytes.proofs.Imports.{after_reply, pool_of, with_memory, with_open, Run, Takes, IsBeside, with_end}
use Rattle.tl_true_bytes.proofs.Imports.{with_reply, with_whole}
use Rattle.std.proofs.Common.{◌≡◌, ℕ, Bool, true, false, ◌+◌, ◌-◌, ◌%◌, ◌^◌, ◌≤◌, List, ◌∷◌, Some, None, refl, sym, ◌∙◌}
use Rattle.std.proofs.Common.{arith}
use Rattle.std.specs.Prelude.{if◌then◌else◌, ◌==◌, Option, nat_le, nat_lt, ⊤}
use Rattle.std.proofs.lemmas.Bool.{and_parts, eq-eqb, leb-true, ltb-true}
use Rattle.tl_rules.specs.statement.Effect.{byte_of}
use Rattle.tl_manager.specs.statement.Reaction.{with_block}
use Rattle.tl_coherence.specs.statement.Machine.{Ends, Replies, after_end, memory_after, pool_of_op, with_number}
use Rattle.tl_true_bytes.proofs.Beside.{beside-started, beside-stored}

-- ---- a client replies

-- a store of an aligned word
abbrev pub IsAlignedStore : {w : ℕ} → Op w → Reply → Type 0
IsAlignedStore (Op.Store address size value) Reply.Stored = address % 64 + 2 ^ size ≤ 64
IsAlignedStore o r = ⊤

-- it leaves other blocks
pub unstored : (address size value x : ℕ) (f : Memory) → address % 64 + 2 ^ size ≤ 64
    → (block_at x == block_at address) ≡ false → with_number address size value f x ≡ f x
unstored address size value x f room other = go (reaches address size x) refl
  where
    go : (b : Bool) → reaches address size x ≡ b → (if b then byte_of value (x - address) else f x) ≡ f x
    go false e = refl
    go true e =
        let parts = and_parts (nat_le address x) (nat_lt x (address + 2 ^ size)) e in
        let from = leb-true address x parts.0 in
        let to = ltb-true x (address + 2 ^ size) parts.1 in
        absurd (let yes = eq-eqb (block_at x) (block_at address) (omega (arith, from, to, room)) in
        let no : true ≡ false = sym yes ∙ other in cc)

pub replied : {w : ℕ} (c : ℕ) (run : Run w) (m : Machine w) (t : Trace w) (o : Op w) (r : Reply) → IsBeside run m t
    → Replies c o r m → IsAlignedStore o r → IsBeside (with_reply o r m.memory run) (after_reply c o r m) t
replied {w} c run m t (Op.Load address size) (Reply.Started source) is replies may =
    beside-started run m t is c (pool_of_op {w = w} (Op.Load address size)) source (Op.Load address size) replies.1
replied {w} c run m t (Op.Store address size value) Reply.Stored is replies may =
    beside-stored run m t is (block_at address)
    (with_number address size value m.memory) (λ x. unstored address size value x m.memory may)
replied {w} c run m t (Op.Store address size value) (Reply.Started source) is replies may =
    beside-started run m t is c (pool_of_op {w = w} (Op.Store address size value)) source (Op.Store address size value)
    replies.1
replied {w} c run m t (Op.Acquire block grow) (Reply.Started source) is replies may =
    beside-started run m t is c (pool_of_op {w = w} (Op.Acquire block grow)) source (Op.Acquire block grow) replies.1
replied {w} c run m t (Op.AcquireWhole block bytes) (Reply.Started source) is replies may =
    beside-started run m t is c (pool_of_op {w = w} (Op.AcquireWhole block bytes)) source (Op.AcquireWhole block bytes)
    replies.1
replied {w} c run m t (Op.Release block prune) (Reply.Started source) is replies may =
    beside-started run m t is c (pool_of_op {w = w} (Op.Release block prune)) source (Op.Release block prune) replies.1
replied {w} c run m t (Op.Access a) (Reply.Started source) is replies may =
    beside-started run m t is c (pool_of_op {w = w} (Op.Access a)) source (Op.Access a) replies.1
replied {w} c run m t u y is replies may = is

-- ---- an operation ends

-- the store of a whole block leaves other blocks
pub unwritten : (block : ℕ) (bytes : List ℕ) (f : Memory) (x : ℕ) → (block_at x == block) ≡ false
    → with_block block bytes f x ≡ f x
unwritten block bytes f x other = rw other refl

module _ {w : ℕ} (run : Run w) (m : Machine w) (t : Trace w) (is : IsBeside run m t) where
  whole : (link : Link) (x : Beat w) (source : ℕ) (f : Finish) (o : Op w)
      → IsBeside (Takes link x ∷ run) (with_open link.0 (pool_of f) source None m) ((link, x) ∷ t)
      → IsBeside (with_whole o m.memory (Takes link x ∷ run))
      (with_open link.0 (pool_of f) source None (with_memory (memory_after o m.memory) m)) ((link, x) ∷ t)
  whole link x source f (Op.AcquireWhole block bytes) ended =
      beside-stored (Takes link x ∷ run) (with_open link.0 (pool_of f) source None m) ((link, x) ∷ t) ended block
      (with_block block bytes m.memory) (λ y. unwritten block bytes m.memory y)
  whole link x source f v ended = ended

  pub ended-open : (link : Link) (x : Beat w) (source : ℕ) (f : Finish) (o : Option (Open w)) → Ends o x f
      → IsBeside (Takes link x ∷ run) (with_open link.0 (pool_of f) source None m) ((link, x) ∷ t)
      → IsBeside (with_end o m.memory (Takes link x ∷ run)) (after_end link.0 (pool_of f) source o m) ((link, x) ∷ t)
  ended-open link x source f None ends ended = absurd ends
  ended-open link x source f (Some o) ends ended = whole link x source f o.asked ended
