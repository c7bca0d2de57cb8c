-- What a judge answers about the bytes of responses.
use Rattle.std.proofs.Common.{◌≡◌, ◌≤◌, ◌<◌, ◌+◌, ◌*◌, ℕ, Bool, true, false, ◌||◌, List, ◌∷◌, length, refl}
use Rattle.std.proofs.Common.{◌∙◌, arith, drop, get_or, inl, inr, sym}
use Rattle.std.proofs.Math.ListN.{drop_of_length-le}
use Rattle.std.proofs.lemmas.List.{at_drop_more}
use Rattle.std.proofs.lemmas.Option.{slice_get_cases}
use Rattle.std.specs.Prelude.{if◌then◌else◌, find, is_some, slice_get, Some, None}
use Rattle.tl_beat.specs.declared.beat.BeatD.{BeatD}
use Rattle.tl_beat.specs.declared.opcode.OpD.{OpD}
use Rattle.tl_bytes.specs.code.Tellings.{leaves, left_as}
use Rattle.tl_bytes.specs.declared.write.Write.{Write}
use Rattle.tl_memory.proofs.values.Added.{or-more}
use Rattle.tl_memory.specs.code.ByteSet.{has_at}
use Rattle.tl_rules.specs.declared.past.Request.{Request}
use Rattle.tl_rules.specs.statement.OpenMessages.{open_request}
use Rattle.tl_commits.specs.code.Granting.{KnowsGrantOf, may_bring}
use Rattle.tl_commits.specs.declared.granting.GrantBytes.{GrantBytes}
use Rattle.tl_commits.specs.declared.responding.ResponseBytes.{ResponseBytes}
use Rattle.tl_commits.specs.statement.Completeness.{Completeness}
use Rattle.tl_commits.specs.statement.Copies.{link_beats}
use Rattle.tl_commits.specs.statement.Events.{Events}
use Rattle.tl_commits.specs.code.Responding.{AreGranted}
use Rattle.tl_commits.specs.statement.ResponseBytes.{beats_come}

-- ---- sets with what writes may leave

-- those of one write more
pub write-next : (p v : ℕ) (items : List Write) (i : ℕ) (d : Write) (before now : Bool) → i < length items
    → now ≡ (before || leaves p v (get_or items i d))
    → (now || left_as p v (drop (i + 1) items)) ≡ (before || left_as p v (drop i items))
write-next p v items i d before now lt is =
    let next : left_as p v (drop i items) ≡ (leaves p v (get_or items i d) || left_as p v (drop (i + 1) items)) =
    at_drop_more (left_as p v) items i d lt ∙ first (get_or items i d) (drop (i + 1) items) in
    rw (is, next) (or-more before (leaves p v (get_or items i d)) (left_as p v (drop (i + 1) items)))
  where
    first : (x : Write) (l : List Write) → left_as p v (x ∷ l) ≡ (leaves p v x || left_as p v l)
    first x l = go (leaves p v x)
      where
        go : (b : Bool) → is_some (if b then Some x else find (leaves p v) l) ≡ (b || is_some (find (leaves p v) l))
        go true = refl
        go false = refl

-- no write is left
pub write-none : (p v : ℕ) (items : List Write) (i : ℕ) (before : Bool) → length items ≤ i
    → (before || left_as p v (drop i items)) ≡ before
write-none p v items i before le = rw (drop_of_length-le items le) (or-false before)
  where
    or-false : (b : Bool) → (b || false) ≡ b
    or-false true = refl
    or-false false = refl

-- ---- a GrantData

-- each link has bytes
pub no-slot : (grants : List GrantBytes) (i : ℕ) → i < length grants → slice_get grants i ≡ None → ⊥
no-slot grants i lt none = elim (slice_get_cases grants i).1 [
  | inl found ↦ let no : None ≡ Some found.0 = sym none ∙ found.2 in absurd cc
  | inr past ↦ absurd (omega (arith, lt, past.0))
]

pub granted-are : {w : ℕ} (complete : Completeness) (n link : ℕ) (x : BeatD w) (e : Events w) (asked : Request)
    (g : GrantBytes) (b : ResponseBytes) → open_request x.source (link_beats link e) ≡ Some asked
    → KnowsGrantOf g complete n link x e → x.opcode ≡ OpD.GrantData → b.block ≡ asked.block
    → b.first ≡ w * beats_come link e → b.first + w ≤ 64
    → ((place v : ℕ) → place < 64 → v < 256 → has_at b.sets place v ≡ may_bring g place v)
    → AreGranted (Some b) complete n link (open_request x.source (link_beats link e)) e
granted-are {w} complete n link x e asked g b opened k kind here first inside sets = rw opened (record {
  from_is = rw (here, first) refl;
  inside = inside;
  sets_are = λ place v lt small. sets place v lt small ∙ rw here (k asked kind opened place v lt);
})
