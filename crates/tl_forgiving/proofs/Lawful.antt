-- Histories that break no rule under some liberties, beat by beat.
use Rattle.tl_forgiving.proofs.Imports.{Beat, D, History, channel_of, unfinished, is_empty, Level, Liberties}
use Rattle.tl_forgiving.proofs.Imports.{Rule, begins, ends, is_release_ack}
use Rattle.tl_forgiving.proofs.Implied.{first, not-false, second, test-fails}
use Rattle.std.proofs.Common.{◌≡◌, ℕ, true, not, List, [], ◌∷◌, length, refl, arith}
use Rattle.std.specs.Prelude.{Option, Some, None, is_none, ◌==◌, ◌+◌, ⊤}
use Rattle.std.proofs.lemmas.Bool.{eqb-true}
use Rattle.tl_beat.{specs.declared.beat.BeatD.BeatD, specs.declared.opcode.OpD.OpD}
use Rattle.tl_burst.specs.statement.Messages.{burst_length, same_control}
use Rattle.tl_params.specs.declared.rule.Rule.TheVariants.{S1}
use Rattle.tl_rules.specs.statement.Liberties.{broken_after_under, broken_given_under, broken_in_order_under}
use Rattle.tl_rules.specs.statement.Liberties.{broken_order_under, illegal_under, is_legal_under}

-- the beat breaks no rule by itself, and none of order after t
pub record IsLawful {w : ℕ} (l : Liberties) (level : Level) (x : Beat w) (t : History w) : Type 0 where
  pub alone : illegal_under l level (channel_of x) x ≡ None
  pub ordered : broken_in_order_under l x t ≡ None

unfoldable pub AreLawful : {w : ℕ} → Liberties → Level → History w → Type 0
AreLawful l level [] = ⊤
AreLawful l level (x ∷ t) = IsLawful l level x t × AreLawful l level t

-- ---- as the definitions have it

pub unbroken : {w : ℕ} (l : Liberties) (level : Level) (x : Beat w) (t : History w) → IsLawful l level x t
    → broken_after_under l level x t ≡ None
unfolding broken_after_under
unbroken l level x t lawful = rw lawful.alone lawful.ordered

pub lawful-beat : {w : ℕ} (l : Liberties) (level : Level) (x : Beat w) (t : History w)
    → broken_after_under l level x t ≡ None → IsLawful l level x t
unfolding broken_after_under
lawful-beat {w} l level x t e = go (illegal_under l level (channel_of x) x) refl e
  where
    go : (o : Option Rule) → illegal_under l level (channel_of x) x ≡ o → broken_given_under l o x t ≡ None
        → IsLawful l level x t
    go None is f = record { alone = is; ordered = f }
    go (Some r) is f = absurd cc

pub lawful-history : {w : ℕ} (l : Liberties) (level : Level) (t : History w) → is_legal_under l level t ≡ true
    → AreLawful l level t
unfolding is_legal_under AreLawful
lawful-history l level [] e = tt
lawful-history l level (x ∷ t) e = (
  lawful-beat l level x t (none (broken_after_under l level x t) (first _ _ e)),
  lawful-history l level t (second _ _ e),
)
  where
    none : (o : Option Rule) → is_none o ≡ true → o ≡ None
    none None f = refl
    none (Some r) f = absurd cc

-- ---- first beats and later ones

-- a beat that begins a message breaks no rule of order
pub begun-lawfully : {w : ℕ} (l : Liberties) (x : Beat w) (t : History w) → broken_in_order_under l x t ≡ None
    → begins x t ≡ true → broken_order_under l x t ≡ None
begun-lawfully l x t e now = rw now at e

-- one that goes on with one has its control fields
pub goes-on : {w : ℕ} (l : Liberties) (x y : Beat w) (older : List (Beat w)) (t : History w)
    → broken_in_order_under l x t ≡ None → unfinished (channel_of x) t ≡ y ∷ older → same_control x y ≡ true
goes-on l x y older t e burst =
    not-false (same_control x y) (test-fails (not (same_control x y)) S1 None (rw burst at e))

-- a ReleaseAck is one beat
pub one-beat : {w : ℕ} (x : BeatD w) (t : History w) → is_release_ack x.opcode ≡ true → ends (D x) t ≡ true
    → begins (D x) t ≡ true
one-beat {w} x t ack e = lone (unfinished (channel_of (D x)) t) (rw (size x.opcode refl ack) at e)
  where
    size : (o : OpD) → x.opcode ≡ o → is_release_ack o ≡ true → burst_length (D x) ≡ 1
    size OpD.ReleaseAck f g = rw f refl
    size v f g = absurd cc

    lone : (burst : List (Beat w)) → (length burst + 1 == 1) ≡ true → is_empty burst ≡ true
    lone [] f = refl
    lone (y ∷ ys) f = absurd (let no : length (y ∷ ys) + 1 ≡ 1 = eqb-true (length (y ∷ ys) + 1) 1 f in omega arith)
