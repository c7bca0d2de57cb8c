-- The beats of a message, pushed one after another.
use Rattle.std.proofs.Common.{◌≡◌, ◌+◌, ◌≤◌, ◌++◌, ◌∷◌, ℕ, zero, suc, Bool, true, List, [], map, refl, ap, ◌∙◌, arith}
use Rattle.std.proofs.Common.{inl, inr}
use Rattle.std.proofs.lemmas.Bool.{cases_lt}
use Rattle.std.specs.Prelude.{if◌then◌else◌}
use Rattle.std.proofs.lemmas.List.{append_assoc}
use Rattle.tl_beat.specs.declared.beat.Beat.{Beat}
use Rattle.tl_beat.specs.declared.beat.Link.{Link}
use Rattle.tl_beat.specs.statement.Width.{IsWidth}
use Rattle.tl_burst.specs.declared.message.Message.{Message}
use Rattle.tl_burst.specs.statement.Burst.{beats_of, beat_of}
use Rattle.tl_burst.proofs.Lanes.{few_beats}
use Rattle.tl_rules.specs.statement.Legality.{beats_from}

more_beats : {w : ℕ} (m : Message w) (i n : ℕ) → beats_from m i (suc n) ≡ beats_from m i n ++ beat_of m (i + n) ∷ []
unfolding beats_from
more_beats m i zero = let none : i + 0 ≡ i = omega arith in rw none refl
more_beats m i (suc n) =
    let later : i + 1 + n ≡ i + suc n = omega arith in
    ap (λ xs. beat_of m i ∷ xs) (rw later at (more_beats m (i + 1) n))

next_beat : {w : ℕ} (m : Message w) (n : ℕ) → beats_from m 0 (n + 1) ≡ beats_from m 0 n ++ beat_of m n ∷ []
next_beat m n =
    let next : n + 1 ≡ suc n = omega arith in
    let same : 0 + n ≡ n = omega arith in
    rw next (rw same at (more_beats m 0 n))

map_end : {X Y : Type 0} (f : X → Y) (xs : List X) (x : X) → map f (xs ++ x ∷ []) ≡ map f xs ++ f x ∷ []
map_end f [] x = refl
map_end f (y ∷ ys) x = ap (λ zs. f y ∷ zs) (map_end f ys x)

-- one beat more was pushed
pub one_more : {w : ℕ} (link : Link) (m : Message w) (i : ℕ) (old now new : List (Link × Beat w)) (done : Bool)
    (x : Beat w)
    → x ≡ beat_of m i → now ≡ old ++ map (λ b. (link, b)) (beats_from m 0 i)
    → new ≡ (if done then now ++ (link, x) ∷ [] else now) → done ≡ true
    → new ≡ old ++ map (λ b. (link, b)) (beats_from m 0 (i + 1))
one_more {w} link m i old now new done x is so_far pushed ok =
    pushed
    ∙ rw (ok, so_far, is, next_beat m i, map_end {Y = Link × Beat w} (λ b. (link, b)) (beats_from m 0 i) (beat_of m i))
    (append_assoc old (map (λ b. (link, b)) (beats_from m 0 i)) ((link, beat_of m i) ∷ []))

-- a message has 16 beats at most
pub most_beats : {w : ℕ} (m : Message w) → IsWidth w → beats_of m ≤ 16
most_beats m width = elim (cases_lt 16 (beats_of m)) [
  | inl many ↦ absurd (omega (arith, few_beats m 16 width many))
  | inr le ↦ le
]
