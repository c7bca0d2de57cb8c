-- Choices by the words of a generator.
use Rattle.std.specs.Prelude.{◌≡◌, ◌-◌, ◌%◌, ◌==◌, ℕ, Bool, List, [], ◌∷◌, if◌then◌else◌, nat_lt}
use Rattle.rand_core.specs.Steps.{stream_of, steps_u64_high}
use Rattle.rand_core.specs.Stream.{Stream, next_u64, fill_bytes}
use Rattle.rand_xoshiro.specs.SplitMix64.{splitmix_seed}
use Rattle.rand_xoshiro.specs.Xoshiro256.{of_seed, plus_plus}

-- ---- the words

-- the words that a generator in this state gives
abbrev pub words_from : List ℕ → Stream
words_from = stream_of (steps_u64_high plus_plus)

-- the words of a seed
abbrev pub words_of : ℕ → Stream
words_of seed = words_from (of_seed (splitmix_seed 32 seed))

-- ---- choices

-- a choice by the words of a stream: the value, and the rest of the stream
abbrev pub Choice : Type 0 → Type 0
Choice A = Stream → A × Stream

-- one choice after the other
infixl 10 ◌>>=◌
abbrev pub ◌>>=◌ : {A B : Type 0} → Choice A → (A → Choice B) → Choice B
(first >>= next) s = next (first s).0 (first s).1

-- a value chosen without a word
abbrev pub always : {A : Type 0} → A → Choice A
always x s = (x, s)

-- a generator went from one state to the other and chose x
abbrev pub Draws : {A : Type 0} → Choice A → List ℕ → List ℕ → A → Type 0
Draws choice old new x = (x ≡ (choice (words_from old)).0) × (words_from new ≡ (choice (words_from old)).1)

-- a number below a limit
unfoldable pub below : ℕ → Choice ℕ
below limit s = ((next_u64 s).0 % limit, (next_u64 s).1)

-- true with a chance of one in `count`
unfoldable pub is_one_in : ℕ → Choice Bool
is_one_in count s = ((below count s).0 == 0, (below count s).1)

-- one of two choices, with equal chances
abbrev pub by_either : {A : Type 0} → Choice A → Choice A → Choice A
by_either x y = is_one_in 2 >>= λ came. if came then x else y

-- one of two values, with equal chances
abbrev pub either : {A : Type 0} → A → A → Choice A
either x y = is_one_in 2 >>= λ came. always (if came then x else y)

-- The alternative on which a number falls. Each has a number of chances; the last is taken if the number falls on none.
unfoldable pub by_chance : {A : Type 0} → List (ℕ × A) → A → ℕ → A
by_chance [] last n = last
by_chance (x ∷ alternatives) last n = if nat_lt n x.0 then x.1 else by_chance alternatives last (n - x.0)

-- one of the alternatives, of this many chances in all; the last has the chances that are left
abbrev pub one_of : {A : Type 0} → ℕ → List (ℕ × A) → A → Choice A
one_of chances alternatives last = below chances >>= λ n. always (by_chance alternatives last n)

-- the choice of one of the alternatives
abbrev pub by_one_of : {A : Type 0} → ℕ → List (ℕ × Choice A) → Choice A → Choice A
by_one_of chances alternatives last = below chances >>= by_chance alternatives last

-- 64 bytes
abbrev pub block_of_bytes : Choice (List ℕ)
block_of_bytes s = fill_bytes 64 s
