-- Tests of which one holds where another does, and ladders of them.
use Rattle.std.proofs.Common.{◌≡◌, Bool, true, false, not, ◌&&◌, ◌||◌, refl}
use Rattle.std.specs.Prelude.{if◌then◌else◌, Option, None}
use Rattle.tl_beat.specs.statement.First.{first_if}

-- the second holds where the first does
abbrev pub Implies : Bool → Bool → Type 0
Implies a b = a ≡ true → b ≡ true

pub and-more : (a b c d : Bool) → Implies a c → Implies b d → Implies (a && b) (c && d)
and-more true b c d f g e = rw (f refl) (g e)
and-more false b c d f g e = absurd cc

pub or-more : (a b c d : Bool) → Implies a c → Implies b d → Implies (a || b) (c || d)
or-more true b c d f g e = rw (f refl) refl
or-more false b c d f g e = second c (g e)
  where
    second : (c : Bool) → d ≡ true → (c || d) ≡ true
    second true h = refl
    second false h = h

pub not-less : (a b : Bool) → Implies a b → Implies (not b) (not a)
not-less false b f e = refl
not-less true true f e = absurd cc
not-less true false f e = absurd (let no : false ≡ true = f refl in cc)

pub if-more : (test a b c d : Bool) → Implies a c → Implies b d
    → Implies (if test then a else b) (if test then c else d)
if-more true a b c d f g = f
if-more false a b c d f g = g

pub first : (a b : Bool) → (a && b) ≡ true → a ≡ true
first true b e = refl
first false b e = absurd cc

pub second : (a b : Bool) → (a && b) ≡ true → b ≡ true
second true b e = e
second false b e = absurd cc

pub first-fails : (a b : Bool) → (a || b) ≡ false → a ≡ false
first-fails true b e = absurd cc
first-fails false b e = refl

pub second-fails : (a b : Bool) → (a || b) ≡ false → b ≡ false
second-fails true b e = absurd cc
second-fails false b e = e

pub not-true : (a : Bool) → not a ≡ true → a ≡ false
not-true false e = refl
not-true true e = absurd cc

pub not-false : (a : Bool) → not a ≡ false → a ≡ true
not-false true e = refl
not-false false e = absurd cc

module _ {T : Type 0} where
  -- a ladder whose tests hold less often
  pub ladder-less : (a b : Bool) (rule : T) (rest others : Option T) → Implies b a → (rest ≡ None → others ≡ None)
      → first_if a rule rest ≡ None → first_if b rule others ≡ None
  ladder-less true b rule rest others f g e = absurd cc
  ladder-less false true rule rest others f g e = absurd (let no : false ≡ true = f refl in cc)
  ladder-less false false rule rest others f g e = g e

  pub test-fails : (a : Bool) (rule : T) (rest : Option T) → first_if a rule rest ≡ None → a ≡ false
  test-fails true rule rest e = absurd cc
  test-fails false rule rest e = refl

  pub rest-none : (a : Bool) (rule : T) (rest : Option T) → first_if a rule rest ≡ None → rest ≡ None
  rest-none true rule rest e = absurd cc
  rest-none false rule rest e = e

  pub third-fails : (a b c : Bool) (p q r : T) (rest : Option T)
      → first_if a p (first_if b q (first_if c r rest)) ≡ None → c ≡ false
  third-fails a b c p q r rest e = test-fails c r rest (rest-none b q (first_if c r rest) (rest-none a p
      (first_if b q (first_if c r rest)) e))
