-- Words of liberties: what was spelled is read, and what was read was spelled so.
use denote.Ref.{Bor}
use Rattle.std.proofs.Common.{◌≡◌, ◌≢◌, ℕ, List, [], ◌∷◌, ◌++◌, true, false, refl, ap, sym, ◌∙◌, inl, inr, cond}
use Rattle.std.proofs.Common.{◌+◌, ◌≤◌, length-append, arith, length, map}
use Rattle.std.proofs.lemmas.List.{append-nil}
use Rattle.std.specs.List.{filter}
use Rattle.std.specs.Prelude.{Bool, codes, IfSome, Option, Some, None}
use Rattle.tl_params.proofs.Headers.{after_taken}
use Rattle.tl_params.proofs.Options.{some_pair}
use Rattle.tl_params.specs.code.HeaderReading.{Gives, after_word}
use Rattle.tl_params.specs.declared.liberties.Liberties.{Liberties}
use Rattle.tl_params.specs.declared.liberties.Liberty.{Liberty}
use Rattle.tl_params.specs.statement.Liberties.{allows, liberty_name, no_liberties}
use Rattle.tl_command.specs.code.LibertyReading.{liberties_at, marks_at, named_or_none}
use Rattle.tl_command.specs.code.LibertyReading.{named_or_standard, names_taken, set_of, standard_at}
use Rattle.tl_command.specs.statement.LibertyWords.{IsRead, LacksComma, SpellsLiberties, all_liberties, joined, names_of}
use Rattle.tl_command.proofs.LibertyNames.{AreNamed, begins_with, chosen, marks_again, marks_length, marks_taken}
use Rattle.tl_command.proofs.LibertyNames.{none_after, some_names, spelled, which}

-- ---- whole words

-- what the bytes spell at their front, with what is left
abbrev pub Spelled : List ℕ → Liberties → List ℕ → Type 0
Spelled bytes l rest = (word : List ℕ) × SpellsLiberties word l × (bytes ≡ word ++ rest)

names_spelled : (marks : List Bool) (bytes rest : List ℕ) → length marks ≡ 8
    → AreNamed all_liberties bytes marks rest → Spelled bytes (set_of marks) rest
unfolding chosen
names_spelled (a ∷ b ∷ c ∷ d ∷ e ∷ f ∷ g ∷ h ∷ []) bytes rest many (some, text) = (
  spelled all_liberties (a ∷ b ∷ c ∷ d ∷ e ∷ f ∷ g ∷ h ∷ []),
  inr (inr (inr (some_names (chosen all_liberties (a ∷ b ∷ c ∷ d ∷ e ∷ f ∷ g ∷ h ∷ [])) some, refl))),
  text,
)
names_spelled [] bytes rest many is = absurd cc
names_spelled (a ∷ []) bytes rest many is = absurd cc
names_spelled (a ∷ b ∷ []) bytes rest many is = absurd cc
names_spelled (a ∷ b ∷ c ∷ []) bytes rest many is = absurd cc
names_spelled (a ∷ b ∷ c ∷ d ∷ []) bytes rest many is = absurd cc
names_spelled (a ∷ b ∷ c ∷ d ∷ e ∷ []) bytes rest many is = absurd cc
names_spelled (a ∷ b ∷ c ∷ d ∷ e ∷ f ∷ []) bytes rest many is = absurd cc
names_spelled (a ∷ b ∷ c ∷ d ∷ e ∷ f ∷ g ∷ []) bytes rest many is = absurd cc
names_spelled (a ∷ b ∷ c ∷ d ∷ e ∷ f ∷ g ∷ h ∷ i ∷ more) bytes rest many is = absurd (omega (arith, many))

pub liberties_taken : (bytes rest : List ℕ) (l : Liberties) → liberties_at bytes ≡ Some (l, rest) → Spelled bytes l rest
liberties_taken bytes rest l e = at_none (after_word (codes "none") bytes) refl e
  where
    at_names : (m : List Bool × (Bool × List ℕ)) → marks_at all_liberties (true, bytes) ≡ m
        → names_taken m ≡ Some (l, rest) → Spelled bytes l rest
    at_names (marks, (true, left)) is f = absurd cc
    at_names (marks, (false, left)) is f =
        let (same, ends) = some_pair (set_of marks, left) (l, rest) f in
        rw (← same, ← ends)
        (names_spelled marks bytes left
        (rw is at (marks_length all_liberties (true, bytes)))
        (marks_taken all_liberties bytes left marks is))

    at_both : (left : List ℕ) → bytes ≡ codes "standard" ++ left → (o : Option (List ℕ))
        → after_word (codes ",uncorrupt") left ≡ o → Some (standard_at left o) ≡ Some (l, rest) → Spelled bytes l rest
    at_both left text None is f =
        let (same, ends) = some_pair (standard_at left None) (l, rest) f in
        rw (← same, ← ends) (codes "standard", inr (inl (refl, refl)), text)
    at_both left text (Some after) is f =
        let (same, ends) = some_pair (standard_at left (Some after)) (l, rest) f in
        let more : left ≡ codes ",uncorrupt" ++ after = after_taken (codes ",uncorrupt") left after is in
        rw (← same, ← ends) (
          codes "standard,uncorrupt",
          inr (inr (inl (refl, refl))),
          text ∙ ap (λ (x : List ℕ). codes "standard" ++ x) more,
        )

    at_standard : (o : Option (List ℕ)) → after_word (codes "standard") bytes ≡ o
        → named_or_standard bytes o ≡ Some (l, rest) → Spelled bytes l rest
    at_standard None is f = at_names (marks_at all_liberties (true, bytes)) refl f
    at_standard (Some left) is f =
        at_both left (after_taken (codes "standard") bytes left is) (after_word (codes ",uncorrupt") left) refl f

    at_none : (o : Option (List ℕ)) → after_word (codes "none") bytes ≡ o
        → named_or_none bytes o ≡ Some (l, rest) → Spelled bytes l rest
    at_none None is f = at_standard (after_word (codes "standard") bytes) refl f
    at_none (Some left) is f =
        let (same, ends) = some_pair (no_liberties, left) (l, rest) f in
        rw (← same, ← ends) (codes "none", inl (refl, refl), after_taken (codes "none") bytes left is)

no_more : (rest : List ℕ) → LacksComma rest → after_word (codes ",uncorrupt") rest ≡ None
no_more rest lacks = go (after_word (codes ",uncorrupt") rest) refl
  where
    go : (o : Option (List ℕ)) → after_word (codes ",uncorrupt") rest ≡ o
        → after_word (codes ",uncorrupt") rest ≡ None
    go None is = is
    go (Some after) is =
        absurd (lacks (codes "uncorrupt" ++ after) (after_taken (codes ",uncorrupt") rest after is))

other_none : (x : Liberty) (left : List ℕ) → which (codes "none" ++ left) ≢ Some x
unfolding which
other_none x left same = cc

other_standard : (x : Liberty) (left : List ℕ) → which (codes "standard" ++ left) ≢ Some x
unfolding which
other_standard x left same = cc

names_again : (l : Liberties) (rest : List ℕ) → names_of l ≢ [] → LacksComma rest
    → liberties_at (joined (names_of l) ++ rest) ≡ Some (l, rest)
names_again l rest some lacks =
    let others : filter (allows l) all_liberties ≢ [] = λ none. some (ap (map liberty_name) none) in
    let (y, more, is, text) = begins_with (allows l) all_liberties rest others in
    let not_none : after_word (codes "none") (joined (names_of l) ++ rest) ≡ None =
    ap (after_word (codes "none")) text ∙ none_after (codes "none") y more (other_none y) in
    let not_standard : after_word (codes "standard") (joined (names_of l) ++ rest) ≡ None =
    ap (after_word (codes "standard")) text ∙ none_after (codes "standard") y more (other_standard y) in
    rw (not_none, not_standard, marks_again (allows l) all_liberties rest lacks others) refl

pub liberties_again : (word rest : List ℕ) (l : Liberties) → SpellsLiberties word l → LacksComma rest
    → liberties_at (word ++ rest) ≡ Some (l, rest)
liberties_again word rest l (inl (is, set)) lacks = rw (is, set) refl
liberties_again word rest l (inr (inl (is, set))) lacks = rw (is, set, no_more rest lacks) refl
liberties_again word rest l (inr (inr (inl (is, set)))) lacks = rw (is, set) refl
liberties_again word rest l (inr (inr (inr (some, is)))) lacks = rw is (names_again l rest some lacks)

pub front_spelled : (found : Option (Liberties × Bor (List ℕ))) (bytes : List ℕ) → Gives found (liberties_at bytes)
    → IfSome found (λ x. (word : List ℕ) × SpellsLiberties word x.0 × (bytes ≡ word ++ x.1.now))
front_spelled None bytes gives = tt
front_spelled (Some x) bytes gives = liberties_taken bytes x.1.now x.0 gives

pub front_read : (found : Option (Liberties × Bor (List ℕ))) (bytes : List ℕ) → Gives found (liberties_at bytes)
    → (l : Liberties) (word rest : List ℕ) → SpellsLiberties word l → LacksComma rest → bytes ≡ word ++ rest
    → IsRead found l rest
front_read None bytes gives = λ l word rest spells lacks text.
    let some = ap liberties_at text ∙ liberties_again word rest l spells lacks in
    absurd cc
front_read (Some x) bytes gives = λ l word rest spells lacks text.
    some_pair (x.0, x.1.now) (l, rest) (sym gives ∙ ap liberties_at text ∙ liberties_again word rest l spells lacks)

-- the whole word, and nothing left
nothing_left : LacksComma []
nothing_left rest e = cc

pub word_read : (found : Option (Liberties × Bor (List ℕ))) (word : List ℕ)
    → ((l : Liberties) (front rest : List ℕ) → SpellsLiberties front l → LacksComma rest → word ≡ front ++ rest
    → IsRead found l rest)
    → (l : Liberties) → SpellsLiberties word l → IsRead found l []
word_read found word every l spells = every l word [] spells nothing_left (sym (append-nil word))

-- ---- they are short

-- a name and a comma for each
all_names : List Liberty → ℕ
all_names [] = 0
all_names (x ∷ xs) = length (liberty_name x) + 1 + all_names xs

joined_within : (name : List ℕ) (names : List (List ℕ))
    → length (joined (name ∷ names)) ≤ length name + 1 + length (joined names)
unfolding joined
joined_within name [] = omega arith
joined_within name (next ∷ names) = omega (arith, length-append name (44 ∷ joined (next ∷ names)))

names_short : (p : Liberty → Bool) (xs : List Liberty) → length (joined (map liberty_name (filter p xs))) ≤ all_names xs
unfolding joined all_names
names_short p [] = omega arith
names_short p (x ∷ xs) = go (p x) (names_short p xs)
  where
    go : (b : Bool) → length (joined (map liberty_name (filter p xs))) ≤ all_names xs
        → length (joined (map liberty_name (cond b (x ∷ filter p xs) (filter p xs))))
        ≤ length (liberty_name x) + 1 + all_names xs
    go true few = omega (arith, few, joined_within (liberty_name x) (map liberty_name (filter p xs)))
    go false few = omega (arith, few)

pub word-short : (word : List ℕ) (l : Liberties) → SpellsLiberties word l → length word ≤ 64
unfolding all_names
word-short word l (inl (is, set)) = rw is (omega arith)
word-short word l (inr (inl (is, set))) = rw is (omega arith)
word-short word l (inr (inr (inl (is, set)))) = rw is (omega arith)
word-short word l (inr (inr (inr (some, is)))) = rw is (omega (arith, names_short (allows l) all_liberties))
