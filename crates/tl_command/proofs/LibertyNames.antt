-- Names of liberties: what was spelled is read, and what was read was spelled so.
use denote.Ref.{Bor}
use Rattle.std.proofs.Common.{◌≡◌, ◌≢◌, ℕ, List, [], ◌∷◌, ◌++◌, true, false, refl, ap, sym, ◌∙◌, cond, eqb}
use Rattle.std.proofs.Common.{append_assoc, eqb-true, length, map, suc}
use Rattle.std.proofs.lemmas.Bool.{eq-eqb}
use Rattle.std.specs.List.{filter}
use Rattle.std.specs.Prelude.{Bool, ◌==◌, ◌&&◌, MatchOption, Option, Some, None, if◌then◌else◌}
use Rattle.tl_params.proofs.Headers.{after_taken}
use Rattle.tl_params.proofs.Options.{some_pair}
use Rattle.tl_params.specs.code.HeaderReading.{after_word}
use Rattle.tl_params.specs.declared.liberties.Liberty.{Liberty}
use Rattle.tl_params.specs.declared.liberties.Liberty.TheVariants.{Ids, Sinks, Writer, Early, Drops, Reports, Denied}
use Rattle.tl_params.specs.declared.liberties.Liberty.TheVariants.{Uncorrupt}
use Rattle.tl_params.specs.statement.Liberties.{liberty_name}
use Rattle.tl_command.specs.code.LibertyReading.{IsAfter, comma_at, mark_at, marks_at, named_at}
use Rattle.tl_command.specs.code.LibertyReading.{onto_marks}
use Rattle.tl_command.specs.statement.LibertyWords.{LacksComma, all_liberties, joined}

-- ---- a word at the front

after_again : (word rest : List ℕ) → after_word word (word ++ rest) ≡ Some rest
after_again [] rest = refl
after_again (c ∷ word) rest = rw (eq-eqb c c refl) (after_again word rest)

-- what the library says of a word at the front
pub after_is : (word bytes : List ℕ) (found : Option (Bor (List ℕ)))
    → MatchOption found ((rest : List ℕ) → bytes ≢ word ++ rest) (λ rest. bytes ≡ word ++ rest.now)
    → IsAfter word bytes found
after_is word bytes None none = go (after_word word bytes) refl
  where
    go : (o : Option (List ℕ)) → after_word word bytes ≡ o → after_word word bytes ≡ None
    go None is = is
    go (Some rest) is = absurd (none rest (after_taken word bytes rest is))
after_is word bytes (Some rest) is = ap (after_word word) is ∙ after_again word rest.now

-- the liberty whose name begins with these letters
unfoldable pub which : List ℕ → Option Liberty
which [] = None
which (a ∷ []) = None
which (a ∷ b ∷ rest) =
    if a == 105 then Some Ids else
    if (a == 115) && (b == 105) then Some Sinks else
    if a == 119 then Some Writer else
    if a == 101 then Some Early else
    if (a == 100) && (b == 114) then Some Drops else
    if a == 114 then Some Reports else
    if (a == 100) && (b == 101) then Some Denied else
    if a == 117 then Some Uncorrupt else None

which_name : (x : Liberty) (rest : List ℕ) → which (liberty_name x ++ rest) ≡ Some x
unfolding which
which_name Ids rest = refl
which_name Sinks rest = refl
which_name Writer rest = refl
which_name Early rest = refl
which_name Drops rest = refl
which_name Reports rest = refl
which_name Denied rest = refl
which_name Uncorrupt rest = refl

-- a word that begins as no liberty's name, or another's, doesn't stand in front of one
pub none_after : (word : List ℕ) (x : Liberty) (rest : List ℕ) → ((more : List ℕ) → which (word ++ more) ≢ Some x)
    → after_word word (liberty_name x ++ rest) ≡ None
none_after word x rest unlike = go (after_word word (liberty_name x ++ rest)) refl
  where
    go : (o : Option (List ℕ)) → after_word word (liberty_name x ++ rest) ≡ o
        → after_word word (liberty_name x ++ rest) ≡ None
    go None is = is
    go (Some more) is =
        let text = after_taken word (liberty_name x ++ rest) more is in
        absurd (unlike more (ap which (sym text) ∙ which_name x rest))

-- ---- names

joined_more : (name : List ℕ) (names : List (List ℕ)) → names ≢ [] → joined (name ∷ names) ≡ name ++ 44 ∷ joined names
unfolding joined
joined_more name [] some = absurd (some refl)
joined_more name (next ∷ names) some = refl

joined_one : (name : List ℕ) → joined (name ∷ []) ≡ name
unfolding joined
joined_one name = refl

-- whether another name may come, with what is left
abbrev may_come : Bool → List ℕ → Bool × List ℕ
may_come more rest = (more, rest)

no_comma : (rest : List ℕ) → LacksComma rest → comma_at rest ≡ may_come false rest
no_comma [] lacks = refl
no_comma (c ∷ rest) lacks = go (eqb c 44) refl
  where
    go : (b : Bool) → eqb c 44 ≡ b → cond b (may_come true rest) (may_come false (c ∷ rest)) ≡ may_come false (c ∷ rest)
    go true is = absurd (lacks rest (ap (λ (n : ℕ). n ∷ rest) (eqb-true c 44 is)))
    go false is = refl

-- the marks where no name may come
abbrev unmarked : List Liberty → List Bool
unmarked xs = map (λ x. false) xs

marks_none : (xs : List Liberty) (rest : List ℕ) → marks_at xs (false, rest) ≡ (unmarked xs, (false, rest))
unfolding marks_at
marks_none [] rest = refl
marks_none (x ∷ xs) rest = ap (onto_marks false) (marks_none xs rest)

marks_step : (x : Liberty) (xs : List Liberty) (bytes : List ℕ)
    → marks_at (x ∷ xs) (true, bytes)
    ≡ onto_marks (mark_at x true bytes).0 (marks_at xs (mark_at x true bytes).1)
unfolding marks_at
marks_step x xs bytes = refl

-- ---- what was spelled is read

module _ (p : Liberty → Bool) where
  abbrev texts : List Liberty → List (List ℕ)
  texts xs = map liberty_name (filter p xs)

  none_chosen : (xs : List Liberty) → filter p xs ≡ [] → map p xs ≡ unmarked xs
  none_chosen [] none = refl
  none_chosen (x ∷ xs) none = go (p x) refl (none_chosen xs) none
    where
      go : (b : Bool) → p x ≡ b → (filter p xs ≡ [] → map p xs ≡ unmarked xs)
          → cond b (x ∷ filter p xs) (filter p xs) ≡ [] → p x ∷ map p xs ≡ false ∷ unmarked xs
      go true is more e = absurd cc
      go false is more e = rw (is, more e) refl

  -- the first name of those that are chosen is that of one that is
  abbrev pub BeginsWith : List ℕ → Type 0
  BeginsWith text = (y : Liberty) × (more : List ℕ) × (p y ≡ true) × (text ≡ liberty_name y ++ more)

  pub begins_with : (xs : List Liberty) (rest : List ℕ) → filter p xs ≢ [] → BeginsWith (joined (texts xs) ++ rest)
  unfolding joined
  begins_with [] rest some = absurd (some refl)
  begins_with (x ∷ xs) rest some = go (p x) refl (begins_with xs rest) some
    where
      go : (b : Bool) → p x ≡ b → (filter p xs ≢ [] → BeginsWith (joined (texts xs) ++ rest))
          → cond b (x ∷ filter p xs) (filter p xs) ≢ []
          → BeginsWith (joined (map liberty_name (cond b (x ∷ filter p xs) (filter p xs))) ++ rest)
      go true is others e = at (filter p xs)
        where
          at : (ys : List Liberty) → BeginsWith (joined (map liberty_name (x ∷ ys)) ++ rest)
          at [] = (x, rest, is, refl)
          at (y ∷ ys) = (
            x,
            44 ∷ (joined (map liberty_name (y ∷ ys)) ++ rest),
            is,
            append_assoc (liberty_name x) (44 ∷ joined (map liberty_name (y ∷ ys))) rest,
          )
      go false is others e = others e

  pub marks_again : (xs : List Liberty) (rest : List ℕ) → LacksComma rest → filter p xs ≢ []
      → marks_at xs (true, joined (texts xs) ++ rest) ≡ (map p xs, (false, rest))
  marks_again [] rest lacks some = absurd (some refl)
  marks_again (x ∷ xs) rest lacks some = go (p x) refl (marks_again xs rest lacks) some
    where
      go : (b : Bool) → p x ≡ b
          → (filter p xs ≢ [] → marks_at xs (true, joined (texts xs) ++ rest) ≡ (map p xs, (false, rest)))
          → cond b (x ∷ filter p xs) (filter p xs) ≢ []
          → marks_at (x ∷ xs) (true, joined (map liberty_name (cond b (x ∷ filter p xs) (filter p xs))) ++ rest)
          ≡ (p x ∷ map p xs, (false, rest))
      go true is again e = at (filter p xs) refl
        where
          at : (ys : List Liberty) → filter p xs ≡ ys
              → marks_at (x ∷ xs) (true, joined (map liberty_name (x ∷ ys)) ++ rest) ≡ (p x ∷ map p xs, (false, rest))
          at [] none =
              marks_step x xs _
              ∙ rw (
                joined_one (liberty_name x),
                after_again (liberty_name x) rest,
                no_comma rest lacks,
                is,
                marks_none xs rest,
                none_chosen xs none,
              ) refl
          at (y ∷ ys) others =
              let text : joined (map liberty_name (x ∷ y ∷ ys)) ++ rest
              ≡ liberty_name x ++ (44 ∷ (joined (map liberty_name (y ∷ ys)) ++ rest)) =
              rw (joined_more (liberty_name x) (map liberty_name (y ∷ ys)) (λ e. absurd cc))
              (append_assoc (liberty_name x) (44 ∷ joined (map liberty_name (y ∷ ys))) rest) in
              let more : marks_at xs (true, joined (map liberty_name (y ∷ ys)) ++ rest) ≡ (map p xs, (false, rest)) =
              rw others at (again (λ none. absurd (no (sym others ∙ none)))) in
              marks_step x xs _ ∙ rw (text, after_again (liberty_name x) _, is, more) refl
            where
              no : y ∷ ys ≡ [] → ⊥
              no same = cc
      go false is again e =
          let (y, more, chosen, text) = begins_with xs rest e in
          let other : after_word (liberty_name x) (liberty_name y ++ more) ≡ None =
          none_after (liberty_name x) y more (λ left same. absurd (at left (sym (which_name x left) ∙ same) chosen)) in
          let quiet : after_word (liberty_name x) (joined (texts xs) ++ rest) ≡ None = rw text other in
          marks_step x xs _ ∙ rw (quiet, is, again e) refl
        where
          at : {y : Liberty} (left : List ℕ) → Some x ≡ Some y → p y ≡ true → ⊥
          at left same chosen = cc

-- ---- what was read was spelled so

-- those that are marked
unfoldable pub chosen : List Liberty → List Bool → List Liberty
chosen [] marks = []
chosen (x ∷ xs) [] = []
chosen (x ∷ xs) (mark ∷ marks) = if mark then x ∷ chosen xs marks else chosen xs marks

abbrev pub spelled : List Liberty → List Bool → List ℕ
spelled xs marks = joined (map liberty_name (chosen xs marks))

none_marked : (xs : List Liberty) → chosen xs (unmarked xs) ≡ []
unfolding chosen
none_marked [] = refl
none_marked (x ∷ xs) = none_marked xs

-- some are marked, and their names stand at the front
abbrev pub AreNamed : List Liberty → List ℕ → List Bool → List ℕ → Type 0
AreNamed xs bytes marks rest = (chosen xs marks ≢ []) × (bytes ≡ spelled xs marks ++ rest)

abbrev taken : List Bool → List ℕ → List Bool × (Bool × List ℕ)
taken marks rest = (marks, (false, rest))

pub some_names : (ys : List Liberty) → ys ≢ [] → map liberty_name ys ≢ []
some_names [] some none = some refl
some_names (y ∷ ys) some none = cc

pub cons_some : (x : Liberty) (xs : List Liberty) → x ∷ xs ≢ []
cons_some x xs none = cc

-- the name of x stands in front of these bytes, whose front is taken
one_named : (x : Liberty) (xs : List Liberty) (bytes after rest : List ℕ) (marks : List Bool)
    → bytes ≡ liberty_name x ++ after → taken (true ∷ unmarked xs) after ≡ taken marks rest
    → AreNamed (x ∷ xs) bytes marks rest
unfolding joined chosen
one_named x xs bytes after rest marks text e =
    let (same, left) = some_pair (true ∷ unmarked xs, (false, after)) (marks, (false, rest)) (ap Some e) in
    let after_is : after ≡ rest = ap (λ (y : Bool × List ℕ). y.1) left in
    rw (← same, ← after_is, none_marked xs) (cons_some x [], text)

-- the liberties behind one are named so, whatever is left for them
abbrev Others : List Liberty → List ℕ → Type 0
Others xs rest = (left : List ℕ) (more : List Bool) → marks_at xs (true, left) ≡ taken more rest
    → AreNamed xs left more rest

pub marks_taken : (xs : List Liberty) (bytes rest : List ℕ) (marks : List Bool)
    → marks_at xs (true, bytes) ≡ taken marks rest → AreNamed xs bytes marks rest
unfolding marks_at chosen
marks_taken [] bytes rest marks e = absurd (no (ap (λ (y : List Bool × (Bool × List ℕ)). y.1.0) e))
  where
    no : true ≡ false → ⊥
    no same = cc
marks_taken (x ∷ xs) bytes rest marks e =
    go (after_word (liberty_name x) bytes) refl (λ left more. marks_taken xs left rest more) e
  where
    split : (mark : Bool) (m : List Bool × (Bool × List ℕ)) → onto_marks mark m ≡ taken marks rest
        → (more : List Bool) × (marks ≡ mark ∷ more) × (m ≡ taken more rest)
    split mark (more, left) f =
        let (same, ends) = some_pair (mark ∷ more, left) (marks, (false, rest)) (ap Some f) in
        (more, sym same, ap (λ (y : Bool × List ℕ). (more, y)) ends)

    at_comma : (after : List ℕ) → bytes ≡ liberty_name x ++ after → Others xs rest
        → (b : Bool) (c : ℕ) (names : List ℕ) → after ≡ c ∷ names → eqb c 44 ≡ b
        → onto_marks true (marks_at xs (cond b (true, names) (false, c ∷ names))) ≡ taken marks rest
        → AreNamed (x ∷ xs) bytes marks rest
    at_comma after text others true c names is comma f =
        let (more, same, m) = split true (marks_at xs (true, names)) f in
        let (some, behind) = others names more m in
        let tail : after ≡ 44 ∷ (spelled xs more ++ rest) =
        is ∙ ap (λ (n : ℕ). n ∷ names) (eqb-true c 44 comma) ∙ ap (λ (l : List ℕ). 44 ∷ l) behind in
        let front : liberty_name x ++ 44 ∷ spelled xs more ≡ joined (liberty_name x ∷ map liberty_name (chosen xs more)) =
        sym (joined_more (liberty_name x) (map liberty_name (chosen xs more)) (some_names (chosen xs more) some)) in
        rw same (
          cons_some x (chosen xs more),
          text ∙ ap (λ (l : List ℕ). liberty_name x ++ l) tail
              ∙ sym (append_assoc (liberty_name x) (44 ∷ spelled xs more) rest)
              ∙ ap (λ (l : List ℕ). l ++ rest) front,
        )
    at_comma after text others false c names is comma f =
        one_named x xs bytes after rest marks text
        (rw is (ap (onto_marks true) (sym (marks_none xs (c ∷ names))) ∙ f))

    at_name : (after : List ℕ) → bytes ≡ liberty_name x ++ after → Others xs rest
        → onto_marks true (marks_at xs (comma_at after)) ≡ taken marks rest → AreNamed (x ∷ xs) bytes marks rest
    at_name [] text others f =
        one_named x xs bytes [] rest marks text (ap (onto_marks true) (sym (marks_none xs [])) ∙ f)
    at_name (c ∷ names) text others f =
        at_comma (c ∷ names) text others (eqb c 44) c names refl refl f

    go : (o : Option (List ℕ)) → after_word (liberty_name x) bytes ≡ o → Others xs rest
        → onto_marks (named_at bytes o).0 (marks_at xs (named_at bytes o).1) ≡ taken marks rest
        → AreNamed (x ∷ xs) bytes marks rest
    go None is others f =
        let (more, same, m) = split false (marks_at xs (true, bytes)) f in
        rw same (others bytes more m)
    go (Some after) is others f = at_name after (after_taken (liberty_name x) bytes after is) others f

-- ---- whole words

-- a mark, with what comes behind it
abbrev marked : Bool → Bool → List ℕ → Bool × (Bool × List ℕ)
marked mark more rest = (mark, (more, rest))

-- each liberty has its mark
mark_step : (x : Liberty) (xs : List Liberty) (more next : Bool) (bytes rest : List ℕ) (mark : Bool)
    → marked mark next rest ≡ mark_at x more bytes
    → marks_at (x ∷ xs) (more, bytes) ≡ onto_marks mark (marks_at xs (next, rest))
unfolding marks_at
mark_step x xs more next bytes rest mark e = rw (← e) refl

marks_end : (left : Bool × List ℕ) → marks_at [] left ≡ ([], left)
unfolding marks_at
marks_end left = refl

pub eight_marks : (bytes : List ℕ) (a b c d e f g h : Bool × (Bool × List ℕ))
    → a ≡ mark_at Ids true bytes → b ≡ mark_at Sinks a.1.0 a.1.1 → c ≡ mark_at Writer b.1.0 b.1.1
    → d ≡ mark_at Early c.1.0 c.1.1 → e ≡ mark_at Drops d.1.0 d.1.1 → f ≡ mark_at Reports e.1.0 e.1.1
    → g ≡ mark_at Denied f.1.0 f.1.1 → h ≡ mark_at Uncorrupt g.1.0 g.1.1
    → marks_at all_liberties (true, bytes)
    ≡ (a.0 ∷ b.0 ∷ c.0 ∷ d.0 ∷ e.0 ∷ f.0 ∷ g.0 ∷ h.0 ∷ [], h.1)
eight_marks bytes a b c d e f g h ea eb ec ed ee ef eg eh =
    mark_step Ids _ _ _ _ _ _ ea ∙ ap (onto_marks a.0) (
    mark_step Sinks _ _ _ _ _ _ eb ∙ ap (onto_marks b.0) (
    mark_step Writer _ _ _ _ _ _ ec ∙ ap (onto_marks c.0) (
    mark_step Early _ _ _ _ _ _ ed ∙ ap (onto_marks d.0) (
    mark_step Drops _ _ _ _ _ _ ee ∙ ap (onto_marks e.0) (
    mark_step Reports _ _ _ _ _ _ ef ∙ ap (onto_marks f.0) (
    mark_step Denied _ _ _ _ _ _ eg ∙ ap (onto_marks g.0) (
    mark_step Uncorrupt _ _ _ _ _ _ eh ∙ ap (onto_marks h.0) (marks_end h.1))))))))

pub marks_length : (xs : List Liberty) (left : Bool × List ℕ) → length (marks_at xs left).0 ≡ length xs
unfolding marks_at
marks_length [] left = refl
marks_length (x ∷ xs) (more, bytes) = ap suc (marks_length xs (mark_at x more bytes).1)
