-- The words of an allowance, one name at a time.
use Rattle.std.proofs.Common.{◌≡◌, ℕ, suc, List, [], ◌∷◌, ◌++◌, length, ◌<◌, ◌≤◌, ◌+◌, refl, sym, ap, ◌∙◌, arith, take, add-one}
use Rattle.std.specs.Prelude.{codes, slice_index_or}
use Rattle.std.proofs.lemmas.List.{append_assoc, append-nil, length-take-le, take_all, take_more}
use Rattle.tl_params.specs.declared.liberties.Liberty.{Liberty}
use Rattle.tl_params.specs.statement.Liberties.{liberty_name}
use Rattle.tl_allowed.specs.code.Words.{link_before, said_from}
use Rattle.tl_allowed.specs.statement.Allowed.{allowance_text, either_of}

-- behind other names
said-behind : (n : ℕ) (xs : List Liberty) (x : Liberty)
    → said_from n (xs ++ x ∷ []) ≡ said_from n xs ++ (link_before (n + length xs) ++ liberty_name x)
unfolding said_from
said-behind n [] x =
    let here : n + 0 ≡ n = omega arith in
    rw (here, append-nil (liberty_name x)) refl
said-behind n (y ∷ ys) x =
    let there : suc n + length ys ≡ n + suc (length ys) = omega arith in
    rw (
      said-behind (suc n) ys x,
      there,
      append_assoc (link_before n) (liberty_name y ++ said_from (suc n) ys)
          (link_before (n + suc (length ys)) ++ liberty_name x),
      append_assoc (liberty_name y) (said_from (suc n) ys)
          (link_before (n + suc (length ys)) ++ liberty_name x),
    ) refl

said-more : (liberties : List Liberty) (i : ℕ) (d : Liberty) → i < length liberties
    → said_from 0 (take (i + 1) liberties)
    ≡ said_from 0 (take i liberties) ++ (link_before i ++ liberty_name (slice_index_or liberties i d))
said-more liberties i d lt =
    let size = length-take-le i liberties (omega arith) in
    let place : 0 + length (take i liberties) ≡ i = omega (arith, size) in
    ap (said_from 0) (take_more liberties i d lt)
    ∙ said-behind 0 (take i liberties) (slice_index_or liberties i d)
    ∙ ap (λ (m : ℕ). said_from 0 (take i liberties) ++ (link_before m ++ liberty_name (slice_index_or liberties i d))) place

pub appended-more : (start out linked named : List ℕ) (liberties : List Liberty) (i : ℕ) (d : Liberty)
    → out ≡ start ++ said_from 0 (take i liberties) → linked ≡ out ++ link_before i
    → named ≡ linked ++ liberty_name (slice_index_or liberties i d) → i < length liberties
    → named ≡ start ++ said_from 0 (take (i + 1) liberties)
appended-more start out linked named liberties i d said link name lt =
    name
    ∙ ap (λ (t : List ℕ). t ++ liberty_name (slice_index_or liberties i d)) (link ∙ ap (λ (t : List ℕ). t ++ link_before i) said)
    ∙ append_assoc (start ++ said_from 0 (take i liberties)) (link_before i) (liberty_name (slice_index_or liberties i d))
    ∙ append_assoc start (said_from 0 (take i liberties)) (link_before i ++ liberty_name (slice_index_or liberties i d))
    ∙ ap (λ (t : List ℕ). start ++ t) (sym (said-more liberties i d lt))

-- before each name but the first
pub link-later : (i : ℕ) → codes " or " ≡ link_before (i + 1)
link-later i = rw add-one refl

pub nothing-said : (start : List ℕ) → start ≡ start ++ said_from 0 []
unfolding said_from
nothing-said start = sym (append-nil start)

-- joined by "or"
either-said : (n : ℕ) (one : Liberty) (more : List Liberty)
    → either_of (one ∷ more) ≡ liberty_name one ++ said_from (suc n) more
unfolding said_from either_of
either-said n one [] = sym (append-nil (liberty_name one))
either-said n one (other ∷ more) =
    ap (λ (t : List ℕ). liberty_name one ++ (codes " or " ++ t)) (either-said (suc n) other more)

said-whole : (liberties : List Liberty) (i : ℕ) → length liberties ≤ i → 0 < length liberties
    → said_from 0 (take i liberties) ++ codes ")" ≡ allowance_text liberties
unfolding said_from
said-whole [] i le some = absurd (omega arith)
said-whole (one ∷ more) i le some =
    ap (λ (ls : List Liberty). said_from 0 ls ++ codes ")") (take_all i (one ∷ more) le)
    ∙ append_assoc (codes " (allowed under ") (liberty_name one ++ said_from 1 more) (codes ")")
    ∙ ap (λ (t : List ℕ). codes " (allowed under " ++ (t ++ codes ")")) (sym (either-said 0 one more))

pub appended-whole : (start out new : List ℕ) (liberties : List Liberty) (i : ℕ)
    → out ≡ start ++ said_from 0 (take i liberties) → new ≡ out ++ codes ")" → length liberties ≤ i
    → 0 < length liberties → new ≡ start ++ allowance_text liberties
appended-whole start out new liberties i said closed le some =
    closed ∙ ap (λ (t : List ℕ). t ++ codes ")") said
    ∙ append_assoc start (said_from 0 (take i liberties)) (codes ")")
    ∙ ap (λ (t : List ℕ). start ++ t) (said-whole liberties i le some)
