-- Which beat told a value, searched one by one.
use Rattle.tl_bytes.proofs.Imports.{Trace, BlockBytes, Telling, Told, may_be, KnowsBlock, tellings_at, tellings_of}
use Rattle.std.proofs.Common.{◌≡◌, ◌≤◌, ◌<◌, ℕ, Bool, true, false, List, ◌∷◌, ◌+◌, ◌*◌, ◌==◌, length, Some, None, refl}
use Rattle.std.proofs.Common.{◌∙◌, ap, drop, get_or}
use Rattle.std.{specs.Prelude.if◌then◌else◌, specs.Prelude.Option, proofs.Math.ListN.drop_of_length-le}
use Rattle.std.{proofs.lemmas.Bool.eq-eqb, proofs.lemmas.Bool.ne_eqb, proofs.lemmas.List.at_drop_more}
use Rattle.tl_bytes.{specs.code.Tellings.telling_at, specs.statement.Bytes.same_value}
use Rattle.tl_bytes.{specs.statement.Lines.told_moment}

-- this one told it
pub line-here : (p v : ℕ) (items : List Told) (i : ℕ) (d : Told) → i < length items → (get_or items i d).place ≡ p
    → same_value (get_or items i d).telling.value (Some v) ≡ true
    → told_moment v (tellings_at p (drop i items)) ≡ Some (get_or items i d).telling.moment
unfolding tellings_at told_moment
line-here p v items i d lt same told =
    at_drop_more (λ l. told_moment v (tellings_at p l)) items i d lt ∙ rw (eq-eqb _ p same, told) refl

-- or told another value
pub line-not : (p v : ℕ) (items : List Told) (i : ℕ) (d : Told) → i < length items
    → same_value (get_or items i d).telling.value (Some v) ≡ false
    → told_moment v (tellings_at p (drop i items)) ≡ told_moment v (tellings_at p (drop (i + 1) items))
unfolding tellings_at told_moment
line-not p v items i d lt told =
    at_drop_more (λ l. told_moment v (tellings_at p l)) items i d lt
    ∙ one ((get_or items i d).place == p) (get_or items i d).telling (tellings_at p (drop (i + 1) items)) told
  where
    one : (b : Bool) (e : Telling) (l : List Telling) → same_value e.value (Some v) ≡ false
        → told_moment v (if b then e ∷ l else l) ≡ told_moment v l
    one true e l told = rw told refl
    one false e l told = refl

-- or of another place
pub line-elsewhere : (p v : ℕ) (items : List Told) (i : ℕ) (d : Told) → i < length items
    → ((get_or items i d).place ≡ p → ⊥)
    → told_moment v (tellings_at p (drop i items)) ≡ told_moment v (tellings_at p (drop (i + 1) items))
unfolding tellings_at
line-elsewhere p v items i d lt other =
    at_drop_more (λ l. told_moment v (tellings_at p l)) items i d lt ∙ rw (ne_eqb _ p other) refl

-- nothing is left to search
pub line-none : (p v : ℕ) (items : List Told) (i : ℕ) → length items ≤ i
    → told_moment v (tellings_at p (drop i items)) ≡ None
unfolding tellings_at told_moment
line-none p v items i le = rw (drop_of_length-le items le) refl

-- what was told last, or what stands behind it
pub line-last : (v : ℕ) (e : Telling) (l : List Telling) → same_value e.value (Some v) ≡ true
    → Some e.moment ≡ told_moment v (e ∷ l)
unfolding told_moment
line-last v e l told = rw told refl

pub line-behind : (v : ℕ) (e : Telling) (l : List Telling) → same_value e.value (Some v) ≡ false
    → told_moment v l ≡ told_moment v (e ∷ l)
unfolding told_moment
line-behind v e l told = rw told refl

pub told-last : (b : BlockBytes) (place v : ℕ) (e : Telling) → e ≡ telling_at b.latest place
    → same_value e.value (Some v) ≡ true → Some e.moment ≡ told_moment v (tellings_of b place)
told-last b place v e is told =
    line-last v e (tellings_at place b.earlier.items) told
    ∙ ap (λ (x : Telling). told_moment v (x ∷ tellings_at place b.earlier.items)) is

pub told-earlier : (b : BlockBytes) (place v : ℕ) (e : Telling) → e ≡ telling_at b.latest place
    → same_value e.value (Some v) ≡ false
    → told_moment v (tellings_at place b.earlier.items) ≡ told_moment v (tellings_of b place)
told-earlier b place v e is told =
    line-behind v e (tellings_at place b.earlier.items) told
    ∙ ap (λ (x : Telling). told_moment v (x ∷ tellings_at place b.earlier.items)) is

-- by what is known of the block
pub told-known : {w : ℕ} (b : BlockBytes) (n block place v : ℕ) (t : Trace w) (moment : Option ℕ)
    → moment ≡ told_moment v (tellings_of b place) → KnowsBlock b n block t → place < 64
    → moment ≡ told_moment v (may_be n (64 * block + place) t)
told-known b n block place v t moment is k small = is ∙ ap (λ l. told_moment v l) (k.bytes_are place small)
