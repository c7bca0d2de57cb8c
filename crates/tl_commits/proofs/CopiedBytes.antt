-- The bytes of a copy, with those that a Grant under way has brought.
use Rattle.std.proofs.Common.{◌≡◌, ◌<◌, ◌+◌, ◌*◌, ◌%◌, ℕ, Bool, true, false, ◌&&◌, List, [], ◌∷◌, length}
use Rattle.std.proofs.Common.{refl, sym, ap, ◌∙◌, arith, inl, inr, set}
use Rattle.std.proofs.lemmas.Bool.{cases_eq, cases_lt, le-ltb, lt-ltb}
use Rattle.std.proofs.lemmas.List.{get_or-set_other, get_or-set_same}
use Rattle.std.specs.Prelude.{if◌then◌else◌, nat_lt, Option, Some, is_some}
use Rattle.tl_beat.specs.declared.channel.Channel.TheVariants as channel
use Rattle.tl_burst.specs.statement.Messages.{History, unfinished}
use Rattle.tl_bytes.specs.declared.telling.Telling.{Telling}
use Rattle.tl_bytes.specs.statement.Bytes.{carried_byte}
use Rattle.tl_commits.proofs.LoadedBytes.{brought-is, not-brought}
use Rattle.tl_commits.specs.code.Tellings.{is_in}
use Rattle.tl_commits.specs.statement.Copied.{copied}
use Rattle.tl_commits.specs.statement.Copies.{brought}

-- one place more is one of these
pub in-next : (places : List Bool) (there : Bool) (j at p : ℕ) (q : Bool) → length places ≡ 64 → p < 64 → at < 64
    → j ≡ at → is_in places p ≡ (nat_lt p at && q) → (p ≡ at → there ≡ q)
    → is_in (set places j there) p ≡ (nat_lt p (at + 1) && q)
in-next places there j at p q long small below index was is = rw index (elim (cases_eq p at) [
  | inl same ↦ rw same (get_or-set_same places at there false (omega (arith, long, below)))
      ∙ is same ∙ rw (lt-ltb p (at + 1) (omega (arith, same))) refl
  | inr other ↦ get_or-set_other places at p there false other ∙ was ∙ (elim (cases_lt p at) [
    | inl lt ↦ rw (lt-ltb p at lt, lt-ltb p (at + 1) (omega (arith, lt))) refl
    | inr le ↦ rw (le-ltb p at le, le-ltb p (at + 1) (omega (arith, le, other))) refl
  ])
])

-- the values of a byte
pub copied-at : {w : ℕ} (block p : ℕ) (t : History w) (b : Bool) (value : Option ℕ) (before : List Telling) → p < 64
    → b ≡ is_some (brought (64 * block + p) t) → value ≡ carried_byte (unfinished channel.D t) p
    → (if b then record { value = value; moment = 0 } ∷ [] else before) ≡ copied (brought (64 * block + p) t) before
copied-at {w} block p t b value before lt is value_is = go b is
  where
    at : (64 * block + p) % 64 ≡ p
    at = omega (arith, lt)

    go : (b : Bool) → b ≡ is_some (brought (64 * block + p) t)
        → (if b then record { value = value; moment = 0 } ∷ [] else before) ≡ copied (brought (64 * block + p) t) before
    go true is =
        ap (λ (v : Option ℕ). copied (Some v) before) (value_is ∙ ap (carried_byte (unfinished channel.D t)) (sym at))
        ∙ sym (ap (λ o. copied o before) (brought-is (64 * block + p) t (sym is)))
    go false is = sym (ap (λ o. copied o before) (not-brought (brought (64 * block + p) t) (sym is)))
