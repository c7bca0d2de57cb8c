-- Words of one bit for each client, and the clients that pass a test.
use Rattle.tl_manager.proofs.Imports.{Config, bit_if, clients_from, is_nobody}
use Rattle.std.proofs.Common.{◌≡◌, ℕ, zero, suc, ◌+◌, ◌≤◌, ◌==◌, Bool, true, false, List, ◌∷◌, length, refl, sym, ap}
use Rattle.std.proofs.Common.{◌∙◌, arith, inl, inr}
use Rattle.std.{specs.Prelude.if◌then◌else◌, specs.Int.bit_at, proofs.lemmas.Nat.Bits.bit_at-zero}
use Rattle.std.{proofs.lemmas.Nat.Bits.same_from_bits}
use Rattle.std.proofs.lemmas.Bool.{cases_lt, eq-eqb, eqb-true}
use Rattle.tl_manager.specs.statement.Holders.{clients_where}
use Rattle.tl_manager.proofs.words_of_clients.Clients.{nobody-where, where-same}

-- the word has the bits of those that pass, of whom none is past the last client
pub record IsWord (config : Config) (word : ℕ) (test : ℕ → Bool) : Type 0 where
  pub bits : (c : ℕ) → bit_at word c ≡ bit_if (test c)
  pub past : (c : ℕ) → length config.clients.items ≤ c → test c ≡ false

unset : (b : Bool) → 0 ≡ bit_if b → b ≡ false
unset true e = absurd cc
unset false e = refl

pub set-is : (b : Bool) → (bit_if b == 1) ≡ b
set-is true = refl
set-is false = refl

-- it is zero exactly where nobody passes
pub word-nobody : (config : Config) (word : ℕ) (test : ℕ → Bool) → IsWord config word test
    → (word == 0) ≡ is_nobody (clients_where config test)
word-nobody config word test is = go (word == 0) refl (is_nobody (clients_where config test)) refl
  where
    none : (word == 0) ≡ true → (c : ℕ) → test c ≡ false
    none e c = unset (test c) (sym (bit_at-zero c) ∙ ap (λ n. bit_at n c) (sym (eqb-true word 0 e)) ∙ is.bits c)

    nobody : is_nobody (clients_where config test) ≡ true → (c : ℕ) → test c ≡ false
    nobody e c = elim (cases_lt c (length config.clients.items)) [
      | inl lt ↦ (nobody-where config test).0 e c lt
      | inr le ↦ is.past c le
    ]

    go : (a : Bool) → (word == 0) ≡ a → (b : Bool) → is_nobody (clients_where config test) ≡ b → a ≡ b
    go true e true f = refl
    go false e false f = refl
    go true e false f = absurd (let found : is_nobody (clients_where config test) ≡ true =
        (nobody-where config test).1 (λ c lt. none e c) in cc)
    go false e true f = absurd (let found : (word == 0) ≡ true =
        eq-eqb word 0 (same_from_bits word 0 (λ c. is.bits c ∙ ap bit_if (nobody f c) ∙ sym (bit_at-zero c))) in cc)

-- clients past the last that passes
more-clients : (first n m : ℕ) (test : ℕ → Bool) → n ≤ m → ((c : ℕ) → first + n ≤ c → test c ≡ false)
    → clients_from first m test ≡ clients_from first n test
unfolding clients_from
more-clients first zero zero test le none = refl
more-clients first zero (suc m) test le none =
    rw (none first (omega arith)) (more-clients (first + 1) zero m test (omega arith)
    (λ c past. none c (omega (arith, past))))
more-clients first (suc n) zero test le none = absurd (omega (arith, le))
more-clients first (suc n) (suc m) test le none =
    go (test first) (more-clients (first + 1) n m test (omega (arith, le)) (λ c past. none c (omega (arith, past))))
  where
    go : (b : Bool) → clients_from (first + 1) m test ≡ clients_from (first + 1) n test
        → (if b then first ∷ clients_from (first + 1) m test else clients_from (first + 1) m test)
        ≡ (if b then first ∷ clients_from (first + 1) n test else clients_from (first + 1) n test)
    go true e = ap (λ (cs : List ℕ). first ∷ cs) e
    go false e = e

-- those whose bit is set
pub word-clients : (config : Config) (word : ℕ) (test : ℕ → Bool) → length config.clients.items ≤ 16
    → IsWord config word test → clients_from 0 16 (λ c. bit_at word c == 1) ≡ clients_where config test
word-clients config word test few is =
    where-same 0 16 (λ c. bit_at word c == 1) test (λ c. ap (λ b. b == 1) (is.bits c) ∙ set-is (test c))
    ∙ more-clients 0 (length config.clients.items) 16 test few (λ c past. is.past c (omega (arith, past)))
