-- Words of clients: what was spelled is read, and what was read was spelled so.
use Rattle.std.proofs.Common.{◌≡◌, ◌≢◌, ◌<◌, ◌≤◌, ℕ, zero, suc, ◌+◌, ◌-◌, List, [], ◌∷◌, ◌++◌, length, true, false}
use Rattle.std.proofs.Common.{refl, ap, sym}
use Rattle.std.proofs.Common.{◌∙◌, arith, append_assoc, cond, eqb, eqb-true, subst}
use Rattle.std.proofs.lemmas.Bool.Decides.{nat_tests}
use Rattle.std.proofs.lemmas.Fmt.{decimal_digit}
use Rattle.std.proofs.lemmas.List.{append-nil}
use Rattle.std.specs.Fmt.{decimal}
use Rattle.std.specs.Prelude.{Bool, ◌&&◌, ◌==◌, MatchOption, Option, Some, None, option_and_then}
use Rattle.arrayvec.specs.ArrayVec.{ArrayVec}
use Rattle.tl_params.proofs.Options.{some_pair}
use Rattle.tl_params.specs.code.HeaderReading.{GivesAll, onto}
use Rattle.tl_params.specs.declared.config.ClientConfig.{ClientConfig}
use Rattle.tl_params.specs.declared.level.Level.{Level}
use Rattle.tl_params.specs.declared.level.Level.TheVariants as level
use Rattle.tl_params.specs.statement.Config.{all_sources_fit, sources_fit}
use Rattle.tl_params.specs.statement.Header.{level_text}
use Rattle.tl_params.specs.statement.Range.{is_from_to}
use Rattle.tl_command.specs.code.ClientReading.{behind_client, client_at, client_of, clients_at, level_at, sources_at}
use Rattle.tl_command.specs.statement.Words.{SpellsClients, client_word, clients_word}

-- ---- what was read was spelled so

level_taken : (word rest : List ℕ) (l : Level) → level_at word ≡ Some (l, rest) → word ≡ level_text l ++ rest
level_taken [] rest l e = absurd cc
level_taken (a ∷ []) rest l e = grind (arith, nat_tests)
level_taken (a ∷ b ∷ word) rest l e = grind (arith, nat_tests)

sources_taken : (word rest : List ℕ) (n : ℕ) → sources_at word ≡ Some (n, rest)
    → (word ≡ 58 ∷ ((48 + n) ∷ rest)) × (is_from_to 1 8 n ≡ true)
sources_taken [] rest n e = absurd cc
sources_taken (a ∷ []) rest n e = absurd cc
sources_taken (a ∷ b ∷ word) rest n e = (grind (arith, nat_tests), grind (arith, nat_tests))

-- a number of sources has one digit
one_digit : (n : ℕ) → is_from_to 1 8 n ≡ true → decimal n ≡ (48 + n) ∷ []
one_digit n e = decimal_digit n (grind (arith, nat_tests))

-- a client stands at the front
abbrev IsClient : List ℕ → List ℕ → ClientConfig → Type 0
IsClient word rest client = (word ≡ client_word client ++ rest) × (sources_fit client ≡ true)

abbrev made : Level → ℕ → ClientConfig
made l n = record { level = l; sources = n }

abbrev with_client : ClientConfig → List ℕ → ClientConfig × List ℕ
with_client client rest = (client, rest)

client_text : (l : Level) (n : ℕ) (rest : List ℕ) → is_from_to 1 8 n ≡ true
    → level_text l ++ (58 ∷ ((48 + n) ∷ rest)) ≡ client_word (made l n) ++ rest
client_text l n rest fits = rw (one_digit n fits) (sym (append_assoc (level_text l) (58 ∷ (48 + n) ∷ []) rest))

client_taken : (word rest : List ℕ) (client : ClientConfig) → client_at word ≡ Some (with_client client rest)
    → IsClient word rest client
client_taken word rest client e = at_level (level_at word) refl e
  where
    at_level : (o : Option (Level × List ℕ)) → level_at word ≡ o
        → option_and_then (λ l. option_and_then (client_of l.0) (sources_at l.1)) o ≡ Some (with_client client rest)
        → IsClient word rest client
    at_level None is f = absurd cc
    at_level (Some (l, behind)) is f = at_sources (sources_at behind) refl f
      where
        at_sources : (o : Option (ℕ × List ℕ)) → sources_at behind ≡ o
            → option_and_then (client_of l) o ≡ Some (with_client client rest) → IsClient word rest client
        at_sources None of g = absurd cc
        at_sources (Some (n, after)) of g =
            let (same, left) = some_pair (with_client (made l n) after) (with_client client rest) g in
            let (text, fits) = sources_taken behind after n of in
            rw (← same, ← left) (
              level_taken word behind l is ∙ ap (λ (x : List ℕ). level_text l ++ x) text
                  ∙ client_text l n after fits,
              fits,
            )

-- clients behind one
clients_word-more : (client : ClientConfig) (others : List ClientConfig) → 1 ≤ length others
    → clients_word (client ∷ others) ≡ client_word client ++ (44 ∷ clients_word others)
unfolding clients_word
clients_word-more client [] some = absurd (omega (arith, some))
clients_word-more client (next ∷ others) some = refl

clients_word-one : (client : ClientConfig) → clients_word (client ∷ []) ≡ client_word client
unfolding clients_word
clients_word-one client = refl

-- the word spells 1 to n clients
pub record AreClients (n : ℕ) (word : List ℕ) (clients : List ClientConfig) : Type 0 where
  pub is_word : word ≡ clients_word clients
  pub some : 1 ≤ length clients
  pub few : length clients ≤ n
  pub fit : all_sources_fit clients ≡ true

last_one : (n : ℕ) (word : List ℕ) (client : ClientConfig) → IsClient word [] client
    → AreClients (suc n) word (client ∷ [])
last_one n word client is = record {
  is_word = is.0 ∙ append-nil (client_word client) ∙ sym (clients_word-one client);
  some = omega arith;
  few = omega arith;
  fit = rw is.1 refl;
}

one_more : (n : ℕ) (word rest : List ℕ) (client : ClientConfig) (others : List ClientConfig)
    → IsClient word (44 ∷ rest) client → AreClients n rest others → AreClients (suc n) word (client ∷ others)
one_more n word rest client others is are = record {
  is_word = is.0 ∙ ap (λ (x : List ℕ). client_word client ++ (44 ∷ x)) are.is_word ∙ sym
      (clients_word-more client others are.some);
  some = omega arith;
  few = omega (arith, are.few);
  fit = rw (is.1, are.fit) refl;
}

pub clients_taken : (n : ℕ) (word : List ℕ) (clients : List ClientConfig) → clients_at n word ≡ Some clients
    → AreClients n word clients
unfolding clients_at
clients_taken zero word clients e = absurd cc
clients_taken (suc n) word clients e = at_client (clients_taken n) (client_at word) refl e
  where
    at_client : ((more : List ℕ) (others : List ClientConfig) → clients_at n more ≡ Some others
        → AreClients n more others)
        → (o : Option (ClientConfig × List ℕ)) → client_at word ≡ o
        → option_and_then (λ x. onto x.0 (behind_client (clients_at n) x.1)) o ≡ Some clients
        → AreClients (suc n) word clients
    at_client shorter None is f = absurd cc
    at_client shorter (Some (client, rest)) is f = at_rest rest is f
      where
        at_rest : (behind : List ℕ) → client_at word ≡ Some (with_client client behind)
            → onto client (behind_client (clients_at n) behind) ≡ Some clients → AreClients (suc n) word clients
        at_rest [] one g =
            let whole : client ∷ [] ≡ clients = cc in
            rw (← whole) (last_one n word client (client_taken word [] client one))
        at_rest (c ∷ more) one g = at_comma (eqb c 44) refl g
          where
            at_comma : (b : Bool) → eqb c 44 ≡ b → onto client (cond b (clients_at n more) None) ≡ Some clients
                → AreClients (suc n) word clients
            at_comma false comma h = absurd cc
            at_comma true comma h = at_others (clients_at n more) refl h
              where
                at_others : (o : Option (List ClientConfig)) → clients_at n more ≡ o → onto client o ≡ Some clients
                    → AreClients (suc n) word clients
                at_others None found k = absurd cc
                at_others (Some others) found k =
                    let whole : client ∷ others ≡ clients = cc in
                    let front : client_at word ≡ Some (with_client client (44 ∷ more)) =
                    one ∙ ap (λ (x : ℕ). Some (with_client client (x ∷ more))) (eqb-true c 44 comma) in
                    rw (← whole) (one_more n word more client others (client_taken word (44 ∷ more) client front)
                    (shorter more others found))

-- ---- what was spelled is read

level_again : (l : Level) (rest : List ℕ) → level_at (level_text l ++ 58 ∷ rest) ≡ Some (l, 58 ∷ rest)
level_again level.UL rest = refl
level_again level.UH rest = refl
level_again level.C rest = refl

sources_again : (n : ℕ) (rest : List ℕ) → is_from_to 1 8 n ≡ true
    → sources_at (58 ∷ ((48 + n) ∷ rest)) ≡ Some (n, rest)
sources_again n rest fits = grind (arith, nat_tests)

client_again : (client : ClientConfig) (rest : List ℕ) → sources_fit client ≡ true
    → client_at (client_word client ++ rest) ≡ Some (with_client client rest)
client_again client rest fits =
    rw (
      ← client_text client.level client.sources rest fits,
      level_again client.level ((48 + client.sources) ∷ rest),
      sources_again client.sources rest fits,
    ) refl

both_fit : (a b : Bool) → (a && b) ≡ true → (a ≡ true) × (b ≡ true)
both_fit true true e = (refl, refl)
both_fit true false e = absurd cc
both_fit false b e = absurd cc

pub clients_again : (n : ℕ) (clients : List ClientConfig) → 1 ≤ length clients → length clients ≤ n
    → all_sources_fit clients ≡ true → clients_at n (clients_word clients) ≡ Some clients
unfolding clients_at clients_word
clients_again n [] some few fit = absurd (omega (arith, some))
clients_again zero (client ∷ others) some few fit = absurd (omega (arith, few))
clients_again (suc n) (client ∷ []) some few fit =
    let (one, all) = both_fit (sources_fit client) true fit in
    rw (← append-nil (client_word client), client_again client [] one) refl
clients_again (suc n) (client ∷ next ∷ others) some few fit =
    let (one, all) = both_fit (sources_fit client) (all_sources_fit (next ∷ others)) fit in
    rw (
      client_again client (44 ∷ clients_word (next ∷ others)) one,
      clients_again n (next ∷ others) (omega arith) (omega (arith, few)) all,
    ) refl

-- ---- a loop over them

-- what is read of the whole, where these stand before what is read of the rest
abbrev pub ReadsBehind : List ClientConfig → Option (List ClientConfig) → Option (List ClientConfig) → Type 0
ReadsBehind done None whole = whole ≡ None
ReadsBehind done (Some others) whole = whole ≡ Some (done ++ others)

read_more : (done : List ClientConfig) (client : ClientConfig) (rest whole : Option (List ClientConfig))
    → ReadsBehind done (onto client rest) whole → ReadsBehind (done ++ client ∷ []) rest whole
read_more done client None whole e = e
read_more done client (Some others) whole e = e ∙ ap Some (sym (append_assoc done (client ∷ []) others))

abbrev behind_first : ℕ → Option (ClientConfig × List ℕ) → Option (List ClientConfig)
behind_first k o = option_and_then (λ x. onto x.0 (behind_client (clients_at k) x.1)) o

module _ (k : ℕ) (word rest : List ℕ) (done : List ClientConfig)
    (same : ReadsBehind done (clients_at (suc k) rest) (clients_at 16 word)) where
  one_step : (o : Option (ClientConfig × List ℕ)) → client_at rest ≡ o
      → ReadsBehind done (behind_first k o) (clients_at 16 word)
  unfolding clients_at
  one_step o is = subst (λ (x : Option (ClientConfig × List ℕ)). ReadsBehind done (behind_first k x)
      (clients_at 16 word))
      is same

  pub no_client : client_at rest ≡ None → clients_at 16 word ≡ None
  no_client none = one_step None none

  module _ (client : ClientConfig) (after : List ℕ) (is : client_at rest ≡ Some (with_client client after)) where
    read_so : (bytes : List ℕ) → after ≡ bytes
        → ReadsBehind done (onto client (behind_client (clients_at k) bytes)) (clients_at 16 word)
    read_so bytes e = subst (λ (x : List ℕ). ReadsBehind done (onto client (behind_client (clients_at k) x))
        (clients_at 16 word)) e (one_step (Some (client, after)) is)

    pub last_client : (length after == 0) ≡ true → clients_at 16 word ≡ Some (done ++ client ∷ [])
    last_client end = go after refl end
      where
        go : (bytes : List ℕ) → after ≡ bytes → (length bytes == 0) ≡ true
            → clients_at 16 word ≡ Some (done ++ client ∷ [])
        go [] e none = read_so [] e
        go (c ∷ more) e none =
            let zero : length (c ∷ more) ≡ 0 = eqb-true (length (c ∷ more)) 0 none in
            absurd (omega arith)

    pub next_client : (more : List ℕ) → after ≡ 44 ∷ more
        → ReadsBehind (done ++ client ∷ []) (clients_at k more) (clients_at 16 word)
    next_client more comma = read_more done client (clients_at k more) (clients_at 16 word) (read_so (44 ∷ more) comma)

    pub no_comma : (length after == 0) ≡ false → ((more : List ℕ) → after ≢ 44 ∷ more) → clients_at 16 word ≡ None
    no_comma some other = go after refl
      where
        go : (bytes : List ℕ) → after ≡ bytes → clients_at 16 word ≡ None
        go [] e = let none : (length after == 0) ≡ true = ap (λ (x : List ℕ). length x == 0) e in absurd cc
        go (c ∷ more) e = at_byte (eqb c 44) refl
          where
            at_byte : (b : Bool) → eqb c 44 ≡ b → clients_at 16 word ≡ None
            at_byte true is = absurd (other more (e ∙ ap (λ (x : ℕ). x ∷ more) (eqb-true c 44 is)))
            at_byte false is = subst (λ (x : Bool). ReadsBehind done (onto client (cond x (clients_at k more) None))
                (clients_at 16 word)) is (read_so (c ∷ more) e)

-- a place is left
pub one_place : (word rest : List ℕ) (done : List ClientConfig) (i : ℕ) → i < 16
    → ReadsBehind done (clients_at (16 - i) rest) (clients_at 16 word)
    → ReadsBehind done (clients_at (suc (16 - (i + 1))) rest) (clients_at 16 word)
one_place word rest done i few same =
    let left : 16 - i ≡ suc (16 - (i + 1)) = omega (arith, few) in
    subst (λ (m : ℕ). ReadsBehind done (clients_at m rest) (clients_at 16 word)) left same

-- no place is left
pub no_place : (word rest : List ℕ) (done : List ClientConfig) (n : ℕ) → n ≡ 0
    → ReadsBehind done (clients_at n rest) (clients_at 16 word) → clients_at 16 word ≡ None
unfolding clients_at
no_place word rest done n none same =
    subst (λ (m : ℕ). ReadsBehind done (clients_at m rest) (clients_at 16 word)) none same

-- nothing stands before the first
pub from_first : (o : Option (List ClientConfig)) → ReadsBehind [] o o
from_first None = refl
from_first (Some others) = refl

-- ---- so reading is the spelling

pub clients_read : (r : Option (ArrayVec ClientConfig)) (word : List ℕ) → GivesAll r (clients_at 16 word)
    → MatchOption r ((clients : List ClientConfig) → ¬ SpellsClients word clients)
    (λ clients. SpellsClients word clients.items)
clients_read None word gives = λ clients h.
    let again = clients_again 16 clients h.1.0 h.1.1 h.2 in
    let none : clients_at 16 (clients_word clients) ≡ None = ap (clients_at 16) (sym h.0) ∙ gives in
    absurd cc
clients_read (Some clients) word gives =
    let are = clients_taken 16 word clients.items gives in
    (are.is_word, (are.some, are.few), are.fit)
