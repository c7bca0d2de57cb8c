-- What is owed falls with each delivery: block by block.
use Rattle.std.proofs.Common.{◌≡◌, ℕ, ◌+◌, ◌<◌, ◌≤◌, Bool, true, false, if◌then◌else◌, List, Some, refl, sym, ◌∙◌, ap}
use Rattle.std.proofs.Common.{arith, ◌⊎◌, inl, inr, length, eqb-true}
use Rattle.tl_coherence.proofs
use proofs.Imports.{cases_eq, Config, Cap, Left, letting_weight, pair_weight, probes_weight, IsInvariant, serves_of}
use proofs.Imports.{serves_with, Release, Own, is_unprobed, Acquires, InService, Service, SourceFree, SourceState}
use proofs.Imports.{State, Waits, view, AccessMessages}
use proofs.rank.RankDecreases.{IsNoMore, owed_use, owed_use', owed_let, owed_let', clients, use-falls, let-falls}
use proofs.rank.RankDecreases.{ack-falls, grant-falls, total-falls}
use proofs.rank.Frames.{Taking, Falls, AreAsBefore, AreElsewhere, AreNoMore, use-stays, let-all, IsBlockNoMore}
use proofs.rank.Frames.{acquire-stays, let-stays, pair-stays, wants-used}
use proofs.protocol.{Capacities.source_of_acquire, BeatsRemaining.beats_left}
use proofs.protocol.GrantedAll.{owns_ask, serves_another}
use proofs.queues.{Tokens.total-le, Tokens.same_number, Facts.is_other}

-- the access for which a block waits
pub serving-use : {X : Type 0} {caching : ℕ → Bool} {s : State X} (n q source : ℕ) (k : Cap) → IsInvariant caching s
    → (s.block n).service ≡ Waits q false source k → s.uses q source ≡ InService n
serving-use {s} n q source k inv e =
    let is_serving : (u : SourceState) (m : ℕ) → serves_of m u ≡ true → u ≡ InService m =
    elim [ InService j ↦ λ m h. ap InService (sym (eqb-true m j h)) | u ↦ λ m h. absurd cc ] in
    let it : serves_with q source (s.block n) ≡ true = rw (e, same_number q, same_number source) refl in
    is_serving (s.uses q source) n (inv.named.serves q source n ∙ it)

-- the source of the request for which a block waits
pub record IsAsking {X : Type 0} (n q : ℕ) (own : Bool) (source : ℕ) (s : State X) : Type 0 where
  pub at : ℕ
  pub used : s.uses q at ≡ (if own then Acquires n else InService n)

pub asking : {X : Type 0} {caching : ℕ → Bool} {s : State X} (n q : ℕ) (own : Bool) (source : ℕ) (k : Cap)
    → IsInvariant caching s → (s.block n).service ≡ Waits q own source k → IsAsking n q own source s
asking {s} n q true source k inv e =
    let viewed : view (s.block n).service q ≡ Own = rw (e, same_number q) refl in
    record {
      at = (s.block n).source q;
      used = source_of_acquire q n inv (owns_ask ((s.block n).pair q) (view (s.block n).service q)
          ((inv.blocks n).phases q) (rw viewed refl));
    }
asking n q false source k inv e = record { at = source; used = serving-use n q source k inv e }

pub open_use : (own : Bool) (n : ℕ) (u : SourceState) → u ≡ (if own then Acquires n else InService n) → u ≡ SourceFree
    → ⊥
open_use own n u e f = grind arith

module _ {w : ℕ} {config : Config} {mail mail' : AccessMessages w} {s s' : State (List ℕ)}
    (taking : Taking config mail mail' s s') where
  open taking use {caching, n, moves, showing, c, ch, rest, rest', popped, size, answer, all}

  abbrev left : Left
  left = beats_left mail s rest

  abbrev left' : Left
  left' = beats_left mail' s' rest'

  abbrev number : ℕ
  number = clients config size left left' answer answer s s'

  -- a Probe or report of the block, which is in service as before, owes one less
  service-falls : (q : ℕ) (own : Bool) (source : ℕ) (k : Cap) → (s.block n).service ≡ Waits q own source k
      → (s'.block n).service ≡ (s.block n).service → AreAsBefore s'.uses s.uses → AreAsBefore s'.lets s.lets
      → AreNoMore s'.link s.link → ((d : ℕ) → ((s'.block n).pair d).acquiring ≡ ((s.block n).pair d).acquiring)
      → ((d i : ℕ) → s.lets d i ≡ Some n
      → letting_weight (left' d Release n) ((s'.block n).pair d).letting ≤ letting_weight (left d Release n)
      ((s.block n).pair d).letting) → probes_weight number size left' n (s'.block n) + 1 ≤ probes_weight number size
      left n (s.block n) → Falls taking
  service-falls q own source k waits served uses lets acks acquiring letting less =
      let none_more : IsNoMore config size left left' answer answer s s' = record {
        uses = λ d i. use-stays taking block d i (uses d i);
        lets = λ d i. let-all taking block d i (lets d i);
        acks = acks;
      } in
      use-falls config size left left' answer answer s s' q who.at (all.clients q who.at (open_use own n _ who.used))
      (all.sources q who.at (open_use own n _ who.used)) none_more (strict own who.used waits)
    where
      who : IsAsking n q own source s
      who = asking n q own source k showing.before waits

      no_more : probes_weight number size left' n (s'.block n) ≤ probes_weight number size left n (s.block n)
      no_more = omega (arith, less)

      block : IsBlockNoMore taking
      block = record {
        serves = λ d i e f. no_more;
        acquires = λ d i e f. acquire-stays taking d n
            (wants-used showing.before d i n e) (acquiring d) (ap (λ x. view x d) served) no_more;
        lets = λ d i e f. letting d i e;
      }

      strict : (o : Bool) → s.uses q who.at ≡ (if o then Acquires n else InService n)
          → (s.block n).service ≡ Waits q o source k → owed_use' config size left left' answer answer s s' q who.at + 1
          ≤ owed_use config size left left' answer answer s s' q who.at
      strict true e f =
          let before : view (s.block n).service q ≡ Own = rw (f, same_number q) refl in
          let after : view (s'.block n).service q ≡ Own = rw served before in
          rw (uses q who.at, e, before, after) (omega (arith, less))
      strict false e f = rw (uses q who.at, e) (omega (arith, less))

-- ---- which service a Probe is of

pub record IsWaited (service : Service) : Type 0 where
  pub client : ℕ
  pub own : Bool
  pub source : ℕ
  pub cap : Cap
  pub is : service ≡ Waits client own source cap

pub waited : (service : Service) (c : ℕ) → is_other (view service c) ≡ true → IsWaited service
waited service c e = grind arith

pub waited-probing : {X : Type 0} {caching : ℕ → Bool} {s : State X} (c n : ℕ) → IsInvariant caching s
    → is_unprobed ((s.block n).pair c).probing ≡ false → IsWaited (s.block n).service
waited-probing {s} c n inv probed = waited _ c
    (serves_another ((s.block n).pair c) (view (s.block n).service c) ((inv.blocks n).phases c) probed)

-- ---- a Probe is taken, or a report that isn't the last one missing

module _ {w : ℕ} {config : Config} {mail mail' : AccessMessages w} {s s' : State (List ℕ)}
    (taking : Taking config mail mail' s s') where
  open taking use {caching, n, moves, showing, c, ch, rest, rest', popped, size, answer, all}

  -- one client's pair owes one less, and the others' are as before
  pub pair-falls : c < length config.clients.items → is_unprobed ((s.block n).pair c).probing ≡ false
      → (s'.block n).service ≡ (s.block n).service → ((d : ℕ) → (d ≡ c → ⊥) → (s'.block n).pair d ≡ (s.block n).pair d)
      → ((s'.block n).pair c).acquiring ≡ ((s.block n).pair c).acquiring
      → ((s'.block n).pair c).letting ≡ ((s.block n).pair c).letting → AreAsBefore s'.uses s.uses
      → AreAsBefore s'.lets s.lets → AreNoMore s'.link s.link → pair_weight size (beats_left mail' s' rest') n c
      ((s'.block n).pair c) + 1 ≤ pair_weight size (beats_left mail s rest) n c ((s.block n).pair c) → Falls taking
  pair-falls lt probed served others acquiring letting uses lets acks less =
      let wanted : (d : ℕ) → (d ≡ c) ⊎ (d ≡ c → ⊥) → ((s'.block n).pair d).acquiring ≡ ((s.block n).pair d).acquiring =
      λ d. elim [ inl same ↦ rw same acquiring | inr differs ↦ rw (others d differs) refl ] in
      let let_as : (d : ℕ) → (d ≡ c) ⊎ (d ≡ c → ⊥) → ((s'.block n).pair d).letting ≡ ((s.block n).pair d).letting =
      λ d. elim [ inl same ↦ rw same letting | inr differs ↦ rw (others d differs) refl ] in
      let who : IsWaited (s.block n).service = waited-probing c n showing.before probed in
      service-falls taking who.client who.own _ who.cap who.is served uses lets acks (λ d. wanted d (cases_eq d c))
      (λ d i e. let-stays taking d n (let_as d (cases_eq d c))) (total-falls (length config.clients.items)
      c 1 (λ d. pair_weight size (beats_left mail s rest) n d ((s.block n).pair d)) (λ d. pair_weight size
      (beats_left mail' s' rest') n d ((s'.block n).pair d)) lt (λ d h. each d (cases_eq d c)) less)
    where
      each : (d : ℕ) → (d ≡ c) ⊎ (d ≡ c → ⊥) → pair_weight size (beats_left mail' s' rest') n d
          ((s'.block n).pair d) ≤ pair_weight size (beats_left mail s rest) n d ((s.block n).pair d)
      each d (inl same) = rw same (omega (arith, less))
      each d (inr differs) = pair-stays taking d n (rw (others d differs) refl) (rw (others d differs) refl)

  -- ---- any other event

  -- a block that is as before owes no more
  pub block-same : (s'.block n ≡ s.block n) → IsBlockNoMore taking
  block-same same =
      let probes = total-le (length config.clients.items) (λ d. pair_weight size (beats_left mail' s' rest') n d
      ((s'.block n).pair d)) (λ d. pair_weight size (beats_left mail s rest) n d ((s.block n).pair d))
      (λ d lt. pair-stays taking d n (rw same refl) (rw same refl)) in
      record {
        serves = λ d i e f. probes;
        acquires = λ d i e f. acquire-stays taking d n (wants-used showing.before d i n e) (rw same refl) (rw same refl)
            probes;
        lets = λ d i e f. let-stays taking d n (rw same refl);
      }

  module _ (block : IsBlockNoMore taking) where
    abbrev owed : ℕ → ℕ → ℕ
    owed d i = owed_use config size (beats_left mail s rest) (beats_left mail' s' rest') answer answer s s' d i

    abbrev owed' : ℕ → ℕ → ℕ
    owed' d i = owed_use' config size (beats_left mail s rest) (beats_left mail' s' rest') answer answer s s' d i

    abbrev due : ℕ → ℕ → ℕ
    due d i = owed_let config size (beats_left mail s rest) (beats_left mail' s' rest') answer answer s s' d i

    abbrev due' : ℕ → ℕ → ℕ
    due' d i = owed_let' config size (beats_left mail s rest) (beats_left mail' s' rest') answer answer s s' d i

    -- where one request's use changes alone, and it owes no more, none does
    uses-else : (q j : ℕ) → AreElsewhere q j s'.uses s.uses → owed' q j ≤ owed q j → (d i : ℕ) → owed' d i ≤ owed d i
    uses-else q j unlike here d i = go (cases_eq d q) (cases_eq i j)
      where
        other : (d ≡ q → i ≡ j → ⊥) → owed' d i ≤ owed d i
        other ne = use-stays taking block d i (unlike d i ne)

        go : (d ≡ q) ⊎ (d ≡ q → ⊥) → (i ≡ j) ⊎ (i ≡ j → ⊥) → owed' d i ≤ owed d i
        go e f = grind (arith, here, other)

    lets-else : (q j : ℕ) → AreElsewhere q j s'.lets s.lets → due' q j ≤ due q j → (d i : ℕ) → due' d i ≤ due d i
    lets-else q j unlike here d i = go (cases_eq d q) (cases_eq i j)
      where
        other : (d ≡ q → i ≡ j → ⊥) → due' d i ≤ due d i
        other ne = let-all taking block d i (unlike d i ne)

        go : (d ≡ q) ⊎ (d ≡ q → ⊥) → (i ≡ j) ⊎ (i ≡ j → ⊥) → due' d i ≤ due d i
        go e f = grind (arith, here, other)

    lets-same : AreAsBefore s'.lets s.lets → (d i : ℕ) → due' d i ≤ due d i
    lets-same same d i = let-all taking block d i (same d i)

    uses-same : AreAsBefore s'.uses s.uses → (d i : ℕ) → owed' d i ≤ owed d i
    uses-same same d i = use-stays taking block d i (same d i)

    -- one request owes one less
    pub request-falls : (q j : ℕ) → (s.uses q j ≡ SourceFree → ⊥) → AreElsewhere q j s'.uses s.uses
        → AreAsBefore s'.lets s.lets → AreNoMore s'.link s.link → owed' q j + 1 ≤ owed q j → Falls taking
    request-falls q j used unlike lets acks less = use-falls config size (beats_left mail s rest)
        (beats_left mail' s' rest') answer answer s s' q j (all.clients q j used) (all.sources q j used)
        (record { uses = uses-else q j unlike (omega (arith, less)); lets = lets-same lets; acks = acks }) less

    -- one Release owes one less
    pub release-falls : (q j m : ℕ) → s.lets q j ≡ Some m → AreAsBefore s'.uses s.uses
        → AreElsewhere q j s'.lets s.lets → AreNoMore s'.link s.link → due' q j + 1 ≤ due q j → Falls taking
    release-falls q j m is uses unlike acks less = let-falls config size (beats_left mail s rest)
        (beats_left mail' s' rest') answer answer s s' q j (all.letters q j m is) (all.releases q j m is)
        (record { uses = uses-same uses; lets = lets-else q j unlike (omega (arith, less)); acks = acks }) less

    -- a GrantAck is taken
    pub acknowledged-falls : (q : ℕ) → q < length config.clients.items → AreAsBefore s'.uses s.uses
        → AreAsBefore s'.lets s.lets → AreNoMore s'.link s.link
        → length (s'.link q).e + 1 ≤ length (s.link q).e → Falls taking
    acknowledged-falls q lt uses lets acks less = ack-falls config size (beats_left mail s rest) (beats_left mail' s'
        rest') answer answer s s' q lt (record { uses = uses-same uses; lets = lets-same lets; acks = acks }) less

    -- a Grant is taken
    pub granted-falls : (q j : ℕ) → (s.uses q j ≡ SourceFree → ⊥) → AreElsewhere q j s'.uses s.uses
        → AreAsBefore s'.lets s.lets → ((d : ℕ) → (d ≡ q → ⊥) → length (s'.link d).e ≤ length (s.link d).e)
        → length (s'.link q).e ≡ length (s.link q).e + 1 → owed' q j + 2 ≤ owed q j → Falls taking
    granted-falls q j used unlike lets acks more less = grant-falls config size (beats_left mail s rest)
        (beats_left mail' s' rest') answer answer s s' q j (all.clients q j used) (all.sources q j used)
        (uses-else q j unlike (omega (arith, less))) (lets-same lets) acks more less
