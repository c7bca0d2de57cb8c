-- Deliveries move no more beats than the load before them; and the next ones, one after another, end what is
-- outstanding.
use Rattle.std.proofs.Common.{◌≡◌, ℕ, zero, suc, ◌+◌, ◌≤◌, Bool, true, false, [], ◌∷◌, ◌++◌, Option, Some, None, refl}
use Rattle.std.proofs.Common.{sym, ◌∙◌, ap, subst, arith, length, All}
use Rattle.std.proofs.lemmas.List.Elements.{All-tail}
use Rattle.tl_coherence.proofs
use proofs.Imports.{All-head, Link, Channel, Config, limits, one_if, Event, Ask, Deliver, Outcome, IsDrained}
use proofs.Imports.{is_delivery, is_moving, IsGiven, load, Log, system_after, with_delivery, next_delivery, stepped}
use Rattle.tl_coherence.{specs.statement.Draining.beats_moved, specs.statement.Headline.AreTyped}
use Rattle.tl_coherence.{specs.statement.Log.IsLog, specs.statement.Movable.drained}
use proofs.outstanding.{Counted.load-open, Movement.none-outstanding, Progress.counted, Progress.moving}
use proofs.links.{FromInvariant.matched-given, FromInvariant.stalls, Granting.movable-moves}
use proofs.deliveries.Matching.{shadow}
use proofs.bound.{Beginnings.owed, Beginnings.owed-few, DeliveriesDecrease.moving-owed, DeliveriesDecrease.still-owed}
use proofs.queues.QuiescentQueues.{next-movable}

-- ---- what is owed after a log

abbrev pub owed_after : {w : ℕ} → Config → Log w → ℕ
owed_after config log = owed config (shadow config log).mail (shadow config log).state (system_after config log)

sixteen : {w : ℕ} {config : Config} {log : Log w} → IsGiven config log → length config.clients.items ≤ 16
sixteen {config} given = (limits config given.fits).0

-- it is at most the load
owed-load : {w : ℕ} {config : Config} {log : Log w} → IsGiven config log → owed_after config log ≤ load log
owed-load {config} {log} given =
    let few = owed-few given.width (matched-given config log given) (sixteen given) in
    subst (λ n. owed_after config log ≤ n) (sym (load-open (counted config log given.width given.typed given.is_log)))
    few

-- ---- logs

pub given-before : {w : ℕ} (config : Config) (x : Event w × Outcome w) (log : Log w) → IsGiven config (x ∷ log)
    → IsGiven config log
unfolding AreTyped IsLog
given-before config x log given =
    record { width = given.width; fits = given.fits; typed = given.typed.1; is_log = given.is_log.1 }

given-older : {w : ℕ} {config : Config} (more log : Log w) → IsGiven config (more ++ log) → IsGiven config log
given-older [] log given = given
given-older {config} (x ∷ more) log given = given-older more log (given-before config x (more ++ log) given)

-- with one delivery more
abbrev delivering : {w : ℕ} → Config → Link → Channel → Log w → Log w
delivering config link ch log = (Deliver link ch, (stepped config (Deliver link ch) (system_after config log)).outcome)
    ∷ log

pub given-delivering : {w : ℕ} (config : Config) (link : Link) (ch : Channel) (log : Log w) → IsGiven config log
    → IsGiven config (delivering config link ch log)
unfolding AreTyped IsLog
given-delivering config link ch log given =
    record { width = given.width; fits = given.fits; typed = (tt, given.typed); is_log = (refl, given.is_log) }

-- ---- one delivery

owed-moved : {w : ℕ} {config : Config} (link : Link) (ch : Channel) (o : Outcome w) {log : Log w} → IsGiven config log
    → is_moving (stepped config (Deliver link ch) (system_after config log)).outcome ≡ true
    → owed_after config ((Deliver link ch, o) ∷ log) + 1 ≤ owed_after config log
unfolding shadow system_after
owed-moved {config} link ch o {log} given moves = moving-owed (shadow config log) given.width
    (matched-given config log given) link ch (sixteen given) moves

owed-unmoved : {w : ℕ} {config : Config} (link : Link) (ch : Channel) (o : Outcome w) {log : Log w} → IsGiven config log
    → is_moving (stepped config (Deliver link ch) (system_after config log)).outcome ≡ false
    → owed_after config ((Deliver link ch, o) ∷ log) ≤ owed_after config log
unfolding shadow system_after
owed-unmoved {config} link ch o {log} given still = still-owed (shadow config log) given.width
    (matched-given config log given) link ch still

-- it takes one off what is owed, where it moves a beat
owed-delivered : {w : ℕ} {config : Config} (x : Event w × Outcome w) (log : Log w) → IsGiven config (x ∷ log)
    → is_delivery x.0 ≡ true → one_if (is_moving x.1) + owed_after config (x ∷ log) ≤ owed_after config log
unfolding IsLog
owed-delivered {w} {config} x log given is =
    let go : (event : Event w) (o : Outcome w) → x ≡ (event, o)
    → o ≡ (stepped config event (system_after config log)).outcome → is_delivery event ≡ true
    → one_if (is_moving o) + owed_after config ((event, o) ∷ log) ≤ owed_after config log =
    elim [ Ask c op ↦ λ o e f g. absurd cc | Deliver link ch ↦ λ o e f g. at link ch o (is_moving o) f refl ] in
    go x.0 x.1 refl given.is_log.0 is
  where
    before : IsGiven config log
    before = given-before _ x log given

    at : (link : Link) (ch : Channel) (o : Outcome w) (b : Bool)
        → o ≡ (stepped config (Deliver link ch) (system_after config log)).outcome → is_moving o ≡ b
        → one_if b + owed_after config ((Deliver link ch, o) ∷ log) ≤ owed_after config log
    at link ch o true e f = let less = owed-moved link ch o before (sym (ap is_moving e) ∙ f) in
        omega (arith, less)
    at link ch o false e f = let less = owed-unmoved link ch o before (sym (ap is_moving e) ∙ f) in
        omega (arith, less)

-- ---- the bound

moved-more : {w : ℕ} (x : Event w × Outcome w) (more : Log w)
    → beats_moved (x ∷ more) ≡ one_if (is_moving x.1) + beats_moved more
moved-more {w} x more = grind arith

bounding : {w : ℕ} {config : Config} (more log : Log w) → IsGiven config (more ++ log)
    → All (λ x. is_delivery x.0 ≡ true) more
    → beats_moved more + owed_after config (more ++ log) ≤ owed_after config log
bounding [] log given all = omega arith
bounding {config} (x ∷ more) log given all =
    let rest = bounding more log (given-before config x (more ++ log) given)
    (All-tail (λ y. is_delivery y.0 ≡ true) x more all) in
    let count = moved-more x more in
    omega (arith, rest, owed-delivered x _ given (All-head (λ y. is_delivery y.0 ≡ true) x more all), count)

pub bound : {w : ℕ} {config : Config} (more log : Log w) → IsGiven config (more ++ log)
    → All (λ x. is_delivery x.0 ≡ true) more → beats_moved more ≤ load log
bound more log given all = omega (arith, bounding more log given all, owed-load (given-older more log given))

-- ---- draining

-- n deliveries more, each the next one, and then none is next
record IsStanding {w : ℕ} (config : Config) (log : Log w) (n : ℕ) : Type 0 where
  so_many : length (drained config n log) ≡ n + length log
  few : n ≤ owed_after config log
  stands : next_delivery config (system_after config (drained config n log)) ≡ None
  given : IsGiven config (drained config n log)

-- the next delivery moves a beat
next-moves : {w : ℕ} {config : Config} {log : Log w} (d : Link × Channel) → IsGiven config log
    → next_delivery config (system_after config log) ≡ Some d
    → is_moving (stepped config (Deliver d.0 d.1) (system_after config log)).outcome ≡ true
next-moves {config} {log} d given is = movable-moves _ log d.0.0 d.1 (λ client. stalls given d.0.0 d.1 client)
    (next-movable config (system_after config log) d is)

standing : {w : ℕ} {config : Config} {log : Log w} (o : Option (Link × Channel)) → IsGiven config log
    → next_delivery config (system_after config log) ≡ o
    → ((d : Link × Channel) → next_delivery config (system_after config log) ≡ Some d
    → (n : ℕ) × IsStanding config (delivering config d.0 d.1 log) n) → (n : ℕ) × IsStanding config log n
unfolding drained
standing None given none rest = (0, record { so_many = omega arith; few = omega arith; stands = none; given = given })
standing {w} {config} {log} (Some d) given next rest =
    let same : (n : ℕ) → drained config n (with_delivery config (next_delivery config (system_after config log)) log)
    ≡ drained config n (delivering config d.0 d.1 log) =
    λ n. ap (λ o. drained config n (with_delivery config o log)) next in
    let later = rest d next in
    let less = owed-moved d.0 d.1 (stepped config (Deliver d.0 d.1) (system_after config log)).outcome given
    (next-moves d given next) in
    let few = later.1.few in
    let count = later.1.so_many in (
      suc later.0,
      record {
        so_many = ap length (same later.0) ∙ omega (arith, count);
        few = omega (arith, few, less);
        stands = ap (λ l. next_delivery config (system_after config l)) (same later.0) ∙ later.1.stands;
        given = subst (IsGiven config) (sym (same later.0)) later.1.given;
      },
    )

-- it comes to that after as many deliveries as are owed at most
coming-to-stand : {w : ℕ} {config : Config} (fuel : ℕ) {log : Log w} → IsGiven config log → owed_after config log ≤ fuel
    → (n : ℕ) × IsStanding config log n
coming-to-stand {config} zero {log} given le = standing (next_delivery config (system_after config log)) given refl
    (λ d next. let less = owed-moved d.0 d.1 (stepped config (Deliver d.0 d.1) (system_after config log)).outcome given
    (next-moves d given next) in absurd (omega (arith, le, less)))
coming-to-stand {config} (suc fuel) {log} given le = standing (next_delivery config (system_after config log)) given
    refl (λ d next.
    let less = owed-moved d.0 d.1 (stepped config (Deliver d.0 d.1) (system_after config log)).outcome given
    (next-moves d given next) in
    coming-to-stand fuel (given-delivering config d.0 d.1 log given) (omega (arith, le, less)))

pub drain : {w : ℕ} (config : Config) (log : Log w) → IsGiven config log → (n : ℕ) × IsDrained config log n
drain config log given =
    let stood = coming-to-stand (owed_after config log) given (omega arith) in
    let few = stood.1.few in
    let load_is = owed-load given in (
      stood.0,
      record {
        so_many = stood.1.so_many;
        few = omega (arith, few, load_is);
        stands = stood.1.stands;
        nothing_left = none-outstanding _ _ (moving config (drained config stood.0 log) stood.1.given) stood.1.stands;
      },
    )
