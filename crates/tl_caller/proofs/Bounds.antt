-- Which deliveries come behind a log, and how many of them moved a beat.
use Rattle.std.proofs.Common.{◌≡◌, ◌+◌, ℕ, Bool, true, false, List, [], ◌∷◌, ◌++◌, refl, ap, sym, ◌∙◌, arith, length}
use Rattle.std.specs.Prelude.{All, filter, if◌then◌else◌}
use Rattle.std.proofs.lemmas.List.{append_assoc, length-append}
use Rattle.std.proofs.lemmas.List.Elements.{All-append, All-cons, All-head, All-nil, All-tail, filter-append}
use Rattle.tl_coherence.specs.declared.event.Event.{Event}
use Rattle.tl_coherence.specs.declared.event.Outcome.{Outcome}
use Rattle.tl_coherence.specs.statement.Draining.{beats_moved, is_delivery, is_moving}
use Rattle.tl_coherence.specs.statement.Log.{Log, logged}

-- these deliveries come behind a log, and so many of them moved a beat
pub record Behind {w : ℕ} (whole more log : Log w) (moved : ℕ) : Type 0 where
  pub whole_is : whole ≡ more ++ log
  pub deliveries : All (λ x. is_delivery x.0 ≡ true) more
  pub moved_is : moved ≡ beats_moved more

-- ---- one by one

pub nothing-behind : {w : ℕ} (log : Log w) → Behind log [] log 0
nothing-behind log = record { whole_is = refl; deliveries = All-nil (λ x. is_delivery x.0 ≡ true); moved_is = refl }

-- a delivery that moved a beat
pub behind-more : {w : ℕ} (e : Event w) (o : Outcome w) (whole more log : Log w) (n m : ℕ) → is_moving o ≡ true
    → Behind whole more log n → is_delivery e ≡ true → m ≡ n + 1 → Behind ((e, o) ∷ whole) ((e, o) ∷ more) log m
behind-more {w} e o whole more log n m moves is delivers next = record {
  whole_is = ap (λ (l : Log w). (e, o) ∷ l) is.whole_is;
  deliveries = All-cons (λ (x : Event w × Outcome w). is_delivery x.0 ≡ true) (e, o) more delivers is.deliveries;
  moved_is = rw moves (let so_far = is.moved_is in omega (arith, so_far, next));
}

-- and one that didn't
pub behind-none : {w : ℕ} (e : Event w) (o : Outcome w) (whole more log : Log w) (n m : ℕ) → is_moving o ≡ false
    → Behind whole more log n → is_delivery e ≡ true → m ≡ n → Behind ((e, o) ∷ whole) ((e, o) ∷ more) log m
behind-none {w} e o whole more log n m stays is delivers same = record {
  whole_is = ap (λ (l : Log w). (e, o) ∷ l) is.whole_is;
  deliveries = All-cons (λ (x : Event w × Outcome w). is_delivery x.0 ≡ true) (e, o) more delivers is.deliveries;
  moved_is = same ∙ rw stays is.moved_is;
}

-- ---- several in one call

last-moved : {w : ℕ} (e : Event w) (o : Outcome w) (outcomes : List (Outcome w)) (more : Log w)
    → length (filter is_moving outcomes) ≡ beats_moved more
    → length (filter is_moving (o ∷ outcomes)) ≡ beats_moved (more ++ (e, o) ∷ [])
last-moved {w} e o outcomes more is =
    rw (
      filter-append (λ (x : Event w × Outcome w). is_moving x.1) more ((e, o) ∷ []),
      length-append (filter (λ (x : Event w × Outcome w). is_moving x.1) more)
          (filter (λ (x : Event w × Outcome w). is_moving x.1) ((e, o) ∷ [])),
    ) (go (is_moving o))
  where
    go : (b : Bool) → length (if b then o ∷ filter is_moving outcomes else filter is_moving outcomes)
        ≡ length (filter (λ (x : Event w × Outcome w). is_moving x.1) more) + length {A = Event w × Outcome w}
        (if b then (e, o) ∷ [] else [])
    go true = omega (arith, is)
    go false = omega (arith, is)

pub behind : {w : ℕ} (events : List (Event w)) (outcomes : List (Outcome w)) (log : Log w)
    → length events ≡ length outcomes → All (λ e. is_delivery e ≡ true) events
    → (more : Log w) × Behind (logged events outcomes log) more log (length (filter is_moving outcomes))
unfolding logged
behind [] [] log same all = (
  [],
  record { whole_is = refl; deliveries = All-nil (λ x. is_delivery x.0 ≡ true); moved_is = refl },
)
behind [] (o ∷ outcomes) log same all = absurd (omega (arith, same))
behind (e ∷ events) [] log same all = absurd (omega (arith, same))
behind {w} (e ∷ events) (o ∷ outcomes) log same all =
    let (more, is) = behind events outcomes ((e, o) ∷ log) (omega (arith, same))
    (All-tail (λ (x : Event w). is_delivery x ≡ true) e events all) in (
      more ++ (e, o) ∷ [],
      record {
        whole_is = is.whole_is ∙ sym (append_assoc more ((e, o) ∷ []) log);
        deliveries = All-append (λ (x : Event w × Outcome w). is_delivery x.0 ≡ true) more ((e, o) ∷ []) is.deliveries
            (All-cons (λ (x : Event w × Outcome w). is_delivery x.0 ≡ true) (e, o) []
            (All-head (λ (x : Event w). is_delivery x ≡ true) e events all)
            (All-nil (λ (x : Event w × Outcome w). is_delivery x.0 ≡ true)));
        moved_is = last-moved e o outcomes more is.moved_is;
      },
    )
