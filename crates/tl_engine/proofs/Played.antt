-- What a schedule is played as, line by line.
use Rattle.std.proofs.Common.{◌≡◌, ◌≤◌, ℕ, zero, suc, ◌+◌, ◌-◌, List, ◌∷◌, ◌++◌, length, refl, sym, ◌∙◌}
use Rattle.std.proofs.Common.{ap, subst, arith, append_assoc, inl, inr}
use Rattle.std.specs.Prelude.{◌⊎◌, Option, Some, None, Result, Ok, Err, OnOk}
use Rattle.std.proofs.lemmas.List.{append-nil}
use Rattle.std.proofs.lemmas.Bool.{cases_lt}
use Rattle.tl_beat.specs.declared.beat.Link.{Link}
use Rattle.tl_command.specs.declared.command.RunForm.{RunForm}
use Rattle.tl_beat.specs.declared.channel.Channel.{Channel}
use Rattle.tl_params.specs.declared.config.Config.{Config}
use Rattle.tl_coherence.specs.declared.event.Event.{Event}
use Rattle.tl_coherence.specs.declared.event.Event.TheVariants.{Deliver}
use Rattle.tl_coherence.specs.declared.event.Outcome.{Outcome}
use Rattle.tl_coherence.specs.statement.Draining.{IsDrained}
use Rattle.tl_coherence.specs.statement.Headline.{IsGiven}
use Rattle.tl_coherence.specs.statement.Load.{load}
use Rattle.tl_coherence.specs.statement.Log.{Log, system_after}
use Rattle.tl_coherence.specs.statement.Movable.{drained, next_delivery, with_delivery}
use Rattle.tl_world.proofs.Drained.{drained-more}
use Rattle.tl_coherence.proofs.bound.Settling.{drain}
use Rattle.tl_schedule.specs.declared.line.Line.{Line}
use Rattle.tl_schedule.specs.declared.line.Line.TheVariants as line_of
use Rattle.tl_schedule.specs.statement.EventLine.{SpellsEvent}
use Rattle.tl_engine.specs.declared.play.Player.{Player}
use Rattle.tl_engine.specs.statement.Played.{delivery_text, deliveries_text, event_text, number_text, outcome_after}
use Rattle.tl_engine.specs.code.Playing.{Drains, Happens, HasPlayed, PlaysLine, PlaysOn, Writes}
use Rattle.tl_engine.specs.statement.PlayableWorld.{HasHappened}

-- ---- deliveries

module _ {w : ℕ} (config : Config) where
  abbrev next : Log w → Option (Link × Channel)
  next log = next_delivery config (system_after config log)

  -- more deliveries, and what is written of them
  drained-add : (n k t : ℕ) (log : Log w) → t ≡ n + k → drained config t log ≡ drained config k (drained config n log)
  unfolding drained
  drained-add zero k t log e = let is : t ≡ k = omega (arith, e) in ap (λ (i : ℕ). drained config i log) is
  drained-add (suc n) k zero log e = absurd (omega (arith, e))
  drained-add (suc n) k (suc t) log e = drained-add n k t (with_delivery config (next log) log) (omega (arith, e))

  stays : (n : ℕ) (log : Log w) → next log ≡ None → drained config n log ≡ log
  unfolding drained
  stays zero log none = refl
  stays (suc n) log none = rw none (stays n log none)

  deliveries-suc : (form : RunForm) (n : ℕ) (log : Log w) → deliveries_text form config (suc n) log ≡ deliveries_text
      form config n log
      ++ delivery_text form config (drained config n log) (next (drained config n log))
  unfolding drained deliveries_text
  deliveries-suc form zero log = append-nil (delivery_text form config log (next log))
  deliveries-suc form (suc n) log =
      ap (λ (text : List ℕ). delivery_text form config log (next log) ++ text)
      (deliveries-suc form n (with_delivery config (next log) log))
      ∙ sym (append_assoc (delivery_text form config log (next log))
      (deliveries_text form config n (with_delivery config (next log) log)) _)

  -- n deliveries, each of which moved on, after which nothing is next, are all
  same : (n m : ℕ) (log : Log w) → length (drained config n log) ≡ n + length log → next (drained config m log) ≡ None
      → length (drained config m log) ≡ m + length log → m ≤ n → n ≡ m
  same n m log count none counted le =
      let split : n ≡ m + (n - m) = omega (arith, le) in
      let all : drained config n log ≡ drained config m log = ap (λ (i : ℕ). drained config i log) split ∙ drained-add m
      (n - m) (m + (n - m)) log refl ∙ stays (n - m) (drained config m log) none in
      let lengths : length (drained config n log) ≡ length (drained config m log) = ap (λ (l : Log w). length l) all in
      omega (arith, lengths, count, counted)

  pub drained-once : (n m : ℕ) (log : Log w) → IsDrained config log n → IsDrained config log m → n ≡ m
  drained-once n m log d e = elim (cases_lt m n) [
    | inl less ↦ same n m log d.so_many e.stands e.so_many (omega (arith, less))
    | inr more ↦ sym (same m n log e.so_many d.stands d.so_many more)
  ]

  pub ended : (n : ℕ) (log : Log w) → IsGiven config log → length (drained config n log) ≡ n + length log
      → next (drained config n log) ≡ None → IsDrained config log n
  ended n log given count none =
      let (m, d) = drain config log given in
      let is : m ≡ n = elim (cases_lt m n) [
        | inl less ↦ sym (same n m log count d.stands d.so_many (omega (arith, less)))
        | inr more ↦ same m n log d.so_many none count more
      ] in
      subst (IsDrained config log) is d

  pub ended-at-load : (n : ℕ) (log : Log w) → IsGiven config log → length (drained config n log) ≡ n + length log
      → load log ≤ n → IsDrained config log n
  ended-at-load n log given count le =
      let (m, d) = drain config log given in
      let few = d.few in
      subst (IsDrained config log) (sym (same n m log count d.stands d.so_many (omega (arith, few, le)))) d

-- ---- worlds

-- n deliveries, each the next one, have been made, and written behind the text
pub record Delivered {w : ℕ} (form : RunForm) (config : Config) (log : Log w) (player : Player w) (was is : List ℕ)
    (n : ℕ) : Type 0 where
  pub reached : HasPlayed form config player (drained config n log)
  pub count : length (drained config n log) ≡ n + length log
  pub says : is ≡ was ++ deliveries_text form config n log

pub delivered-none : {w : ℕ} (form : RunForm) (config : Config) (log : Log w) (player : Player w) (was : List ℕ)
    → HasPlayed form config player log → Delivered form config log player was was 0
unfolding drained deliveries_text
delivered-none form config log player was r = record { reached = r; count = omega arith; says = sym (append-nil was) }

pub delivered-more : {w : ℕ} (form : RunForm) (config : Config) (log : Log w) (old new : Player w)
    (was mid is : List ℕ) (n : ℕ) (link : Link) (ch : Channel)
    → Delivered form config log old was mid n
    → Some (link, ch) ≡ next_delivery config (system_after config (drained config n log))
    → Happens form old new (Deliver link ch) mid is → Delivered form config log new was is (n + 1)
delivered-more {w} form config log old new was mid is n link ch d found happens =
    let log_so_far = drained config n log in
    let h = happens config log_so_far d.reached in
    let one : n + 1 ≡ suc n = omega arith in
    let grown : drained config (n + 1) log ≡ (Deliver link ch, outcome_after config log_so_far (Deliver link ch))
    ∷ log_so_far =
    drained-more config n log link ch (outcome_after config log_so_far (Deliver link ch)) found refl in
    let text : deliveries_text form config (n + 1) log ≡ deliveries_text form config n log ++ event_text form
    log_so_far (Deliver link ch) (outcome_after config log_so_far (Deliver link ch)) =
    ap (λ (i : ℕ). deliveries_text form config i log) one ∙ deliveries-suc config form n log
    ∙ ap (λ (o : Option (Link × Channel)). deliveries_text form config n log ++ delivery_text form config log_so_far
    o) (sym found) in
    let longer : length (drained config (n + 1) log) ≡ suc (length log_so_far) = ap (λ (l : Log w). length l) grown in
    let count = d.count in
    record {
      reached = subst (HasPlayed form config new) (sym grown) h.1;
      count = omega (arith, longer, count);
      says = h.0 ∙ ap (λ (t : List ℕ). t ++ event_text form log_so_far (Deliver link ch)
          (outcome_after config log_so_far (Deliver link ch))) d.says
          ∙ append_assoc was (deliveries_text form config n log) _ ∙ ap (λ (t : List ℕ). was ++ t) (sym text);
    }

pub drains-all : {w : ℕ} (form : RunForm) (config : Config) (log : Log w) (player : Player w) (was is : List ℕ) (n : ℕ)
    → IsGiven config log
    → Delivered form config log player was is n
    → (next_delivery config (system_after config (drained config n log)) ≡ None) ⊎ (load log ≤ n)
    → IsDrained config log n × (is ≡ was ++ deliveries_text form config n log)
    × HasPlayed form config player (drained config n log)
drains-all form config log player was is n given d (inl none) =
    (ended config n log given d.count none, d.says, d.reached)
drains-all form config log player was is n given d (inr enough) =
    (ended-at-load config n log given d.count enough, d.says, d.reached)

-- what was written of an event is what comes of it
pub happens : {w : ℕ} (form : RunForm) (old new : Player w) (event : Event w) (o : Outcome w) (was is : List ℕ)
    → Writes form old.stores new.stores event o was is
    → ((config : Config) (log : Log w) → HasHappened config old.world log → o ≡ outcome_after config log event)
    → ((config : Config) (log : Log w) → HasHappened config old.world log
    → HasHappened config new.world ((event, o) ∷ log)) → Happens form old new event was is
happens {w} form old new event o was is writes comes reached = λ config log played.
    let out = comes config log played.0 in
    let written = writes log played.1 in (
      written.0 ∙ ap (λ (p : Outcome w). was ++ event_text form log event p) out,
      subst (λ (p : Outcome w). HasPlayed form config new ((event, p) ∷ log)) out
          (reached config log played.0, written.1),
    )

pub happened : {w : ℕ} {E : Type 0} (form : RunForm) (old new : Player w) (event : Event w) (o : Outcome w)
    (was is : List ℕ) (r : Result (Unit {0}) E) → OnOk r (Writes form old.stores new.stores event o was is)
    → ((config : Config) (log : Log w) → HasHappened config old.world log → o ≡ outcome_after config log event)
    → ((config : Config) (log : Log w) → HasHappened config old.world log
    → HasHappened config new.world ((event, o) ∷ log)) → OnOk r (Happens form old new event was is)
happened form old new event o was is (Err e) writes comes reached = tt
happened form old new event o was is (Ok x) writes comes reached =
    happens form old new event o was is writes comes reached

-- ---- what a line says

event-plays : {w : ℕ} (form : RunForm) (old new : Player w) (event : Event w) (was is : List ℕ)
    → Happens form old new event was is → PlaysOn form old new (line_of.Event event) was is
event-plays form old new event was is happens = λ config log r.
    let h = happens config log r in (
      event_text form log event (outcome_after config log event),
      (event, outcome_after config log event) ∷ log,
      (refl, refl),
      h.0,
      h.1,
    )

pub event-said : {w : ℕ} {E : Type 0} (form : RunForm) (old new : Player w) (said : Line w) (event : Event w)
    (was is : List ℕ) (r : Result (Unit {0}) E)
    → said ≡ line_of.Event event → OnOk r (Happens form old new event was is)
    → OnOk r (PlaysOn form old new said was is)
event-said form old new said event was is (Err e) same happens = tt
event-said form old new said event was is (Ok x) same happens =
    rw same (event-plays form old new event was is happens)

-- a line that is read at its places
pub line-said : {w : ℕ} (form : RunForm) (old new : Player w) (line : List ℕ) (event : Event w) (was is : List ℕ)
    → SpellsEvent line event → Happens form old new event was is → PlaysLine form old new line was is None
line-said form old new line event was is spells happens =
    (line_of.Event event, spells, event-plays form old new event was is happens)

pub drain-said : {w : ℕ} {E : Type 0} (form : RunForm) (old new : Player w) (said : Line w) (was mid is : List ℕ)
    (n : ℕ) (r : Result (Unit {0}) E)
    → said ≡ line_of.Drain → Drains form old new was mid n → OnOk r (is ≡ mid ++ number_text form n)
    → OnOk r (PlaysOn form old new said was is)
drain-said form old new said was mid is n (Err e) same drains says = tt
drain-said form old new said was mid is n (Ok x) same drains says = rw same (λ config log r.
    let d = drains config log r in
    let text = deliveries_text form config n log in (
      text ++ number_text form n,
      drained config n log,
      (n, d.0, refl, refl),
      says ∙ ap
          (λ (t : List ℕ). t ++ number_text form n) d.1 ∙ append_assoc was text (number_text form n),
      d.2,
    ))
