-- What has happened to the world of a generator, while a line is drawn.
use Rattle.std.proofs.Common.{◌≡◌, ◌++◌, ℕ, Bool, List, [], ◌∷◌, Result, Ok, Err, refl, sym, ◌∙◌, ap, inl, inr}
use Rattle.std.specs.Prelude.{OnOk, true, false, is_ok, if◌then◌else◌}
use Rattle.std.proofs.lemmas.List.Elements.{All-cons, All-nil}
use Rattle.tl_coherence.specs.declared.event.Event.{Event}
use Rattle.tl_coherence.specs.declared.event.Outcome.{Outcome}
use Rattle.tl_coherence.specs.statement.Log.{Log}
use Rattle.tl_engine.specs.statement.PlayableWorld.{Contained, HasHappened}
use Rattle.tl_params.specs.declared.config.Config.{Config}
use Rattle.tl_schedule.specs.statement.EventLine.{SpellsEvent, drain_line}
use Rattle.tl_random.specs.statement.Draw.{Draws, always, is_one_in, words_from}
use Rattle.tl_random.specs.statement.Drawn.{AreIdle, GrowsByPlay, IsDrainedOf, is_idle, takes}

-- events were tried of which nothing came
abbrev pub Tries : {w : ℕ} → Config → Contained w → Contained w → Type 0
Tries {w} config was is = (log : Log w) → HasHappened config was log
    → (tried : Log w) × AreIdle tried × HasHappened config is (tried ++ log)

pub none-tried : {w : ℕ} (config : Config) (was : Contained w) → Tries config was was
none-tried config was = λ log happened. ([], All-nil (λ x. is_idle x.1 ≡ true), happened)

pub one-tried : {w : ℕ} (config : Config) (was is now : Contained w) (event : Event w) (outcome : Outcome w)
    → is_idle outcome ≡ true
    → ((log : Log w) → HasHappened config is log → HasHappened config now ((event, outcome) ∷ log))
    → Tries config was is → Tries config was now
one-tried config was is now event outcome idle step tries = λ log happened.
    let (tried, all, so) = tries log happened in (
      (event, outcome) ∷ tried,
      All-cons (λ x. is_idle x.1 ≡ true) (event, outcome) tried idle all,
      step (tried ++ log) so,
    )

-- of an event that isn't taken nothing came
pub not-taken : {w : ℕ} (outcome : Outcome w) (old new : List ℕ) → Draws (takes outcome) old new false
    → is_idle outcome ≡ true
unfolding takes
not-taken outcome old new (is, rest) = go (is_idle outcome) refl is
  where
    go : (b : Bool) → is_idle outcome ≡ b
        → false ≡ ((if b then is_one_in 72 else always true) (words_from old)).0 → is_idle outcome ≡ true
    go true e f = e
    go false e f = absurd cc

-- the line of an event was appended, behind those that were tried
pub event-played : {w : ℕ} {X E : Type 0} (first was now : Contained w) (old mid new line shown : List ℕ)
    (event : Event w) (outcome : Outcome w) (r : Result X E) → mid ≡ old
    → new ≡ (if is_ok r then mid ++ shown else mid) → SpellsEvent line event → shown ≡ line
    → ((config : Config) (log : Log w) → HasHappened config was log → HasHappened config now ((event, outcome) ∷ log))
    → ((config : Config) → Tries config first was) → OnOk r ((config : Config) → GrowsByPlay config first now old new)
event-played first was now old mid new line shown event outcome (Ok x) same e spells is step tries =
    λ config log happened.
    let (tried, all, so) = tries config log happened in (
      line,
      e ∙ ap (λ (x : List ℕ). x ++ shown) same ∙ ap (λ (x : List ℕ). old ++ x) is,
      (tried, all, inl (event, outcome, spells, step config (tried ++ log) so)),
    )
event-played first was now old mid new line shown event outcome (Err x) same e spells is step tries = tt

-- the line that drains was appended
pub drain-played : {w : ℕ} {X E : Type 0} (first was now : Contained w) (old mid new : List ℕ) (r : Result X E)
    → mid ≡ old → OnOk r (new ≡ mid ++ drain_line)
    → ((config : Config) (log : Log w) → HasHappened config was log → IsDrainedOf config log now)
    → ((config : Config) → Tries config first was) → OnOk r ((config : Config) → GrowsByPlay config first now old new)
drain-played first was now old mid new (Ok x) same e drains tries = λ config log happened.
    let (tried, all, so) = tries config log happened in (
      drain_line,
      e ∙ ap (λ (x : List ℕ). x ++ drain_line) same,
      (tried, all, inr (refl, drains config (tried ++ log) so)),
    )
drain-played first was now old mid new (Err x) same e drains tries = tt
