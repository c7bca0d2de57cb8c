-- What a world is after what has happened to it.
use Rattle.std.proofs.Common.{◌≡◌, ◌<◌, ℕ, List, [], ◌∷◌, ◌++◌, ◌+◌, ◌*◌, refl, ap, ap₂, ◌∙◌, length, take, arith}
use Rattle.std.proofs.lemmas.List.{take_more, take_more_set, length-take}
use Rattle.std.specs.Prelude.{max, slice_index_or, slice_set}
use Rattle.tl_beat.specs.statement.Width.{IsWidth}
use Rattle.tl_beat.specs.declared.beat.Beat.{Beat}
use Rattle.tl_params.specs.declared.config.Config.{Config}
use Rattle.tl_params.specs.declared.perm.Perm.{Perm}
use Rattle.tl_client.specs.statement.Endpoint.{EndConfig, Endpoint}
use Rattle.tl_manager.specs.code.Knows.{Knows}
use Rattle.tl_manager.specs.statement.End as manager_end
use Rattle.tl_coherence.specs.declared.event.Event.{Event}
use Rattle.tl_coherence.specs.declared.event.Outcome.{Outcome}
use Rattle.tl_world.specs.declared.state.WorldState.{WorldState}
use Rattle.tl_world.specs.code.Carrying.{AreClear, AreFresh}
use Rattle.tl_coherence.specs.statement.Headline.{IsTyped, AreTyped, IsGiven}
use Rattle.tl_world.specs.code.Holds.{clients_of, Holds, HasRoom, IsStepped}
use Rattle.tl_coherence.specs.statement.Load.{starts_request, starts_release, ends_request, ends_release, requests}
use Rattle.tl_coherence.specs.statement.Load.{releases}
use Rattle.tl_coherence.specs.statement.Log.{Log, IsLog, system_after, logged}
use Rattle.tl_world.specs.code.Opened.{counted}
use Rattle.tl_coherence.specs.statement.Step.{stepped}
use Rattle.tl_coherence.specs.statement.System.{System}
use Rattle.tl_world.specs.statement.World.{deepest, IsReached, AreReady}
use Rattle.std.proofs.Math.Nat.{max-le}
use Rattle.tl_coherence.proofs.links.FromInvariant.{channels}
use Rattle.tl_coherence.proofs.theorem.Whole.{whole}
use Rattle.tl_world.proofs.Loads.{requests-next, releases-next}
use Rattle.tl_world.proofs.Made.{made-room, made-empty, made-flat}

-- ---- one event

-- a log that is longer by an event and what comes of it
pub given-more : {w : ℕ} (config : Config) (log : Log w) (event : Event w) (o : Outcome w) → IsGiven config log
    → IsTyped event
    → o ≡ (stepped config event (system_after config log)).outcome → IsGiven config ((event, o) ∷ log)
unfolding AreTyped IsLog
given-more config log event o given typed is = record {
  width = given.width;
  fits = given.fits;
  typed =
      (typed, given.typed);
  is_log = (is, given.is_log);
}

-- no channel overflows
pub room-next : {w : ℕ} (config : Config) (log : Log w) (event : Event w) → IsGiven config log → IsTyped event
    → HasRoom config (stepped config event (system_after config log)).after
unfolding system_after
room-next config log event given typed k ch =
    let o = (stepped config event (system_after config log)).outcome in
    channels config ((event, o) ∷ log) (given-more config log event o given typed refl) k ch

pub reached-step : {w : ℕ} {A M : Type 0} (knows : A → Endpoint w → Type 0) (terms : A → EndConfig) (perm_of : M → ℕ → ℕ
    → Perm) (config : Config)
    (old new : WorldState w A M) (log : Log w) (event : Event w) (o : Outcome w)
    → IsReached knows terms perm_of config old log → IsTyped event
    → ((s : System w) → Holds knows terms perm_of config old.network s → HasRoom config (stepped config event s).after
    → IsStepped knows terms perm_of config old.network new.network event o s)
    → new.outstanding.requests ≡ counted (starts_request event o) (ends_request o) old.outstanding.requests
    → new.outstanding.releases ≡ counted (starts_release event o) (ends_release o) old.outstanding.releases
    → IsReached knows terms perm_of config new ((event, o) ∷ log)
    × (o ≡ (stepped config event (system_after config log)).outcome)
unfolding system_after deepest
reached-step {w} knows terms perm_of config old new log event o r typed happens same_requests same_releases =
    let is = happens (system_after config log) r.holds (room-next config log event r.given typed) in
    let given = given-more config log event o r.given typed is.outcome_is in (
      record {
        given = given;
        holds = is.holds;
        requests_are = same_requests ∙ ap (λ n. counted (starts_request event o) (ends_request o) n) r.requests_are
            ∙ requests-next config log r.given event o;
        releases_are = same_releases ∙ ap (λ n. counted (starts_release event o) (ends_release o) n) r.releases_are
            ∙ releases-next config log r.given event o;
        depths = λ k ch d lt.
            is.deepen k ch d lt ∙ ap₂ (λ m n. max m n) (r.depths k ch d lt)
            (ap (λ (xs : List (Beat w)). length xs) (is.holds.channels.beats k ch d lt));
        theorem = r.theorem;
        shallow = λ link ch. max-le (r.shallow link ch) (r.theorem.channels config ((event, o) ∷ log) given link ch);
      },
      is.outcome_is,
    )

-- ---- several events

-- one more event, and what comes of it
pub logged-more : {w : ℕ} (events : List (Event w)) (outcomes : List (Outcome w)) (e : Event w) (o : Outcome w)
    (log : Log w) → length events ≡ length outcomes
    → logged (events ++ e ∷ []) (outcomes ++ o ∷ []) log ≡ (e, o) ∷ logged events outcomes log
unfolding logged
logged-more [] [] e o log same = refl
logged-more [] (p ∷ outcomes) e o log same = absurd (omega (arith, same))
logged-more (f ∷ events) [] e o log same = absurd (omega (arith, same))
logged-more (f ∷ events) (p ∷ outcomes) e o log same =
    logged-more events outcomes e o ((f, p) ∷ log) (omega (arith, same))

-- ---- a new world

pub reached-new : {w : ℕ} {A M : Type 0} (knows : A → Endpoint w → Type 0) (terms : A → EndConfig) (perm_of : M → ℕ → ℕ
    → Perm) (config : Config)
    (state : WorldState w A M) → IsWidth w → AreReady knows terms config state.network.clients.items
    → Knows perm_of state.network.manager config manager_end.fresh
    → AreFresh config (5 * clients_of config) state.network.rings.all.items → AreClear state.network.rings.non_empty
    → state.outstanding.requests ≡ 0 → state.outstanding.releases ≡ 0 → IsReached knows terms perm_of config state []
unfolding system_after AreTyped IsLog deepest requests releases
reached-new {w} knows terms perm_of config state width ready known are clear no_request no_release = record {
  given = new;
  holds = record {
    one_client_each = ready.one_each;
    clients = ready.fresh;
    terms_are = ready.terms_are;
    manager = known;
    channels = made-empty config state.network.rings are clear;
    room = made-room config state.network.rings are;
  };
  requests_are = no_request;
  releases_are = no_release;
  depths = made-flat config state.network.rings are;
  theorem = whole w;
  shallow = λ link ch. omega arith;
}
  where
    new : IsGiven {w = w} config []
    new = record { width = width; fits = known.fits; typed = tt; is_log = tt }

-- one more of several events, and what comes of it
pub logged-next : {w : ℕ} (events : List (Event w)) (outcomes : List (Outcome w)) (i : ℕ) (e d : Event w)
    (o : Outcome w) (log : Log w) → i < length events
    → length events ≡ length outcomes → e ≡ slice_index_or events i d
    → logged (take (i + 1) events) (take (i + 1) (slice_set outcomes i o)) log ≡ (e, o) ∷ logged (take i events)
    (take i outcomes) log
logged-next {w} events outcomes i e d o log inside same is =
    let below : i < length outcomes = omega (arith, inside, same) in
    let first : take (i + 1) events ≡ take i events ++ e ∷ [] = rw is (take_more events i d inside) in
    let second : take (i + 1) (slice_set outcomes i o) ≡ take i outcomes ++ o ∷ [] = take_more_set outcomes i o below in
    let many : length (take i events) ≡ length (take i outcomes) =
    omega (arith, length-take i events, length-take i outcomes, inside, below) in
    ap₂ (λ (xs : List (Event w)) (ys : List (Outcome w)). logged xs ys log) first second ∙ logged-more (take i events)
    (take i outcomes) e o log many
