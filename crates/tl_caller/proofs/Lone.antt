-- What an operation that is alone has brought.
use Rattle.std.proofs.Common.{◌≡◌, ◌≤◌, ℕ, Bool, true, false, List, ◌∷◌, Option, Some, None, refl, ap, ◌∙◌, length}
use Rattle.std.specs.Prelude.{if◌then◌else◌, nat_lt, IfSome}
use Rattle.std.proofs.lemmas.Bool.{ltb-false}
use Rattle.std.proofs.lemmas.Option.{slice_get_past}
use Rattle.tl_params.specs.declared.config.Config.{Config}
use Rattle.tl_params.specs.declared.param.Grow.{Grow}
use Rattle.tl_params.specs.declared.perm.Perm.{Perm}
use Rattle.tl_params.specs.declared.perm.Perm.TheVariants as perm
use Rattle.tl_client.specs.declared.operation.Op.{Op}
use Rattle.tl_client.specs.declared.operation.Op.TheVariants.{Acquire, AcquireWhole}
use Rattle.tl_client.specs.declared.reply.Reply.TheVariants.{Started}
use Rattle.tl_client.specs.statement.Endpoint.{EndConfig, Endpoint, held_at}
use Rattle.tl_coherence.specs.declared.event.Event.TheVariants.{Ask}
use Rattle.tl_coherence.specs.declared.event.Outcome.{Outcome}
use Rattle.tl_coherence.specs.declared.event.Outcome.TheVariants.{Replied}
use Rattle.tl_coherence.specs.statement.Draining.{IsDrained, grown_to}
use Rattle.tl_coherence.specs.statement.Log.{Log, IsLog, system_after}
use Rattle.tl_coherence.specs.statement.Movable.{drained}
use Rattle.tl_coherence.specs.statement.Step.{stepped, stepped_at}
use Rattle.tl_coherence.specs.statement.System.{System, terms_at}
use Rattle.tl_coherence.specs.statement.Theorem.{Theorem}
use Rattle.tl_world.specs.code.Holds.{clients_of}
use Rattle.tl_world.specs.declared.state.WorldState.{WorldState}
use Rattle.tl_world.specs.statement.World.{IsReached, held_by}
use Rattle.tl_caller.specs.Alone.{IsBroughtAlone, IsStartedAlone, after_start}

-- an operation is started by a client that there is
is_there : {w : ℕ} (config : Config) (client : ℕ) (op : Op w) (source : ℕ) (s : System w)
    → Replied (Started source) ≡ (stepped config (Ask client op) s).outcome → nat_lt client (clients_of config) ≡ true
unfolding stepped
is_there config client op source s is = go (nat_lt client (clients_of config)) refl
  where
    nobody : length config.clients.items ≤ client → terms_at config client ≡ None
    nobody past = rw (slice_get_past config.clients.items client past) refl

    go : (b : Bool) → nat_lt client (clients_of config) ≡ b → b ≡ true
    go true e = refl
    go false e =
        let none = nobody (ltb-false client (clients_of config) e) in
        absurd (let same = is ∙ ap (λ (t : Option EndConfig). (stepped_at config t (Ask client op) s).outcome) none in cc)

-- what a world holds that was drained, asked, and drained again
pub brought : {w : ℕ} {A M : Type 0} (knows : A → Endpoint w → Type 0) (terms : A → EndConfig)
    (perm_of : M → ℕ → ℕ → Perm) (config : Config) (client : ℕ) (op : Op w) (block : ℕ) (idle begun ended : WorldState w A M)
    (log : Log w) (m source n : ℕ) (o : Outcome w) (p : Perm) → o ≡ Replied (Started source)
    → IsDrained config log m → IsReached knows terms perm_of config idle (drained config m log)
    → ((l : Log w) → IsReached knows terms perm_of config idle l
    → IsReached knows terms perm_of config begun ((Ask client op, o) ∷ l))
    → ((l : Log w) → IsReached knows terms perm_of config begun l → IsDrained config l n)
    → ((l : Log w) → IsReached knows terms perm_of config begun l
    → IsReached knows terms perm_of config ended (drained config n l))
    → ((l : Log w) → IsReached knows terms perm_of config ended l
    → p ≡ held_by config client block (system_after config l))
    → IsBroughtAlone config client op block p
brought knows terms perm_of config client op block idle begun ended log m source n o p is drains at_rest asks drains_again
    reaches holds =
    let started = rw is at (asks (drained config m log) at_rest) in (
      drained config m log,
      source,
      n,
      record {
        idle = drains.nothing_left;
        given = started.given;
        ended = drains_again (after_start client op source (drained config m log)) started;
        held = holds _ (reaches (after_start client op source (drained config m log)) started);
      },
    )

module _ {w : ℕ} (theorem : Theorem w) (config : Config) (client : ℕ) where
  -- what the client holds of the block then
  held-then : (op : Op w) (block : ℕ) (p : Perm) (log : Log w) (source n : ℕ)
      → IsStartedAlone config client op block p log source n
      → p ≡ held_at ((system_after config (drained config n (after_start client op source log))).clients client) block
  unfolding IsLog
  held-then op block p log source n is =
      let there = is_there config client op source (system_after config log) is.given.is_log.0 in
      is.held ∙ ap (λ (b : Bool). if b then held_at
      ((system_after config (drained config n (after_start client op source log))).clients client) block else
      perm.None) there

  pub acquired : (block : ℕ) (grow : Grow) (p : Perm) → IsBroughtAlone {w = w} config client (Acquire block grow) block p
      → grown_to config.profile grow p ≡ true
  acquired block grow p (log, source, n, is) =
      rw (held-then (Acquire block grow) block p log source n is)
      (theorem.alone config log client block source n grow is.idle is.given is.ended)

  pub written : (block : ℕ) (bytes : List ℕ) (p : Perm) → IsBroughtAlone {w = w} config client (AcquireWhole block bytes) block p
      → p ≡ perm.Trunk
  written block bytes p (log, source, n, is) =
      held-then (AcquireWhole block bytes) block p log source n is
      ∙ theorem.alone_whole config log client block source n bytes is.idle is.given is.ended

-- where something is held, it is so
pub if-brought : {P Q : Perm → Type 0} → ((p : Perm) → P p → Q p) → (held : Option Perm) → IfSome held P → IfSome held Q
if-brought so None is = tt
if-brought so (Some p) is = so p is
