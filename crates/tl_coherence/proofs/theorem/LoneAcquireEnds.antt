-- An Acquire that is started alone brings what it asks for, and an AcquireWhole brings Trunk.
use Rattle.std.proofs.Common.{◌≡◌, ℕ, zero, suc, Bool, true, false, List, ◌∷◌, Option, Some, None, refl, sym, ◌∙◌, ap}
use Rattle.std.proofs.Common.{arith}
use Rattle.tl_coherence.proofs
use proofs.Imports.{Link, Channel, Config, Grow, Perm, Profile, same_perm, Op, whole_grow, held_at, Ask, Deliver}
use proofs.Imports.{AcquireOpen, AcquirePhase, ClientBlock, after_acquire, Acquires, SourceFree, SourceState, State}
use proofs.Imports.{acquire_asked, acquiring_block, AbstractState, abstract_step, asked, IsDrained, grown_to, IsGiven}
use proofs.Imports.{outstanding, Log, system_after, with_delivery, next_delivery}
use Rattle.tl_coherence.{specs.declared.event.Outcome.TheVariants.Replied, specs.statement.Log.IsLog}
use Rattle.tl_coherence.{specs.statement.Movable.drained}
use Rattle.tl_coherence.specs.statement.Draining.{LoneAcquire, LoneAcquireWhole}
use Rattle.tl_client.specs.declared.reply.Reply.TheVariants.{Started}
use proofs.memory.Beside.{set_at-there}
use proofs.outstanding.{Counted.outstanding-open, Movement.closed-when-counted, Progress.counted}
use proofs.links.FromInvariant.{matched-given}
use proofs.deliveries.Matching.{shadow}
use proofs.manager.RequestsTaken.{next_tracker}
use proofs.bound.Settling.{given-before, given-delivering}
use proofs.protocol.GrantedAll.{IsClosed}
use proofs.queues.Tokens.{set-same, set_at-same}
use proofs.simulation.Moved.{delivered-cases, on-first}
use proofs.theorem.Performed.{Brings, IsLone, grown, lone-kind_taken}

-- ---- logs

given_delivering : {w : ℕ} {config : Config} (o : Option (Link × Channel)) {log : Log w} → IsGiven config log
    → IsGiven config (with_delivery config o log)
given_delivering None given = given
given_delivering (Some d) {log} given = given-delivering _ d.0 d.1 log given

-- nothing is open where nothing is outstanding
nothing_open : {w : ℕ} {config : Config} {log : Log w} → IsGiven config log → outstanding log ≡ 0
    → IsClosed (shadow config log).state
nothing_open {config} {log} given none = closed-when-counted (matched-given config log given) given.width
    (sym (outstanding-open (counted config log given.width given.typed given.is_log)) ∙ none)

-- ---- as it starts

lone_asked : (p : Profile) (c n source : ℕ) (whole : Bool) (g : Grow) (bytes : List ℕ) {s : State (List ℕ)} → IsClosed s
    → IsLone p c n source (AcquireOpen whole g) (acquire_asked c n source whole g bytes s)
lone_asked p c n source whole g bytes {s} closed =
    let s' : State (List ℕ) = acquire_asked c n source whole g bytes s in
    let wanting : (u : SourceState) (x : ClientBlock) → u ≡ Acquires n → x.acquiring ≡ AcquireOpen whole g
    → Brings p n (AcquireOpen whole g) u x = λ u x e f. rw e (refl, f) in
    record {
      others = λ d i else_. set_at-there (Acquires n) s.uses else_ ∙ closed.uses d i;
      brings = wanting (s'.uses c source) ((s'.block n).pair c) (set_at-same c source (Acquires n) s.uses)
          (ap (λ b. (b.pair c).acquiring) (set-same n (acquiring_block c source whole g bytes (s.block n)) s.block)
          ∙ ap (λ x. x.acquiring) (set-same c (after_acquire whole g ((s.block n).pair c)) (s.block n).pair));
    }

-- what is asked for wants this, and is alone
record Begins {w : ℕ} (config : Config) (log : Log w) (c n source : ℕ) (op : Op w) (a : AcquirePhase) : Type 0 where
  given : IsGiven config ((Ask c op, Replied (Started source)) ∷ log)
  alone : outstanding log ≡ 0
  begins : IsClosed (shadow config log).state
      → IsLone config.profile c n source a (asked c op (Started source) (shadow config log)).state

lone_started : {w : ℕ} {config : Config} {log : Log w} {c n source : ℕ} {op : Op w} {a : AcquirePhase}
    → Begins config log c n source op a
    → IsLone config.profile c n source a (shadow config ((Ask c op, Replied (Started source)) ∷ log)).state
unfolding shadow IsLog
lone_started {config} {log} {c} {source} {op} is = rw (← is.given.is_log.0)
    (is.begins (nothing_open (given-before config (Ask c op, Replied (Started source)) log is.given) is.alone))

-- ---- as it is drained

lone_delivered : {w : ℕ} {config : Config} {log : Log w} {c n source : ℕ} {a : AcquirePhase} (link : Link)
    (ch : Channel) → IsGiven config log → IsLone config.profile c n source a (shadow config log).state
    → IsLone config.profile c n source a (abstract_step config (Deliver link ch) (system_after config log)
    (shadow config log)).state
lone_delivered {w} {config} {log} {c} {n} {source} {a} link ch given is =
    let h : AbstractState w = shadow config log in
    let matched = matched-given _ log given in
    delivered-cases link ch (λ i. IsLone config.profile c n source a i.state) given.width matched is
    (λ x queue d. lone-kind_taken config.profile c n source a config (next_tracker (system_after config log)) link.0
    d.first.kind d.first.number d.first.rest h matched.invariant matched.given (on-first d) is)

lone_next : {w : ℕ} {config : Config} {log : Log w} {c n source : ℕ} {a : AcquirePhase} (o : Option (Link × Channel))
    → IsGiven config log → IsLone config.profile c n source a (shadow config log).state
    → IsLone config.profile c n source a (shadow config (with_delivery config o log)).state
unfolding shadow
lone_next None given is = is
lone_next (Some d) given is = lone_delivered d.0 d.1 given is

-- what holds after n deliveries, each the next one
record IsLoneAfter {w : ℕ} (config : Config) (log : Log w) (c n source : ℕ) (a : AcquirePhase) : Type 0 where
  given : IsGiven config log
  lone : IsLone config.profile c n source a (shadow config log).state

lone_drained : {w : ℕ} {config : Config} (k : ℕ) {log : Log w} {c n source : ℕ} {a : AcquirePhase}
    → IsLoneAfter config log c n source a → IsLoneAfter config (drained config k log) c n source a
unfolding drained
lone_drained zero is = is
lone_drained {config} (suc k) {log} is =
    let o = next_delivery config (system_after config log) in
    lone_drained k (record { given = given_delivering o is.given; lone = lone_next o is.given is.lone })

-- ---- what it has brought

brought : (p : Profile) (n : ℕ) (a : AcquirePhase) (u : SourceState) (x : ClientBlock) → u ≡ SourceFree
    → Brings p n a u x → grown p a x.held ≡ true
brought p n a u x e is = grind arith

alone-drained : {w : ℕ} {config : Config} {log : Log w} {c block source n : ℕ} {op : Op w} {a : AcquirePhase}
    → Begins config log c block source op a → IsDrained config ((Ask c op, Replied (Started source)) ∷ log) n
    → grown config.profile a
    (held_at ((system_after config (drained config n ((Ask c op, Replied (Started source)) ∷ log))).clients c) block)
    ≡ true
alone-drained {w} {config} {log} {c} {block} {source} {n} {op} {a} is drains =
    let end : Log w = drained config n ((Ask c op, Replied (Started source)) ∷ log) in
    let lone = lone_drained n (record { given = is.given; lone = lone_started is }) in
    ap (grown config.profile a) (((matched-given config end lone.given).known c).held_is block)
    ∙ brought config.profile block a _ (((shadow config end).state.block block).pair c)
    ((nothing_open lone.given drains.nothing_left).uses c source) lone.lone.brings

pub alone : {w : ℕ} → LoneAcquire w
alone config log client block source n grow none given drains = alone-drained (record {
  given = given;
  alone = none;
  begins = λ closed. lone_asked config.profile client block source false grow
      (((shadow config log).state.block block).waiting client) closed;
}) drains

is_trunk : (held : Perm) → same_perm Perm.Trunk held ≡ true → held ≡ Perm.Trunk
is_trunk held e = grind arith

whole-brings : (p : Profile) (before held : Perm) → grown_to p (whole_grow before) held ≡ true → held ≡ Perm.Trunk
whole-brings p before held e = grind (arith, is_trunk)

pub alone_whole : {w : ℕ} → LoneAcquireWhole w
alone_whole config log client block source n bytes none given drains =
    let before : Perm = (((shadow config log).state.block block).pair client).held in
    whole-brings _ before _ (alone-drained (record {
      given = given;
      alone = none;
      begins = λ closed. lone_asked config.profile client block source true (whole_grow before) bytes closed;
    }) drains)
