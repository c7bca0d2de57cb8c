-- Whether what the headline says holds at every event of a list that is played, evaluated: by tests, each with a
-- number, of which those that fail are listed.
-- An Acquire that is alone, drained.
use Rattle.std.proofs.Common.{◌≡◌, ℕ, zero, suc, ◌*◌, ◌-◌, ◌^◌, Bool, true, false, not, ◌&&◌, ◌||◌, ◌==◌, List, [], ◌∷◌}
use Rattle.std.proofs.Common.{◌++◌, Option, Some, None, refl, length, ◌/◌, min, is_none, reverse, nat_le}
use Rattle.tl_coherence.proofs
use proofs.Imports.{beq, Beat, Link, Channel, same_control, unfinished, Config, Level, Grow, Perm, Profile, same_perm}
use proofs.Imports.{broken_after, Memory, bytes_from, number_from, block_at, grant_sink, held, pending, probe_of}
use proofs.Imports.{release_of, request_of, Op, Access, Reply, Finish, op_block, same_bytes, held_at, level_of}
use proofs.Imports.{must_wait, Event, Ask, Deliver, Outcome, started, capacity, receiver, sources_of, is_delivery}
use proofs.Imports.{is_moving, flow, load, outstanding, releases, requests, Log, system_after, Machine, Open, Releases}
use proofs.Imports.{Requests, cap_named, finish_with, first, is_client, moved, pool_of, pool_of_op, is_movable}
use proofs.Imports.{next_delivery, accesses_answered, performing, Step, client_of, stepped, System, fresh, terms_at}
use proofs.Imports.{with_messages}
use Rattle.tl_coherence.{specs.declared.event.Outcome.TheVariants.Replied, specs.statement.Log.IsLog}
use Rattle.tl_coherence.{specs.statement.Movable.drained, specs.statement.Delivery.sender}
use Rattle.tl_coherence.specs.statement.Machine.{is_word_op, performed}
use Rattle.tl_client.specs.statement.Ask as ask
use Rattle.tl_burst.specs.statement.Messages.{carried_on}
use Rattle.tl_rules.{specs.statement.Admission.lanes_of, specs.statement.Conformance.is_legal}
use Rattle.tl_client.specs.declared.operation.Op.TheVariants.{Load, Store, Acquire, AcquireWhole, Release}
use Rattle.tl_rules.specs.statement.Effect as memory
use proofs.examples.Play.{evaluated, world, Line, Does, Drains}
use proofs.queues.Phases.{implies}

-- ---- a whole, what has happened to it, and the one-memory machine beside it

pub record Past (w : ℕ) : Type 0 where
  pub log : Log w
  pub system : System w
  pub machine : Machine w
  -- how many more deliveries may move a beat before something is asked
  pub budget : ℕ

abbrev pub begun : {w : ℕ} → Past w
begun = record { log = []; system = fresh; machine = first; budget = 0 }

abbrev pub budget_after : Bool → Bool → ℕ → ℕ → ℕ
budget_after false moves budget load = load
budget_after true true budget load = min (budget - 1) load
budget_after true false budget load = min budget load

abbrev pub next : {w : ℕ} → Event w → Step w → Past w → Past w
next event step p = record {
  log = (event, step.outcome) ∷ p.log;
  system = step.after;
  machine = performing (accesses_answered step.handed) (moved event step.outcome p.machine);
  budget = budget_after (is_delivery event) (is_moving step.outcome) p.budget (load ((event, step.outcome) ∷ p.log));
}

-- ---- tests

abbrev pub failed : ℕ → Bool → List ℕ → List ℕ
failed n true rest = rest
failed n false rest = n ∷ rest

abbrev pub same_finish : Finish → Finish → Bool
same_finish Finish.Ack Finish.Ack = true
same_finish Finish.Hint Finish.Hint = true
same_finish (Finish.Data m xs) (Finish.Data n ys) = (m == n) && same_bytes xs ys
same_finish (Finish.Granted p) (Finish.Granted q) = same_perm p q
same_finish Finish.Released Finish.Released = true
same_finish _ _ = false

-- the machine allows the reply
abbrev pub replies : {w : ℕ} → ℕ → Op w → Reply → Machine w → Bool
replies client (Load address size) (Reply.Value v) m = v == number_from m.memory address (2 ^ size)
replies client (Store address size value) Reply.Stored m = true
replies client op Reply.Miss m = is_word_op op
replies client op (Reply.Busy why) m = true
replies client op (Reply.Started source) m = not (is_word_op op) && is_none (m.opened client (pool_of_op op) source)
replies client _ _ m = false

abbrev pub ends_access : Finish → Option Finish → Bool
ends_access f None = false
ends_access f (Some g) = same_finish f g

abbrev pub finish_if_any : {w : ℕ} → Op w → Option memory.AccessResult → Option Finish
finish_if_any (Access m) (Some r) = Some (finish_with m r)
finish_if_any _ _ = None

abbrev pub ends_op : {w : ℕ} → Op w → Option memory.AccessResult → Beat w → Finish → Bool
ends_op (Access m) answer x f = ends_access f (finish_if_any (Access m) answer)
ends_op (Acquire block grow) answer x f = same_finish f (Finish.Granted (cap_named x))
ends_op (AcquireWhole block bytes) answer x f = same_finish f (Finish.Granted Perm.Trunk)
ends_op (Release block prune) answer x f = same_finish f Finish.Released
ends_op _ answer x f = false

abbrev pub ends : {w : ℕ} → Option (Open w) → Beat w → Finish → Bool
ends None x f = false
ends (Some o) x f = ends_op o.asked o.answer x f

abbrev pub allows : {w : ℕ} → Event w → Outcome w → Machine w → Bool
allows (Ask client op) (Outcome.Replied r) m = replies client op r m
allows (Deliver link Channel.D) (Outcome.Done x source f) m = ends (m.opened link.0 (pool_of f) source) x f
allows (Deliver link ch) Outcome.Empty m = true
allows (Deliver link ch) Outcome.Stalled m = true
allows (Deliver link ch) (Outcome.Moved x) m = true
allows _ _ m = false

abbrev pub is_step : {w : ℕ} → Config → Event w → Outcome w → Machine w → Bool
is_step config e Outcome.NoSuchClient m = not (is_client config (client_of e))
is_step config e o m = is_client config (client_of e) && allows e o m

-- the accesses can be performed one after another
abbrev pub next_performed : {w : ℕ} → Option (Machine w) → (Machine w → Bool) → Bool
next_performed None rest = false
next_performed (Some m) rest = rest m

unfoldable pub performs : {w : ℕ} → List (ℕ × ℕ) → Machine w → Bool
performs [] m = true
performs (x ∷ accesses) m = next_performed (performed x.0 x.1 m) (performs accesses)

-- all numbers below n pass the test
unfoldable pub all_below : ℕ → (ℕ → Bool) → Bool
all_below zero test = true
all_below (suc n) test = test n && all_below n test

abbrev pub one_writer : {w : ℕ} → ℕ → Config → System w → Bool
one_writer clients config s =
    all_below clients (λ c. all_below clients (λ d. all_below config.blocks (λ block. (c == d) || implies
    (same_perm (held_at (s.clients c) block) Perm.Trunk) (same_perm (held_at (s.clients d) block) Perm.None))))

abbrev pub copy_agrees : Option (List ℕ) → List ℕ → Bool
copy_agrees None bytes = true
copy_agrees (Some copy) bytes = same_bytes copy bytes

abbrev pub copies_agree : {w : ℕ} → ℕ → Config → System w → Memory → Bool
copies_agree clients config s memory = all_below clients (λ c. all_below config.blocks
    (λ block. copy_agrees ((s.clients c).copies block) (bytes_from memory (64 * block) 64)))

abbrev pub same_presence : {w : ℕ} → Option (Open w) → Option (Op w) → Bool
same_presence None None = true
same_presence (Some x) (Some y) = true
same_presence _ _ = false

-- the same sources are open in the machine as by what has happened
abbrev pub opened_agree : {w : ℕ} → ℕ → Log w → Machine w → Bool
opened_agree clients log m = all_below clients (λ c. all_below 2 (λ source. same_presence (m.opened c Requests source)
    (started c Requests source log) && same_presence (m.opened c Releases source) (started c Releases source log)))

abbrev pub is_unrefused : {w : ℕ} → ℕ → System w → Bool
is_unrefused clients s = all_below clients (λ c. not (s.clients c).closed) && (length s.manager.closed == 0)

abbrev pub fit : {w : ℕ} → Config → ℕ → Channel → System w → Bool
fit {w} config link ch s =
    nat_le (length (s.channels link ch)) (capacity (64 / w) (sources_of (terms_at config link)) config.trackers ch)

abbrev pub all_fit : {w : ℕ} → ℕ → Config → System w → Bool
all_fit clients config s = all_below clients (λ link. fit config link Channel.A s && (fit config link Channel.B s
    && (fit config link Channel.C s && (fit config link Channel.D s && fit config link Channel.E s))))

-- a Release of the block by the client is outstanding, with one of two sources
abbrev pub is_release_of : {w : ℕ} → ℕ → Option (Op w) → Bool
is_release_of block (Some (Release b prune)) = b == block
is_release_of block _ = false

abbrev pub moves_so : {w : ℕ} → Config → Log w → System w → ℕ → Channel → List (Beat w) → Bool
moves_so config log s link ch [] = not (is_movable config link ch s)
moves_so config log s link ch (Beat.A x ∷ rest) =
    beq (is_movable config link ch s) (not (must_wait config (record { 0 = link }) (Beat.A x) s.manager.trace))
moves_so config log s link ch (Beat.B x ∷ rest) =
    beq (is_movable config link ch s) (not (is_release_of (block_at x.address)
    (started link Releases 0 log) || is_release_of (block_at x.address) (started link Releases 1 log)))
moves_so config log s link ch (x ∷ rest) = is_movable config link ch s

abbrev pub all_move_so : {w : ℕ} → ℕ → Config → Log w → System w → Bool
all_move_so clients config log s = all_below clients (λ link. moves_so config log s link Channel.A
    (s.channels link Channel.A) && (moves_so config log s link Channel.B (s.channels link Channel.B)
    && (moves_so config log s link Channel.C (s.channels link Channel.C) && (moves_so config log s link Channel.D
    (s.channels link Channel.D) && moves_so config log s link Channel.E (s.channels link Channel.E)))))

abbrev pub same_beats : {w : ℕ} → List (Beat w) → List (Beat w) → Bool
same_beats [] [] = true
same_beats (x ∷ xs) (y ∷ ys) = (same_control x y && same_bytes (lanes_of x) (lanes_of y)) && same_beats xs ys
same_beats _ _ = false

abbrev pub carries : {w : ℕ} → Log w → System w → ℕ → Channel → Bool
carries log s link ch = same_beats (carried_on ch (sender ch link s)) (reverse (s.channels link ch) ++ carried_on ch
    (receiver ch link s)) && same_beats (carried_on ch (receiver ch link s)) (carried_on ch (flow link log))

abbrev pub all_carry : {w : ℕ} → ℕ → Log w → System w → Bool
all_carry clients log s = all_below clients (λ link. carries log s link Channel.A && (carries log s link Channel.B
    && (carries log s link Channel.C && (carries log s link Channel.D && carries log s link Channel.E))))

-- at a Grant the client holds what it is granted
abbrev pub holds_granted : {w : ℕ} → ℕ → Option (Op w) → Perm → System w → Bool
holds_granted client None p s = false
holds_granted client (Some op) p s = same_perm (held_at (s.clients client) (op_block op)) p

abbrev pub grants : {w : ℕ} → Event w → Outcome w → Log w → System w → Bool
grants (Deliver link ch) (Outcome.Done x source (Finish.Granted p)) before s =
    holds_granted link.0 (started link.0 Requests source before) p s
grants _ _ before s = true

-- what fails at an event, and after it
abbrev pub faults_at : {w : ℕ} → ℕ → Config → Event w → Step w → Past w → Past w → List ℕ → List ℕ
faults_at clients config event step before p rest = failed 1 (is_step config event step.outcome before.machine)
    (failed 2 (performs (accesses_answered step.handed) (moved event step.outcome before.machine))
    (failed 3 (one_writer clients config p.system)
    (failed 4 (copies_agree clients config p.system p.machine.memory) (failed 5 (opened_agree clients p.log p.machine)
    (failed 6 (is_unrefused clients p.system) (failed 7 (all_fit clients config p.system) (failed 8 (beq (is_none
    (next_delivery config p.system)) (outstanding p.log == 0)) (failed 9 (all_move_so clients config p.log p.system)
    (failed 12 (grants event step.outcome before.log p.system) (failed 13 (all_carry clients p.log p.system)
    (failed 14 (not (is_delivery event && is_moving step.outcome) || nat_le 1 before.budget) rest)))))))))))

abbrev pub is_legal_on : {w : ℕ} → Option Level → Profile → ℕ → Log w → Bool
is_legal_on None p link log = true
is_legal_on (Some l) p link log = is_legal l p (flow link log)

-- what fails in the end
abbrev pub faults_in_the_end : {w : ℕ} → ℕ → Config → Past w → List ℕ
faults_in_the_end clients config p =
    failed 10 (all_below clients (λ link. is_legal_on (level_of config link) config.profile link p.log)) []

-- ---- playing

abbrev pub checked : {w : ℕ} → ℕ → Config → Event w → Step w → Past w → (Past w → List ℕ) → List ℕ
checked {w} clients config event step p later = let q : Past w = next event step p in
    faults_at clients config event step p q (later q)

abbrev pub on_delivery : {w : ℕ} → ℕ → Config → Option (Link × Channel) → Past w → (Past w → List ℕ) → (Past w → List ℕ)
    → List ℕ
on_delivery clients config None p on stop = stop p
on_delivery clients config (Some d) p on stop =
    checked clients config (Deliver d.0 d.1) (stepped config (Deliver d.0 d.1) p.system) p on

unfoldable pub faults_draining : {w : ℕ} → ℕ → Config → ℕ → Past w → (Past w → List ℕ) → List ℕ
faults_draining clients config zero p stop = failed 11 (outstanding p.log == 0) (stop p)
faults_draining clients config (suc n) p stop = on_delivery clients config (next_delivery config p.system) p
    (λ q. faults_draining clients config n q stop) stop

-- a drain makes no more deliveries than the load before it
unfoldable pub faults : {w : ℕ} → ℕ → Config → List (Line w) → Past w → List ℕ
faults clients config [] p = faults_in_the_end clients config p
faults clients config (Does e ∷ lines) p = checked clients config e (stepped config e p.system) p
    (faults clients config lines)
faults clients config (Drains n ∷ lines) p = faults_draining clients config (load p.log) p (faults clients config lines)

-- nothing that the headline says fails at these lines
abbrev pub Holds : {w : ℕ} → Config → List (Line w) → Type 0
Holds {w} config lines = faults {w = w} (length config.clients.items) config lines begun ≡ []

-- what unfolds besides where these tests are evaluated
unfoldable pub evaluated_tests : ℕ
unfolding performs all_below carried_on started flow requests releases accesses_answered performing broken_after
    is_legal
evaluated_tests = 0

abbrev two_caches : Config
two_caches = world Profile.One 1 1 ((Level.C, 1) ∷ (Level.C, 1) ∷ [])

abbrev asked_once : Log 8
asked_once = (Ask 0 (Op.Acquire 0 Grow.NtoT), Replied (Reply.Started 0)) ∷ []

is_a_log : IsLog two_caches asked_once
unfolding IsLog system_after stepped with_messages ask.asked ask.busy ask.least_free unfinished request_of release_of
    probe_of grant_sink pending held
is_a_log = (refl, tt)

moves_ten_beats : (length (drained two_caches 12 asked_once) ≡ 11) × (load asked_once ≡ 41)
    × (next_delivery two_caches (system_after two_caches (drained two_caches 12 asked_once)) ≡ None)
unfolding drained system_after requests releases evaluated
moves_ten_beats = (refl, refl, refl)

brings_what_it_asks_for : held_at ((system_after two_caches (drained two_caches 10 asked_once)).clients 0)
    0 ≡ Perm.Trunk
unfolding drained system_after requests releases evaluated
brings_what_it_asks_for = refl
