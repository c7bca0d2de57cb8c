-- What is known of each beat that is taken in a world, for the run beside it.
use Rattle.tl_true_bytes.proofs.Imports.{Beat, BeatA, BeatD, Link, IsWidth, MessageA, History, channel_of, unfinished}
use Rattle.tl_true_bytes.proofs.Imports.{Config, Level, Request, Trace, on_link, AccessResult, Memory, bytes_from}
use Rattle.tl_true_bytes.proofs.Imports.{block_at, grants, is_grant, request_of, sourced, illegal_message_at, level_of}
use Rattle.tl_true_bytes.proofs.Imports.{AbstractState, MonitorRelations, SimulationRelation, trace_of, IsGiven, Log}
use Rattle.tl_true_bytes.proofs.Imports.{system_after, Machine, Requests, one_memory_after, shadow, trace-flows, flowed}
use Rattle.tl_true_bytes.proofs.Imports.{matched-given, same_d, same_open, IsOfAccess, IsResponse, IsRightBeat}
use Rattle.tl_true_bytes.proofs.Imports.{memory_in, run_before, trace_in, run_of, Channel, OpD, Op}
use Rattle.std.proofs.Common.{◌≡◌, ℕ, ◌+◌, ◌-◌, ◌*◌, ◌/◌, ◌%◌, ◌^◌, ◌<◌, ◌≤◌, Bool, true, false, List, [], ◌∷◌, drop}
use Rattle.std.proofs.Common.{length, take, Some, None, refl, sym, ◌∙◌, ap, subst, arith}
use Rattle.std.specs.Prelude.{if◌then◌else◌, All, IfSome, Option, min, slice_index, unwrap_or}
use Rattle.std.proofs.lemmas.Bool.{and_from, eq-eqb, eqb-true}
use Rattle.std.proofs.lemmas.List.{get_or-drop, get_or-take, length-drop, length-take}
use Rattle.std.proofs.lemmas.List.Elements.{All-head}
use Rattle.tl_burst.{specs.declared.message.Message.Message, specs.statement.Burst.lanes_at}
use Rattle.tl_rules.{specs.code.Open.open_request, specs.code.Open.request_fields, specs.statement.Effect.IsBlock}
use Rattle.tl_rules.{specs.statement.History.asks_for, proofs.Bursts.control_aligned, proofs.Bursts.control_of_legal}
use Rattle.tl_manager.proofs.blocks.Written.{bytes_are}
use Rattle.tl_coherence.specs.{refinement.MemoryRelation.op_of, refinement.SimulationRelation.AreLanes}
use Rattle.tl_coherence.proofs.{flow.NextOnD.next-on_d, flow.TrueGrant.true-next, links.Granting.opened-acquire}
use Rattle.tl_coherence.proofs.{protocol.Room.positive, queues.Codes.access_kind}
use Rattle.tl_concord.specs.statement.Told.{IsToldOf}
use Rattle.tl_one_memory.specs.statement.Run.{IsGranted}
use Rattle.tl_true_bytes.{proofs.Continued.grants-same, proofs.Granted.IsBefore, proofs.Granted.granted-before}
use Rattle.tl_true_bytes.{proofs.Requests.answered-open, proofs.Requests.request-known, proofs.Runs.beside-log, proofs.Sources.not_acquire}
use Rattle.tl_bytes.specs.statement.Free as bytes
use Rattle.tl_bytes.{proofs.OnTime.IsOnTime, specs.statement.Early.outruns}
use Rattle.tl_coherence.specs.statement.Delivery.{levels_of}
use Rattle.tl_concord.proofs.Alike.{free-world}
use Rattle.tl_params.specs.declared.perm.Perm.{Perm}
use Rattle.tl_rules.specs.statement.Windows.{is_free}
use Rattle.tl_true_bytes.{specs.code.Beside.comes, proofs.Taken.IsTakenWell}

-- ---- a beat that is next on channel D

-- a Grant answers no access
abbrev pub GrantsOther : {w : ℕ} → Machine w → ℕ → Beat w → Type 0
GrantsOther {w} m c x = (z : BeatD w) → x ≡ Beat.D z → is_grant z.opcode ≡ true → (a : MessageA w)
    (r : Option AccessResult) → m.opened c Requests z.source
    ≡ Some (record { asked = Op.Access (Message.A a); answer = r }) → ⊥

-- a GrantData has the lanes of its block
pub record HasBlock {w : ℕ} (memory : Memory) (block : ℕ) (z : BeatD w) (k : ℕ) : Type 0 where
  pub bytes : List ℕ
  pub long : length bytes ≡ 64
  pub block_is : IsBlock memory block bytes
  pub lanes_are : z.lanes ≡ lanes_at true w bytes k
  pub wide : IfSome z.lanes (λ lanes. length lanes ≡ w)

abbrev pub GrantsBlock : {w : ℕ} → Memory → ℕ → Beat w → Trace w → Type 0
GrantsBlock {w} memory c x t = (z : BeatD w) → x ≡ Beat.D z → (block : ℕ) → grants block z (on_link c t) ≡ true
    → z.opcode ≡ OpD.GrantData → HasBlock memory block z (length (unfinished Channel.D (on_link c t)))

module _ {w : ℕ} (config : Config) (log : Log w) (given : IsGiven config log) (c : ℕ) where
  abbrev h : AbstractState w
  h = shadow config log

  is : SimulationRelation config log h.mail h.request h.state (system_after config log)
  is = matched-given config log given

  values : MonitorRelations log h.mail h.state (system_after config log)
  values = flowed config log given.width given.typed given.is_log

  other-next : (y : BeatD w) (queue : List (Beat w)) → (system_after config log).channels c Channel.D ≡ Beat.D y ∷ queue
      → is_grant y.opcode ≡ true → (a : MessageA w) (r : Option AccessResult)
      → (one_memory_after config log).opened c Requests y.source
      ≡ Some (record { asked = Op.Access (Message.A a); answer = r }) → ⊥
  other-next y queue beats granted a r opened =
      next-on_d config log h c y queue given.width is values beats ⊥
      (λ i due e. no (ap (λ (z : BeatD w). is_grant z.opcode) e ∙ (access_kind due.answer.opcode due.answers_access).0))
      (λ i grant.
      let from : y.source ≡ (h.state.block i).source c = ap (λ (z : BeatD w). z.source) grant.beat_is in
      let acquires = opened-acquire config log h (system_after config log) c y.source i (h.state.uses c y.source) is
      refl (ap (h.state.uses c) from ∙ grant.due.used) in
      not_acquire ((h.state.block i).pair c).acquiring i ((h.state.block i).waiting c) a
      (same_open (op_of ((h.state.block i).pair c).acquiring i ((h.state.block i).waiting c)) (Op.Access (Message.A a))
      None r (sym acquires ∙ opened)).0)
      (λ i k e. no (ap (λ (z : BeatD w). is_grant z.opcode) e))
    where
      no : is_grant y.opcode ≡ false → ⊥
      no e = let differ : false ≡ true = sym e ∙ granted in cc

  block-next : (y : BeatD w) (queue : List (Beat w)) → (system_after config log).channels c Channel.D ≡ Beat.D y ∷ queue
      → (block : ℕ) → grants block y (on_link c (trace_of log)) ≡ true → y.opcode ≡ OpD.GrantData
      → HasBlock (one_memory_after config log).memory block y (length (unfinished Channel.D (on_link c (trace_of log))))
  block-next y queue beats block granted with_data =
      let found = true-next config log given c y queue beats block
      (subst (λ (t : History w). grants block y t ≡ true) (trace-flows c log) granted) with_data in
      record {
        bytes = found.0;
        long = found.1;
        block_is = found.2;
        lanes_are = found.3 ∙ ap (λ (t : History w). lanes_at true w found.0 (length (unfinished Channel.D t)))
            (sym (trace-flows c log));
        wide = All-head AreLanes (Beat.D y) queue (subst (λ (q : List (Beat w)). All AreLanes q) beats
            (is.typed c Channel.D));
      }

pub grants-other : {w : ℕ} (config : Config) (log : Log w) → IsGiven config log → (c : ℕ) (x : Beat w)
    (queue : List (Beat w)) → (system_after config log).channels c (channel_of x) ≡ x ∷ queue
    → GrantsOther (one_memory_after config log) c x
grants-other {w} config log given c (Beat.D y) queue beats = λ z e granted a r opened.
    let same : y ≡ z = same_d y z e in
    other-next config log given c y queue beats (ap (λ (i : BeatD w). is_grant i.opcode) same ∙ granted) a r
    (ap (λ (i : BeatD w). (one_memory_after config log).opened c Requests i.source) same ∙ opened)
grants-other config log given c (Beat.A y) queue beats = λ z e. absurd cc
grants-other config log given c (Beat.B y) queue beats = λ z e. absurd cc
grants-other config log given c (Beat.C y) queue beats = λ z e. absurd cc
grants-other config log given c (Beat.E y) queue beats = λ z e. absurd cc

pub grants-block : {w : ℕ} (config : Config) (log : Log w) → IsGiven config log → (c : ℕ) (x : Beat w)
    (queue : List (Beat w)) → (system_after config log).channels c (channel_of x) ≡ x ∷ queue
    → GrantsBlock (one_memory_after config log).memory c x (trace_of log)
grants-block {w} config log given c (Beat.D y) queue beats = λ z e. subst (λ (i : BeatD w). (block : ℕ)
    → grants block i (on_link c (trace_of log)) ≡ true → i.opcode ≡ OpD.GrantData
    → HasBlock (one_memory_after config log).memory block i (length (unfinished Channel.D (on_link c (trace_of log)))))
    (same_d y z e) (block-next config log given c y queue beats)
grants-block config log given c (Beat.A y) queue beats = λ z e. absurd cc
grants-block config log given c (Beat.B y) queue beats = λ z e. absurd cc
grants-block config log given c (Beat.C y) queue beats = λ z e. absurd cc
grants-block config log given c (Beat.E y) queue beats = λ z e. absurd cc

-- ---- an access is aligned

aligned-of : {w : ℕ} (o : Option Level) (m : MessageA w) → IsWidth w → illegal_message_at o (Message.A m) ≡ None
    → m.address % 2 ^ m.size ≡ 0
aligned-of None m width lawful = absurd cc
aligned-of {w} (Some l) m width lawful = eqb-true (m.address % 2 ^ m.size) 0
    (control_aligned w l m.opcode m.param m.size m.address (control_of_legal l m width lawful))

pub aligned-open : {w : ℕ} (config : Config) (log : Log w) → IsGiven config log
    → (c s : ℕ) (a : MessageA w) (r : Option AccessResult) → (one_memory_after config log).opened c Requests s ≡ Some
    (record { asked = Op.Access (Message.A a); answer = r }) → a.address % 2 ^ a.size ≡ 0
aligned-open config log given c s a r opened = aligned-of (level_of config c) (sourced s a) given.width
    (request-known config log given c s a r opened).1

-- ---- what a GrantData brings

-- the request that is open is the one that is answered
open-asks : {w : ℕ} (p : Bool) (o : Option (BeatA w)) (asked : Request)
    → (if p then request_fields o else None) ≡ Some asked → asks_for asked.block o ≡ true
open-asks true (Some x) asked e = eq-eqb (block_at x.address) asked.block (same (block_at x.address) e)
  where
    same : (k : ℕ) → Some (record { opcode = x.opcode; param = x.param; size = x.size; block = k }) ≡ Some asked
        → k ≡ asked.block
    same k e = cc
open-asks true None asked e = absurd cc
open-asks false o asked e = absurd cc

-- the lanes are those of memory
lanes-from : (w k block : ℕ) (bytes : List ℕ) (f : Memory) → 0 < w → length bytes ≡ 64
    → length (take w (drop (w * k) bytes)) ≡ w → ((i : ℕ) → i < 64 → f (64 * block + i) ≡ slice_index bytes i)
    → (w * k + w ≤ 64) × (take w (drop (w * k) bytes) ≡ bytes_from f (64 * block + w * k) w)
lanes-from w k block bytes f pos long wide is = (room, sym lanes)
  where
    left : List ℕ
    left = drop (w * k) bytes

    room : w * k + w ≤ 64
    room = let rest : length (drop (w * k) bytes) ≡ length bytes - w * k = length-drop (w * k) bytes in
        let some : length (take w left) ≡ min w (length left) = length-take w left in
        omega (arith, pos, long, wide, rest, some)

    lanes : bytes_from f (64 * block + w * k) w ≡ take w left
    lanes = ap (bytes_from f (64 * block + w * k)) (sym wide) ∙ bytes_are f (64 * block + w * k) (take w left) (λ i lt.
        let place : 64 * block + w * k + i ≡ 64 * block + (w * k + i) = omega arith in
        ap f place ∙ is (w * k + i) (omega (arith, room, lt, wide))
        ∙ sym (get_or-take w left i 0 (omega (arith, lt, wide)) ∙ get_or-drop (w * k) bytes i 0))

granted-truly : {w : ℕ} (config : Config) (log : Log w) → IsGiven config log → (n : ℕ)
    → n ≤ length (levels_of config) → (c : ℕ) (z : BeatD w) → IsResponse c z (trace_of log) → GrantsBlock (one_memory_after config log).memory c (Beat.D z) (trace_of log)
    → z.opcode ≡ OpD.GrantData → (asked : Request) → open_request z.source (on_link c (trace_of log)) ≡ Some asked
    → IsGranted n (λ address. 0) c z asked.block (length (unfinished Channel.D (on_link c (trace_of log))))
    (run_of config log)
granted-truly {w} config log given n le c z right has with_data asked open_so = record {
  within = both.0;
  free = before.free;
  lanes_are = ap (λ (o : Option (List ℕ)). unwrap_or o []) lanes_is ∙ both.1;
}
  where
    past : History w
    past = on_link c (trace_of log)

    k : ℕ
    k = length (unfinished Channel.D past)

    granted : grants asked.block z past ≡ true
    granted = and_from (is_grant z.opcode) (asks_for asked.block (request_of z.source past)) (ap is_grant with_data)
        (open-asks _ (request_of z.source past) asked open_so)

    block_so : HasBlock (one_memory_after config log).memory asked.block z k
    block_so = has z refl asked.block granted with_data

    before : IsBefore config c asked.block n (unfinished Channel.D past) log
    before = granted-before config c asked.block n le log given (unfinished Channel.D past) refl
        (λ v rest u_is. let on = right.continues v rest u_is in grants-same asked.block z v past on.0 on.1 granted)
        (λ e. right.free n asked.block granted)

    f : Memory
    f = memory_in (λ address. 0) (run_before c k (run_of config log))

    lanes_is : z.lanes ≡ Some (take w (drop (w * k) block_so.bytes))
    lanes_is = let wide : w * k + w - w * k ≡ w = omega arith in
        block_so.lanes_are ∙ ap (λ (j : ℕ). Some (take j (drop (w * k) block_so.bytes))) wide

    both : (w * k + w ≤ 64) × (take w (drop (w * k) block_so.bytes) ≡ bytes_from f (64 * asked.block + w * k) w)
    both = lanes-from w k asked.block block_so.bytes f (positive w given.width) block_so.long
        (subst (λ (o : Option (List ℕ)). IfSome o (λ lanes. length lanes ≡ w)) lanes_is block_so.wide)
        (λ i lt. let here : (64 * asked.block + i) / 64 ≡ asked.block = omega (arith, lt) in
        before.memory (64 * asked.block + i) here ∙ block_so.block_is i lt)

-- ---- all of it

-- after this each block is as free by what may be held as by what is held
abbrev pub IsAsFree : {w : ℕ} → ℕ → Trace w → Type 0
IsAsFree n t = (given : Perm) (block : ℕ) → bytes.is_free n given block t ≡ is_free n None given block t

pub taken-well : {w : ℕ} (config : Config) (log : Log w) → IsGiven config log → (n : ℕ) (link : Link) (y : Beat w)
    → n ≤ length (levels_of config) → IsAsFree n ((link, y) ∷ trace_of log) → IsOnTime y (on_link link.0 (trace_of log))
    → IsToldOf (one_memory_after config log).memory link.0 y (trace_of log) → IsRightBeat link.0 y (trace_of log)
    → IsOfAccess (one_memory_after config log) link.0 y (trace_of log)
    → GrantsOther (one_memory_after config log) link.0 y → GrantsBlock (one_memory_after config log).memory link.0 y
    (trace_of log) → IsTakenWell n (one_memory_after config log) link y (run_of config log)
taken-well {w} config log given n link y le alike late told right of_access other block = record {
  told = subst (λ (t : Trace w). IsToldOf m.memory link.0 y t) (sym same) told;
  right = subst (λ (t : Trace w). IsRightBeat link.0 y t) (sym same) right;
  of_access = subst (λ (t : Trace w). IsOfAccess m link.0 y t) (sym same) of_access;
  grants_other = other;
  alike = subst (λ (t : Trace w). (k : Perm) (b : ℕ) → (bytes.is_free n k b t ≡ is_free n None k b t)
      × (bytes.is_free n k b ((link, y) ∷ t) ≡ is_free n None k b ((link, y) ∷ t))) (sym same)
      (λ k b. (free-world log given n k b le, alike k b));
  granted = λ z asked y_is with_data. subst (λ (t : Trace w). open_request z.source (on_link link.0 t) ≡ Some asked
      → IsGranted n (λ address. 0) link.0 z asked.block (length (unfinished Channel.D (on_link link.0 t)))
      (run_of config log)) (sym same)
      (granted-truly config log given n le link.0 z (subst (λ (b : Beat w). IsRightBeat link.0 b (trace_of log)) y_is
      right) (subst (λ (b : Beat w). GrantsBlock m.memory link.0 b (trace_of log)) y_is block) with_data asked);
  whole = λ s a r opened accesses. subst (λ (t : Trace w). comes link.0 s t ≡ false) (sym same)
      (answered-open config log given link.0 s a r opened accesses).whole;
  in_time = λ z y_is. subst (λ (t : Trace w). outruns z (on_link link.0 t) ≡ false) (sym same)
      (subst (λ (b : Beat w). IsOnTime b (on_link link.0 (trace_of log))) y_is late);
  aligned = λ s a r opened. aligned-open config log given link.0 s a r opened;
}
  where
    m : Machine w
    m = one_memory_after config log

    same : trace_in (run_of config log) ≡ trace_of log
    same = (beside-log config log given).trace_is
