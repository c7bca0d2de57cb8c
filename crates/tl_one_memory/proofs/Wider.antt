-- A worked run in which a report shows a copy to which nothing was stored, a Get is performed behind it, and Trunk is
-- given up without data.
use Rattle.tl_one_memory.proofs.Imports.{Beat, BeatD, Link, reaches, unfinished, on_link, effect, block_at}
use Rattle.tl_one_memory.proofs.Imports.{is_free, Access, carried_byte, is_of, pending_accesses, IsAnswer, IsPerformed}
use Rattle.tl_one_memory.proofs.Imports.{IsRun, IsTaken, Performs, Run, found_in, memory_in, trace_in}
use Rattle.std.proofs.Common.{◌≡◌, ◌-◌, ◌*◌, ◌/◌, ◌%◌, ℕ, Bool, zero, suc, true, false, [], ◌∷◌}
use Rattle.std.proofs.Common.{refl, sym, ◌∙◌, inl, inr, arith}
use Rattle.std.specs.Prelude.{if◌then◌else◌, find, slice_get, unwrap_or, ◌==◌, ◌&&◌, Some, None}
use Rattle.tl_beat.{specs.declared.channel.Channel.Channel}
use Rattle.tl_beat.{specs.declared.opcode.OpB.OpB, specs.declared.opcode.OpC.OpC, specs.declared.opcode.OpD.OpD}
use Rattle.tl_params.specs.declared.perm.Perm.{Perm}
use Rattle.tl_rules.specs.statement.Admission.{bytes_carried}
use Rattle.tl_rules.specs.statement.Effect.{bytes_from, number_from}
use Rattle.tl_rules.specs.statement.Conformance.{Trace}
use Rattle.tl_rules.specs.statement.History.{pending, probe_of, request_of}
use Rattle.tl_rules.specs.statement.Liberties.{held_under}
use Rattle.tl_bytes.specs.statement.Free.{all_liberties, may_hold}
use Rattle.tl_bytes.specs.statement.Early.{outrun_accesses}
use Rattle.tl_rules.specs.statement.Windows.{leaves}
use Rattle.tl_bytes.specs.statement.Bytes.{carried_mask, could_be, tells}
use Rattle.tl_bytes.proofs.WorkedBeats.{acquire_unread, eight, found, get, grant_unread}
use Rattle.tl_one_memory.specs.statement.Run.{IsClean, MayBeRead, OneOf, TellsTrue, everywhere}
use Rattle.tl_one_memory.proofs.Worked.{AnswersLate, AsksRightly, answers-one, each-eight, first-eight}
use Rattle.tl_one_memory.proofs.Worked.{pending_of, plain, response, single, takes, unequal, zeros}

-- ---- beats of block 0

abbrev pub probed : ℕ → Link × Beat 8
probed cap = (
  record { 0 = 0 },
  Beat.B (record {
    opcode = OpB.ProbeBlock;
    param = cap;
    size = 6;
    source = 0;
    address = 0;
    mask = 255;
    lanes = None;
    corrupt = false;
    carries = refl;
  }),
)

abbrev pub reported : ℕ → Link × Beat 8
reported report = (
  record { 0 = 0 },
  Beat.C (record {
    opcode = OpC.ProbeAck;
    param = report;
    size = 6;
    source = 0;
    address = 0;
    lanes = None;
    corrupt = false;
    carries = refl;
  }),
)

-- ---- the run, from its first beat on

abbrev pub asked : Run 8
asked = takes (acquire_unread 0 0 255) ∷ []

abbrev pub owned : Run 8
owned = takes (grant_unread 0 0 0) ∷ asked

abbrev wanted : Run 8
wanted = takes (probed 0) ∷ takes (get 1 0 3 255) ∷ owned

abbrev shown : Run 8
shown = takes (reported 3) ∷ wanted

abbrev read : Run 8
read = takes (found 1 0 3 (eight 0)) ∷ Performs 1 0 everywhere zeros ∷ shown

abbrev given_up : Run 8
given_up = takes (reported 1) ∷ takes (probed 2) ∷ read

-- ---- what is taken

abbrev pub at-link : ℕ → Link
at-link n = record { 0 = n }

-- Trunk, where a test is passed, or else what was held before
abbrev pub trunk_if : Bool → Perm → Perm
trunk_if b before = unwrap_or (if b then Some Perm.Trunk else None) before

-- nothing, which an Acquire from nothing held says where a test is passed, and which was held before
abbrev pub none_if : Bool → Perm
none_if b = unwrap_or (if b then Some Perm.None else None) Perm.None

-- with it a block that no link holds stays free
pub free_if : (b : Bool) → ((leaves Perm.Branch (none_if b) && true) ≡ true)
    × ((leaves Perm.Trunk (none_if b) && true) ≡ true)
free_if true = (refl, refl)
free_if false = (refl, refl)

-- where as much is held of a block it is as free
pub free-as : (given : Perm) (block : ℕ) (s t : Trace 8) → may_hold block (on_link 0 s) ≡ may_hold block (on_link 0 t)
    → may_hold block (on_link 1 s) ≡ may_hold block (on_link 1 t) → is_free 2 given block s ≡ is_free 2 given block t
unfolding is_free
free-as given block s t e f = rw (e, f) refl

-- a beat that tells nothing, is no Grant, and leaves each block as free as it was
pub still : (link : Link) (x : Beat 8) (run : Run 8) → unfinished Channel.D (on_link link.0 (trace_in run)) ≡ []
    → AnswersLate link x run → AsksRightly link x run
    → ((z : BeatD 8) (access : Access 8) → x ≡ Beat.D z → z.denied ≡ false
    → find (is_of link.0 z.source) (pending_accesses (trace_in run)) ≡ Some access → IsAnswer zeros link.0 z access run)
    → ((z : BeatD 8) → x ≡ Beat.D z → z.opcode ≡ OpD.GrantData → ⊥)
    → ((block : ℕ) → tells block x (on_link link.0 (trace_in run)) ≡ false)
    → ((given : Perm) (block : ℕ)
    → is_free 2 given block ((link, x) ∷ trace_in run) ≡ is_free 2 given block (trace_in run))
    → IsTaken 2 zeros link x run
still link x run fresh late asks answers no_grant untold same =
    single link x run fresh late asks answers no_grant
    (λ address free told. absurd (unequal (sym told ∙ untold (block_at address))))
    (λ address held_so free. absurd (unequal (sym free ∙ same Perm.Branch (block_at address) ∙ held_so)))

pub asked-taken : IsTaken {w = 8} 2 zeros (at-link 0) (acquire_unread 0 0 255).1 []
unfolding trace_in found_in memory_in on_link unfinished pending_accesses outrun_accesses held_under all_liberties
    request_of is_free carried_byte carried_mask bytes_carried effect bytes_from number_from
asked-taken = plain (at-link 0) (acquire_unread 0 0 255).1 [] refl (λ z e. absurd cc) (λ z address e. inl refl) (λ z access e. absurd cc)
    (λ z e. absurd cc) (λ block. refl) (λ block. refl)

-- with a Grant of Trunk a block isn't free, if it is the one that is told of
pub granted_if : (b : Bool) → (leaves Perm.Branch (trunk_if b (none_if b)) && true) ≡ true → (b && true) ≡ true → ⊥
granted_if true f t = cc
granted_if false f t = cc

pub granted-taken : IsTaken 2 zeros (at-link 0) (grant_unread 0 0 0).1 asked
unfolding trace_in found_in memory_in on_link unfinished pending_accesses outrun_accesses held_under all_liberties
    request_of is_free carried_byte carried_mask bytes_carried effect bytes_from number_from
granted-taken = single (at-link 0) (grant_unread 0 0 0).1 asked refl (λ z e. refl) (λ z address e. absurd cc)
    (λ z access e granted pending. absurd cc) (λ z e grant. cc)
    (λ address free told. absurd (granted_if (0 == block_at address) free told))
    (λ address held_so free. absurd (unequal (sym (free_if (0 == block_at address)).0 ∙ held_so)))

get-taken : IsTaken 2 zeros (at-link 1) (get 1 0 3 255).1 owned
unfolding trace_in found_in memory_in on_link unfinished pending_accesses outrun_accesses held_under all_liberties
    request_of is_free carried_byte carried_mask bytes_carried effect bytes_from number_from
get-taken = still (at-link 1) (get 1 0 3 255).1 owned refl (λ z e. absurd cc) (λ z address e. inl refl) (λ z access e. absurd cc)
    (λ z e. absurd cc)
    (λ block. refl) (λ given block. refl)

probed-taken : IsTaken 2 zeros (at-link 0) (probed 0).1 (takes (get 1 0 3 255) ∷ owned)
unfolding trace_in found_in memory_in on_link unfinished pending_accesses outrun_accesses held_under all_liberties
    request_of is_free carried_byte carried_mask bytes_carried effect bytes_from number_from
probed-taken = still (at-link 0) (probed 0).1 (takes (get 1 0 3 255) ∷ owned) refl (λ z e. absurd cc) (λ z address e. absurd cc)
    (λ z access e. absurd cc) (λ z e. absurd cc) (λ block. refl) (λ given block. refl)

shown-taken : IsTaken 2 zeros (at-link 0) (reported 3).1 wanted
unfolding trace_in found_in memory_in on_link unfinished pending_accesses outrun_accesses held_under all_liberties
    request_of is_free carried_byte carried_mask bytes_carried effect bytes_from number_from
shown-taken = still (at-link 0) (reported 3).1 wanted refl (λ z e. absurd cc) (λ z address e. absurd cc) (λ z access e. absurd cc)
    (λ z e. absurd cc) (λ block. refl) same
  where
    same : (given : Perm) (block : ℕ) → is_free 2 given block ((at-link 0, (reported 3).1) ∷ trace_in wanted)
        ≡ is_free 2 given block (trace_in wanted)
    same given block = free-as given block ((at-link 0, (reported 3).1) ∷ trace_in wanted) (trace_in wanted)
        (go (0 == block)) refl
      where
        go : (b : Bool) → trunk_if b (trunk_if b (none_if b)) ≡ trunk_if b (none_if b)
        go true = refl
        go false = refl

-- ---- nothing is stored

either : {A B : Type 0} (b : Bool) → A → B → OneOf b A B
either true x y = x
either false x y = y

-- a Grant without data tells that a byte may be anything
tells-anything : (address : ℕ) → TellsTrue zeros address (at-link 0) (grant_unread 0 0 0).1 asked
unfolding trace_in memory_in on_link unfinished carried_byte
tells-anything address = go (address % 64 / 8 == 0) (address % 64 % 8)
  where
    go : (b : Bool) (n : ℕ) → could_be 0 (if b then slice_get [] n else None) ≡ true
    go true zero = refl
    go true (suc n) = refl
    go false n = refl

pub clean-owned : (address : ℕ) → IsClean 2 zeros address owned
unfolding IsClean trace_in on_link held_under all_liberties is_free unfinished
clean-owned address = inr (either (tells (block_at address) (grant_unread 0 0 0).1 (on_link 0 (trace_in asked)))
    (tells-anything address) (inl (free_if (0 == block_at address)).0))

clean-shown : (address : ℕ) → IsClean 2 zeros address shown
unfolding IsClean trace_in on_link unfinished
clean-shown address = inr (inr (inr (clean-owned address)))

clean-read : (address : ℕ) → IsClean 2 zeros address (takes (probed 2) ∷ read)
unfolding IsClean trace_in on_link unfinished
clean-read address = inr (inr (clean-shown address))

-- ---- the Get

may-be-read : (address : ℕ) → reaches 0 3 address ≡ true → MayBeRead 2 zeros address shown
unfolding trace_in on_link unfinished pending probe_of
may-be-read address reached =
    let here : address / 64 ≡ 0 = omega (arith, first-eight address reached) in
    inr (rw here refl, clean-shown address)

get-performed : IsPerformed 2 zeros 1 0 everywhere shown
unfolding trace_in found_in memory_in on_link unfinished pending_accesses outrun_accesses held_under all_liberties
    request_of is_free carried_byte carried_mask bytes_carried effect bytes_from number_from
get-performed = record {
  access = _;
  pending = refl;
  once = λ address passes. refl;
  at_once = λ atomic address reached. refl;
  reads_free = λ address passes reached. may-be-read address reached;
  writes_free = λ address passes writing. absurd cc;
}

abbrev looked : Run 8
looked = Performs 1 0 everywhere zeros ∷ shown

zeros-found : (address : ℕ) → reaches 0 3 address ≡ true
    → carried_byte {w = 8} ((found 1 0 3 (eight 0)).1 ∷ []) (address - 8 * (0 / 8)) ≡ Some 0
unfolding carried_byte
zeros-found address reached =
    each-eight (λ k. carried_byte {w = 8} ((found 1 0 3 (eight 0)).1 ∷ []) (k - 8 * (0 / 8)) ≡ Some 0)
    refl refl refl refl refl refl refl refl address reached

get-answered : (z : BeatD 8) (access : Access 8)
    → IsAnswer zeros 1 (response (found 1 0 3 (eight 0)).1 z) (pending_of 1 0 looked access) looked
unfolding trace_in found_in memory_in on_link unfinished pending_accesses outrun_accesses held_under all_liberties
    request_of is_free carried_mask bytes_carried effect bytes_from number_from
get-answered z access = record {
  written = λ address writing. refl;
  admitted = refl;
  undenied = λ y older begun. absurd cc;
  lanes_fit = omega arith;
  brings = λ reads address reached come.
      record { byte = 0; found_is = refl; carried_is = inr (zeros-found address reached) };
}

found-taken : IsTaken 2 zeros (at-link 1) (found 1 0 3 (eight 0)).1 looked
unfolding trace_in found_in memory_in on_link unfinished pending_accesses outrun_accesses held_under all_liberties
    request_of is_free carried_byte carried_mask bytes_carried effect bytes_from number_from
found-taken = still (at-link 1) (found 1 0 3 (eight 0)).1 looked refl (λ z e. refl) (λ z address e. absurd cc)
    (λ z access e granted pending. answers-one zeros 1 (response (found 1 0 3 (eight 0)).1 z)
    (pending_of 1 0 looked access)
    looked refl (get-answered z access) z access e pending)
    (λ z e grant. cc) (λ block. refl) (λ given block. refl)

-- ---- Trunk is given up

probed-again : IsTaken 2 zeros (at-link 0) (probed 2).1 read
unfolding trace_in found_in memory_in on_link unfinished pending_accesses outrun_accesses held_under all_liberties
    request_of is_free carried_byte carried_mask bytes_carried effect bytes_from number_from
probed-again = still (at-link 0) (probed 2).1 read refl (λ z e. absurd cc) (λ z address e. absurd cc) (λ z access e. absurd cc)
    (λ z e. absurd cc) (λ block. refl) (λ given block. refl)

given_up-taken : IsTaken 2 zeros (at-link 0) (reported 1).1 (takes (probed 2) ∷ read)
unfolding trace_in found_in memory_in on_link unfinished pending_accesses outrun_accesses held_under all_liberties
    request_of is_free carried_byte carried_mask bytes_carried effect bytes_from number_from
given_up-taken = single (at-link 0) (reported 1).1 (takes (probed 2) ∷ read) refl (λ z e. absurd cc) (λ z address e. absurd cc)
    (λ z access e. absurd cc) (λ z e. absurd cc) (λ address free told. absurd cc)
    (λ address held_so free. inr (clean-read address))

shows_a_clean_copy : IsRun 2 zeros given_up
unfolding IsRun
shows_a_clean_copy = (
  given_up-taken,
  (
    probed-again,
    (
      found-taken,
      (
        get-performed,
        (shown-taken, (probed-taken, (get-taken, (granted-taken, (asked-taken, tt))))),
      ),
    ),
  ),
)
