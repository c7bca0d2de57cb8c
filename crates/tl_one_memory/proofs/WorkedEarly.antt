-- A worked run: a Put is answered with the first of its two beats, written only after that, and read by another link
-- before its second beat has come.
use Rattle.tl_one_memory.proofs.Imports.{Beat, BeatD, reaches, unfinished, on_link, effect, is_free, Access}
use Rattle.tl_one_memory.proofs.Imports.{carried_byte, is_of, pending_accesses, same-some, IsAnswer, IsPerformed, IsRun}
use Rattle.tl_one_memory.proofs.Imports.{IsTaken, Leaves, Performs, Run, found_in, memory_in, trace_in}
use Rattle.std.proofs.Common.{◌≡◌, ◌-◌, ◌*◌, ◌/◌, ℕ, Bool, true, false, List, [], ◌∷◌, refl, sym, ap, ◌∙◌, arith, inl, inr}
use Rattle.std.proofs.Common.{subst}
use Rattle.std.specs.Prelude.{find, if◌then◌else◌, is_some, None, Option, Some, slice_get, ◌||◌}
use Rattle.std.proofs.lemmas.Bool.{le-leb, lt-ltb}
use Rattle.tl_beat.specs.declared.{beat.BeatA.BeatA, opcode.OpD.OpD}
use Rattle.tl_burst.specs.statement.Burst.{bit, byte_if, place_of}
use Rattle.tl_rules.specs.statement.Admission.{bytes_carried}
use Rattle.tl_rules.specs.statement.Conformance.{answers}
use Rattle.tl_rules.specs.statement.Effect.{Memory, bytes_from, number_from}
use Rattle.tl_rules.specs.statement.History.{request_of}
use Rattle.tl_rules.specs.statement.Liberties.{held_under}
use Rattle.tl_bytes.proofs.WorkedBeats.{done, eight, found, get}
use Rattle.tl_bytes.specs.statement.Bytes.{carried_mask, is_put}
use Rattle.tl_bytes.specs.statement.Early.{outrun_accesses, outruns}
use Rattle.tl_bytes.specs.statement.Free.{all_liberties}
use Rattle.tl_memory.proofs.{values.Payloads.bit_below, values.Puts.placed}
use Rattle.tl_one_memory.proofs.Beatwise.{asks-as, begun, begun-taken, nines}
use Rattle.tl_one_memory.proofs.Wider.{at-link}
use Rattle.tl_one_memory.proofs.Worked.{answers-one, each-eight, is_written, pending_of, plain, response, takes, unequal}
use Rattle.tl_one_memory.proofs.Worked.{zeros}
use Rattle.tl_one_memory.specs.statement.Run.{everywhere, may_have_written}

-- ---- the run, after the first beat of the Put

abbrev answered : Run 8
answered = takes (done 0 0 4) ∷ begun

-- each byte that it reaches is 9
abbrev nine : Memory
nine address = 9

abbrev wanted : Run 8
wanted = takes (get 1 0 3 255) ∷ Leaves 0 0 nine ∷ answered

abbrev looked : Run 8
looked = Performs 1 0 everywhere zeros ∷ wanted

abbrev whole : Run 8
whole = takes nines ∷ takes (found 1 0 3 (eight 9)) ∷ looked

-- ---- the early answer

-- what has come of the Put lies where the Put reaches
within : (address : ℕ) (payload : List ℕ) (place : Option ℕ) → place_of 8 0 address ≡ place
    → is_some (byte_if (λ p. bit 255 p) payload place) ≡ true → reaches 0 4 address ≡ true
within address payload None at_it some = absurd cc
within address payload (Some p) at_it some = go (bit 255 p) refl some
  where
    go : (b : Bool) → bit 255 p ≡ b → is_some (if b then slice_get payload p else None) ≡ true
        → reaches 0 4 address ≡ true
    go true e some =
        let first = bit_below 255 8 p (omega arith) e in
        let same = (placed (8 * (0 / 8)) address p at_it).1 in
        rw (le-leb 0 address (omega arith), lt-ltb address 16 (omega (arith, first, same))) refl
    go false e some = absurd cc

same_request : (y : BeatA 8) (older : List (Beat 8)) → nines.1 ∷ [] ≡ Beat.A y ∷ older → (y.address ≡ 0) × (y.size ≡ 4)
same_request y older e = (cc, cc)

same_d : (x y : BeatD 8) → Beat.D x ≡ Beat.D y → y ≡ x
same_d x y e = cc

abbrev ack : BeatD 8
ack = record {
  opcode = OpD.AccessAck;
  param = 0;
  size = 4;
  source = 0;
  sink = 0;
  denied = false;
  lanes = None;
  corrupt = false;
  carries = refl;
}

-- what the Put may have written
own : (address : ℕ) → may_have_written 0 0 address (trace_in begun) ≡ true → reaches 0 4 address ≡ true
unfolding trace_in found_in memory_in on_link unfinished pending_accesses outrun_accesses held_under all_liberties
    request_of is_free carried_byte carried_mask bytes_carried effect bytes_from number_from
own address written = within address (eight 9) (place_of 8 0 address) refl (one _ written)
  where
    one : (b : Bool) → b || false ≡ true → b ≡ true
    one true e = refl
    one false e = e

-- it is the access that is pending
pending-put : (access : Access 8) → find (is_of 0 0) (pending_accesses (trace_in begun)) ≡ Some access
    → (is_put access.request.opcode ≡ true) × (answers OpD.AccessAck access.request.opcode ≡ true)
unfolding trace_in found_in memory_in on_link unfinished pending_accesses outrun_accesses held_under all_liberties
    request_of is_free carried_byte carried_mask bytes_carried effect bytes_from number_from
pending-put access pending = rw (same-some (pending_of 0 0 begun access) access pending) (refl, refl)

early-taken : IsTaken 2 zeros (at-link 0) (done 0 0 4).1 begun
unfolding trace_in found_in memory_in on_link unfinished pending_accesses outrun_accesses held_under all_liberties
    request_of is_free carried_byte carried_mask bytes_carried effect bytes_from number_from
early-taken = record {
  asks_new = λ z address e. absurd cc;
  asks_first = λ z y older e. absurd cc;
  outruns_own = λ z y older address e early begun_so written.
      let same = same_request y older begun_so in
      rw (same.0, same.1) (own address (subst (λ (i : BeatD 8). may_have_written 0 i.source address (trace_in begun)
      ≡ true) (same_d ack z e) written));
  outruns_put = λ z access e early pending.
      subst (λ (i : BeatD 8). find (is_of 0 i.source) (pending_accesses (trace_in begun)) ≡ Some access
      → (is_put access.request.opcode ≡ true) × (answers i.opcode access.request.opcode ≡ true)) (sym (same_d ack z e))
      (pending-put access) pending;
  continues = λ z y older e begun_so. absurd cc;
  answers_rightly = λ z access e no_ack granted late. absurd (unequal (subst (λ (i : BeatD 8). outruns i
      (on_link 0 (trace_in begun)) ≡ false) (same_d ack z e) late));
  grants_rightly = λ z asked e grant. absurd (let no : OpD.AccessAck ≡ OpD.GrantData =
      ap (λ (i : BeatD 8). i.opcode) (sym (same_d ack z e)) ∙ grant in cc);
  tells_rightly = λ address free told. absurd cc;
  given_up_rightly = λ address held_so free. absurd cc;
}

-- ---- the Get

get-taken : IsTaken 2 zeros (at-link 1) (get 1 0 3 255).1 (Leaves 0 0 nine ∷ answered)
unfolding trace_in found_in memory_in on_link unfinished pending_accesses outrun_accesses held_under all_liberties
    request_of is_free carried_byte carried_mask bytes_carried effect bytes_from number_from
get-taken = plain (at-link 1) (get 1 0 3 255).1 (Leaves 0 0 nine ∷ answered) refl (λ z e. absurd cc)
    (λ z address e. inl refl) (λ z access e. absurd cc) (λ z e. absurd cc) (λ block. refl) (λ block. refl)

get-performed : IsPerformed 2 zeros 1 0 everywhere wanted
unfolding trace_in found_in memory_in on_link unfinished pending_accesses outrun_accesses held_under all_liberties
    request_of is_free carried_byte carried_mask bytes_carried effect bytes_from number_from
get-performed = record {
  access = _;
  pending = refl;
  once = λ address passes. refl;
  at_once = λ atomic address reached. refl;
  reads_free = λ address passes reached. inl refl;
  writes_free = λ address passes writing. refl;
}

-- memory has what the Put left
nines-found : (address : ℕ) → reaches 0 3 address ≡ true → carried_byte {w = 8} ((found 1 0 3 (eight 9)).1 ∷ [])
    (address - 8 * (0 / 8)) ≡ Some (memory_in zeros wanted address)
unfolding trace_in found_in memory_in on_link unfinished pending_accesses outrun_accesses held_under all_liberties
    request_of is_free carried_byte carried_mask bytes_carried effect bytes_from number_from
nines-found address reached =
    each-eight (λ k. carried_byte {w = 8} ((found 1 0 3 (eight 9)).1 ∷ []) (k - 8 * (0 / 8))
    ≡ Some (memory_in zeros wanted k)) refl refl refl refl refl refl refl refl address reached

get-answered : (z : BeatD 8) (access : Access 8)
    → IsAnswer zeros 1 (response (found 1 0 3 (eight 9)).1 z) (pending_of 1 0 looked access) looked
unfolding trace_in found_in memory_in on_link unfinished pending_accesses outrun_accesses held_under all_liberties
    request_of is_free carried_byte carried_mask bytes_carried effect bytes_from number_from
get-answered z access = record {
  written = λ address writing. refl;
  admitted = refl;
  undenied = λ y older begun. absurd cc;
  lanes_fit = omega arith;
  brings = λ reads address reached come.
      record { byte = memory_in zeros wanted address; found_is = refl; carried_is = inr (nines-found address reached) };
}

found-taken : IsTaken 2 zeros (at-link 1) (found 1 0 3 (eight 9)).1 looked
unfolding trace_in found_in memory_in on_link unfinished pending_accesses outrun_accesses held_under all_liberties
    request_of is_free carried_byte carried_mask bytes_carried effect bytes_from number_from
found-taken = plain (at-link 1) (found 1 0 3 (eight 9)).1 looked refl (λ z e. refl) (λ z address e. absurd cc)
    (λ z access e granted pending. answers-one zeros 1 (response (found 1 0 3 (eight 9)).1 z)
    (pending_of 1 0 looked access) looked refl (get-answered z access) z access e pending)
    (λ z e grant. cc) (λ block. refl) (λ block. refl)

-- ---- the second beat of the Put

more-taken : IsTaken 2 zeros (at-link 0) nines.1 (takes (found 1 0 3 (eight 9)) ∷ looked)
unfolding trace_in found_in memory_in on_link unfinished pending_accesses outrun_accesses held_under all_liberties
    request_of is_free carried_byte carried_mask bytes_carried effect bytes_from number_from
more-taken = plain (at-link 0) nines.1 (takes (found 1 0 3 (eight 9)) ∷ looked) refl (λ z e. absurd cc)
    (asks-as (at-link 0) _ (takes (found 1 0 3 (eight 9)) ∷ looked) (λ address. inl refl)) (λ z access e. absurd cc)
    (λ z e. absurd cc) (λ block. refl) (λ block. refl)

answers_early : IsRun 2 zeros whole
unfolding IsRun
answers_early = (
  more-taken,
  (found-taken, (get-performed, (get-taken, (tt, (early-taken, (begun-taken, is_written)))))),
)
