-- A worked run in which a Put is written before its last beat, which writes nothing, and then another link gets Trunk
-- of the block: since its request was complete it has had no window in the sense of M4.
use Rattle.tl_one_memory.proofs.Imports.{Beat, BeatD, Link, unfinished, on_link, effect, block_at}
use Rattle.tl_one_memory.proofs.Imports.{is_free, Access, carried_byte, pending_accesses, IsAnswer}
use Rattle.tl_one_memory.proofs.Imports.{IsPerformed, IsRun, IsTaken, Performs, Run, found_in, memory_in, trace_in}
use Rattle.std.proofs.Common.{◌≡◌, ◌*◌, ◌/◌, ℕ, Bool, true, false, List, ◌∷◌, refl, sym, ◌∙◌, inl, arith}
use Rattle.std.specs.Prelude.{◌==◌, ◌++◌, if◌then◌else◌, is_some, nat_lt, Option, None, Some, slice_get}
use Rattle.std.proofs.lemmas.Bool.{lt-ltb}
use Rattle.tl_params.specs.declared.perm.Perm.{Perm}
use Rattle.tl_burst.specs.statement.Burst.{bit, byte_if, place_of}
use Rattle.tl_rules.specs.code.Open.{open_request}
use Rattle.tl_rules.specs.statement.Admission.{bytes_carried}
use Rattle.tl_rules.specs.statement.Effect.{bytes_from, number_from}
use Rattle.tl_rules.specs.statement.History.{pending, probe_of, request_of}
use Rattle.tl_rules.specs.statement.Liberties.{held_under}
use Rattle.tl_bytes.specs.statement.Free.{all_liberties}
use Rattle.tl_bytes.specs.statement.Early.{outrun_accesses}
use Rattle.tl_bytes.specs.statement.Bytes.{carried_mask}
unfoldable use Rattle.tl_bytes.specs.statement.Shown.{had_window}
use Rattle.tl_bytes.proofs.WorkedBeats.{done, eight, grant_unread, part}
use Rattle.tl_memory.proofs.{values.Payloads.bit_below, values.Puts.placed}
use Rattle.tl_one_memory.proofs.Beatwise.{first_half, half-asked}
use Rattle.tl_one_memory.proofs.Wider.{asked, asked-taken, at-link, free_if, granted_if, still}
use Rattle.tl_one_memory.proofs.Worked.{answers-one, pending_of, response, single, takes, unequal, zeros}

-- the two beats of a Put of 16 bytes, of which the second has no byte in its mask
abbrev sevens : Link × Beat 8
sevens = part 1 0 4 (eight 7) 255

abbrev nothing : Link × Beat 8
nothing = part 1 0 4 (eight 0) 0

-- ---- the run, after link 0 has asked for Trunk of block 0

abbrev begun : Run 8
begun = takes sevens ∷ asked

abbrev half_written : Run 8
half_written = Performs 1 0 first_half zeros ∷ begun

abbrev granted : Run 8
granted = takes (grant_unread 0 0 0) ∷ half_written

abbrev whole : Run 8
whole = takes nothing ∷ granted

abbrev answered : Run 8
answered = takes (done 1 0 4) ∷ whole

-- ---- what happens

begun-taken : IsTaken 2 zeros (at-link 1) sevens.1 asked
unfolding trace_in found_in memory_in on_link unfinished pending_accesses outrun_accesses held_under all_liberties
    request_of is_free carried_byte carried_mask bytes_carried effect bytes_from number_from
begun-taken = still (at-link 1) sevens.1 asked refl (λ z e. absurd cc) (λ z address e. inl refl) (λ z access e. absurd cc)
    (λ z e. absurd cc) (λ block. refl) (λ given block. refl)

half-performed : IsPerformed 2 zeros 1 0 first_half begun
unfolding trace_in found_in memory_in on_link unfinished pending_accesses outrun_accesses held_under all_liberties
    request_of is_free carried_byte carried_mask bytes_carried effect bytes_from number_from
half-performed = record {
  access = _;
  pending = refl;
  once = λ address passes. refl;
  at_once = λ atomic address reached. absurd cc;
  reads_free = λ address passes reached. inl (free_if (0 == block_at address)).0;
  writes_free = λ address passes writing. (free_if (0 == block_at address)).1;
}

granted-taken : IsTaken 2 zeros (at-link 0) (grant_unread 0 0 0).1 half_written
unfolding trace_in found_in memory_in on_link unfinished pending_accesses outrun_accesses held_under all_liberties
    request_of is_free carried_byte carried_mask bytes_carried effect bytes_from number_from
granted-taken = single (at-link 0) (grant_unread 0 0 0).1 half_written refl (λ z e. refl) (λ z address e. absurd cc)
    (λ z access e granted pending. absurd cc) (λ z e grant. cc)
    (λ address free told. absurd (granted_if (0 == block_at address) free told))
    (λ address held_so free. absurd (unequal (sym (free_if (0 == block_at address)).0 ∙ held_so)))

unwritten : (address : ℕ) → nat_lt address 8 ≡ false → found_in zeros 1 0 granted address ≡ None
unfolding trace_in found_in memory_in on_link unfinished pending_accesses outrun_accesses held_under all_liberties
    request_of is_free carried_byte carried_mask bytes_carried effect bytes_from number_from
unwritten address f = rw f refl

whole-taken : IsTaken 2 zeros (at-link 1) nothing.1 granted
unfolding trace_in found_in memory_in on_link unfinished pending_accesses outrun_accesses held_under all_liberties
    request_of is_free carried_byte carried_mask bytes_carried effect bytes_from number_from
whole-taken = still (at-link 1) nothing.1 granted refl (λ z e. absurd cc)
    (half-asked (at-link 1) _ _ granted refl refl refl refl refl unwritten) (λ z access e. absurd cc)
    (λ z e. absurd cc) (λ block. refl) (λ given block. refl)

-- what has a bit in the mask was written with the first beat
masked : (address : ℕ) (payload : List ℕ) (place : Option ℕ) → place_of 8 0 address ≡ place
    → is_some (byte_if (λ p. bit 255 p) payload place) ≡ true → is_some (found_in zeros 1 0 whole address) ≡ true
unfolding trace_in found_in memory_in on_link unfinished pending_accesses outrun_accesses held_under all_liberties
    request_of is_free carried_byte carried_mask bytes_carried effect bytes_from number_from
masked address payload None at_it some = absurd cc
masked address payload (Some p) at_it some = go (bit 255 p) refl some
  where
    go : (b : Bool) → bit 255 p ≡ b → is_some (if b then slice_get payload p else None) ≡ true
        → is_some (found_in zeros 1 0 whole address) ≡ true
    go true e some =
        let first = bit_below 255 8 p (omega arith) e in
        let same = (placed (8 * (0 / 8)) address p at_it).1 in
        rw (lt-ltb address 8 (omega (arith, first, same))) refl
    go false e some = absurd cc

put-answered : (z : BeatD 8) (access : Access 8)
    → IsAnswer zeros 1 (response (done 1 0 4).1 z) (pending_of 1 0 whole access) whole
unfolding trace_in found_in memory_in on_link unfinished pending_accesses outrun_accesses held_under all_liberties
    request_of is_free carried_mask bytes_carried effect bytes_from number_from
put-answered z access = record {
  written = λ address writing. masked address (eight 7 ++ eight 0) (place_of 8 0 address) refl writing;
  admitted = refl;
  undenied = λ y older begun. absurd cc;
  lanes_fit = omega arith;
  brings = λ reads address reached come. absurd cc;
}

done-taken : IsTaken 2 zeros (at-link 1) (done 1 0 4).1 whole
unfolding trace_in found_in memory_in on_link unfinished pending_accesses outrun_accesses held_under all_liberties
    request_of is_free carried_byte carried_mask bytes_carried effect bytes_from number_from
done-taken = still (at-link 1) (done 1 0 4).1 whole refl (λ z e. refl) (λ z address e. absurd cc)
    (λ z access e granted pending. answers-one zeros 1 (response (done 1 0 4).1 z) (pending_of 1 0 whole access) whole
    refl
    (put-answered z access) z access e pending)
    (λ z e grant. cc) (λ block. refl) (λ given block. refl)

pub is_a_run : IsRun 2 zeros answered
unfolding IsRun
is_a_run = (
  done-taken,
  (whole-taken, (granted-taken, (half-performed, (begun-taken, (asked-taken, tt))))),
)

-- before its answer it has had no window of its block since its request is complete: by M4 it may not be answered
and_has_no_window : had_window 2 1 0 Perm.Trunk 0 (trace_in whole) ≡ false
unfolding had_window trace_in on_link unfinished pending_accesses outrun_accesses held_under all_liberties request_of
    is_free pending probe_of
and_has_no_window = refl

its_request_is_open : is_some (open_request 0 (on_link 1 (trace_in whole))) ≡ true
unfolding trace_in on_link unfinished pending request_of
its_request_is_open = refl
