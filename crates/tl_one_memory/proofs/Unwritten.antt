-- A worked run in which a Put is performed that writes no byte, beside one who may write the block: it has no window in
-- the sense of M4.
use Rattle.tl_one_memory.proofs.Imports.{Beat, BeatD, Link, reaches, unfinished, on_link, effect}
use Rattle.tl_one_memory.proofs.Imports.{is_free, Access, carried_byte, pending_accesses, IsAnswer}
use Rattle.tl_one_memory.proofs.Imports.{IsPerformed, IsRun, IsTaken, Performs, Run, found_in, memory_in, trace_in}
use Rattle.std.proofs.Common.{◌≡◌, ◌/◌, ℕ, Bool, true, false, List, ◌∷◌, refl, ap, inl, inr, arith}
use Rattle.std.specs.Prelude.{Option, Some, None, is_some, ◌==◌}
use Rattle.std.proofs.lemmas.Nat.Bits.{bit_at-zero}
use Rattle.tl_beat.{specs.declared.beat.BeatD.BeatD}
use Rattle.tl_burst.specs.statement.Burst.{bit, byte_if, place_of}
use Rattle.tl_params.specs.declared.perm.Perm.{Perm}
use Rattle.tl_rules.specs.code.Open.{open_request}
use Rattle.tl_rules.specs.statement.Admission.{bytes_carried}
use Rattle.tl_rules.specs.statement.Effect.{bytes_from, number_from}
use Rattle.tl_rules.specs.statement.History.{pending, probe_of, request_of}
use Rattle.tl_rules.specs.statement.Liberties.{held_under}
use Rattle.tl_bytes.specs.statement.Free.{all_liberties}
use Rattle.tl_bytes.specs.statement.Early.{outrun_accesses}
use Rattle.tl_bytes.specs.statement.Bytes.{carried_mask}
unfoldable use Rattle.tl_bytes.specs.statement.Shown.{had_window}
use Rattle.tl_bytes.proofs.WorkedBeats.{done, eight, part}
use Rattle.tl_one_memory.specs.statement.Run.{IsClean, MayBeRead, everywhere}
use Rattle.tl_one_memory.proofs.Worked.{answers-one, first-eight, pending_of, response, takes, zeros}
use Rattle.tl_one_memory.proofs.Wider.{asked-taken, at-link, clean-owned, free-as, granted-taken, none_if}
use Rattle.tl_one_memory.proofs.Wider.{owned, probed, reported, still, trunk_if}

-- a Put with no byte in its mask
abbrev put_nothing : Link × Beat 8
put_nothing = part 1 0 3 (eight 0) 0

-- ---- the run, after one with which link 0 owns block 0

abbrev wanted : Run 8
wanted = takes (probed 0) ∷ takes put_nothing ∷ owned

abbrev shown : Run 8
shown = takes (reported 3) ∷ wanted

abbrev performed : Run 8
performed = Performs 1 0 everywhere zeros ∷ shown

abbrev answered : Run 8
answered = takes (done 1 0 3) ∷ performed

-- ---- what is taken

put-taken : IsTaken 2 zeros (at-link 1) put_nothing.1 owned
unfolding trace_in found_in memory_in on_link unfinished pending_accesses outrun_accesses held_under all_liberties
    request_of is_free carried_byte carried_mask bytes_carried effect bytes_from number_from
put-taken = still (at-link 1) put_nothing.1 owned refl (λ z e. absurd cc) (λ z address e. inl refl) (λ z access e. absurd cc)
    (λ z e. absurd cc)
    (λ block. refl) (λ given block. refl)

probed-taken : IsTaken 2 zeros (at-link 0) (probed 0).1 (takes put_nothing ∷ owned)
unfolding trace_in found_in memory_in on_link unfinished pending_accesses outrun_accesses held_under all_liberties
    request_of is_free carried_byte carried_mask bytes_carried effect bytes_from number_from
probed-taken = still (at-link 0) (probed 0).1 (takes put_nothing ∷ owned) refl (λ z e. absurd cc) (λ z address e. absurd cc)
    (λ z access e. absurd cc) (λ z e. absurd cc) (λ block. refl) (λ given block. refl)

shown-taken : IsTaken 2 zeros (at-link 0) (reported 3).1 wanted
unfolding trace_in found_in memory_in on_link unfinished pending_accesses outrun_accesses held_under all_liberties
    request_of is_free carried_byte carried_mask bytes_carried effect bytes_from number_from
shown-taken = still (at-link 0) (reported 3).1 wanted refl (λ z e. absurd cc) (λ z address e. absurd cc) (λ z access e. absurd cc)
    (λ z e. absurd cc) (λ block. refl) same
  where
    same : (given : Perm) (block : ℕ) → is_free 2 given block ((at-link 0, (reported 3).1) ∷ trace_in wanted)
        ≡ is_free 2 given block (trace_in wanted)
    same given block = free-as given block ((at-link 0, (reported 3).1) ∷ trace_in wanted) (trace_in wanted)
        (go (0 == block)) refl
      where
        go : (b : Bool) → trunk_if b (trunk_if b (none_if b)) ≡ trunk_if b (none_if b)
        go true = refl
        go false = refl

-- ---- the Put

no_bit : (p : ℕ) → bit 0 p ≡ false
no_bit p = ap (λ n. n == 1) (bit_at-zero p)

-- no place of it counts
unwritten : (payload : List ℕ) (place : Option ℕ) → is_some (byte_if (λ p. bit 0 p) payload place) ≡ false
unwritten payload None = refl
unwritten payload (Some p) = rw (no_bit p) refl

clean-shown : (address : ℕ) → IsClean 2 zeros address shown
unfolding IsClean trace_in on_link unfinished
clean-shown address = inr (inr (inr (clean-owned address)))

may-be-read : (address : ℕ) → reaches 0 3 address ≡ true → MayBeRead 2 zeros address shown
unfolding trace_in on_link unfinished pending probe_of
may-be-read address reached =
    let here : address / 64 ≡ 0 = omega (arith, first-eight address reached) in
    inr (rw here refl, clean-shown address)

put-performed : IsPerformed 2 zeros 1 0 everywhere shown
unfolding trace_in found_in memory_in on_link unfinished pending_accesses outrun_accesses held_under all_liberties
    request_of is_free carried_byte carried_mask bytes_carried effect bytes_from number_from
put-performed = record {
  access = _;
  pending = refl;
  once = λ address passes. refl;
  at_once = λ atomic address reached. refl;
  reads_free = λ address passes reached. may-be-read address reached;
  writes_free = λ address passes writing. absurd (let no = unwritten (eight 0) (place_of 8 0 address) in cc);
}

put-answered : (z : BeatD 8) (access : Access 8)
    → IsAnswer zeros 1 (response (done 1 0 3).1 z) (pending_of 1 0 performed access) performed
unfolding trace_in found_in memory_in on_link unfinished pending_accesses outrun_accesses held_under all_liberties
    request_of is_free carried_mask bytes_carried effect bytes_from number_from
put-answered z access = record {
  written = λ address writing. refl;
  admitted = refl;
  undenied = λ y older begun. absurd cc;
  lanes_fit = omega arith;
  brings = λ reads address reached come. absurd cc;
}

done-taken : IsTaken 2 zeros (at-link 1) (done 1 0 3).1 performed
unfolding trace_in found_in memory_in on_link unfinished pending_accesses outrun_accesses held_under all_liberties
    request_of is_free carried_byte carried_mask bytes_carried effect bytes_from number_from
done-taken = still (at-link 1) (done 1 0 3).1 performed refl (λ z e. refl) (λ z address e. absurd cc)
    (λ z access e granted pending. answers-one zeros 1 (response (done 1 0 3).1 z) (pending_of 1 0 performed access)
    performed refl (put-answered z access) z access e pending)
    (λ z e grant. cc) (λ block. refl) (λ given block. refl)

pub is_a_run : IsRun 2 zeros answered
unfolding IsRun
is_a_run = (
  done-taken,
  (put-performed, (shown-taken, (probed-taken, (put-taken, (granted-taken, (asked-taken, tt)))))),
)

-- before its answer it has had no window of its block: by M4 it may not be answered
and_has_no_window : had_window 2 1 0 Perm.Trunk 0 (trace_in performed) ≡ false
unfolding had_window trace_in on_link unfinished pending_accesses outrun_accesses held_under all_liberties request_of
    is_free pending probe_of
and_has_no_window = refl

its_request_is_open : is_some (open_request 0 (on_link 1 (trace_in performed))) ≡ true
unfolding trace_in on_link unfinished pending request_of
its_request_is_open = refl
