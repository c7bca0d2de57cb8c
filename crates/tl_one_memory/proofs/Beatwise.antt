-- A worked run: a memory writes each beat of a Put as it comes, and another link reads the first before the second has
-- come. No run in which the Put is performed at once carries that.
use Rattle.tl_one_memory.proofs.Imports.{Beat, BeatD, Link, reaches, unfinished, on_link, effect}
use Rattle.tl_one_memory.proofs.Imports.{is_free, may_be, Access, carried_byte, pending_accesses}
use Rattle.tl_one_memory.proofs.Imports.{windows_since, IsAnswer, IsPerformed, IsRun, IsTaken, Performs, Run, found_in}
use Rattle.tl_one_memory.proofs.Imports.{Trace, before_last, memory_in, trace_in}
use Rattle.std.proofs.Common.{length, ◌≡◌, ◌-◌, ◌*◌, ◌/◌, ◌⊎◌, ℕ, Bool, true}
use Rattle.std.proofs.Common.{false, [], ◌∷◌, refl, arith, inl, inr, subst}
use Rattle.std.specs.Prelude.{is_some, nat_le, nat_lt, Some, None}
use Rattle.std.proofs.lemmas.Bool.{cases_lt, le-leb, le-ltb, leb-true, lt-leb, lt-ltb}
use Rattle.tl_beat.{specs.declared.beat.BeatA.BeatA}
use Rattle.tl_beat.{specs.declared.channel.Channel.Channel, specs.declared.opcode.OpD.OpD}
use Rattle.tl_burst.specs.statement.Messages.{same_control}
use Rattle.tl_rules.specs.statement.Admission.{bytes_carried, lanes_of}
use Rattle.tl_rules.specs.statement.Effect.{bytes_from, number_from}
use Rattle.tl_rules.specs.statement.History.{request_of}
use Rattle.tl_rules.specs.statement.Liberties.{held_under}
use Rattle.tl_bytes.specs.statement.Free.{all_liberties}
use Rattle.tl_bytes.specs.statement.Early.{outrun_accesses}
use Rattle.tl_bytes.specs.statement.Bytes.{carried_mask, each_from, is_put, is_true, may_read, window_began}
use Rattle.tl_bytes.proofs.WorkedBeats.{done, eight, found, get, put}
use Rattle.tl_one_memory.specs.statement.Run.{GoesOn, everywhere}
use Rattle.tl_one_memory.proofs.Wider.{at-link}
use Rattle.tl_one_memory.proofs.Worked.{AsksRightly, answers-one, each-eight, is_written}
use Rattle.tl_one_memory.proofs.Worked.{pending_of, plain, response, takes, written, zeros}

-- ---- the run, from its first beat on

-- a beat of a Put of 16 nines
abbrev pub nines : Link × Beat 8
nines = put 0 0 4 (eight 9) 255

-- the bytes of its first beat, and those of its second
abbrev pub first_half : ℕ → Bool
first_half address = nat_lt address 8

abbrev second_half : ℕ → Bool
second_half address = nat_le 8 address

abbrev pub begun : Run 8
begun = takes nines ∷ written

abbrev half_written : Run 8
half_written = Performs 0 0 first_half zeros ∷ begun

abbrev wanted : Run 8
wanted = takes (get 1 0 3 255) ∷ half_written

abbrev looked : Run 8
looked = Performs 1 0 everywhere zeros ∷ wanted

abbrev read : Run 8
read = takes (found 1 0 3 (eight 9)) ∷ looked

abbrev whole : Run 8
whole = takes nines ∷ read

abbrev all_written : Run 8
all_written = Performs 0 0 second_half zeros ∷ whole

abbrev answered : Run 8
answered = takes (done 0 0 4) ∷ all_written

-- ---- what is asked for

same_a : (x y : BeatA 8) → Beat.A x ≡ Beat.A y → x ≡ y
same_a x y e = cc

-- what is asked for with this beat
pub asks-as : (link : Link) (y : BeatA 8) (run : Run 8)
    → ((address : ℕ) → (found_in zeros link.0 y.source run address ≡ None)
    ⊎ GoesOn y (unfinished Channel.A (on_link link.0 (trace_in run))) address) → AsksRightly link (Beat.A y) run
asks-as link y run asks z address e = subst (λ (b : BeatA 8). (found_in zeros link.0 b.source run address ≡ None)
    ⊎ GoesOn b (unfinished Channel.A (on_link link.0 (trace_in run))) address) (same_a y z e) (asks address)

-- the second beat of a Put, the first of which was written
pub half-asked : (link : Link) (x y : BeatA 8) (run : Run 8) → is_put y.opcode ≡ true → y.address ≡ 0
    → same_control (Beat.A y) (Beat.A x) ≡ true → length (lanes_of (Beat.A x)) ≡ 8
    → unfinished Channel.A (on_link link.0 (trace_in run)) ≡ Beat.A x ∷ []
    → ((address : ℕ) → nat_lt address 8 ≡ false → found_in zeros link.0 y.source run address ≡ None)
    → AsksRightly link (Beat.A y) run
half-asked link x y run put low same long begun_so unwritten =
    asks-as link y run (λ address. go address (nat_lt address 8) refl)
  where
    place : (address : ℕ) → address - 8 * (0 / 8) ≡ address
    place address = omega arith

    go : (address : ℕ) (b : Bool) → nat_lt address 8 ≡ b → (found_in zeros link.0 y.source run address ≡ None)
        ⊎ GoesOn y (unfinished Channel.A (on_link link.0 (trace_in run))) address
    go address true f = inr (record {
      came = rw (begun_so, put, low, place address) f;
      newest = x;
      older = [];
      burst_is = begun_so;
      same = same;
      wide = rw begun_so (long, tt);
    })
    go address false f = inl (unwritten address f)

-- ---- what happens

pub begun-taken : IsTaken 2 zeros (at-link 0) nines.1 written
unfolding trace_in found_in memory_in on_link unfinished pending_accesses outrun_accesses held_under all_liberties
    request_of is_free carried_byte carried_mask bytes_carried effect bytes_from number_from
begun-taken = plain (at-link 0) nines.1 written refl (λ z e. absurd cc) (asks-as (at-link 0) _ written (λ address. inl refl))
    (λ z access e. absurd cc)
    (λ z e. absurd cc) (λ block. refl) (λ block. refl)

half-performed : IsPerformed 2 zeros 0 0 first_half begun
unfolding trace_in found_in memory_in on_link unfinished pending_accesses outrun_accesses held_under all_liberties
    request_of is_free carried_byte carried_mask bytes_carried effect bytes_from number_from
half-performed = record {
  access = _;
  pending = refl;
  once = λ address passes. refl;
  at_once = λ atomic address reached. absurd cc;
  reads_free = λ address passes reached. inl refl;
  writes_free = λ address passes writing. refl;
}

get-taken : IsTaken 2 zeros (at-link 1) (get 1 0 3 255).1 half_written
unfolding trace_in found_in memory_in on_link unfinished pending_accesses outrun_accesses held_under all_liberties
    request_of is_free carried_byte carried_mask bytes_carried effect bytes_from number_from
get-taken = plain (at-link 1) (get 1 0 3 255).1 half_written refl (λ z e. absurd cc) (λ z address e. inl refl) (λ z access e. absurd cc)
    (λ z e. absurd cc) (λ block. refl) (λ block. refl)

get-performed : IsPerformed 2 zeros 1 0 everywhere wanted
unfolding trace_in found_in memory_in on_link unfinished pending_accesses outrun_accesses held_under all_liberties
    request_of is_free carried_byte carried_mask bytes_carried effect bytes_from number_from
get-performed = record {
  access = _;
  pending = refl;
  once = λ address passes. refl;
  at_once = λ atomic address reached. refl;
  reads_free = λ address passes reached. inl refl;
  writes_free = λ address passes writing. absurd cc;
}

-- memory has the bytes of the first beat
nines-found : (address : ℕ) → reaches 0 3 address ≡ true
    → carried_byte {w = 8} ((found 1 0 3 (eight 9)).1 ∷ []) (address - 8 * (0 / 8)) ≡ Some
    (memory_in zeros wanted address)
unfolding trace_in found_in memory_in on_link unfinished pending_accesses outrun_accesses held_under all_liberties
    request_of is_free carried_byte carried_mask bytes_carried effect bytes_from number_from
nines-found address reached = each-eight (λ k. carried_byte {w = 8} ((found 1 0 3 (eight 9)).1 ∷ []) (k - 8 * (0 / 8))
    ≡ Some (memory_in zeros wanted k)) refl refl refl refl refl refl refl refl address reached

get-answered : (z : BeatD 8) (access : Access 8)
    → IsAnswer zeros 1 (response (found 1 0 3 (eight 9)).1 z) (pending_of 1 0 looked access) looked
unfolding trace_in found_in memory_in on_link unfinished pending_accesses outrun_accesses held_under all_liberties
    request_of is_free carried_mask bytes_carried effect bytes_from number_from
get-answered z access = record {
  written = λ address writing. refl;
  admitted = refl;
  undenied = λ y older begun. absurd cc;
  lanes_fit = omega arith;
  brings = λ reads address reached come.
      record { byte = memory_in zeros wanted address; found_is = refl; carried_is = inr (nines-found address reached) };
}

found-taken : IsTaken 2 zeros (at-link 1) (found 1 0 3 (eight 9)).1 looked
unfolding trace_in found_in memory_in on_link unfinished pending_accesses outrun_accesses held_under all_liberties
    request_of is_free carried_byte carried_mask bytes_carried effect bytes_from number_from
found-taken = plain (at-link 1) (found 1 0 3 (eight 9)).1 looked refl (λ z e. refl) (λ z address e. absurd cc)
    (λ z access e granted pending. answers-one zeros 1 (response (found 1 0 3 (eight 9)).1 z)
    (pending_of 1 0 looked access) looked
    refl (get-answered z access) z access e pending)
    (λ z e grant. cc) (λ block. refl) (λ block. refl)

-- the second beat of the Put asks for the bytes that weren't written yet
unwritten : (address : ℕ) → nat_lt address 8 ≡ false → found_in zeros 0 0 read address ≡ None
unfolding trace_in found_in memory_in on_link unfinished pending_accesses outrun_accesses held_under all_liberties
    request_of is_free carried_byte carried_mask bytes_carried effect bytes_from number_from
unwritten address f = rw f refl

more-taken : IsTaken 2 zeros (at-link 0) nines.1 read
unfolding trace_in found_in memory_in on_link unfinished pending_accesses outrun_accesses held_under all_liberties
    request_of is_free carried_byte carried_mask bytes_carried effect bytes_from number_from
more-taken = plain (at-link 0) nines.1 read refl (λ z e. absurd cc) (half-asked (at-link 0) _ _ read refl refl refl refl refl unwritten)
    (λ z access e. absurd cc)
    (λ z e. absurd cc) (λ block. refl) (λ block. refl)

rest-performed : IsPerformed 2 zeros 0 0 second_half whole
unfolding trace_in found_in memory_in on_link unfinished pending_accesses outrun_accesses held_under all_liberties
    request_of is_free carried_byte carried_mask bytes_carried effect bytes_from number_from
rest-performed = record {
  access = _;
  pending = refl;
  once = λ address passes. rw (le-ltb address 8 (leb-true 8 address passes)) refl;
  at_once = λ atomic address reached. absurd cc;
  reads_free = λ address passes reached. inl refl;
  writes_free = λ address passes writing. refl;
}

-- each byte was written with its beat
each-written : (address : ℕ) → is_some (found_in zeros 0 0 all_written address) ≡ true
unfolding trace_in found_in memory_in on_link unfinished pending_accesses outrun_accesses held_under all_liberties
    request_of is_free carried_byte carried_mask bytes_carried effect bytes_from number_from
each-written address = elim (cases_lt address 8) [
  | inl first ↦ rw (lt-leb 8 address first, lt-ltb address 8 first) refl
  | inr second ↦ rw (le-leb 8 address second) refl
]

put-answered : (z : BeatD 8) (access : Access 8)
    → IsAnswer zeros 0 (response (done 0 0 4).1 z) (pending_of 0 0 all_written access) all_written
unfolding trace_in found_in memory_in on_link unfinished pending_accesses outrun_accesses held_under all_liberties
    request_of is_free carried_mask bytes_carried effect bytes_from number_from
put-answered z access = record {
  written = λ address writing. each-written address;
  admitted = refl;
  undenied = λ y older begun. absurd cc;
  lanes_fit = omega arith;
  brings = λ reads address reached come. absurd cc;
}

done-taken : IsTaken 2 zeros (at-link 0) (done 0 0 4).1 all_written
unfolding trace_in found_in memory_in on_link unfinished pending_accesses outrun_accesses held_under all_liberties
    request_of is_free carried_byte carried_mask bytes_carried effect bytes_from number_from
done-taken = plain (at-link 0) (done 0 0 4).1 all_written refl (λ z e. refl) (λ z address e. absurd cc)
    (λ z access e granted pending. answers-one zeros 0 (response (done 0 0 4).1 z) (pending_of 0 0 all_written access)
    all_written
    refl (put-answered z access) z access e pending) (λ z e grant. cc) (λ block. refl) (λ block. refl)

writes_as_beats_come : IsRun 2 zeros answered
unfolding IsRun
writes_as_beats_come = (
  done-taken,
  (
    rest-performed,
    (
      more-taken,
      (found-taken, (get-performed, (get-taken, (half-performed, (begun-taken, is_written))))),
    ),
  ),
)

-- what was read is true by M3
and_keeps_m3 : (z : BeatD 8) → is_true OpD.AccessAckData 2 1 (response (found 1 0 3 (eight 9)).1 z) (trace_in looked)
    ≡ true
unfolding trace_in on_link unfinished pending_accesses outrun_accesses held_under all_liberties request_of is_free
    carried_byte carried_mask bytes_carried effect bytes_from may_be may_read each_from windows_since window_began
    before_last
and_keeps_m3 z = refl

-- ---- a Get of two beats, after 16 sevens were written, and the first beat of a Put of nines has come

abbrev half_read : Trace 8
half_read = found 1 0 4 (eight 9) ∷ get 1 0 4 255 ∷ nines ∷ done 0 0 4 ∷ put 0 0 4 (eight 7) 255 ∷ put 0 0 4 (eight 7)
    255 ∷ []

each_beat_may_be_read_by_itself : (z : BeatD 8)
    → is_true OpD.AccessAckData 2 1 (response (found 1 0 4 (eight 7)).1 z) half_read ≡ true
unfolding on_link unfinished pending_accesses outrun_accesses held_under all_liberties request_of is_free carried_byte
    carried_mask bytes_carried effect bytes_from may_be may_read each_from windows_since window_began before_last
each_beat_may_be_read_by_itself z = refl

but_not_before_it_came : (z : BeatD 8)
    → is_true OpD.AccessAckData 2 1 (response (found 1 0 4 (eight 9)).1 z) half_read ≡ false
unfolding on_link unfinished pending_accesses outrun_accesses held_under all_liberties request_of is_free carried_byte
    carried_mask bytes_carried effect bytes_from may_be may_read each_from windows_since window_began before_last
but_not_before_it_came z = refl
