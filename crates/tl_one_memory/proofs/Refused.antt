-- A worked run: a Put is denied and isn't performed, and a Get is answered by a corrupt beat that has other bytes than
-- it found.
use Rattle.tl_one_memory.proofs.Imports.{Beat, BeatD, Link, unfinished, on_link, effect}
use Rattle.tl_one_memory.proofs.Imports.{is_free, Access, carried_byte, pending_accesses, IsAnswer, IsPerformed}
use Rattle.tl_one_memory.proofs.Imports.{IsRun, IsTaken, Performs, Run, found_in, memory_in, trace_in}
use Rattle.std.proofs.Common.{◌≡◌, ◌-◌, ◌*◌, ◌/◌, ◌<◌, ℕ, Bool, true, false, [], ◌∷◌, refl, ap, ◌∙◌, inl, arith}
use Rattle.tl_rules.specs.statement.Admission.{bytes_carried}
use Rattle.tl_rules.specs.statement.Effect.{bytes_from, number_from}
use Rattle.tl_rules.specs.statement.History.{request_of}
use Rattle.tl_rules.specs.statement.Liberties.{held_under}
use Rattle.tl_bytes.specs.statement.Free.{all_liberties}
use Rattle.tl_bytes.specs.statement.Early.{outrun_accesses}
use Rattle.tl_bytes.specs.statement.Bytes.{carried_mask}
use Rattle.tl_bytes.proofs.WorkedBeats.{done, eight, found, get, put, spoilt}
use Rattle.tl_one_memory.specs.statement.Run.{everywhere}
use Rattle.tl_one_memory.proofs.Beatwise.{asks-as}
use Rattle.tl_one_memory.proofs.Wider.{at-link}
use Rattle.tl_one_memory.proofs.Worked.{answers-one, first-eight, is_written, pending_of}
use Rattle.tl_one_memory.proofs.Worked.{plain, response, takes, unequal, written, zeros}

-- the beat is a response that is denied
abbrev is_denied : Beat 8 → Bool
is_denied (Beat.D x) = x.denied
is_denied _ = false

abbrev denied : Link × Beat 8 → Link × Beat 8
denied (link, Beat.D x) = (link, Beat.D (record x { denied = true }))
denied x = x

-- ---- the run, after sevens were written

abbrev asked : Run 8
asked = takes (put 1 0 3 (eight 9) 255) ∷ written

abbrev refused : Run 8
refused = takes (denied (done 1 0 3)) ∷ asked

abbrev wanted : Run 8
wanted = takes (get 1 0 3 255) ∷ refused

abbrev looked : Run 8
looked = Performs 1 0 everywhere zeros ∷ wanted

abbrev corrupted : Run 8
corrupted = takes (spoilt (found 1 0 3 (eight 0))) ∷ looked

-- ---- what happens

asked-taken : IsTaken 2 zeros (at-link 1) (put 1 0 3 (eight 9) 255).1 written
unfolding trace_in found_in memory_in on_link unfinished pending_accesses outrun_accesses held_under all_liberties
    request_of is_free carried_byte carried_mask bytes_carried effect bytes_from number_from
asked-taken = plain (at-link 1) (put 1 0 3 (eight 9) 255).1 written refl (λ z e. absurd cc) (λ z address e. inl refl)
    (λ z access e. absurd cc)
    (λ z e. absurd cc) (λ block. refl) (λ block. refl)

refused-taken : IsTaken 2 zeros (at-link 1) (denied (done 1 0 3)).1 asked
unfolding trace_in found_in memory_in on_link unfinished pending_accesses outrun_accesses held_under all_liberties
    request_of is_free carried_byte carried_mask bytes_carried effect bytes_from number_from
refused-taken = plain (at-link 1) (denied (done 1 0 3)).1 asked refl (λ z e. refl) (λ z address e. absurd cc)
    (λ z access e granted. absurd (unequal (ap is_denied e ∙ granted))) (λ z e grant. cc) (λ block. refl)
    (λ block. refl)

get-taken : IsTaken 2 zeros (at-link 1) (get 1 0 3 255).1 refused
unfolding trace_in found_in memory_in on_link unfinished pending_accesses outrun_accesses held_under all_liberties
    request_of is_free carried_byte carried_mask bytes_carried effect bytes_from number_from
get-taken = plain (at-link 1) (get 1 0 3 255).1 refused refl (λ z e. absurd cc)
    (asks-as (at-link 1) _ refused (λ address. inl refl)) (λ z access e. absurd cc)
    (λ z e. absurd cc) (λ block. refl) (λ block. refl)

get-performed : IsPerformed 2 zeros 1 0 everywhere wanted
unfolding trace_in found_in memory_in on_link unfinished pending_accesses outrun_accesses held_under all_liberties
    request_of is_free carried_byte carried_mask bytes_carried effect bytes_from number_from
get-performed = record {
  access = _;
  pending = refl;
  once = λ address passes. refl;
  at_once = λ atomic address reached. refl;
  reads_free = λ address passes reached. inl refl;
  writes_free = λ address passes writing. absurd cc;
}

-- the byte is of the beat that is corrupt
at-first : (address : ℕ) → address < 8 → (address - 8 * (0 / 8)) / 8 ≡ 0
at-first address lt = omega (arith, lt)

get-answered : (z : BeatD 8) (access : Access 8)
    → IsAnswer zeros 1 (response (spoilt (found 1 0 3 (eight 0))).1 z) (pending_of 1 0 looked access) looked
unfolding trace_in found_in memory_in on_link unfinished pending_accesses outrun_accesses held_under all_liberties
    request_of is_free carried_mask bytes_carried effect bytes_from number_from
get-answered z access = record {
  written = λ address writing. refl;
  admitted = refl;
  undenied = λ y older begun. absurd cc;
  lanes_fit = omega arith;
  brings = λ reads address reached come. record {
    byte = memory_in zeros wanted address;
    found_is = refl;
    carried_is = inl (rw (at-first address (first-eight address reached)) refl);
  };
}

corrupted-taken : IsTaken 2 zeros (at-link 1) (spoilt (found 1 0 3 (eight 0))).1 looked
unfolding trace_in found_in memory_in on_link unfinished pending_accesses outrun_accesses held_under all_liberties
    request_of is_free carried_byte carried_mask bytes_carried effect bytes_from number_from
corrupted-taken = plain (at-link 1) (spoilt (found 1 0 3 (eight 0))).1 looked refl (λ z e. refl) (λ z address e. absurd cc)
    (λ z access e granted pending. answers-one zeros 1 (response (spoilt (found 1 0 3 (eight 0))).1 z)
    (pending_of 1 0 looked access) looked refl (get-answered z access) z access e pending)
    (λ z e grant. cc) (λ block. refl) (λ block. refl)

denies_and_corrupts : IsRun 2 zeros corrupted
unfolding IsRun
denies_and_corrupts = (
  corrupted-taken,
  (get-performed, (get-taken, (refused-taken, (asked-taken, is_written)))),
)

-- memory has the sevens still
and_the_put_left_nothing : memory_in zeros corrupted 0 ≡ 7
unfolding trace_in memory_in on_link unfinished pending_accesses outrun_accesses carried_byte carried_mask bytes_carried
    effect
and_the_put_left_nothing = refl

-- ---- a request that is corrupt

abbrev corrupt : Link × Beat 8 → Link × Beat 8
corrupt (link, Beat.A x) = (link, Beat.A (record x { corrupt = true }))
corrupt x = x

a_corrupt_put_may_leave_any_bytes :
    memory_in zeros (Performs 0 0 everywhere (λ address. 5) ∷ takes (corrupt (put 0 0 3 (eight 9) 255)) ∷ []) 0 ≡ 5
unfolding trace_in memory_in on_link unfinished pending_accesses outrun_accesses carried_byte carried_mask bytes_carried
    effect
a_corrupt_put_may_leave_any_bytes = refl
