-- A worked run: one link writes eight bytes, and then another reads them.
use Rattle.tl_one_memory.proofs.Imports.{Beat, BeatD, Link, reaches, unfinished, on_link, Memory, effect, block_at}
use Rattle.tl_one_memory.proofs.Imports.{is_free, is_release_ack, Access, carried_byte, is_of, pending_accesses, IsAnswer, IsPerformed}
use Rattle.tl_one_memory.proofs.Imports.{IsRun, IsTaken, Performs, Run, Takes, found_in, memory_in, trace_in}
use Rattle.std.proofs.Common.{◌≡◌, ◌-◌, ◌*◌, ◌/◌, ◌&&◌, ℕ, zero, suc, Bool, true, false, not, List, [], ◌∷◌, refl, sym, ◌∙◌, subst}
use Rattle.std.proofs.Common.{arith, inl, inr, ◌⊎◌, ◌<◌}
use Rattle.std.specs.Prelude.{find, nat_le, nat_lt, Some, None, unwrap_or}
use Rattle.std.proofs.lemmas.Bool.{and_parts, ltb-true}
use Rattle.tl_beat.{specs.declared.beat.BeatA.BeatA, specs.declared.channel.Channel.Channel}
use Rattle.tl_beat.{specs.declared.opcode.OpD.OpD}
use Rattle.tl_params.specs.declared.perm.Perm.{Perm}
use Rattle.tl_rules.specs.statement.Admission.{bytes_carried}
use Rattle.tl_rules.specs.statement.Effect.{bytes_from, number_from}
use Rattle.tl_rules.specs.statement.History.{request_of}
use Rattle.tl_rules.specs.statement.Liberties.{held_under}
use Rattle.tl_bytes.specs.statement.Free.{all_liberties}
use Rattle.tl_bytes.specs.statement.Early.{outrun_accesses, outruns}
use Rattle.tl_bytes.specs.statement.Bytes.{carried_mask, tells}
use Rattle.tl_bytes.proofs.WorkedBeats.{done, eight, found, get, put}
use Rattle.tl_one_memory.specs.statement.Run.{GoesOn, Happening, IsClean, TellsTrue, everywhere}

abbrev pub zeros : Memory
zeros address = 0

-- the beat is taken on its link
abbrev pub takes : Link × Beat 8 → Happening 8
takes x = Takes x.0 x.1

-- a Put of sevens is asked for, performed and answered
abbrev pub written : Run 8
written = takes (done 0 0 3) ∷ Performs 0 0 everywhere zeros ∷ takes (put 0 0 3 (eight 7) 255) ∷ []

-- and then a Get
abbrev read : Run 8
read = takes (found 1 0 3 (eight 7)) ∷ Performs 1 0 everywhere zeros ∷ takes (get 1 0 3 255) ∷ written

same_d : (x y : BeatD 8) → Beat.D x ≡ Beat.D y → x ≡ y
same_d x y e = cc

-- an answer to the access that is pending with its source
pub answers-one : (first : Memory) (link : ℕ) (x : BeatD 8) (p : Access 8) (run : Run 8)
    → find (is_of link x.source) (pending_accesses (trace_in run)) ≡ Some p → IsAnswer first link x p run
    → (z : BeatD 8) (access : Access 8) → Beat.D x ≡ Beat.D z
    → find (is_of link z.source) (pending_accesses (trace_in run)) ≡ Some access → IsAnswer first link z access run
answers-one first link x p run is answer z access e =
    subst (λ (i : BeatD 8). find (is_of link i.source) (pending_accesses (trace_in run)) ≡ Some access
    → IsAnswer first link i access run) (same_d x z e)
    (λ pending. subst (λ (q : Access 8). IsAnswer first link x q run) (same p access is pending) answer)
  where
    same : (q r : Access 8) → find (is_of link x.source) (pending_accesses (trace_in run)) ≡ Some q
        → find (is_of link x.source) (pending_accesses (trace_in run)) ≡ Some r → q ≡ r
    same q r f g = cc

nil-cons : {X : Type 0} (x : X) (xs : List X) → [] ≡ x ∷ xs → ⊥
nil-cons x xs e = cc

pub unequal : true ≡ false → ⊥
unequal e = cc

-- with the beat no byte of an access is asked for that was performed, but those of a Put that have come
abbrev pub AsksRightly : Link → Beat 8 → Run 8 → Type 0
AsksRightly link x run = (z : BeatA 8) (address : ℕ) → x ≡ Beat.A z
    → (found_in zeros link.0 z.source run address ≡ None)
    ⊎ GoesOn z (unfinished Channel.A (on_link link.0 (trace_in run))) address

-- no request is unfinished at a response
abbrev pub AnswersLate : Link → Beat 8 → Run 8 → Type 0
AnswersLate link x run = (z : BeatD 8) → x ≡ Beat.D z → unfinished Channel.A (on_link link.0 (trace_in run)) ≡ []

-- a beat that begins where no response has, and grants no data
pub single : (link : Link) (x : Beat 8) (run : Run 8) → unfinished Channel.D (on_link link.0 (trace_in run)) ≡ []
    → AnswersLate link x run → AsksRightly link x run
    → ((z : BeatD 8) (access : Access 8) → x ≡ Beat.D z → z.denied ≡ false
    → find (is_of link.0 z.source) (pending_accesses (trace_in run)) ≡ Some access → IsAnswer zeros link.0 z access run)
    → ((z : BeatD 8) → x ≡ Beat.D z → z.opcode ≡ OpD.GrantData → ⊥)
    → ((address : ℕ) → is_free 2 Perm.Branch (block_at address) ((link, x) ∷ trace_in run) ≡ true
    → tells (block_at address) x (on_link link.0 (trace_in run)) ≡ true → TellsTrue zeros address link x run)
    → ((address : ℕ) → is_free 2 Perm.Branch (block_at address) (trace_in run) ≡ false
    → is_free 2 Perm.Branch (block_at address) ((link, x) ∷ trace_in run) ≡ true
    → (tells (block_at address) x (on_link link.0 (trace_in run)) ≡ true) ⊎ IsClean 2 zeros address run)
    → IsTaken 2 zeros link x run
single link x run fresh late asks answers no_grant tells_so gives = record {
  asks_new = λ z address e asked. asks z address e;
  asks_first = λ z y older e asked begun no_ack same. nil-cons (Beat.D y) older (sym fresh ∙ begun);
  outruns_own = λ z y older address e early begun. absurd (nil-cons (Beat.A y) older (sym (late z e) ∙ begun));
  outruns_put = λ z access e early. absurd (unequal (sym early ∙ in-time z (late z e)));
  continues = λ z y older e begun. absurd (nil-cons (Beat.D y) older (sym fresh ∙ begun));
  answers_rightly = λ z access e no_ack granted in_time pending. answers z access e granted pending;
  grants_rightly = λ z asked e grant sound open_so sure. absurd (no_grant z e grant);
  tells_rightly = λ address free told. tells_so address free told;
  given_up_rightly = λ address held_so free. gives address held_so free;
}
  where
    in-time : (z : BeatD 8) → unfinished Channel.A (on_link link.0 (trace_in run)) ≡ []
        → outruns z (on_link link.0 (trace_in run)) ≡ false
    in-time z none = rw none (never (not (is_release_ack z.opcode)))
      where
        never : (b : Bool) → b && false ≡ false
        never true = refl
        never false = refl

-- one that tells nothing, where no link holds anything
pub plain : (link : Link) (x : Beat 8) (run : Run 8) → unfinished Channel.D (on_link link.0 (trace_in run)) ≡ []
    → AnswersLate link x run → AsksRightly link x run
    → ((z : BeatD 8) (access : Access 8) → x ≡ Beat.D z → z.denied ≡ false
    → find (is_of link.0 z.source) (pending_accesses (trace_in run)) ≡ Some access → IsAnswer zeros link.0 z access run)
    → ((z : BeatD 8) → x ≡ Beat.D z → z.opcode ≡ OpD.GrantData → ⊥)
    → ((block : ℕ) → tells block x (on_link link.0 (trace_in run)) ≡ false)
    → ((block : ℕ) → is_free 2 Perm.Branch block (trace_in run) ≡ true) → IsTaken 2 zeros link x run
plain link x run fresh late asks answers no_grant untold before =
    single link x run fresh late asks answers no_grant
    (λ address free told. absurd (unequal (sym told ∙ untold (block_at address))))
    (λ address held_so free. absurd (unequal (sym (before (block_at address)) ∙ held_so)))

-- a response in a beat, and an access among those that are pending
abbrev pub response : Beat 8 → BeatD 8 → BeatD 8
response (Beat.D x) other = x
response _ other = other

abbrev pub pending_of : ℕ → ℕ → Run 8 → Access 8 → Access 8
pending_of link source run other = unwrap_or (find (is_of link source) (pending_accesses (trace_in run))) other

put-taken : IsTaken {w = 8} 2 zeros (record { 0 = 0 }) (put 0 0 3 (eight 7) 255).1 []
unfolding trace_in found_in memory_in on_link unfinished pending_accesses outrun_accesses held_under all_liberties
    request_of is_free carried_byte carried_mask bytes_carried effect bytes_from number_from
put-taken = plain (record { 0 = 0 }) (put 0 0 3 (eight 7) 255).1 [] refl (λ z e. absurd cc) (λ z address e. inl refl)
    (λ z access e. absurd cc)
    (λ z e. absurd cc) (λ block. refl) (λ block. refl)

abbrev asked : Run 8
asked = takes (put 0 0 3 (eight 7) 255) ∷ []

put-performed : IsPerformed 2 zeros 0 0 everywhere asked
unfolding trace_in found_in memory_in on_link unfinished pending_accesses outrun_accesses held_under all_liberties
    request_of is_free carried_byte carried_mask bytes_carried effect bytes_from number_from
put-performed = record {
  access = _;
  pending = refl;
  once = λ address passes. refl;
  at_once = λ atomic address reached. refl;
  reads_free = λ address passes reached. inl refl;
  writes_free = λ address passes written. refl;
}

abbrev performed : Run 8
performed = Performs 0 0 everywhere zeros ∷ asked

put-answered : (z : BeatD 8) (access : Access 8)
    → IsAnswer zeros 0 (response (done 0 0 3).1 z) (pending_of 0 0 performed access) performed
unfolding trace_in found_in memory_in on_link unfinished pending_accesses outrun_accesses held_under all_liberties
    request_of is_free carried_byte carried_mask bytes_carried effect bytes_from number_from
put-answered z access = record {
  written = λ address writing. refl;
  admitted = refl;
  undenied = λ y older begun. absurd cc;
  lanes_fit = omega arith;
  brings = λ reads address reached come. absurd cc;
}

done-taken : IsTaken 2 zeros (record { 0 = 0 }) (done 0 0 3).1 performed
unfolding trace_in found_in memory_in on_link unfinished pending_accesses outrun_accesses held_under all_liberties
    request_of is_free carried_byte carried_mask bytes_carried effect bytes_from number_from
done-taken = plain (record { 0 = 0 }) (done 0 0 3).1 performed refl (λ z e. refl) (λ z address e. absurd cc)
    (λ z access e granted pending. answers-one zeros 0 (response (done 0 0 3).1 z) (pending_of 0 0 performed access)
    performed
    refl (put-answered z access) z access e pending) (λ z e grant. cc) (λ block. refl) (λ block. refl)

get-taken : IsTaken 2 zeros (record { 0 = 1 }) (get 1 0 3 255).1 written
unfolding trace_in found_in memory_in on_link unfinished pending_accesses outrun_accesses held_under all_liberties
    request_of is_free carried_byte carried_mask bytes_carried effect bytes_from number_from
get-taken = plain (record { 0 = 1 }) (get 1 0 3 255).1 written refl (λ z e. absurd cc) (λ z address e. inl refl) (λ z access e. absurd cc)
    (λ z e. absurd cc) (λ block. refl) (λ block. refl)

abbrev wanted : Run 8
wanted = takes (get 1 0 3 255) ∷ written

get-performed : IsPerformed 2 zeros 1 0 everywhere wanted
unfolding trace_in found_in memory_in on_link unfinished pending_accesses outrun_accesses held_under all_liberties
    request_of is_free carried_byte carried_mask bytes_carried effect bytes_from number_from
get-performed = record {
  access = _;
  pending = refl;
  once = λ address passes. refl;
  at_once = λ atomic address reached. refl;
  reads_free = λ address passes reached. inl refl;
  writes_free = λ address passes writing. refl;
}

abbrev looked : Run 8
looked = Performs 1 0 everywhere zeros ∷ wanted

pub first-eight : (address : ℕ) → reaches 0 3 address ≡ true → address < 8
first-eight address reached = ltb-true address 8 (and_parts (nat_le 0 address) (nat_lt address 8) reached).1

-- so it is of all of them, if it is of each
pub each-eight : (P : ℕ → Type 0) → P 0 → P 1 → P 2 → P 3 → P 4 → P 5 → P 6 → P 7 → (address : ℕ)
    → reaches 0 3 address ≡ true → P address
each-eight P a b c d e f g h zero reached = a
each-eight P a b c d e f g h (suc zero) reached = b
each-eight P a b c d e f g h (suc (suc zero)) reached = c
each-eight P a b c d e f g h (suc (suc (suc zero))) reached = d
each-eight P a b c d e f g h (suc (suc (suc (suc zero)))) reached = e
each-eight P a b c d e f g h (suc (suc (suc (suc (suc zero))))) reached = f
each-eight P a b c d e f g h (suc (suc (suc (suc (suc (suc zero)))))) reached = g
each-eight P a b c d e f g h (suc (suc (suc (suc (suc (suc (suc zero))))))) reached = h
each-eight P a b c d e f g h (suc (suc (suc (suc (suc (suc (suc (suc n)))))))) reached =
    absurd (omega (arith, first-eight (suc (suc (suc (suc (suc (suc (suc (suc n)))))))) reached))

-- memory has the bytes that were written
sevens : (address : ℕ) → reaches 0 3 address ≡ true → carried_byte {w = 8} ((found 1 0 3 (eight 7)).1 ∷ [])
    (address - 8 * (0 / 8)) ≡ Some (memory_in zeros wanted address)
unfolding trace_in found_in memory_in on_link unfinished pending_accesses outrun_accesses held_under all_liberties
    request_of is_free carried_byte carried_mask bytes_carried effect bytes_from number_from
sevens address reached = each-eight (λ k. carried_byte {w = 8} ((found 1 0 3 (eight 7)).1 ∷ []) (k - 8 * (0 / 8))
    ≡ Some (memory_in zeros wanted k)) refl refl refl refl refl refl refl refl address reached

get-answered : (z : BeatD 8) (access : Access 8)
    → IsAnswer zeros 1 (response (found 1 0 3 (eight 7)).1 z) (pending_of 1 0 looked access) looked
unfolding trace_in found_in memory_in on_link unfinished pending_accesses outrun_accesses held_under all_liberties
    request_of is_free carried_byte carried_mask bytes_carried effect bytes_from number_from
get-answered z access = record {
  written = λ address writing. refl;
  admitted = refl;
  undenied = λ y older begun. absurd cc;
  lanes_fit = omega arith;
  brings = λ reads address reached come.
      record { byte = memory_in zeros wanted address; found_is = refl; carried_is = inr (sevens address reached) };
}

found-taken : IsTaken 2 zeros (record { 0 = 1 }) (found 1 0 3 (eight 7)).1 looked
unfolding trace_in found_in memory_in on_link unfinished pending_accesses outrun_accesses held_under all_liberties
    request_of is_free carried_byte carried_mask bytes_carried effect bytes_from number_from
found-taken = plain (record { 0 = 1 }) (found 1 0 3 (eight 7)).1 looked refl (λ z e. refl) (λ z address e. absurd cc)
    (λ z access e granted pending. answers-one zeros 1 (response (found 1 0 3 (eight 7)).1 z)
    (pending_of 1 0 looked access)
    looked refl (get-answered z access) z access e pending)
    (λ z e grant. cc) (λ block. refl) (λ block. refl)

pub is_written : IsRun 2 zeros written
unfolding IsRun
is_written = (done-taken, (put-performed, (put-taken, tt)))

reads_what_was_written : IsRun 2 zeros read
unfolding IsRun
reads_what_was_written = (found-taken, (get-performed, (get-taken, is_written)))
