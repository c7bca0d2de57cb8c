-- What is known of each beat that a run of one memory takes.
use Rattle.tl_commit_memory.proofs.Imports.{Beat, Channel, IsRun, IsTaken, Link, Memory, Run, Takes, carried_byte}
use Rattle.tl_commit_memory.proofs.Imports.{BeatD, IsClean, Perm, block_at, is_free, is_release_ack, memory_in, on_link}
use Rattle.tl_commit_memory.proofs.Imports.{found_in, trace_in, unfinished}
use Rattle.std.proofs.Common.{◌⊎◌, ◌/◌, length, ◌≡◌, ℕ, Bool, true, false, not, ◌&&◌, List, [], ◌∷◌, inl, inr, refl}
use Rattle.std.proofs.Common.{sym, ◌∙◌}
use Rattle.std.specs.Prelude.{if◌then◌else◌, find, is_some, Some, ◌==◌, ◌||◌}
use Rattle.std.proofs.lemmas.Bool.{and_parts, not-true}
use Rattle.tl_rules.specs.statement.History.{ends}
use Rattle.tl_rules.specs.statement.{Admission.is_spoiled, Conformance.comes_in_request}
use Rattle.tl_bytes.specs.statement.Bytes.{tells}
use Rattle.tl_bytes.specs.statement.Early.{outruns}
use Rattle.tl_one_memory.proofs.Covered.{IsOrderly}
use Rattle.tl_one_memory.proofs.Known.{Answers, IsDone, clean-free}
use Rattle.tl_one_memory.proofs.Performed.{asked-again, some-value}
use Rattle.tl_one_memory.specs.statement.Run.{TellsTrue, place_in, spoiled_at}

-- an answer without a corrupt or denied beat isn't denied
sound-granted : {w : ℕ} (z : BeatD w) (older : List (Beat w)) → is_some (find is_spoiled (Beat.D z ∷ older)) ≡ false
    → z.denied ≡ false
sound-granted {w} z older e = go z.corrupt z.denied e
  where
    go : (a b : Bool) → is_some (if a || b then Some (Beat.D z) else find is_spoiled older) ≡ false → b ≡ false
    go true b e = absurd cc
    go false true e = absurd cc
    go false false e = refl

-- no place of it is that of such a beat
sound-at : {w : ℕ} (burst : List (Beat w)) (p : ℕ) → is_some (find is_spoiled burst) ≡ false
    → spoiled_at burst p ≡ false
sound-at [] p e = refl
sound-at {w} (x ∷ older) p e = go (is_spoiled x) refl e (p / w == length older) (sound-at older p)
  where
    go : (a : Bool) → is_spoiled x ≡ a → is_some (if a then Some x else find is_spoiled older) ≡ false → (b : Bool)
        → (is_some (find is_spoiled older) ≡ false → spoiled_at older p ≡ false)
        → (if b then is_spoiled x else spoiled_at older p) ≡ false
    go true f e b rest = absurd cc
    go false f e true rest = f
    go false f e false rest = rest e

-- what it brings at a place is what was found
sound-carried : {w : ℕ} (burst : List (Beat w)) (p v : ℕ) → is_some (find is_spoiled burst) ≡ false
    → (spoiled_at burst p ≡ true) ⊎ (carried_byte burst p ≡ Some v) → carried_byte burst p ≡ Some v
sound-carried burst p v sound (inr is) = is
sound-carried burst p v sound (inl spoilt) = absurd (let no : true ≡ false = sym spoilt ∙ sound-at burst p sound in cc)

module _ {w : ℕ} (n : ℕ) (first : Memory) (address : ℕ) (link : Link) (x : Beat w) (run : Run w)
    (taken : IsTaken n first link x run) (is : IsRun n first run) where
  pub orderly : IsOrderly n address (memory_in first run address) (IsDone first run address) (Answers first run)
      (link, x) (trace_in run)
  orderly = record {
    asks_again = λ c s p now done.
        (asked-again n first c s p link x run address done.0 taken is done.1 now).0;
    answers_done = λ z p e completes pending writing.
        let whole = and_parts (not (is_release_ack z.opcode) && ends (Beat.D z) (on_link link.0 (trace_in run)))
        (not (comes_in_request z.source (unfinished Channel.A (on_link link.0 (trace_in run))))) completes in
        let both = and_parts (not (is_release_ack z.opcode)) (ends (Beat.D z) (on_link link.0 (trace_in run)))
        whole.0 in
        let late : outruns z (on_link link.0 (trace_in run)) ≡ false =
        rw (both.0, not-true (comes_in_request z.source (unfinished Channel.A (on_link link.0 (trace_in run)))) whole.1)
        refl in
        let no_ack = not-true (is_release_ack z.opcode) both.0 in (
          λ granted. some-value (found_in first link.0 z.source run address)
              ((taken.answers_rightly z p e no_ack granted late pending).written address writing),
          λ sound reads k reached.
              let answer = taken.answers_rightly z p e no_ack
              (sound-granted z (unfinished Channel.D (on_link link.0 (trace_in run))) sound)
              late pending in
              let brought = answer.brings reads k reached (inr completes) in
              sound-carried (Beat.D z ∷ unfinished Channel.D (on_link link.0 (trace_in run))) (place_in p k)
              brought.byte
              sound brought.carried_is ∙ sym brought.found_is,
        );
    outruns_own = λ c s written now z older begun.
        taken.outruns_own now.beat z older address now.beat_is now.early begun
        (rw (← now.link_is, ← now.source_is) written);
  }

  -- a message tells the byte as memory has it, where no client has stored to its copy since
  pub told-so : IsClean n first address (Takes link x ∷ run)
      → tells (block_at address) x (on_link link.0 (trace_in run)) ≡ true → TellsTrue first address link x run
  unfolding IsClean
  told-so clean e = elim clean [
    | inl free ↦ taken.tells_rightly address free e
    | inr by ↦ rw e at by
  ]

  -- and otherwise none had before
  pub clean-before : IsClean n first address (Takes link x ∷ run)
      → tells (block_at address) x (on_link link.0 (trace_in run)) ≡ false → IsClean n first address run
  unfolding IsClean
  clean-before clean e = elim clean [
    | inr by ↦ rw e at by
    | inl free ↦ was (is_free n Perm.Branch (block_at address) (trace_in run)) refl free
  ]
    where
      was : (b : Bool) → is_free n Perm.Branch (block_at address) (trace_in run) ≡ b
          → is_free n Perm.Branch (block_at address) ((link, x) ∷ trace_in run) ≡ true
          → IsClean n first address run
      was true f free = clean-free n first address run is f
      was false f free = elim (taken.given_up_rightly address f free) [
        | inl told ↦ absurd (let no : false ≡ true = sym e ∙ told in cc)
        | inr clean ↦ clean
      ]
