-- The beats of a message behind those of a channel.
use Rattle.std.proofs.Common.{◌≡◌, ℕ, List, [], ◌∷◌, ◌++◌, ◌+◌, ◌-◌, ◌≤◌, ◌<◌, length, refl, ap, ◌∙◌, arith}
use Rattle.std.proofs.lemmas.List.{length-append, append_assoc}
use Rattle.circular_buffer.specs.Buffer.{Buffer, buffer, keep_last}
use Rattle.tl_beat.specs.declared.beat.Beat.{Beat}
use Rattle.tl_burst.specs.declared.message.Message.{Message}
use Rattle.tl_burst.specs.statement.Burst.{beats_of, beat_of}
use Rattle.tl_rules.specs.statement.Legality.{beats_from}
use Rattle.tl_coherence.proofs.queues.Beats.{beats_from-next, length-beats_from}

-- a list that has room is kept whole
kept_whole : {X : Type 0} (n : ℕ) (xs : List X) → length xs ≤ n → keep_last n xs ≡ xs
kept_whole n xs few = let none : length xs - n ≡ 0 = omega arith in rw none refl

-- one more beat
pub pushed : {w : ℕ} (m : Message w) (i n : ℕ) (old items : List (Beat w)) (new : Buffer (Beat w)) (x : Beat w)
    → new ≡ buffer (keep_last n (items ++ x ∷ [])) n
    → x ≡ beat_of m i → i < beats_of m → items ≡ old ++ beats_from m 0 i → length old + beats_of m ≤ n
    → new.items ≡ old ++ beats_from m 0 (i + 1)
pushed {w} m i n old items new x is beat inside so_far room =
    let longer : items ++ x ∷ [] ≡ old ++ beats_from m 0 (i + 1) =
    rw (so_far, beat, beats_from-next m i) (append_assoc old (beats_from m 0 i) (beat_of m i ∷ [])) in
    let few : length (old ++ beats_from m 0 (i + 1)) ≤ n =
    omega (arith, length-append old (beats_from m 0 (i + 1)), length-beats_from m 0 (i + 1)) in
    ap (λ (b : Buffer (Beat w)). b.items) is ∙ rw longer (kept_whole n (old ++ beats_from m 0 (i + 1)) few)
