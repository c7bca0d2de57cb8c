-- An input that is judged, piece by piece, and what its handler has of it.
use Rattle.std.proofs.Common.{◌≡◌, ℕ, List, [], ◌++◌, inl, inr, take}
use Rattle.std.specs.Prelude.{Result, Ok, Err, IfOk, Option}
use Rattle.std.specs.Io.KnownBytes.{Consumes, IsAtEnd}
use Rattle.std.proofs.KnownBytes.{Consumes-trans}
use Rattle.std.proofs.lemmas.List.{append-nil}
use Rattle.tl_lines.specs.declared.lines.Lines.{Lines}
use Rattle.tl_lines.specs.declared.status.Status.{Status}
use Rattle.tl_lines.specs.declared.status.Status.TheVariants.{Clean, Broken}
use Rattle.tl_lines.specs.declared.status.ToolFault.{ToolFault}
use Rattle.tl_lines.specs.statement.Lines.{lines_of}
use Rattle.tl_lines.specs.code.Progress.{EndsWithin, Feeds, FinishesInput, HasAll, Progress}
use Rattle.tl_lines.specs.code.Run.{Stands}
use Rattle.tl_lines.specs.statement.Run.{EndsAs}

module _ {H : Type 0} (knows : H → List (List ℕ) → List ℕ → Type 0) (tells : List (List ℕ) → List ℕ → Status → Type 0)
  where
    -- the piece that was read last is judged
    pub judges_on : (had left now : Option (List ℕ)) (state new : Lines H) (piece was is : List ℕ)
        → (read : List ℕ) × Consumes had left read × Progress knows state read was → Consumes left now piece
        → Feeds knows tells state new piece was is Clean
        → (read : List ℕ) × Consumes had now read × Progress knows new read is
    judges_on had left now state new piece was is (read, consumed, p) more feeds =
        (read ++ piece, Consumes-trans had left now read piece consumed more, feeds read [] p)

    module _ (ends : H → List (List ℕ) → Type 0) where
      -- a line of it is at fault
      pub judged_until : (had left now : Option (List ℕ)) (state new : Lines H) (piece was is : List ℕ)
          → (read : List ℕ) × Consumes had left read × Progress knows state read was → Consumes left now piece
          → Feeds knows tells state new piece was is Broken → EndsWithin knows ends state new.handler piece was
          → (read : List ℕ) × Consumes had now read × tells (lines_of read) is Broken × EndsAs tells now read is Broken
          × HasAll knows ends new.handler (lines_of read) Broken × Stands ends now read new.handler
      judged_until had left now state new piece was is (read, consumed, p) more feeds has = (
        read ++ piece,
        Consumes-trans had left now read piece consumed more,
        rw append-nil at (feeds read [] p []),
        inl (feeds read [] p),
        rw append-nil at (has read [] p []),
        inl (has read [] p),
      )

      -- the end of the input is judged
      pub judged_end : (r : Result Status ToolFault) (had left now : Option (List ℕ)) (state : Lines H) (count : ℕ)
          (chunk was is : List ℕ) → (read : List ℕ) × Consumes had left read × Progress knows state read was
          → count ≡ 0 → Consumes left now (take count chunk) → IsAtEnd now
          → IfOk r (FinishesInput knows tells state was is)
          → IfOk r (λ status. (read text : List ℕ) → Progress knows state read text
          → HasAll knows ends state.handler (lines_of read) status)
          → IfOk r (λ status. (read : List ℕ) × Consumes had now read × tells (lines_of read) is status
          × EndsAs tells now read is status × HasAll knows ends state.handler (lines_of read) status
          × Stands ends now read state.handler)
      judged_end (Err fault) had left now state count chunk was is so_far none more end finishes has = tt
      judged_end (Ok Clean) had left now state count chunk was is (read, consumed, p) none more end finishes has = (
        read,
        rw append-nil at (Consumes-trans had left now read [] consumed (rw none at more)),
        finishes read [] p,
        end,
        has read was p,
        inr end,
      )
      judged_end (Ok Broken) had left now state count chunk was is (read, consumed, p) none more end finishes has = (
        read,
        rw append-nil at (Consumes-trans had left now read [] consumed (rw none at more)),
        (finishes read [] p).0,
        inr (end, (finishes read [] p).1),
        has read was p,
        inr end,
      )
