-- A run, piece by piece.
use Rattle.std.proofs.Common.{◌≡◌, ℕ, List, [], ◌++◌, refl, ap, append_assoc, inl, inr, take}
use Rattle.std.specs.Prelude.{Result, Ok, Err, IfOk, OnErr, Option}
use Rattle.std.specs.Io.KnownBytes.{Appends, Consumes, IsAtEnd, Keeps}
use Rattle.std.proofs.KnownBytes.{Appends-trans, Appends-nil, Consumes-trans, Consumes-nil, Consumes-kept}
use Rattle.std.proofs.lemmas.List.{append-nil}
use Rattle.tl_lines.specs.declared.lines.Lines.{Lines}
use Rattle.tl_lines.specs.declared.status.Status.{Status}
use Rattle.tl_lines.specs.declared.status.Status.TheVariants.{Clean, Broken}
use Rattle.tl_lines.specs.declared.status.ToolFault.{ToolFault}
use Rattle.tl_lines.specs.code.Judging.{IsTotal}
use Rattle.tl_lines.specs.statement.Lines.{lines_of}
use Rattle.tl_lines.specs.statement.Parts.{AppendsPart}
use Rattle.tl_lines.specs.code.Progress.{Progress, Feeds, FinishesInput}
use Rattle.tl_lines.specs.code.Run.{Passes, FailsAfter}
use Rattle.tl_lines.specs.statement.Run.{FailsAt, EndsAs}
use Rattle.tl_lines.proofs.Parts.{longer, part_more}
use Rattle.tl_lines.proofs.Progress.{all_lines}

module _ {H : Type 0} (knows : H → List (List ℕ) → List ℕ → Type 0) (tells : List (List ℕ) → List ℕ → Status → Type 0)
  where
    pub same_text : (state : Lines H) (read before : List ℕ) → Progress knows state read before
        → Progress knows state read (before ++ [])
    same_text state read before p = rw append-nil p

    -- nothing was written for the piece
    pub fails_unjudged : IsTotal (λ (h : H). h) knows (λ (h : H). tells) → (state : Lines H) (piece : List ℕ) (held : Option (List ℕ))
        → FailsAfter knows tells state piece held held
    fails_unjudged total state piece held = λ read before p.
        let rest = total state.handler p.lines before p.known (lines_of (state.begun.items ++ piece)) in
        (rest.0, rest.1, rw (p.cut piece) rest.2, ([], rest.0, refl, Appends-nil held))

    -- what was judged of the piece was written in part
    pub fails_written : IsTotal (λ (h : H). h) knows (λ (h : H). tells) → (status : Status) (old new : Lines H) (piece out : List ℕ)
        (held holds : Option (List ℕ)) → Feeds knows tells old new piece [] out status
        → AppendsPart held holds out → FailsAfter knows tells old piece held holds
    fails_written total Clean old new piece out held holds feeds part = λ read before p.
        let q = feeds read before (same_text old read before p) in
        let rest = total new.handler q.lines (before ++ out) q.known (lines_of new.begun.items) in (
          out ++ rest.0,
          rest.1,
          rw (
            all_lines knows tells new (read ++ piece) (before ++ out) q,
            ← append_assoc before out
                rest.0,
          ) rest.2,
          longer held holds out rest.0 part,
        )
    fails_written total Broken old new piece out held holds feeds part = λ read before p.
        (out, Broken, rw append-nil at (feeds read before (same_text old read before p) []), part)

    pub fails_closing : (status : Status) (state : Lines H) (out : List ℕ) (held holds : Option (List ℕ))
        → FinishesInput knows tells state [] out status
        → AppendsPart held holds out → FailsAfter knows tells state [] held holds
    fails_closing Clean state out held holds ends part = λ read before p.
        (out, Clean, rw append-nil (ends read before (same_text state read before p)), part)
    fails_closing Broken state out held holds ends part = λ read before p.
        (out, Broken, rw append-nil (ends read before (same_text state read before p)).0, part)

    -- the piece was judged and written
    pub passes : (status : Status) (old new : Lines H) (piece out : List ℕ)
        → Feeds knows tells old new piece [] out status → Passes knows tells old new piece out status
    passes Clean old new piece out feeds = λ read before p. feeds read before (same_text old read before p)
    passes Broken old new piece out feeds = λ read before p. feeds read before (same_text old read before p)

    -- nothing was read
    pub fails_at_start : IsTotal (λ (h : H). h) knows (λ (h : H). tells) → (handler : H) (had held : Option (List ℕ)) → knows handler [] []
        → FailsAt tells had had held held
    unfolding lines_of
    fails_at_start total handler had held known =
        let rest = total handler [] [] known [] in
        ([], rest.0, rest.1, Consumes-nil had, rest.2, ([], rest.0, refl, Appends-nil held))

    module _ (had left held holds : Option (List ℕ)) (state : Lines H)
        (so_far : (read text : List ℕ) × Consumes had left read × Appends held holds text
        × Progress knows state read text) where
      -- no more could be read
      pub fails_reading : IsTotal (λ (h : H). h) knows (λ (h : H). tells) → (now : Option (List ℕ)) → Keeps left now
          → FailsAt tells had now held holds
      fails_reading total now keeps =
          let (read, text, consumed, appended, p) = so_far in
          let rest = total state.handler p.lines text p.known (lines_of state.begun.items) in (
            read,
            text ++ rest.0,
            rest.1,
            Consumes-kept had left now read consumed keeps,
            rw
                (all_lines knows tells state read text p) rest.2,
            (text, rest.0, refl, appended),
          )

      -- the piece that was read last was given up
      pub fails_passing : (now holds_now : Option (List ℕ)) (piece : List ℕ) → Consumes left now piece
          → FailsAfter knows tells state piece holds holds_now → FailsAt tells had now held holds_now
      fails_passing now holds_now piece more fails =
          let (read, text, consumed, appended, p) = so_far in
          let (said, status, told, part) = fails read text p in (
            read ++ piece,
            text ++ said,
            status,
            Consumes-trans had left now read piece consumed more,
            told,
            part_more held holds holds_now text said [] (text ++ said) appended part
                (ap (λ (xs : List ℕ). text ++ xs) (append-nil said)),
          )

      -- a line of the piece that was read last is at fault
      pub ends_broken : (now holds_now : Option (List ℕ)) (piece said : List ℕ) (new : Lines H)
          → Consumes left now piece
          → Appends holds holds_now said → Passes knows tells state new piece said Broken
          → (read text : List ℕ) × Consumes had now read × Appends held holds_now text
          × tells (lines_of read) text Broken
          × EndsAs tells now read text Broken
      ends_broken now holds_now piece said new more written broken =
          let (read, text, consumed, appended, p) = so_far in (
            read ++ piece,
            text ++ said,
            Consumes-trans had left now read piece consumed more,
            Appends-trans held holds holds_now text said appended written,
            rw append-nil at (broken read text p []),
            inl (broken read text p),
          )

      -- the piece that was read last is judged
      pub goes_on : (now holds_now : Option (List ℕ)) (piece said : List ℕ) (new : Lines H) → Consumes left now piece
          → Appends holds holds_now said → Passes knows tells state new piece said Clean
          → (read text : List ℕ) × Consumes had now read × Appends held holds_now text × Progress knows new read text
      goes_on now holds_now piece said new more written clean =
          let (read, text, consumed, appended, p) = so_far in (
            read ++ piece,
            text ++ said,
            Consumes-trans had left now read piece consumed more,
            Appends-trans held holds
                holds_now text said appended written,
            clean read text p,
          )

      -- the end of the input is judged
      ends_closed : (status : Status) (now holds_now : Option (List ℕ)) (said : List ℕ) → Consumes left now []
          → IsAtEnd now → Appends holds holds_now said
          → FinishesInput knows tells state [] said status
          → (read text : List ℕ) × Consumes had now read × Appends held holds_now text
          × tells (lines_of read) text status
          × EndsAs tells now read text status
      ends_closed Clean now holds_now said more end written ends =
          let (read, text, consumed, appended, p) = so_far in (
            read,
            text ++ said,
            rw append-nil at (Consumes-trans had left now read [] consumed more),
            Appends-trans held holds holds_now text said appended written,
            ends read text (same_text state read text p),
            end,
          )
      ends_closed Broken now holds_now said more end written ends =
          let (read, text, consumed, appended, p) = so_far in
          let both = ends read text (same_text state read text p) in (
            read,
            text ++ said,
            rw append-nil at (Consumes-trans had left now read [] consumed more),
            Appends-trans held holds holds_now text said appended written,
            both.0,
            inr (end, both.1),
          )

      pub closed_ok : (r : Result Status ToolFault) (count : ℕ) (chunk : List ℕ) (now holds_now : Option (List ℕ))
          → count ≡ 0 → Consumes left now (take count chunk) → IsAtEnd now
          → IfOk r (λ status. (said : List ℕ) × Appends holds holds_now said × FinishesInput knows tells state [] said
          status)
          → IfOk r (λ status. (read text : List ℕ) × Consumes had now read × Appends held holds_now text
          × tells (lines_of read) text status × EndsAs tells now read text status)
      closed_ok (Err fault) count chunk now holds_now none more end closed = tt
      closed_ok (Ok status) count chunk now holds_now none more end closed =
          ends_closed status now holds_now closed.0 (rw none at more) end closed.1 closed.2

      pub closed_err : (r : Result Status ToolFault) (count : ℕ) (chunk : List ℕ) (now holds_now : Option (List ℕ))
          → count ≡ 0 → Consumes left now (take count chunk)
          → OnErr r (FailsAfter knows tells state [] holds holds_now) → OnErr r (FailsAt tells had now held holds_now)
      closed_err (Ok status) count chunk now holds_now none more fails = tt
      closed_err (Err fault) count chunk now holds_now none more fails =
          fails_passing now holds_now [] (rw none at more) fails
