-- Why a run is given up, piece by piece.
use Rattle.std.proofs.Common.{◌≡◌, ◌≤◌, ℕ, zero, suc, ◌+◌, List, [], ◌∷◌, ◌++◌, length, take, refl}
use Rattle.std.proofs.Common.{arith, append_assoc, inl, inr, false, sym, ◌∙◌, ◌≢◌}
use Rattle.std.specs.Prelude.{◌==◌, Result, Ok, Err, IfErr, Option}
use Rattle.std.specs.Io.KnownBytes.{Appends, Consumes, IsAtEnd, Keeps}
use Rattle.std.proofs.KnownBytes.{Appends-trans, Appends-nil, Consumes-trans, Consumes-nil, Consumes-kept}
use Rattle.std.proofs.lemmas.List.{append-nil}
use Rattle.std.proofs.Math.Seq.{take-append_seam}
use Rattle.tl_lines.specs.declared.lines.Lines.{Lines}
use Rattle.tl_lines.specs.declared.status.Status.{Status}
use Rattle.tl_lines.specs.declared.status.Status.TheVariants.{Clean, Broken}
use Rattle.tl_lines.specs.declared.status.ToolFault.{ToolFault}
use Rattle.tl_lines.specs.declared.status.ToolFault.TheVariants.{Memory, Read, Write}
use Rattle.tl_lines.specs.code.GivenUp.{GivesUpPiece, IsKnown}
use Rattle.tl_lines.specs.statement.Run.{GivesUpFor}
use Rattle.tl_lines.specs.statement.Lines.{lines_ended, lines_of, ended_lines}
use Rattle.tl_lines.specs.code.Judging.{KnowsFor}
use Rattle.tl_lines.specs.statement.Parts.{AppendsShort}
use Rattle.tl_lines.specs.code.Progress.{Continues, Feeds, FinishesInput, GivesUp, GivesUpWithin, Progress}
use Rattle.tl_lines.specs.code.Progress.{lines_judged}
use Rattle.tl_lines.proofs.InputLines.{ended_lines-append}
use Rattle.tl_lines.proofs.Progress.{LeadsTo, all_lines}
use Rattle.tl_lines.proofs.Runs.{same_text}

numbers_end : (last whole first rest judged count : ℕ) → whole ≡ first + rest → first ≡ judged → count ≡ judged
    → count ≡ last → last ≤ whole
numbers_end last whole first rest judged count a b c d = omega arith

-- what was read is there, or the end
pub piece_or_end : (count : ℕ) (chunk : List ℕ) (End : Type 0) → (count == 0) ≡ false → count ≤ length chunk
    → take count chunk ≡ [] → End
piece_or_end zero chunk End some fits none = absurd cc
piece_or_end (suc count) [] End some fits none = absurd (omega arith)
piece_or_end (suc count) (b ∷ chunk) End some fits none = absurd cc

-- no writer makes lines be given up
pub unwritten_by : (count : ℕ) (fault : ToolFault) → GivesUp count fault → fault ≢ Write
unwritten_by count fault (inl memory) is = let no : Memory ≡ Write = sym memory ∙ is in absurd cc
unwritten_by count fault (inr (read, last)) is = let no : Read ≡ Write = sym read ∙ is in absurd cc

pub unwritten_within : {H : Type 0} (knows : H → List (List ℕ) → List ℕ → Type 0) (state : Lines H) (piece was : List ℕ)
    (fault : ToolFault) → GivesUpWithin knows state piece was fault → fault ≢ Write
unwritten_within knows state piece was Memory gives = λ is. absurd cc
unwritten_within knows state piece was Read gives = λ is. absurd cc
unwritten_within knows state piece was Write gives = λ is. absurd gives

module _ {H : Type 0} (knows : H → List (List ℕ) → List ℕ → Type 0) (tells : List (List ℕ) → List ℕ → Status → Type 0)
  where
    -- the lines that have ended are those that were judged
    pub known_so_far : (state : Lines H) (read text : List ℕ) → Progress knows state read text
        → IsKnown knows (lines_ended read) text
    known_so_far state read text p =
        let judged : lines_ended read ≡ p.lines =
        rw (all_lines knows tells state read text p, p.ended) (take-append_seam p.lines (lines_of state.begun.items)) in
        (state.handler, rw judged p.known)

    -- behind a part of the piece that was judged
    pub gives_up_within : (a b : Lines H) (taken rest piece was mid : List ℕ) (fault : ToolFault)
        → taken ++ rest ≡ piece → Feeds knows tells a b taken was mid Clean → GivesUp (lines_judged b) fault
        → GivesUpWithin knows a piece was fault
    gives_up_within a b taken rest piece was mid fault cut feeds (inl memory) = rw memory tt
    gives_up_within a b taken rest piece was mid fault cut feeds (inr (is, last)) =
        rw is (λ read before p.
        let q = feeds read before p in
        let split : ended_lines (read ++ piece) ≡ ended_lines (read ++ taken) + ended_lines rest =
        rw (← cut, ← append_assoc) (ended_lines-append (read ++ taken) rest) in
        numbers_end _ _ _ (ended_lines rest) (length q.lines) (lines_judged b) split q.ended q.counted last)

    pub gives_up_last : (r : Result Status ToolFault) (a b : Lines H) (taken rest piece was mid : List ℕ)
        → taken ++ rest ≡ piece → Feeds knows tells a b taken was mid Clean → IfErr r (GivesUp (lines_judged b))
        → IfErr r (GivesUpWithin knows a piece was)
    gives_up_last (Ok status) a b taken rest piece was mid cut feeds gives = tt
    gives_up_last (Err fault) a b taken rest piece was mid cut feeds gives =
        gives_up_within a b taken rest piece was mid fault cut feeds gives

    pub gives_up_after : (old state : Lines H) (first after line rest was mid : List ℕ) (fault : ToolFault)
        → LeadsTo knows tells old first after state line rest was mid → GivesUp state.count fault
        → (begun : Lines H) (part : List ℕ) → Continues begun old part first
        → GivesUpWithin knows begun (part ++ after) was fault
    gives_up_after old state first after line rest was mid fault leads gives = λ begun part first_is.
        let (now, taken, ended, there, cut, feeds) = leads begun part first_is in
        gives_up_within begun now taken (ended ++ rest) (part ++ after) was mid fault cut feeds (rw there.3 gives)

    -- nothing was written
    pub unjudged : (fault : ToolFault) (state : Lines H) (piece : List ℕ) (held : Option (List ℕ))
        → GivesUpWithin knows state piece [] fault → GivesUpPiece knows tells state piece held held fault
    unjudged Memory state piece held gives = refl
    unjudged Read state piece held gives = λ read before p.
        gives read before (same_text knows tells state read before p)
    unjudged Write state piece held gives = absurd gives

    pub unfinished : (fault : ToolFault) (state : Lines H) (held : Option (List ℕ)) → GivesUp (lines_judged state) fault
        → GivesUpPiece knows tells state [] held held fault
    unfinished fault state held gives =
        unjudged fault state [] held
        (gives_up_within state state [] [] [] [] [] fault refl (λ read before p. rw append-nil p) gives)

    -- what was judged of the piece was written in part
    pub unwritten : (status : Status) (old new : Lines H) (piece out : List ℕ) (held holds : Option (List ℕ))
        → Feeds knows tells old new piece [] out status → AppendsShort held holds out
        → GivesUpPiece knows tells old piece held holds Write
    unwritten Clean old new piece out held holds feeds short = λ read before p.
        let q = feeds read before (same_text knows tells old read before p) in
        (out, short, λ left at_end. inl (known_so_far new (read ++ piece) (before ++ out) q))
    unwritten Broken old new piece out held holds feeds short = λ read before p.
        let stops = feeds read before (same_text knows tells old read before p) in
        (out, short, λ left at_end. inr (Broken, rw append-nil at (stops []), inl stops))

    pub unwritten_at_end : (status : Status) (state : Lines H) (out : List ℕ) (held holds : Option (List ℕ))
        → FinishesInput knows tells state [] out status → AppendsShort held holds out
        → GivesUpPiece knows tells state [] held holds Write
    unwritten_at_end Clean state out held holds ends short = λ read before p. (
      out,
      short,
      λ left at_end. inr (
        Clean,
        rw append-nil (ends read before (same_text knows tells state read before p)),
        at_end refl,
      ),
    )
    unwritten_at_end Broken state out held holds ends short = λ read before p.
        let both = ends read before (same_text knows tells state read before p) in
        (out, short, λ left at_end. inr (Broken, rw append-nil both.0, inr (at_end refl, rw append-nil both.1)))

    pub given_up_at_start : (handler : H) (had held : Option (List ℕ)) → knows handler [] []
        → GivesUpFor (IsKnown knows) tells had had held held Memory
    given_up_at_start handler had held known =
        ([], [], [], Consumes-nil had, Appends-nil held, (handler, known), λ none. inr refl)

    module _ (had left held holds : Option (List ℕ)) (state : Lines H)
        (so_far : (read text : List ℕ) × Consumes had left read × Appends held holds text
        × Progress knows state read text) where
      -- no more could be read
      pub given_up_reading : (now : Option (List ℕ)) → Keeps left now
          → GivesUpFor (IsKnown knows) tells had now held holds Read
      given_up_reading now keeps =
          let (read, text, consumed, appended, p) = so_far in
          (read, Consumes-kept had left now read consumed keeps, inl (text, appended, known_so_far state read text p))

      -- the piece that was read last was given up
      pub given_up_passing : (fault : ToolFault) (now holds_now : Option (List ℕ)) (piece : List ℕ)
          → Consumes left now piece → (piece ≡ [] → IsAtEnd now)
          → GivesUpPiece knows tells state piece holds holds_now fault
          → GivesUpFor (IsKnown knows) tells had now held holds_now fault
      given_up_passing Memory now holds_now piece more ends same =
          let (read, text, consumed, appended, p) = so_far in (
            read,
            piece,
            text,
            Consumes-trans had left now read piece consumed more,
            rw same appended,
            known_so_far state read text p,
            λ none. inl (ends none),
          )
      given_up_passing Read now holds_now piece more ends gives =
          let (read, text, consumed, appended, p) = so_far in
          (read ++ piece, Consumes-trans had left now read piece consumed more, inr (gives read text p))
      given_up_passing Write now holds_now piece more ends gives =
          let (read, text, consumed, appended, p) = so_far in
          let (said, short, owed) = gives read text p in
          let (front, rest, cut, some, written) = short in (
            read ++ piece,
            text ++ said,
            Consumes-trans had left now read piece consumed more,
            (
              text ++ front,
              rest,
              rw (append_assoc, cut) refl,
              some,
              Appends-trans held holds holds_now text front appended written,
            ),
            owed now ends,
          )

      pub given_up_closing : (r : Result Status ToolFault) (count : ℕ) (chunk : List ℕ)
          (now holds_now : Option (List ℕ)) → count ≡ 0 → Consumes left now (take count chunk) → IsAtEnd now
          → IfErr r (GivesUpPiece knows tells state [] holds holds_now)
          → IfErr r (GivesUpFor (IsKnown knows) tells had now held holds_now)
      given_up_closing (Ok status) count chunk now holds_now none more end gives = tt
      given_up_closing (Err fault) count chunk now holds_now none more end gives =
          given_up_passing fault now holds_now [] (rw none at more) (λ same. end) gives

    -- the same, of whatever the handler's texts are
    pub given_up_told : (so_far : List (List ℕ) → List ℕ → Type 0)
        → ((lines : List (List ℕ)) (text : List ℕ) → IsKnown knows lines text → so_far lines text)
        → (r : Result Status ToolFault) (had left held holds : Option (List ℕ))
        → IfErr r (GivesUpFor (IsKnown knows) tells had left held holds)
        → IfErr r (GivesUpFor so_far tells had left held holds)
    given_up_told so_far told (Ok status) had left held holds gives = tt
    given_up_told so_far told (Err Memory) had left held holds (read, piece, text, consumed, appended, known, ends) =
        (read, piece, text, consumed, appended, told _ _ known, ends)
    given_up_told so_far told (Err Read) had left held holds (read, consumed, inl (text, appended, known)) =
        (read, consumed, inl (text, appended, told _ _ known))
    given_up_told so_far told (Err Read) had left held holds (read, consumed, inr out) = (read, consumed, inr out)
    given_up_told so_far told (Err Write) had left held holds (read, text, consumed, short, inl known) =
        (read, text, consumed, short, inl (told _ _ known))
    given_up_told so_far told (Err Write) had left held holds (read, text, consumed, short, inr ends) =
        (read, text, consumed, short, inr ends)

-- the same of a handler that is made for nothing beside what its type says
pub told_without_purpose : {H : Type 0} (knows : H → List (List ℕ) → List ℕ → Type 0)
    (tells : List (List ℕ) → List ℕ → Status → Type 0) (so_far : List (List ℕ) → List ℕ → Type 0)
    → ((lines : List (List ℕ)) (text : List ℕ) → IsKnown knows lines text → so_far lines text)
    → (r : Result Status ToolFault) (had left held holds : Option (List ℕ))
    → IfErr r (GivesUpFor (IsKnown (KnowsFor {M = Unit {0}} (λ h. tt) tt knows)) tells had left held holds)
    → IfErr r (GivesUpFor so_far tells had left held holds)
told_without_purpose knows tells so_far told =
    given_up_told (KnowsFor {M = Unit {0}} (λ h. tt) tt knows) tells so_far any
  where
    any : (lines : List (List ℕ)) (text : List ℕ)
        → IsKnown (KnowsFor {M = Unit {0}} (λ h. tt) tt knows) lines text → so_far lines text
    any lines text (handler, known) = told lines text (handler, known.0)
