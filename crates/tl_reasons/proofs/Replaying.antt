-- Lines that are read again bring the record on, up to the line at fault.
use Rattle.std.proofs.Common.{◌≡◌, ℕ, suc, List, [], ◌∷◌, ◌++◌, length, true, false, refl, sym, ap, ◌∙◌}
use Rattle.std.proofs.Common.{arith, append_assoc, length-append, inl, inr, eqb-true, subst}
use Rattle.std.specs.Prelude.{◌==◌, ◌&&◌, Bool, not, Option, Result, Ok, Err, IfOk, ⊤}
use mathlib.Core.Bool.{beq}
use Rattle.std.proofs.lemmas.List.{append-nil}
use Rattle.std.specs.Io.KnownBytes.{Consumes}
use Rattle.std.proofs.KnownBytes.{Consumes-trans}
use Rattle.tl_beat.specs.statement.Line.{Spells}
use Rattle.tl_params.specs.declared.liberties.Liberties.{Liberties}
use Rattle.tl_params.specs.declared.level.Level.{Level}
use Rattle.tl_params.specs.declared.width.Width.{Width}
use Rattle.tl_rules.specs.statement.Conformance.{Trace}
use Rattle.tl_explain.specs.code.Recorded.{IsRecordUnder}
use Rattle.tl_explain.specs.statement.Spelled.{spelled}
use Rattle.tl_explain.specs.declared.told.Spelling.{Spelling}
use Rattle.tl_explain.specs.declared.turns.Subject.{Subject}
use Rattle.tl_explain.specs.statement.Reasons.{IsSubject}
use Rattle.tl_lines.specs.statement.Lines.{lines_of}
use Rattle.tl_lines.specs.code.Progress.{Feeds, Progress}
use Rattle.tl_reasons.specs.code.Replaying.{HasReachedIn, IsForLine, IsKept, IsWithin, KnowsReplay}
use Rattle.tl_reasons.specs.code.Replaying.{ReadsFront, ReadsLine, TakesBeat, TakesHeader}
use Rattle.tl_lines.specs.declared.lines.Lines.{Lines}
use Rattle.tl_reasons.specs.declared.replay.Replay.{Replay}
use Rattle.tl_lines.specs.declared.status.Status.{Status}
use Rattle.tl_lines.specs.declared.status.Status.TheVariants.{Broken, Clean}
use Rattle.tl_lines.specs.declared.status.ToolFault.{ToolFault}
use Rattle.tl_lines.specs.statement.SpelledTrace.{AreLinesOf}
use Rattle.tl_lines.specs.statement.LinksHeader.{NamesAllowed}
use Rattle.tl_lines.proofs.Progress.{feeds_then}

-- ---- the same liberties

are_equal : (x y : Bool) → beq x y ≡ true → x ≡ y
are_equal true true e = refl
are_equal false false e = refl
are_equal true false e = absurd cc
are_equal false true e = absurd cc

both_true : (x y : Bool) → (x && y) ≡ true → (x ≡ true) × (y ≡ true)
both_true true y e = (refl, e)
both_true false y e = absurd cc

not_false : (x : Bool) → not x ≡ false → x ≡ true
not_false true e = refl
not_false false e = absurd cc

abbrev these : Bool → Bool → Bool → Bool → Bool → Bool → Bool → Bool → Liberties
these i s w e d r n u = record {
  ids = i;
  sinks = s;
  writer = w;
  early = e;
  drops = d;
  reports = r;
  denied = n;
  uncorrupt = u;
}

-- liberties that don't differ, one by one, are the same
pub same_liberties : (a b : Liberties) (differ : Bool)
    → differ ≡ not (beq a.ids b.ids && (beq a.sinks b.sinks && (beq a.writer b.writer && (beq a.early b.early
    && (beq a.drops b.drops && (beq a.reports b.reports && (beq a.denied b.denied && beq a.uncorrupt b.uncorrupt)))))))
    → differ ≡ false → a ≡ b
same_liberties a b differ is never =
    let (ids, more) = both_true _ _ (not_false _ (sym is ∙ never)) in
    let (sinks, more) = both_true _ _ more in
    let (writer, more) = both_true _ _ more in
    let (early, more) = both_true _ _ more in
    let (drops, more) = both_true _ _ more in
    let (reports, more) = both_true _ _ more in
    let (denied, uncorrupt) = both_true _ _ more in
    let same : these a.ids a.sinks a.writer a.early a.drops a.reports a.denied a.uncorrupt
    ≡ these b.ids b.sinks b.writer b.early b.drops b.reports b.denied b.uncorrupt =
    rw (
      are_equal a.ids b.ids ids,
      are_equal a.sinks b.sinks sinks,
      are_equal a.writer b.writer writer,
      are_equal a.early b.early early,
      are_equal a.drops b.drops drops,
      are_equal a.reports b.reports reports,
      are_equal a.denied b.denied denied,
      are_equal a.uncorrupt b.uncorrupt uncorrupt,
    ) refl in
    same

-- ---- what is read

-- there are as many lines as beats
pub count_lines : {w : ℕ} (t : Trace w) (lines : List (List ℕ)) → AreLinesOf t lines → length lines ≡ length t
unfolding AreLinesOf
count_lines [] lines are = rw are refl
count_lines (x ∷ t) lines (front, line, is, spells, are) =
    let before = count_lines t front are in
    rw is (omega (arith, before, length-append front (line ∷ [])))

-- a header's links may do the same where this is kept
still_named : {w : ℕ} (old new : Replay w) (kept : IsKept old new) (line : List ℕ) (width : Width)
    (levels : List Level) → NamesAllowed old.allow line width old.may levels
    → NamesAllowed new.allow line width new.may levels
still_named old new kept line width levels names = rw (kept.allow_is, kept.may_is) names

still_for_line : {w : ℕ} (old new : Replay w) → IsKept old new → IsForLine old → IsForLine new
still_for_line old new kept is = λ link beat spells.
    subst (λ (s : Subject). IsSubject s link beat) (sym kept.subject_is)
    (is link beat (subst (λ (l : Spelling). Spells (spelled l) link beat) kept.line_is spells))

pub header_read : {w : ℕ} (old new : Replay w) (line : List ℕ) → old.reached ≡ false → (old.count == 0) ≡ true
    → TakesHeader old new line → ReadsLine old new line
unfolding AreLinesOf
header_read {w} old new line before none takes = λ lines known.
    (still_for_line old new takes.kept known.0, go lines known.1)
  where
    go : (lines : List (List ℕ)) → IsWithin old lines → IsWithin new (lines ++ line ∷ [])
    go lines (inl (f, c, is, rec)) = inr (inl (
      takes.reached_is ∙ before,
      [],
      record {
        header = line;
        width = takes.width;
        levels = takes.levels;
        beats = [];
        lines_are = rw is refl;
        names = still_named old new takes.kept line takes.width takes.levels takes.names;
        of_width = takes.of_width;
        level_is = rw (takes.kept.level_is, takes.recorder_is) takes.level_is;
        beats_are = refl;
        counted = rw is takes.count_is;
        recorded = rw (takes.kept.may_is, takes.recorder_is) rec;
      },
    ))
    go lines (inr (inl (f, t, rec))) =
        let some : old.count ≡ suc (length rec.beats) = rec.counted ∙ ap length rec.lines_are in
        let no : old.count ≡ 0 = eqb-true old.count 0 none in
        absurd (omega (arith, some, no))
    go lines (inr (inr reached)) = let no : true ≡ false = sym reached.reached_is ∙ before in absurd cc

pub beat_read : {w : ℕ} (old new : Replay w) (line : List ℕ) → old.reached ≡ false → (old.count == 0) ≡ false
    → TakesBeat old new line → ReadsLine old new line
unfolding AreLinesOf
beat_read {w} old new line before some takes = λ lines known.
    (still_for_line old new takes.kept known.0, go lines known.1)
  where
    go : (lines : List (List ℕ)) → IsWithin old lines → IsWithin new (lines ++ line ∷ [])
    go lines (inl (f, c, is, rec)) = let no : (0 == 0) ≡ false = rw c at some in absurd cc
    go lines (inr (inl (f, t, rec))) = inr (inl (
      takes.reached_is ∙ before,
      (takes.link, takes.beat) ∷ t,
      record {
        header = rec.header;
        width = rec.width;
        levels = rec.levels;
        beats = rec.beats ++ line ∷ [];
        lines_are = rw rec.lines_are refl;
        names = still_named old new takes.kept rec.header rec.width rec.levels rec.names;
        of_width = rec.of_width;
        level_is = rw (takes.kept.level_is, takes.kept.subject_is) rec.level_is;
        beats_are = (rec.beats, line, refl, takes.spells, rec.beats_are);
        counted = omega (arith, takes.count_is, rec.counted, length-append lines (line ∷ []));
        recorded = subst (λ (l : Liberties). IsRecordUnder l new.recorder ((takes.link, takes.beat) ∷ t))
            (sym takes.kept.may_is) (takes.records t (omega (
              arith,
              rec.counted,
              ap length rec.lines_are,
              count_lines t rec.beats rec.beats_are,
            )) rec.recorded);
      },
    ))
    go lines (inr (inr reached)) = let no : true ≡ false = sym reached.reached_is ∙ before in absurd cc

abbrev pub Knows : (w : ℕ) → Replay w → List (List ℕ) → List ℕ → Type 0
Knows w r lines text = KnowsReplay r lines

-- a piece was read whole, and the line at fault isn't in it
pub reads_on : {w : ℕ} (had left now : Option (List ℕ)) (state new : Lines (Replay w)) (piece was is : List ℕ)
    → (read : List ℕ) × Consumes had left read × Progress (Knows w) state read was
    → Consumes left now piece → ReadsFront state new piece was is → new.handler.reached ≡ false
    → (read : List ℕ) × Consumes had now read × Progress (Knows w) new read is
reads_on {w} had left now state new piece was is (read, consumed, p) more front before = (
  read ++ piece,
  Consumes-trans had left now read piece consumed more,
  subst (λ (xs : List ℕ). Progress (Knows w) new (read ++ xs) is) (front.4 before) (front.3 read [] p),
)

reached_in : {w : ℕ} (state : Lines (Replay w)) (read rest text : List ℕ) → state.handler.reached ≡ true
    → Progress (Knows w) state read text → HasReachedIn state.handler (read ++ rest)
reached_in {w} state read rest text at_fault p = go p.known.1
  where
    go : IsWithin state.handler p.lines → HasReachedIn state.handler (read ++ rest)
    go (inl fresh) = let bad : true ≡ false = sym at_fault ∙ fresh.0 in absurd cc
    go (inr (inl within)) = let bad : true ≡ false = sym at_fault ∙ within.0 in absurd cc
    go (inr (inr reached)) = record {
      for_line = p.known.0;
      trace = reached.trace;
      before = reached.before;
      recorded = reached.recorded;
      good_is = reached.good_is;
      stands = λ more. (
        reached.behind ++ lines_of (state.begun.items ++ (rest ++ more)),
        ap lines_of (append_assoc read rest more) ∙ p.cut (rest ++ more)
            ∙ ap (λ (lines : List (List ℕ)). lines ++ lines_of (state.begun.items ++ (rest ++ more))) reached.lines_are
            ∙ append_assoc reached.before (spelled state.handler.line ∷ reached.behind)
            (lines_of (state.begun.items ++ (rest ++ more))),
      );
    }

-- a piece was read up to the line at fault
pub reads_to : {w : ℕ} (had left now : Option (List ℕ)) (state new : Lines (Replay w)) (piece was is : List ℕ)
    → (read : List ℕ) × Consumes had left read × Progress (Knows w) state read was
    → Consumes left now piece → ReadsFront state new piece was is → new.handler.reached ≡ true
    → (read : List ℕ) × Consumes had now read × HasReachedIn new.handler read
reads_to {w} had left now state new piece was is (read, consumed, p) more front at_fault = (
  read ++ piece,
  Consumes-trans had left now read piece consumed more,
  subst (HasReachedIn new.handler) (append_assoc read front.0 front.1 ∙ ap (λ (xs : List ℕ). read ++ xs) front.2)
      (reached_in new (read ++ front.0) front.1 is at_fault (front.3 read [] p)),
)

-- the rest of a piece, which ends no line, was kept
pub keeps_rest : {w : ℕ} (r : Result Status ToolFault) (old mid new : Lines (Replay w))
    (taken rest piece was between is : List ℕ) → taken ++ rest ≡ piece
    → Feeds (Knows w) (λ _ _ _. ⊤) old mid taken was between Clean
    → IfOk r (Feeds (Knows w) (λ _ _ _. ⊤) mid new rest between is)
    → IfOk r (λ status. status ≡ Clean → ReadsFront old new piece was is)
keeps_rest (Err fault) old mid new taken rest piece was between is cut first second = tt
keeps_rest (Ok Broken) old mid new taken rest piece was between is cut first second = λ no. absurd cc
keeps_rest {w} (Ok Clean) old mid new taken rest piece was between is cut first second = λ yes. (
  piece,
  [],
  append-nil piece,
  feeds_then (Knows w) (λ _ _ _. ⊤) old mid new taken rest piece was between is cut first second,
  λ before. refl,
)
