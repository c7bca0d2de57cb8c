-- Lines of a wide trace that are read again bring the record on, up to the line at fault.
use Rattle.std.proofs.Common.{◌≡◌, ◌∙◌, ◌+◌, ℕ, List, [], ◌∷◌, ◌++◌, true, false, refl, sym, ap, subst}
use Rattle.std.proofs.Common.{arith, append_assoc, length-append, inl, inr, eqb-true}
use Rattle.std.proofs.lemmas.List.{append-nil}
use Rattle.std.specs.Prelude.{◌==◌, ◌⊎◌, Bool, not, slice_get, IsTrue, OnOk, Option, Result, Ok, Err}
use Rattle.std.specs.Result.{is_err}
use Rattle.std.specs.Io.KnownBytes.{Consumes}
use Rattle.tl_beat.specs.declared.beat.Beat.{Beat}
use Rattle.tl_beat.specs.declared.beat.Link.{Link}
use Rattle.tl_lines.specs.code.Progress.{HasAll}
use Rattle.tl_lines.specs.declared.fault.Fault.{Fault}
use Rattle.tl_lines.specs.declared.fault.Fault.TheVariants as fault
use Rattle.tl_lines.specs.declared.status.Status.{Status}
use Rattle.tl_lines.specs.declared.status.Status.TheVariants.{Broken, Clean}
use Rattle.tl_lines.specs.statement.Fault.{fault_text}
use Rattle.tl_lines.specs.statement.Lines.{lines_of}
use Rattle.tl_evidence.proofs.Guilt.{convicted_on}
use Rattle.tl_evidence.specs.code.Guilty as guilty
use Rattle.tl_explain.specs.code.Recorded.{IsRecordUnder}
use Rattle.tl_explain.specs.declared.recorder.Recorder.{Recorder}
use Rattle.tl_explain.specs.statement.Evidence.{next_line}
use Rattle.tl_explain.specs.declared.turns.Subject.{Subject}
use Rattle.tl_params.specs.declared.level.Level.{Level}
use Rattle.tl_params.specs.declared.liberties.Liberties.{Liberties}
use Rattle.tl_params.specs.declared.rule.Rule.{Rule}
use Rattle.tl_rules.specs.statement.Conformance.{Trace}
use Rattle.tl_wide.specs.declared.beat.WideBeat.{WideBeat}
use Rattle.tl_wide.specs.statement.Naming.{WideTrace, is_beyond}
use Rattle.tl_wide.specs.statement.Narrowed.{beats_of, narrowed_from}
use Rattle.tl_wide.specs.statement.Narrowing.{Follows}
use Rattle.tl_wide.specs.statement.Pieces.{left_of}
use Rattle.tl_wide.specs.statement.Verdict.{joined}
use Rattle.tl_wide.specs.declared.parts.Parts.{Parts}
use Rattle.tl_wide.specs.statement.Line.{WideSpells}
use Rattle.tl_wide.specs.statement.Width.{IsWideWidth, part_width}
use Rattle.tl_wide_lines.proofs.Decoded.{width-is}
use Rattle.tl_wide_lines.proofs.FirstFaults.{all-become, behind-last, next-beats}
use Rattle.tl_wide_lines.proofs.JudgedLines.{begin-more, begin-none}
use Rattle.tl_wide_lines.specs.code.FirstFault.{beats_taken, behind, with_parts}
use Rattle.tl_wide_lines.specs.code.WideDecoding.{is_wide_width}
use Rattle.tl_wide_story.specs.code.WideReplaying.{AreRecorded, Concludes, CountsLine}
use Rattle.tl_wide_story.specs.code.WideReplaying.{EndsReplay, GoesOnWide, GoesOrEnds}
use Rattle.tl_wide_story.specs.code.WideReplaying.{HasTold, IsFresh, IsGuilty, IsKept, IsNoted, KnowsReplay}
use Rattle.tl_wide_story.specs.code.WideReplaying.{PassedBeat, PassesBeat, PassesParts, ReadsBeat, Records, TakesHeader}
use Rattle.tl_wide_story.specs.code.WideReplaying.{TakesLine, TellsLine, sentence_of}
use Rattle.tl_wide_story.specs.declared.reread.Passed.{Passed}
use Rattle.tl_wide_story.specs.declared.reread.Passed.TheVariants.{Strange, Taken, Told}
use Rattle.tl_wide_story.specs.declared.replay.WideReplay.{WideReplay}
use Rattle.tl_wide_story.specs.declared.story.WideStory.{WideStory}
use Rattle.tl_wide_story.specs.statement.WideExplained.{ExplainsWide, ExplainsWideFault}
use Rattle.tl_wide_lines.specs.statement.JudgedTrace.{BeginWith}
use Rattle.tl_wide_story.specs.statement.WideExplained.{wide_front_text}
use Rattle.tl_wide_lines.specs.statement.WideHeader.{NamesWide}

-- ---- parts

pub kept_all : {w : ℕ} (r : WideReplay w) → IsKept r r
kept_all r = record {
  allow_is = refl;
  may_is = refl;
  level_is = refl;
  fault_is = refl;
  subject_is = refl;
  told_is = refl;
  count_is = refl;
}

pub kept_then : {w : ℕ} (old now new : WideReplay w) → IsKept old now → IsKept now new → IsKept old new
kept_then old now new first more = record {
  allow_is = more.allow_is ∙ first.allow_is;
  may_is = more.may_is ∙ first.may_is;
  level_is = more.level_is ∙ first.level_is;
  fault_is = more.fault_is ∙ first.fault_is;
  subject_is = more.subject_is ∙ first.subject_is;
  told_is = more.told_is ∙ first.told_is;
  count_is = more.count_is ∙ first.count_is;
}

-- one part more is the newest beat
parts_more : {p : ℕ} (link : Link) (first : List (Beat p)) (x : Beat p) (t : Trace p)
    → with_parts link (first ++ x ∷ []) t ≡ (link, x) ∷ with_parts link first t
unfolding behind
parts_more link [] x t = refl
parts_more link (y ∷ first) x t = parts_more link first x ((link, y) ∷ t)

one_part : {p : ℕ} (link : Link) (x : Beat p) (t : Trace p) → with_parts link (x ∷ []) t ≡ (link, x) ∷ t
unfolding behind
one_part link x t = refl

no_part : {p : ℕ} (link : Link) (t : Trace p) → with_parts link [] t ≡ t
unfolding behind
no_part link t = refl

-- one beat was recorded
pub part_recorded : {w p : ℕ} (old new : WideReplay w) (number : ℕ) (link : Link) (x : Beat p) → IsKept old new
    → new.narrower ≡ old.narrower → new.recorded ≡ number → number ≡ old.recorded + 1
    → ((l : Liberties) (t : Trace p) → number ≡ next_line t → IsRecordUnder l old.recorder t
    → IsRecordUnder l new.recorder ((link, x) ∷ t))
    → Records old new link (x ∷ [])
part_recorded {w} {p} old new number link x kept narrower counted next takes = record {
  kept = kept;
  narrower_is = narrower;
  records = λ t before recorded.
      let at : number ≡ next_line t = next ∙ before in
      subst (λ (u : Trace p). IsRecordUnder old.may new.recorder u × (new.recorded + 1 ≡ next_line u))
      (sym (one_part link x t))
      (takes old.may t at recorded, omega (arith, counted, at));
}

-- before the first part
pub none_recorded : {w p : ℕ} (r : WideReplay w) (link : Link) → Records {p = p} r r link []
none_recorded {w} {p} r link = record {
  kept = kept_all r;
  narrower_is = refl;
  records = λ t counted recorded.
      subst (λ (u : Trace p). IsRecordUnder r.may r.recorder u × (r.recorded + 1 ≡ next_line u)) (sym (no_part link t))
      (recorded, counted);
}

-- one part more
pub more_recorded : {w p : ℕ} (old now new : WideReplay w) (link : Link) (first : List (Beat p)) (x : Beat p)
    → Records old now link first → Records now new link (x ∷ []) → Records old new link (first ++ x ∷ [])
more_recorded {w} {p} old now new link first x one more = record {
  kept = kept_then old now new one.kept more.kept;
  narrower_is = more.narrower_is ∙ one.narrower_is;
  records = λ t counted recorded.
      let (so_far, number) = one.records t counted recorded in
      let (next, last) = more.records (with_parts link first t) number
      (subst (λ (l : Liberties). IsRecordUnder l now.recorder (with_parts link first t)) (sym one.kept.may_is) so_far)
      in
      subst (λ (u : Trace p). IsRecordUnder old.may new.recorder u × (new.recorded + 1 ≡ next_line u))
      (one_part link x (with_parts link first t) ∙ sym (parts_more link first x t)) (
        subst (λ (l : Liberties). IsRecordUnder l new.recorder (with_parts link (x ∷ []) (with_parts link first t)))
            one.kept.may_is next,
        last,
      );
}

-- the parts that are left, behind those that were recorded
pub record PartsPassed {w p : ℕ} (old now : WideReplay w) (link : Link) (parts left : List (Beat p)) : Type 0 where
  pub first : List (Beat p)
  pub are : parts ≡ first ++ left
  pub so_far : Records old now link first

pub passed_none : {w p : ℕ} (r : WideReplay w) (link : Link) (parts : List (Beat p)) → PartsPassed r r link parts parts
passed_none r link parts = record { first = []; are = refl; so_far = none_recorded r link }

pub passed_more : {w p : ℕ} (old now new : WideReplay w) (link : Link) (parts left more : List (Beat p)) (x : Beat p)
    → left ≡ x ∷ more → PartsPassed old now link parts left → Records now new link (x ∷ [])
    → PartsPassed old new link parts more
passed_more old now new link parts left more x is passed next = record {
  first = passed.first ++ x ∷ [];
  are = passed.are ∙ ap (λ rest. passed.first ++ rest) is ∙ sym (append_assoc passed.first (x ∷ []) more);
  so_far = more_recorded old now new link passed.first x passed.so_far next;
}

pub passed_all : {w p : ℕ} (old now : WideReplay w) (link : Link) (parts left : List (Beat p)) → left ≡ []
    → PartsPassed old now link parts left → Records old now link parts
passed_all {w} {p} old now link parts left none passed =
    subst (λ (xs : List (Beat p)). Records old now link xs)
    (sym (passed.are ∙ ap (λ rest. passed.first ++ rest) none ∙ append-nil passed.first)) passed.so_far

module _ {w p : ℕ} (old now : WideReplay w) (link : Link) (parts left more : List (Beat p)) (x : Beat p) where
  -- a part is at fault
  pub passed_told : left ≡ x ∷ more → PartsPassed old now link parts left → IsGuilty now link x
      → PassesParts old now link parts Told
  passed_told is passed guilty = (
    passed.first,
    x,
    more,
    passed.are ∙ ap (λ rest. passed.first ++ rest) is,
    passed.so_far,
    guilty,
  )

  -- a part can't be recorded
  pub passed_strange : (new : WideReplay w) → PartsPassed old now link parts left → new.told ≡ now.told
      → PassesParts old new link parts Strange
  passed_strange new passed same = same ∙ passed.so_far.kept.told_is

-- a response or an error that isn't one is the former
pub ok_of : {A E P : Type 0} (r : Result A E) → is_err r ≡ false → OnOk r P → P
ok_of (Ok x) good has = has
ok_of (Err e) good has = absurd cc

-- ---- guilt

guilty_rule : (f : Fault) (rule other : Rule) → f ≡ fault.Rule rule → f ≡ fault.Rule other → rule ≡ other
guilty_rule f rule other is as_well = let same : fault.Rule rule ≡ fault.Rule other = sym is ∙ as_well in cc

-- a part that breaks the rule of the fault is guilty
pub guilty_part : {w p : ℕ} (r : WideReplay w) (rule : Rule) (link : Link) (x : Beat p) → r.fault ≡ fault.Rule rule
    → guilty.IsGuilty r.may r.level r.recorder rule link x → IsGuilty r link x
guilty_part r rule link x is breaks = λ other as_well. rw (← guilty_rule r.fault rule other is as_well) breaks

-- ---- lines

-- a beat of which this came was passed, after its names had their numbers
pub beat_passed : {w : ℕ} (p : ℕ) (old begun noted new : WideReplay w) (link : Link) (x : WideBeat w) (parts : Parts)
    (outcome : Passed) → IsKept old begun → begun.recorder ≡ old.recorder → begun.recorded ≡ old.recorded
    → IsNoted begun noted
    → ((t : WideTrace w) → Follows old.narrower t → (is_beyond link ((link, x) ∷ t) ≡ false)
    × (left_of {p = part_width w} x parts ≡ beats_of link x ((link, x) ∷ t)) × Follows begun.narrower ((link, x) ∷ t))
    → PassesParts {p = p} noted new link (left_of {p = p} x parts) outcome → PassedBeat p old new link x outcome
beat_passed {w} p old begun noted new link x parts outcome first recorder recorded (kept, follows, same, number) narrows
    passes =
    go outcome passes
  where
    it : (outcome : Passed) → PassesParts {p = p} noted new link (left_of {p = p} x parts) outcome
        → PassesBeat p old new link x outcome
    it outcome passes = record {
      mid = noted;
      kept = kept_then old begun noted first kept;
      recorder_is = same ∙ recorder;
      recorded_is = number ∙ recorded;
      parts = parts;
      narrows = λ t so_far. rw follows (narrows t so_far);
      passes = passes;
    }

    go : (outcome : Passed) → PassesParts {p = p} noted new link (left_of {p = p} x parts) outcome
        → PassedBeat p old new link x outcome
    go Taken passes = it Taken passes
    go Told passes = it Told passes
    go Strange passes = passes ∙ kept.told_is ∙ first.told_is

module _ {w : ℕ} (p : ℕ) (old mid new : WideReplay w) (line : List ℕ) (link : Link) (x : WideBeat w)
    (spells : WideSpells line link x) where
  -- the beat was told
  pub line_told : PassesBeat p old mid link x Told → (on : Bool) → on ≡ false → Concludes mid new link x
      → ReadsBeat p old new line on
  line_told passed true is concludes = absurd cc
  line_told passed false is (inl same) = inl (same ∙ passed.passes.4.kept.told_is ∙ passed.kept.told_is)
  line_told passed false is (inr reasoned) = inr (record {
    link = link;
    beat = x;
    spells = spells;
    mid = mid;
    passed = passed;
    reasoned = reasoned;
  })

  -- the beat was recorded
  pub line_taken : PassesBeat p old mid link x Taken → (on : Bool) → new.told ≡ mid.told
      → (on ≡ true → CountsLine mid new) → ReadsBeat p old new line on
  line_taken passed false same counts = inl (same ∙ passed.passes.kept.told_is ∙ passed.kept.told_is)
  line_taken passed true same counts = record {
    link = link;
    beat = x;
    spells = spells;
    mid = mid;
    passed = passed;
    told_is = same;
    counts = counts refl;
  }

-- a width is one of those that a handler is made for
pub is_wide : (w : ℕ) → IsWideWidth w → IsTrue (is_wide_width w)
is_wide w (inl is) = rw is refl
is_wide w (inr (inl is)) = rw is refl
is_wide w (inr (inr (inl is))) = rw is refl
is_wide w (inr (inr (inr (inl is)))) = rw is refl
is_wide w (inr (inr (inr (inr is)))) = rw is refl

-- where a wide beat has neither 4 nor 8 bytes its parts have 16
pub sixteen_bytes : (w : ℕ) → IsTrue (is_wide_width w) → (w ≡ 4 → ⊥) → (w ≡ 8 → ⊥) → 16 ≡ part_width w
sixteen_bytes w wide four eight = go (width-is w wide)
  where
    go : IsWideWidth w → 16 ≡ part_width w
    go (inl is) = absurd (four is)
    go (inr (inl is)) = absurd (eight is)
    go (inr (inr (inl is))) = rw is refl
    go (inr (inr (inr (inl is)))) = rw is refl
    go (inr (inr (inr (inr is)))) = rw is refl

module _ {w : ℕ} (old new : WideReplay w) (line : List ℕ) where
  pub header_read : (old.count == 0) ≡ true → new.told ≡ old.told → TakesHeader old new line → GoesOnWide old new line
  unfolding behind joined narrowed_from
  header_read none told takes = λ lines known. (told ∙ known.0, inr (go lines known.1))
    where
      go : (lines : List (List ℕ)) → ((lines ≡ []) × IsFresh old) ⊎ AreRecorded old lines
          → AreRecorded new (lines ++ line ∷ [])
      go lines (inl (is, fresh)) = record {
        width = takes.width;
        of_width = takes.of_width;
        header = line;
        spelled = [];
        levels = takes.levels;
        are_lines = rw is refl;
        names = takes.names;
        level_is = takes.level_is;
        trace = [];
        begins = begin-none w;
        counted = takes.count_is;
        complete = refl;
        follows = rw takes.narrower_is fresh.follows;
        records = takes.records;
        number_is = rw takes.recorded_is refl;
      }
      go lines (inr k) =
          let zero_lines : old.count ≡ 0 = eqb-true old.count 0 none in
          absurd (omega (arith, zero_lines, k.counted))

  -- the parts of one beat more are recorded
  beat_read : (old.count == 0) ≡ false → TakesLine (part_width w) old new line → GoesOnWide old new line
  beat_read some takes = λ lines known. (
    takes.told_is ∙ takes.passed.passes.kept.told_is ∙ takes.passed.kept.told_is ∙ known.0,
    inr (go lines known.1),
  )
    where
      go : (lines : List (List ℕ)) → ((lines ≡ []) × IsFresh old) ⊎ AreRecorded old lines
          → AreRecorded new (lines ++ line ∷ [])
      go lines (inl (is, fresh)) = let no : (0 == 0) ≡ false = rw fresh.count_is at some in absurd cc
      go lines (inr k) =
          let link : Link = takes.link in
          let x : WideBeat w = takes.beat in
          let it = takes.passed in
          let (within, same, follows) = it.narrows (behind k.trace []) k.follows in
          let may : new.may ≡ old.may = takes.counts.may_is ∙ it.passes.kept.may_is ∙ it.kept.may_is in
          let allow : new.allow ≡ old.allow = takes.counts.allow_is ∙ it.passes.kept.allow_is ∙ it.kept.allow_is in
          let recorder : new.recorder ≡ takes.mid.recorder = takes.counts.recorder_is in
          let subject : new.recorder.subject ≡ old.recorder.subject =
          ap (λ (r : Recorder). r.subject) takes.counts.recorder_is ∙ it.passes.kept.subject_is ∙ it.kept.subject_is in
          let (records, number) = it.passes.records (beats_taken k.trace)
          (subst (λ (n : ℕ). n + 1 ≡ next_line (beats_taken k.trace)) (sym it.recorded_is) k.number_is)
          (rw (it.kept.may_is, it.recorder_is) k.records) in
          let beats : with_parts link (left_of {p = part_width w} x it.parts) (beats_taken k.trace)
          ≡ beats_taken (k.trace ++ (link, x) ∷ []) =
          ap (λ (xs : List (Beat (part_width w))). with_parts link xs (beats_taken k.trace)) same
          ∙ sym (next-beats k.trace k.complete (link, x) within) in
          record {
            width = k.width;
            of_width = k.of_width;
            header = k.header;
            spelled = k.spelled ++ line ∷ [];
            levels = k.levels;
            are_lines = ap (λ (l : List (List ℕ)). l ++ line ∷ []) k.are_lines;
            names = rw (allow, may) k.names;
            level_is = ap (λ (s : Subject). slice_get k.levels s.link.0) subject ∙ k.level_is
                ∙ sym (takes.counts.level_is ∙ it.passes.kept.level_is ∙ it.kept.level_is);
            trace = k.trace ++ (link, x) ∷ [];
            begins = λ more. begin-more k.trace (link, x) ((k.spelled ++ line ∷ []) ++ more) line more
                (rw (append_assoc k.spelled (line ∷ []) more) (k.begins (line ∷ more))) takes.spells;
            counted =
                let all = length-append k.trace ((link, x) ∷ []) in
                omega (
                  arith,
                  all,
                  k.counted,
                  takes.counts.count_is,
                  it.passes.kept.count_is,
                  it.kept.count_is,
                );
            complete = all-become k.trace k.complete (link, x) within;
            follows = subst (λ t. Follows new.narrower t) (sym (behind-last k.trace (link, x)))
                (rw (takes.counts.narrower_is, it.passes.narrower_is) follows);
            records = subst (λ (t : Trace (part_width w)). IsRecordUnder new.may new.recorder t) beats
                (rw (may, recorder, sym it.kept.may_is) records);
            number_is = subst (λ (t : Trace (part_width w)). new.recorded + 1 ≡ next_line t) beats
                (rw takes.counts.recorded_is number);
          }

  -- the line at fault was told
  beat_told : (old.count == 0) ≡ false → TellsLine (part_width w) old new line → (lines : List (List ℕ))
      → KnowsReplay old lines → (more : List (List ℕ)) → HasTold new (lines ++ line ∷ more)
  beat_told some tells lines known more = go lines known.1
    where
      go : (lines : List (List ℕ)) → ((lines ≡ []) × IsFresh old) ⊎ AreRecorded old lines
          → HasTold new (lines ++ line ∷ more)
      go lines (inl (is, fresh)) = let no : (0 == 0) ≡ false = rw fresh.count_is at some in absurd cc
      go lines (inr k) =
          let link : Link = tells.link in
          let x : WideBeat w = tells.beat in
          let it = tells.passed in
          let (first, part, left, cut, so_far, guilty) = it.passes in
          let (within, same, follows) = it.narrows (behind k.trace []) k.follows in
          let may : tells.mid.may ≡ old.may = so_far.kept.may_is ∙ it.kept.may_is in
          let level : tells.mid.level ≡ slice_get k.levels tells.mid.recorder.subject.link.0 =
          so_far.kept.level_is ∙ it.kept.level_is ∙ sym k.level_is
          ∙ ap (λ (s : Subject). slice_get k.levels s.link.0) (sym (so_far.kept.subject_is ∙ it.kept.subject_is)) in
          let (records, number) = so_far.records (beats_taken k.trace)
          (subst (λ (n : ℕ). n + 1 ≡ next_line (beats_taken k.trace)) (sym it.recorded_is) k.number_is)
          (rw (it.kept.may_is, it.recorder_is) k.records) in
          let counted : new.count ≡ old.count = tells.reasoned.count_is ∙ so_far.kept.count_is ∙ it.kept.count_is in
          let mid_count : tells.mid.count ≡ new.count = sym tells.reasoned.count_is in
          record {
            width = k.width;
            of_width = k.of_width;
            may = old.may;
            levels = k.levels;
            header = k.header;
            before = k.spelled;
            line = line;
            more = more;
            are_lines = ap (λ (l : List (List ℕ)). l ++ line ∷ more) k.are_lines;
            names = rw (tells.reasoned.allow_is ∙ so_far.kept.allow_is ∙ it.kept.allow_is) k.names;
            trace = k.trace;
            spelled = subst (λ (ls : List (List ℕ)). BeginWith k.trace ls []) (append-nil k.spelled) (k.begins []);
            number = omega (arith, counted, k.counted);
            link = link;
            beat = x;
            spells = tells.spells;
            guilty = λ rule is.
                let (on, convicts) = guilty rule (sym tells.reasoned.fault_is ∙ is) in
                record {
                  first = first;
                  part = part;
                  left = left;
                  parts_are = sym same ∙ cut;
                  convicted = convicted_on tells.mid.may old.may tells.mid.level k.levels
                      tells.mid.recorder.subject.link link rule part (with_parts link first (beats_taken k.trace)) may
                      level on (convicts (with_parts link first (beats_taken k.trace))
                      (subst (λ (l : Liberties). IsRecordUnder l tells.mid.recorder
                      (with_parts link first (beats_taken k.trace))) (sym so_far.kept.may_is) records));
                };
            grounds = tells.reasoned.grounds;
            says = rw (tells.reasoned.fault_is, tells.reasoned.count_is) tells.reasoned.says;
          }

  -- nothing was told
  pub unread : new.told ≡ old.told → GoesOrEnds old new line false
  unread same = λ lines known more told. let no : true ≡ false = sym told ∙ same ∙ known.0 in absurd cc

  pub line_read : (p : ℕ) (on : Bool) → p ≡ part_width w → (old.count == 0) ≡ false → ReadsBeat p old new line on
      → GoesOrEnds old new line on
  line_read p true is some reads = beat_read some (subst (λ q. TakesLine q old new line) is reads)
  line_read p false is some (inl same) = unread same
  line_read p false is some (inr tells) = λ lines known more told.
      beat_told some (subst (λ q. TellsLine q old new line) is tells) lines known more

-- the header was read, or isn't one
pub header_line : {w : ℕ} (old new : WideReplay w) (line : List ℕ) (on : Bool) → (old.count == 0) ≡ true
    → new.told ≡ old.told → (on ≡ true → TakesHeader old new line) → GoesOrEnds old new line on
header_line old new line true none same takes = header_read old new line none same (takes refl)
header_line old new line false none same takes = unread old new line same

-- ---- the reasons

-- what is told of the line at fault explains it
pub told_explains : {w p : ℕ} (s : WideStory w p) (allow : Liberties) (old new : Option (List ℕ))
    (read reasons learned : List ℕ) (status : Status) (verdict : List ℕ) → Consumes old new read
    → s.replay.allow ≡ allow → s.replay.told ≡ true
    → HasAll (λ (s : WideStory w p) lines (text : List ℕ). KnowsReplay s.replay lines) (λ s. EndsReplay s.replay) s
    (lines_of read) status
    → reasons ≡ s.replay.reasons.items ++ learned → verdict ≡ fault_text (s.replay.count + 1) s.replay.fault
    → ExplainsWide allow old new verdict reasons Broken
told_explains s allow old new read reasons learned Clean verdict consumed is told (text, known) same says =
    let no : true ≡ false = sym told ∙ known.0 in absurd cc
told_explains {w} s allow old new read reasons learned Broken verdict consumed is told ends same says =
    (s.replay.count + 1, s.replay.fault, says, go s.replay.fault refl)
  where
    it : HasTold s.replay (lines_of read)
    it = ends told

    go : (f : Fault) → s.replay.fault ≡ f → ExplainsWideFault allow old new (s.replay.count + 1) reasons f
    go (fault.Rule rule) at = record {
      width = it.width;
      may = it.may;
      levels = it.levels;
      read = read;
      consumed = consumed;
      header = it.header;
      names = subst (λ (l : Liberties). NamesWide l it.header it.width it.may it.levels) is it.names;
      bytes = w;
      of_width = it.of_width;
      trace = it.trace;
      before = it.before;
      spelled = it.spelled;
      line = it.line;
      more = it.more;
      stands = it.are_lines;
      number = it.number;
      link = it.link;
      beat = it.beat;
      spells = it.spells;
      claimed = it.guilty rule at;
      grounds = it.grounds ++ learned;
      begins = same
          ∙ ap (λ (xs : List ℕ). xs ++ learned) (it.says
          ∙ ap (λ (f : Fault). wide_front_text (sentence_of f) (s.replay.count + 1) it.link it.beat ++ it.grounds) at)
          ∙ append_assoc (wide_front_text (sentence_of (fault.Rule rule)) (s.replay.count + 1) it.link it.beat)
          it.grounds learned;
    }
    go (fault.MemoryRule rule) at = record {
      width = it.width;
      may = it.may;
      levels = it.levels;
      read = read;
      consumed = consumed;
      header = it.header;
      names = subst (λ (l : Liberties). NamesWide l it.header it.width it.may it.levels) is it.names;
      bytes = w;
      of_width = it.of_width;
      trace = it.trace;
      before = it.before;
      spelled = it.spelled;
      line = it.line;
      more = it.more;
      stands = it.are_lines;
      number = it.number;
      link = it.link;
      beat = it.beat;
      spells = it.spells;
      claimed = tt;
      grounds = it.grounds ++ learned;
      begins = same
          ∙ ap (λ (xs : List ℕ). xs ++ learned) (it.says
          ∙ ap (λ (f : Fault). wide_front_text (sentence_of f) (s.replay.count + 1) it.link it.beat ++ it.grounds) at)
          ∙ append_assoc (wide_front_text (sentence_of (fault.MemoryRule rule)) (s.replay.count + 1) it.link it.beat)
          it.grounds learned;
    }
    go (fault.CommitRule rule) at = tt
    go (fault.Line of_line) at = tt
    go (fault.Event of_event) at = tt
    go fault.Header at = tt
    go fault.Beyond at = tt
