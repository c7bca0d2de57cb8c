-- What is read again up to the line at fault explains its verdict.
use Rattle.std.proofs.Common.{◌≡◌, ℕ, ◌+◌, List, [], ◌∷◌, ◌++◌, length, ap, ◌∙◌, arith, subst, sym, refl, true, false}
use Rattle.std.specs.Prelude.{Option, Some, None, Err, IfSome, not, slice_get}
use Rattle.std.specs.Io.KnownBytes.{Consumes}
use Rattle.tl_beat.specs.declared.beat.Beat.{Beat}
use Rattle.tl_beat.specs.declared.beat.Beat.TheVariants as beat
use Rattle.tl_beat.specs.declared.beat.Link.{Link}
use Rattle.tl_beat.specs.statement.Line.{Spells}
use Rattle.tl_params.specs.declared.level.Level.{Level}
use Rattle.tl_params.specs.declared.liberties.Liberties.{Liberties}
use Rattle.tl_params.specs.declared.rule.Rule.{Rule}
use Rattle.tl_params.specs.statement.Refusal.{ok_unless}
use Rattle.tl_rules.specs.statement.Conformance.{Trace}
use Rattle.tl_explain.specs.code.Recorded.{IsRecordUnder}
use Rattle.tl_explain.specs.statement.Spelled.{spelled}
use Rattle.tl_explain.specs.declared.reason.Reason.{Reason}
use Rattle.tl_explain.specs.declared.turns.Subject.{Subject}
use Rattle.tl_explain.specs.statement.Reasons.{IsEvidenceUnder, IsSubject, convicted_under}
use Rattle.tl_reasons.specs.code.Explaining.{ExplainsStatus, IsVerdict, fault_of}
use Rattle.tl_reasons.specs.code.Replaying.{HasReachedIn}
use Rattle.tl_reasons.specs.declared.examiner.Found.{Found}
use Rattle.tl_lines.specs.declared.fault.Fault.TheVariants.{Rule as Breaks}
use Rattle.tl_reasons.specs.declared.replay.Replay.{Replay}
use Rattle.tl_lines.specs.declared.status.Status.{Status}
use Rattle.tl_lines.specs.declared.status.Status.TheVariants.{Clean, Broken}
use Rattle.tl_reasons.specs.statement.Explained.{Explains, ExplainsFault, IsExplained, IsNamed}
use Rattle.tl_lines.specs.statement.LinksHeader.{NamesAllowed}
use Rattle.tl_reasons.specs.statement.Explained.{broken_alone, front_text, is_of_order}
use Rattle.tl_reasons.proofs.Replaying.{count_lines}

-- the subject has the link of the verdict
pub same_link : {w : ℕ} (s : Subject) (link : Link) (x : Beat w) → IsSubject s link x → s.link ≡ link
same_link s link (beat.A x) is = is.0
same_link s link (beat.B x) is = is.0
same_link s link (beat.C x) is = is.0
same_link s link (beat.D x) is = is.0
same_link s link (beat.E x) is = is.0

-- a text behind another
behind : (was front whole grounds text : List ℕ) → was ≡ [] → front ≡ was ++ text → whole ≡ front ++ grounds
    → whole ≡ text ++ grounds
behind was front whole grounds text none first all = rw (all, first, none) refl

pub broken_by : (found : Option Rule) (rule : Rule) → Err rule ≡ ok_unless found → found ≡ Some rule
broken_by None rule is = absurd cc
broken_by (Some other) rule is = cc

-- the beat of the line at fault was named, which breaks a rule by itself
pub named : {w : ℕ} (allow : Liberties) (old new : Option (List ℕ)) (r : Replay w) (good number : ℕ) (rule : Rule) (link : Link) (x : Beat w)
    (was front reasons grounds : List ℕ)
    → (read : List ℕ) × Consumes old new read × HasReachedIn r read → r.good ≡ good → r.allow ≡ allow → Spells (spelled r.line) link x
    → broken_alone r.may r.level x ≡ Some rule → number ≡ good + 1 → was ≡ []
    → front ≡ was ++ front_text rule number link x → reasons ≡ front ++ grounds
    → IsNamed allow old new (good + 1) rule reasons
named {w} allow old new r good number rule link x was front reasons grounds (read, consumed, at) is_good is_allow
    spells breaks is_number none first text =
    let rec = at.recorded in
    let of = at.for_line link x spells in
    let level : r.level ≡ slice_get rec.levels link.0 = sym rec.level_is
    ∙ ap (λ (l : Link). slice_get rec.levels l.0) (same_link r.recorder.subject link x of) in
    record {
      read = read;
      consumed = consumed;
      header = rec.header;
      width = rec.width;
      may = r.may;
      levels = rec.levels;
      names = subst (λ (l : Liberties). NamesAllowed l rec.header rec.width r.may rec.levels) is_allow rec.names;
      before = rec.beats;
      line = spelled r.line;
      stands = λ more. (
        (at.stands more).0,
        (at.stands more).1
            ∙ ap (λ (front : List (List ℕ)). front ++ spelled r.line ∷ (at.stands more).0) rec.lines_are,
      );
      number = omega (arith, is_good, at.good_is, rec.counted, ap length rec.lines_are);
      bytes = w;
      of_width = rec.of_width;
      link = link;
      beat = x;
      spells = spells;
      breaks = subst (λ (l : Option Level). broken_alone r.may l x ≡ Some rule) level breaks;
      grounds = grounds;
      begins = subst (λ (n : ℕ). reasons ≡ front_text rule n link x ++ grounds) is_number
          (behind was front reasons grounds (front_text rule number link x) none first text);
    }

pub of_legality : (allow : Liberties) (old new : Option (List ℕ)) (n : ℕ) (rule : Rule) (reasons : List ℕ) → not (is_of_order rule) ≡ true
    → IsNamed allow old new n rule reasons → ExplainsFault allow old new n reasons (Breaks rule)
of_legality allow old new n rule reasons legality is =
    (λ order. let no : false ≡ true = rw order at legality in absurd cc, λ _. is)

pub of_order : (allow : Liberties) (old new : Option (List ℕ)) (n : ℕ) (rule : Rule) (reasons : List ℕ) → not (is_of_order rule) ≡ false
    → IsExplained allow old new n rule reasons → ExplainsFault allow old new n reasons (Breaks rule)
of_order allow old new n rule reasons order is =
    (λ _. is, λ legality. let no : true ≡ false = rw legality at order in absurd cc)

-- the reason that was found is one for the line at fault
pub explained : {w : ℕ} (allow : Liberties) (old new : Option (List ℕ)) (r : Replay w) (rule : Rule) (good : ℕ) (link : Link) (x : Beat w)
    (o : Option Reason) (reason : Reason) (number : ℕ)
    (was front reasons grounds : List ℕ) → (read : List ℕ) × Consumes old new read × HasReachedIn r read
    → r.good ≡ good → r.allow ≡ allow → Spells (spelled r.line) link x
    → ((t : Trace w) (l : Link) → IsRecordUnder r.may r.recorder t → IsSubject r.recorder.subject l x
    → IfSome o (λ reason. IsEvidenceUnder r.may r.recorder.subject.link.0 x reason t
    × (convicted_under r.may x reason ≡ Some rule)))
    → o ≡ Some reason → number ≡ good + 1 → was ≡ [] → front ≡ was ++ front_text rule number link x
    → reasons ≡ front ++ grounds
    → IsExplained allow old new (good + 1) rule reasons
explained {w} allow old new r rule good link x o reason number was front reasons grounds (read, consumed, at) is_good
    is_allow spells told found is_number none first text =
    let rec = at.recorded in
    let of = at.for_line link x spells in
    let so : IsEvidenceUnder r.may r.recorder.subject.link.0 x reason at.trace
    × (convicted_under r.may x reason ≡ Some rule) =
    rw found at (told at.trace link rec.recorded of) in
    record {
      width = rec.width;
      may = r.may;
      levels = rec.levels;
      read = read;
      consumed = consumed;
      header = rec.header;
      names = subst (λ (l : Liberties). NamesAllowed l rec.header rec.width r.may rec.levels) is_allow rec.names;
      bytes = w;
      of_width = rec.of_width;
      trace = at.trace;
      before = rec.beats;
      spelled = rec.beats_are;
      line = spelled r.line;
      stands = λ more. (
        (at.stands more).0,
        (at.stands more).1
            ∙ ap (λ (front : List (List ℕ)). front ++ spelled r.line ∷ (at.stands more).0) rec.lines_are,
      );
      number = omega (
        arith,
        is_good,
        at.good_is,
        rec.counted,
        ap length rec.lines_are,
        count_lines at.trace rec.beats rec.beats_are,
      );
      link = link;
      beat = x;
      spells = spells;
      reason = reason;
      evidence = subst (λ (k : Link). IsEvidenceUnder r.may k.0 x reason at.trace) (same_link r.recorder.subject link x of) so.0;
      convicts = so.1;
      grounds = grounds;
      begins = subst (λ (n : ℕ). reasons ≡ front_text rule n link x ++ grounds) is_number
          (behind was front reasons grounds (front_text rule number link x) none first text);
    }

pub explains : (allow : Liberties) (old new : Option (List ℕ)) (found : Found) (status : Status) (verdict reasons : List ℕ)
    → IsVerdict found status verdict → ExplainsStatus allow old new found reasons status
    → Explains allow old new verdict reasons status
explains allow old new found Clean verdict reasons is so = tt
explains allow old new found Broken verdict reasons is so = (found.good + 1, fault_of found, is, so)
