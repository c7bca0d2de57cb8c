-- `decode`, `monitor` and `coherent` tell one text of their lines.
use Rattle.std.proofs.Common.{◌≡◌, ℕ, ◌+◌, List, [], ◌∷◌, length, refl, sym, ap, subst, ◌∙◌, inl, inr}
use Rattle.std.specs.Prelude.{Some, None}
use Rattle.std.specs.Result.{result_err}
use Rattle.tl_beat.specs.declared.beat.Link.{Link}
use Rattle.tl_beat.specs.declared.beat.Beat.{Beat}
use Rattle.tl_beat.specs.declared.fault.LineFault.{LineFault}
use Rattle.tl_beat.specs.statement.Line.{Spells, line_fault}
use Rattle.tl_beat.specs.code.Reading.{reading}
use Rattle.tl_beat.specs.statement.Width.{IsWidth}
use Rattle.tl_beat.proofs.Faults.{reading-fault}
use Rattle.tl_beat.proofs.SpelledLines.{reading-spelled, one-beat}
use Rattle.tl_params.specs.declared.level.Level.{Level}
use Rattle.tl_params.specs.declared.profile.Profile.{Profile}
use Rattle.tl_rules.specs.statement.Conformance.{Trace}
use Rattle.tl_params.specs.declared.width.Width.{Width}
use Rattle.tl_params.specs.declared.width.Width.TheVariants as width
use Rattle.tl_lines.specs.declared.fault.Fault.{Fault}
use Rattle.tl_lines.specs.declared.fault.Fault.TheVariants.{Line}
use Rattle.tl_lines.specs.declared.status.Status.{Status}
use Rattle.tl_lines.specs.statement.Decoded.{Decodes}
use Rattle.tl_lines.specs.statement.Fault.{fault_text}
use Rattle.tl_lines.specs.statement.Judged.{Faults, IsAtFault, JudgedAfter, JudgedBy}
use Rattle.tl_lines.specs.statement.Trace.{SpellsHeader}
use Rattle.tl_lines.specs.statement.Width.{bytes_of}
use Rattle.tl_lines.proofs.Headers.{one_header}

-- the texts and the statuses are the same
abbrev pub AreOne : List ℕ → List ℕ → Status → Status → Type 0
AreOne text other status another = (text ≡ other) × (status ≡ another)

-- a line that spells a beat is no line at fault
pub spells_or_fails : {w : ℕ} (line : List ℕ) (link : Link) (beat : Beat w) (fault : LineFault) → IsWidth w
    → Spells line link beat → line_fault w line ≡ Some fault → ⊥
spells_or_fails {w} line link beat fault width spells fails =
    let read : reading w line ≡ _ = reading-spelled line link beat width spells in
    let none : None ≡ line_fault w line = ap result_err (sym read) ∙ reading-fault w line in
    absurd cc

-- the beat on its link
abbrev pub at : {w : ℕ} → Link → Beat w → Link × Beat w
at link beat = (link, beat)

pub same_beat : {w : ℕ} (line : List ℕ) (k l : Link) (b d : Beat w) → IsWidth w → Spells line k b → Spells line l d
    → at k b ≡ at l d
same_beat line k l b d width s t =
    let (links, beats) = one-beat line k l b d width s t in
    rw (links, beats) refl

pub decodes_once : (w n : ℕ) → IsWidth w → (lines : List (List ℕ)) (text other : List ℕ) (status another : Status)
    → Decodes w n lines text status
    → Decodes w n lines other another → AreOne text other status another
unfolding Decodes
decodes_once w n width [] text other status another d e = (d.0 ∙ sym e.0, d.1 ∙ sym e.1)
decodes_once w n width (line ∷ lines) text other status another (inl (k, b, rest, s, is, d))
    (inl (l, c, more, t, so, e)) =
    let (links, beats) = one-beat line k l b c width s t in
    let (same, ends) = decodes_once w (n + 1) width lines rest more status another d e in
    (is ∙ rw (links, beats, same) refl ∙ sym so, ends)
decodes_once w n width (line ∷ lines) text other status another (inl (k, b, rest, s, is, d))
    (inr (fault, fails, so, ends)) = absurd (spells_or_fails line k b fault width s fails)
decodes_once w n width (line ∷ lines) text other status another (inr (fault, fails, is, ends))
    (inl (l, c, more, t, so, e)) = absurd (spells_or_fails line l c fault width t fails)
decodes_once w n width (line ∷ lines) text other status another (inr (f, fails, is, ends))
    (inr (g, fails_so, so, ends_so)) =
    let same : f ≡ g = cc in
    (is ∙ ap (λ (x : LineFault). fault_text n (Line x)) same ∙ sym so, ends ∙ sym ends_so)

-- ---- traces

module _ {w : ℕ} (faults : Faults) (said : ℕ → List ℕ) (width : IsWidth w) (levels : List Level) (p : Profile) where
  same_faults : (t : Trace w) (line : List ℕ) (k l : Link) (b d : Beat w) → Spells line k b → Spells line l d
      → faults w levels p (k, b) t ≡ faults w levels p (l, d) t
  same_faults t line k l b d s r =
      ap (λ (x : Link × Beat w). faults w levels p x t) (same_beat line k l b d width s r)

  fault_once : (t : Trace w) (line : List ℕ) (f g : Fault) → IsAtFault faults levels p t line f
      → IsAtFault faults levels p t line g → f ≡ g
  fault_once t line f g (inl (x, is, of)) (inl (y, so, of_so)) =
      let same : x ≡ y = cc in
      of ∙ ap Line same ∙ sym of_so
  fault_once t line f g (inl (x, is, of)) (inr (l, c, spells, so)) = absurd (spells_or_fails line l c x width spells is)
  fault_once t line f g (inr (k, b, spells, is)) (inl (y, so, of)) = absurd (spells_or_fails line k b y width spells so)
  fault_once t line f g (inr (k, b, spells, is)) (inr (l, c, spells_so, so)) =
      let same = same_faults t line k l b c spells spells_so in cc

  good_or_bad : (t : Trace w) (line : List ℕ) (k : Link) (b : Beat w) (fault : Fault) → Spells line k b
      → faults w levels p (k, b) t ≡ None → IsAtFault faults levels p t line fault → ⊥
  good_or_bad t line k b fault spells good (inl (x, is, of)) = spells_or_fails line k b x width spells is
  good_or_bad t line k b fault spells good (inr (l, c, spells_so, is)) =
      let same = same_faults t line k l b c spells spells_so in absurd cc

  judged_after_once : (t : Trace w) (lines : List (List ℕ)) (text other : List ℕ) (status another : Status)
      → JudgedAfter faults said levels p t lines text status
      → JudgedAfter faults said levels p t lines other another → AreOne text other status another
  unfolding JudgedAfter
  judged_after_once t [] text other status another d e = (d.0 ∙ sym e.0, d.1 ∙ sym e.1)
  judged_after_once t (line ∷ lines) text other status another (inl (k, b, s, good, d)) (inl (l, c, r, good_so, e)) =
      let same = same_beat line l k c b width r s in
      judged_after_once ((k, b) ∷ t) lines text other status another d
      (subst (λ (x : Link × Beat w). JudgedAfter faults said levels p (x ∷ t) lines other another) same e)
  judged_after_once t (line ∷ lines) text other status another (inl (k, b, s, good, d)) (inr (fault, is, says, ends)) =
      absurd (good_or_bad t line k b fault s good is)
  judged_after_once t (line ∷ lines) text other status another (inr (fault, is, says, ends)) (inl (l, c, r, good, e)) =
      absurd (good_or_bad t line l c fault r good is)
  judged_after_once t (line ∷ lines) text other status another (inr (f, is, says, ends))
      (inr (g, so, says_so, ends_so)) =
      (says ∙ ap (fault_text (length t + 2)) (fault_once t line f g is so) ∙ sym says_so, ends ∙ sym ends_so)

pub is_width_of : (wide : Width) → IsWidth (bytes_of wide)
is_width_of width.Four = inl refl
is_width_of width.Eight = inr (inl refl)
is_width_of width.Sixteen = inr (inr refl)

abbrev Named : Type 0
Named = (Width × Profile) × List Level

pub judged_once : (faults : Faults) (said : ℕ → List ℕ) (lines : List (List ℕ)) (text other : List ℕ)
    (status another : Status) → JudgedBy SpellsHeader faults said lines text status
    → JudgedBy SpellsHeader faults said lines other another
    → AreOne text other status another
unfolding JudgedBy
judged_once faults said [] text other status another d e = (d.0 ∙ sym e.0, d.1 ∙ sym e.1)
judged_once faults said (line ∷ lines) text other status another (inl (wide, p, levels, s, d))
    (inl (wider, q, others, r, e)) =
    let same = one_header line wider wide q p others levels r s in
    judged_after_once faults said (is_width_of wide) levels p [] lines text other status another d
    (subst (λ (x : Named). JudgedAfter {w = bytes_of x.0.0} faults said x.1 x.0.1 [] lines other another) same e)
judged_once faults said (line ∷ lines) text other status another (inl (wide, p, levels, s, d))
    (inr (none, says, ends)) = absurd (none wide p levels s)
judged_once faults said (line ∷ lines) text other status another (inr (none, says, ends))
    (inl (wide, p, levels, s, e)) = absurd (none wide p levels s)
judged_once faults said (line ∷ lines) text other status another (inr (none, says, ends))
    (inr (none_so, says_so, ends_so)) = (says ∙ sym says_so, ends ∙ sym ends_so)
