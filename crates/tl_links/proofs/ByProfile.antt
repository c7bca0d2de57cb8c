-- A trace whose header names a profile, or stands for one, is judged by it.
use Rattle.std.proofs.Common.{◌≡◌, ℕ, List, [], ◌∷◌, false, true, refl, sym, ap, subst, ◌∙◌, inl, inr}
use Rattle.std.specs.Prelude.{option_map}
use Rattle.tl_beat.specs.declared.beat.Beat.{Beat}
use Rattle.tl_beat.specs.declared.beat.Link.{Link}
use Rattle.tl_lines.specs.declared.fault.Fault.TheVariants.{Rule as Breaks}
use Rattle.tl_lines.specs.declared.status.Status.{Status}
use Rattle.tl_lines.specs.statement.Coherent.{JudgedTogether, coherent_text, faults_together}
use Rattle.tl_lines.specs.statement.Judged.{Faults, FaultsOf, Judged, JudgedAfter, JudgedBy, clean_text}
use Rattle.tl_lines.specs.statement.Judged.{faults_of_links}
use Rattle.tl_lines.specs.statement.Trace.{SpellsHeader}
use Rattle.tl_lines.specs.statement.Width.{bytes_of}
use Rattle.tl_lines.proofs.LinksHeaders.{versions_apart}
use Rattle.tl_lines.specs.statement.LinksHeader.{NamesAllowed}
use Rattle.tl_lines.specs.statement.JudgedLinks.{JudgedLinks, faults_by}
use Rattle.tl_params.specs.declared.level.Level.{Level}
use Rattle.tl_params.specs.declared.liberties.Liberties.{Liberties}
use Rattle.tl_params.specs.declared.profile.Profile.{Profile}
use Rattle.tl_params.specs.declared.width.Width.{Width}
use Rattle.tl_params.specs.statement.Liberties.{liberties_of, no_liberties, united}
use Rattle.tl_rules.proofs.Profiles.{on_link-of}
use Rattle.tl_rules.specs.statement.Conformance.{Trace}

-- nothing is added to those of a profile
none_added : (p : Profile) → united (liberties_of p) no_liberties ≡ liberties_of p
none_added Profile.One = refl
none_added Profile.Two = refl

-- links under the liberties of a profile are at fault for what they are at fault for under the profile
module _ (faults : FaultsOf Liberties) (of_profile : Faults) (said : ℕ → List ℕ)
    (same_faults : (w : ℕ) (levels : List Level) (p : Profile) (x : Link × Beat w) (t : Trace w)
    → faults w levels (liberties_of p) x t ≡ of_profile w levels p x t) where
  judged_so : {w : ℕ} (levels : List Level) (p : Profile) (t : Trace w) (lines : List (List ℕ)) (text : List ℕ)
      (status : Status) → JudgedAfter faults said levels (liberties_of p) t lines text status
      → JudgedAfter of_profile said levels p t lines text status
  unfolding JudgedAfter
  judged_so levels p t [] text status judged = judged
  judged_so levels p t (line ∷ lines) text status (inl (link, beat, spells, good, more)) =
      inl (
        link,
        beat,
        spells,
        sym (same_faults _ levels p (link, beat) t) ∙ good,
        judged_so levels p ((link, beat) ∷ t) lines text status more,
      )
  judged_so levels p t (line ∷ lines) text status (inr (fault, inl unread, says, ends)) =
      inr (fault, inl unread, says, ends)
  judged_so levels p t (line ∷ lines) text status (inr (fault, inr (link, beat, spells, bad), says, ends)) =
      inr (fault, inr (link, beat, spells, sym (same_faults _ levels p (link, beat) t) ∙ bad), says, ends)

  module _ (line : List ℕ) (width : Width) (p : Profile) (levels : List Level)
      (s : SpellsHeader line width p levels) where
    judged_by : (lines : List (List ℕ)) (text : List ℕ) (status : Status)
        → JudgedBy (NamesAllowed no_liberties) faults said (line ∷ lines) text status
        → JudgedBy SpellsHeader of_profile said (line ∷ lines) text status
    unfolding JudgedBy
    judged_by lines text status (inl (wide, may, others, head, judged)) = go head
      where
        go : NamesAllowed no_liberties line wide may others
            → JudgedBy SpellsHeader of_profile said (line ∷ lines) text status
        go (own, inl (q, r, is), same) =
            inl (
              wide,
              q,
              others,
              r,
              judged_so others q [] lines text status
                  (subst (λ (m : Liberties). JudgedAfter {w = bytes_of wide} faults said others m [] lines text status)
                  (same ∙ ap (λ (l : Liberties). united l no_liberties) is ∙ none_added q) judged),
            )
        go (own, inr h, same) = absurd (versions_apart line width wide p own levels others s h)
    judged_by lines text status (inr (none, says, ends)) = absurd (none width (liberties_of p) levels (liberties_of p, inl (p, s, refl), sym (none_added p)))

alone_same : (w : ℕ) (levels : List Level) (p : Profile) (x : Link × Beat w) (t : Trace w)
    → faults_by false w levels (liberties_of p) x t ≡ faults_of_links w levels p x t
alone_same w levels p x t = ap (option_map Breaks) (on_link-of p levels x t)

together_same : (w : ℕ) (levels : List Level) (p : Profile) (x : Link × Beat w) (t : Trace w)
    → faults_by true w levels (liberties_of p) x t ≡ faults_together w levels p x t
together_same w levels p x t = refl

module _ (line : List ℕ) (lines : List (List ℕ)) (text : List ℕ) (status : Status) (width : Width) (p : Profile)
    (levels : List Level) (s : SpellsHeader line width p levels) where
  pub by_profile : JudgedLinks false no_liberties (line ∷ lines) text status → Judged (line ∷ lines) text status
  by_profile judged =
      judged_by (faults_by false) faults_of_links clean_text alone_same line width p levels s lines text status judged

  pub together_by_profile : JudgedLinks true no_liberties (line ∷ lines) text status
      → JudgedTogether (line ∷ lines) text status
  together_by_profile judged =
      judged_by (faults_by true) faults_together coherent_text together_same line width p levels s lines text status
      judged
