-- What a monitor of each link, or a judge of all links, says of a beat.
use Rattle.std.proofs.Common.{◌≡◌, ℕ, Bool, true, false, List, ◌∷◌, ap, refl}
use Rattle.std.specs.Prelude.{Option, Some, None, option_map}
use Rattle.tl_beat.specs.declared.beat.Link.{Link}
use Rattle.tl_beat.specs.declared.beat.Beat.{Beat}
use Rattle.tl_params.specs.statement.Liberties.{liberties_of}
use Rattle.tl_params.specs.declared.level.Level.{Level}
use Rattle.tl_params.specs.declared.profile.Profile.{Profile}
use Rattle.tl_params.specs.declared.rule.Rule.{Rule}
use Rattle.tl_rules.specs.statement.Conformance.{Trace, broken_on_link}
use Rattle.tl_monitor.specs.declared.fault.MonitorFault.TheVariants as monitor
use Rattle.tl_monitor.specs.declared.monitor.Monitor.{Monitor}
use Rattle.tl_monitor.specs.statement.Knows as of_link
use Rattle.tl_monitor.proofs.Knowing.{broken_by, unbroken}
use Rattle.tl_together.specs.declared.breach.Breach.{Breach}
use Rattle.tl_together.specs.declared.fault.JudgeFault.TheVariants as judge
use Rattle.tl_together.specs.declared.judge.Judge.{Judge}
use Rattle.tl_together.specs.statement.Coherence.{broken_together}
use Rattle.tl_together.specs.statement.Knows as of_all
use Rattle.tl_lines.specs.declared.beat_judge.BeatJudge.{BeatJudge}
use Rattle.tl_lines.specs.declared.beat_judge.BeatJudge.TheVariants.{OfAll, OfLinks}
use Rattle.tl_lines.specs.declared.fault.Fault.TheVariants.{Rule as Breaks}
use Rattle.tl_lines.specs.statement.Coherent.{fault_of_breach}
use Rattle.tl_lines.specs.code.Watching.{JudgesBeat, KnowsBeats}
use Rattle.tl_lines.specs.statement.JudgedSo.{faults_by}

pub whole : (o : Option Breach) → of_all.broken o ≡ None → o ≡ None
whole None e = refl
whole (Some breach) e = absurd cc

pub breached_by : (o : Option Breach) (breach : Breach) → of_all.broken o ≡ Some (judge.Broken breach) → o ≡ Some breach
breached_by None breach e = absurd cc
breached_by (Some other) breach e = cc

module _ {w : ℕ} (old : BeatJudge w) (x : Link × Beat w) where
  -- what is so where the judge has a trace
  abbrev Wherever : ((levels : List Level) (p : Profile) (t : Trace w) → Type 0) → (List Level → Profile → Trace w
      → Type 0) → Type 0
  Wherever Known So = (levels : List Level) (p : Profile) (t : Trace w) → Known levels p t → So levels p t

  module _ (m : Monitor w) (is : old ≡ OfLinks m) where
    pub alone_good : (new : Monitor w)
        → Wherever (λ levels p t. of_link.Knows m levels p t false)
        (λ levels p t. of_link.fault_of levels p t false x ≡ None)
        → Wherever (λ levels p t. of_link.Knows m levels p t false)
        (λ levels p t. of_link.Knows new levels p (x ∷ t) false)
        → (together : Bool) → Wherever (KnowsBeats together old)
        (λ levels p t. JudgesBeat together (OfLinks new) levels p t x None)
    alone_good new fine knows true levels p t known = absurd (rw is at known)
    alone_good new fine knows false levels p t known =
        let had = rw is at known in (
          ap (option_map Breaks) (unbroken (broken_on_link levels p x t) (fine levels p t had)),
          knows levels p t had,
        )

    pub alone_bad : (new : Monitor w) (rule : Rule)
        → Wherever (λ levels p t. of_link.Knows m levels p t false)
        (λ levels p t. of_link.fault_of levels p t false x ≡ Some (monitor.Broken rule))
        → Wherever (λ levels p t. of_link.Knows m levels p t false) (λ levels p t. of_link.Knows new levels p t false)
        → (together : Bool) → Wherever (KnowsBeats together old)
        (λ levels p t. JudgesBeat together (OfLinks new) levels p t x (Some (Breaks rule)))
    alone_bad new rule broken knows true levels p t known = absurd (rw is at known)
    alone_bad new rule broken knows false levels p t known =
        let had = rw is at known in (
          ap (option_map Breaks) (broken_by (broken_on_link levels p x t) rule (broken levels p t had)),
          knows levels p t had,
        )

  module _ (j : Judge w) (is : old ≡ OfAll j) where
    pub together_good : (new : Judge w)
        → Wherever (λ levels p t. of_all.Knows j levels (liberties_of p) t false)
        (λ levels p t. of_all.fault_of levels (liberties_of p) t false x ≡ None)
        → Wherever (λ levels p t. of_all.Knows j levels (liberties_of p) t false)
        (λ levels p t. of_all.Knows new levels (liberties_of p) (x ∷ t) false)
        → (together : Bool) → Wherever (KnowsBeats together old)
        (λ levels p t. JudgesBeat together (OfAll new) levels p t x None)
    together_good new fine knows false levels p t known = absurd (rw is at known)
    together_good new fine knows true levels p t known =
        let had = rw is at known in (
          ap (option_map fault_of_breach) (whole (broken_together levels (liberties_of p) x t) (fine levels p t had)),
          knows levels p t had,
        )

    pub together_bad : (new : Judge w) (breach : Breach)
        → Wherever (λ levels p t. of_all.Knows j levels (liberties_of p) t false)
        (λ levels p t. of_all.fault_of levels (liberties_of p) t false x ≡ Some (judge.Broken breach))
        → Wherever (λ levels p t. of_all.Knows j levels (liberties_of p) t false) (λ levels p t. of_all.Knows new levels (liberties_of p) t false)
        → (together : Bool) → Wherever (KnowsBeats together old)
        (λ levels p t. JudgesBeat together (OfAll new) levels p t x (Some (fault_of_breach breach)))
    together_bad new breach broken knows false levels p t known = absurd (rw is at known)
    together_bad new breach broken knows true levels p t known =
        let had = rw is at known in (
          ap (option_map fault_of_breach) (breached_by (broken_together levels (liberties_of p) x t) breach (broken levels p t had)),
          knows levels p t had,
        )
