-- What a monitor answers under the liberties of a profile is what the profile has.
use Rattle.std.proofs.Common.{◌≡◌, ℕ, Bool, true, false, List, ◌∷◌, ◌^◌, refl, ap, ◌∙◌}
use Rattle.std.specs.Prelude.{[], None, Result, Ok, Err, ⊤}
use Rattle.tl_beat.specs.declared.beat.Beat.{Beat}
use Rattle.tl_beat.specs.declared.beat.Link.{Link}
use Rattle.tl_burst.specs.statement.Messages.{History, breaks_burst, channel_of, unfinished}
use Rattle.tl_params.specs.declared.level.Level.{Level}
use Rattle.tl_params.specs.declared.profile.Profile.{Profile}
use Rattle.tl_params.specs.statement.Liberties.{liberties_of}
use Rattle.tl_rules.specs.statement.Conformance.{Trace, broken_after, on_link}
use Rattle.tl_rules.specs.statement.History.{held}
use Rattle.tl_rules.specs.statement.Liberties.{held_under}
use Rattle.tl_rules.proofs.Profiles.{after-of, held-of, on_link-of}
use Rattle.tl_monitor.specs.statement.Numbers.{is_held, entry_count, entry_count_under, IsMoreUnder, IsMoreWhereRefused}
use Rattle.tl_monitor.specs.statement.Count.{count_below, one_if}
use Rattle.tl_monitor.specs.statement.Knows.{Answers, IsNew, IsNewUnder, broken, fault_of, fault_under, held_on}
use Rattle.tl_monitor.specs.statement.Knows.{held_on_under}
use Rattle.tl_monitor.specs.declared.monitor.Monitor.{Monitor}
use Rattle.tl_monitor.proofs.Knowing.{to-profile}
use Rattle.tl_monitor.specs.declared.fault.MonitorFault.{MonitorFault}
use Rattle.tl_monitor.specs.declared.fault.MonitorFault.TheVariants as monitor
use Rattle.tl_monitor.proofs.Counts.{sum-same}
use Rattle.tl_monitor.proofs.Judged as judged

pub fault-of : {w : ℕ} (levels : List Level) (p : Profile) (t : Trace w) (closed : Bool) (x : Link × Beat w)
    → fault_under levels (liberties_of p) t closed x ≡ fault_of levels p t closed x
fault-of levels p t true x = refl
fault-of levels p t false x = ap broken (on_link-of p levels x t)

pub answers-of : {w : ℕ} (levels : List Level) (p : Profile) (t : Trace w) (closed : Bool) (x : Link × Beat w)
    (r : Result ⊤ MonitorFault) → Answers (fault_under levels (liberties_of p) t closed x) r
    → Answers (fault_of levels p t closed x) r
answers-of levels p t closed x r answers = rw (← fault-of levels p t closed x) answers

pub held-on-link : {w : ℕ} (levels : List Level) (p : Profile) (link : Link) (block : ℕ) (t : Trace w)
    → held_on_under (liberties_of p) levels link block t ≡ held_on levels link block t
held-on-link levels p link block t = rw (held-of p block (on_link link.0 t)) refl

-- as many blocks are held
held_count : {w : ℕ} (p : Profile) (t : History w)
    → count_below (2 ^ 32) (λ k. is_held (held_under (liberties_of p) k t)) ≡ count_below (2 ^ 32) (λ k. is_held (held k t))
held_count p t = sum-same (2 ^ 32) (λ k. one_if (is_held (held_under (liberties_of p) k t)))
    (λ k. one_if (is_held (held k t))) (λ k lt. ap (λ h. one_if (is_held h)) (held-of p k t))

pub more-of : {w : ℕ} (p : Profile) (t : History w) (x : Beat w) (r : Result ⊤ MonitorFault)
    → IsMoreUnder (liberties_of p) t x r → IsMoreWhereRefused t x r
more-of p t x (Ok u) more = more
more-of p t x (Err monitor.Memory) more = rw (held_count p t, held_count p (x ∷ t)) at more
more-of p t x (Err monitor.Levels) more = more
more-of p t x (Err monitor.Closed) more = more
more-of p t x (Err (monitor.Broken rule)) more = more

pub entries-of : {w : ℕ} (levels : List Level) (p : Profile) (link : Link) (t : Trace w)
    → entry_count_under (liberties_of p) levels link t ≡ entry_count levels link t
entries-of levels p link t = rw (held_count p (on_link link.0 t)) refl

-- a beat that breaks no rule continues the burst that is unfinished
pub continues : {w : ℕ} (l : Level) (p : Profile) (x : Beat w) (t : History w) → broken_after l p x t ≡ None
    → breaks_burst x (unfinished (channel_of x) t) ≡ false
continues l p x t e = judged.continues (liberties_of p) l x t (after-of p l x t ∙ e)

-- a new monitor
pub new-of : {w : ℕ} (levels : List Level) (p : Profile) (r : Result (Monitor w) MonitorFault)
    → IsNewUnder levels (liberties_of p) r → IsNew levels p r
new-of levels p (Ok m) new = (new.0, to-profile m levels p [] false new.1)
new-of levels p (Err monitor.Levels) new = new
new-of levels p (Err monitor.Memory) new = new
new-of levels p (Err monitor.Closed) new = new
new-of levels p (Err (monitor.Broken rule)) new = new
