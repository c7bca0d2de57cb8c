-- A judge that knows one more beat.
use Rattle.std.proofs.Common.{◌≡◌, subst, ℕ, suc, Bool, true, false, ◌+◌, List, [], ◌∷◌, length}
use Rattle.std.proofs.Common.{refl, sym, ap, ◌∙◌}
use Rattle.std.specs.Prelude.{Option, Some, None, Err}
use Rattle.std.proofs.Math.Numerals.{add-one}
use Rattle.tl_beat.specs.declared.beat.Beat.{Beat}
use Rattle.tl_beat.specs.declared.beat.Link.{Link}
use Rattle.tl_params.specs.declared.level.Level.{Level}
use Rattle.tl_params.specs.declared.liberties.Liberties.{Liberties}
use Rattle.tl_params.specs.declared.rule.Rule.{Rule}
use Rattle.tl_params.specs.declared.perm.Perm.TheVariants as perm
use Rattle.tl_rules.specs.statement.Conformance.{Trace, on_link}
use Rattle.tl_rules.specs.statement.Liberties.{broken_on_link_under}
use Rattle.tl_memory.specs.statement.BlockMap.{value_in}
use Rattle.tl_memory.specs.statement.Links.{KeepsRules}
use Rattle.tl_rules.specs.statement.History.{pending}
use Rattle.tl_monitor.specs.statement.Knows as of_link
use Rattle.tl_monitor.specs.declared.fault.MonitorFault.{MonitorFault}
use Rattle.tl_monitor.specs.declared.fault.MonitorFault.TheVariants as monitor
use Rattle.tl_together.specs.declared.breach.Breach.{Breach}
use Rattle.tl_together.specs.declared.breach.Breach.TheVariants.{OfLink}
use Rattle.tl_params.specs.declared.memory_rule.MemoryRule.{MemoryRule}
use Rattle.tl_together.specs.declared.fault.JudgeFault.{JudgeFault}
use Rattle.tl_together.specs.declared.fault.JudgeFault.TheVariants as judge
use Rattle.tl_together.specs.declared.judge.Judge.{Judge}
use Rattle.tl_memory.specs.declared.free.Freedom.{Freedom}
use Rattle.tl_memory.specs.statement.Memory.{KnowsMemory}
use Rattle.tl_together.specs.statement.Coherence.{broken_memory, first_broken}
use Rattle.tl_together.specs.statement.Knows.{Knows, KnowsTrace, Answers, fault_of, broken, closed_after}
use Rattle.tl_together.specs.code.Windows.{Moments, NotesRequest, NotesWindow, KnowsAsked, KnowsWindows}
use Rattle.tl_together.specs.code.Windows.{fault_of_monitor, window_at, IsSaid, IsShown, LeavesOthers}
use Rattle.tl_together.specs.code.Following.{Follows}
use Rattle.tl_together.specs.code.Judged.{fault_but, judged}
use Rattle.tl_together.specs.declared.breach.Unjudged.{Unjudged}

pub open_still : {w : ℕ} (j : Judge w) (levels : List Level) (may : Liberties) (t : Trace w) (closed : Bool)
    → Knows j levels may t closed → j.closed ≡ false → KnowsTrace j levels may t
open_still j levels may t closed k e = k.open_knows (sym k.closed_is ∙ e)

pub next_moment : {w : ℕ} (next moment : ℕ) (t : Trace w) → next ≡ moment + 1 → moment ≡ length t
    → next ≡ suc (length t)
next_moment next moment t next_is moment_is = next_is ∙ add-one moment ∙ ap suc moment_is

-- the same is known where what is kept of memory alone changes, and what is known of that stays
pub remembered : {w : ℕ} (j j' : Judge w) (levels : List Level) (may : Liberties) (t : Trace w) → KnowsTrace j levels may t
    → j'.links ≡ j.links → j'.moment ≡ j.moment → j'.monitor ≡ j.monitor → j'.asked.items ≡ j.asked.items
    → j'.windows ≡ j.windows
    → ((n : ℕ) (t : Trace w) → KnowsMemory j.memory n t → KnowsMemory j'.memory n t) → KnowsTrace j' levels may t
remembered j j' levels may t k links moment m asked windows memory = record {
  links_are = links ∙ k.links_are;
  moment_is = moment ∙ k.moment_is;
  monitor_is = subst (λ m. Follows m levels may t) (sym m) k.monitor_is;
  tables_are = ap length asked ∙ k.tables_are;
  asked_are = subst (λ a. KnowsAsked a (length levels) t) (sym asked) k.asked_are;
  windows_are = subst (λ v. KnowsWindows v (length levels) t) (sym windows) k.windows_are;
  memory_is = memory (length levels) t k.memory_is;
}

-- a beat was refused for want of memory before it was noted
pub unnoted : {w : ℕ} (j j' : Judge w) (levels : List Level) (may : Liberties) (t : Trace w) (closed : Bool)
    → Knows j levels may t closed → j'.closed ≡ j.closed → j'.links ≡ j.links → j'.moment ≡ j.moment
    → j'.monitor ≡ j.monitor → j'.asked.items ≡ j.asked.items → j'.windows ≡ j.windows
    → ((n : ℕ) (t : Trace w) → KnowsMemory j.memory n t → KnowsMemory j'.memory n t) → Knows j' levels may t closed
unnoted j j' levels may t closed k e links moment m asked windows memory = record {
  closed_is = e ∙ k.closed_is;
  open_knows = λ o. remembered j j' levels may t (k.open_knows o) links moment m asked windows memory;
}

-- a beat was noted, and refused
pub still : {w : ℕ} (j j' : Judge w) (levels : List Level) (may : Liberties) (t : Trace w) (closed : Bool) (link : Link)
    (x : Beat w) (next : ℕ) (said : Option ℕ) (before : Freedom) (held : Option ℕ) → Knows j levels may t closed
    → j.closed ≡ false → j'.closed ≡ false → j'.links ≡ j.links → j'.moment ≡ j.moment
    → Follows j'.monitor levels may t
    → NotesRequest j.monitor j.asked.items j'.asked.items link x next
    → NotesWindow j.monitor j.links j.moment said before held j.windows j'.windows
    → ((n : ℕ) (t : Trace w) → KnowsMemory j.memory n t → IsSaid said before n t)
    → ((n : ℕ) (t : Trace w) → KnowsMemory j.memory n t → KnowsMemory j'.memory n t)
    → Knows j' levels may t closed
still j j' levels may t closed link x next said before held k e e' links moment m asked windows free memory =
    let o = open_still j levels may t closed k e in
    let known = asked.1 levels may t o.monitor_is o.tables_are o.asked_are in
    let seen = windows levels may t o.monitor_is o.links_are o.moment_is (free (length levels) t o.memory_is)
    o.windows_are in
    record {
      closed_is = e' ∙ sym e ∙ k.closed_is;
      open_knows = λ _. record {
        links_are = links ∙ o.links_are;
        moment_is = moment ∙ o.moment_is;
        monitor_is = m;
        tables_are = asked.0 ∙ o.tables_are;
        asked_are = known.0;
        windows_are = seen.0;
        memory_is = memory (length levels) t o.memory_is;
      };
    }

-- a beat was taken
pub taken : {w : ℕ} (j j' : Judge w) (levels : List Level) (may : Liberties) (t : Trace w) (closed : Bool) (link : Link)
    (x : Beat w) (next : ℕ) (said : Option ℕ) (before : Freedom) (held : Option ℕ) (noted : Moments)
    → Knows j levels may t closed
    → j.closed ≡ false → j'.closed ≡ false → j'.links ≡ j.links → next ≡ j.moment + 1 → j'.moment ≡ next
    → Follows j'.monitor levels may ((link, x) ∷ t)
    → NotesRequest j.monitor j.asked.items j'.asked.items link x next
    → NotesWindow j.monitor j.links j.moment said before held j.windows noted → IsSaid said before (length levels) t
    → LeavesOthers held x (on_link link.0 t)
    → IsShown next x (on_link link.0 t) noted j'.windows
    → KnowsMemory j'.memory (length levels) ((link, x) ∷ t)
    → Knows j' levels may ((link, x) ∷ t) closed
taken j j' levels may t closed link x next said before held noted k e e' links next_is moment m asked windows free
    others shown memory =
    let o = open_still j levels may t closed k e in
    let known = asked.1 levels may t o.monitor_is o.tables_are o.asked_are in
    let seen = windows levels may t o.monitor_is o.links_are o.moment_is free o.windows_are in
    let more = next_moment next j.moment t next_is o.moment_is in
    record {
      closed_is = e' ∙ sym e ∙ k.closed_is;
      open_knows = λ _. record {
        links_are = links ∙ o.links_are;
        moment_is = moment ∙ more;
        monitor_is = m;
        tables_are = asked.0 ∙ o.tables_are;
        asked_are = known.1 more m.kept.0;
        windows_are = seen.1 link x j'.windows others (rw more at shown);
        memory_is = memory;
      };
    }

pub shut : {w : ℕ} (j : Judge w) (levels : List Level) (may : Liberties) (t : Trace w) → j.closed ≡ true
    → Knows j levels may t true
shut j levels may t e = record { closed_is = e; open_knows = λ f. absurd (no f) }
  where
    no : true ≡ false → ⊥
    no f = cc

-- ---- answers

link_fine : (o : Option Rule) → of_link.broken o ≡ None → o ≡ None
link_fine None e = refl
link_fine (Some r) e = absurd cc

pub fine_on_link : {w : ℕ} (levels : List Level) (may : Liberties) (t : Trace w) (x : Link × Beat w)
    → of_link.fault_under levels may t false x ≡ None → KeepsRules may levels x t
fine_on_link levels may t x e = link_fine (broken_on_link_under may levels x t) e

pub judged_fault : {w : ℕ} (j : Judge w) (left : Unjudged) (levels : List Level) (may : Liberties) (t : Trace w)
    (closed : Bool) (link : Link) (x : Beat w) (o : Option MemoryRule) → Knows j levels may t closed
    → j.closed ≡ false → KeepsRules may levels (link, x) t → o ≡ broken_memory (length levels) link.0 x t
    → fault_but left levels may t closed (link, x) ≡ broken (first_broken None (judged left o))
judged_fault j left levels may t closed link x o k e fine here = rw (sym k.closed_is ∙ e, fine, here) refl

of_link_rule : (o : Option Rule) (m : Option MemoryRule) (fault : MonitorFault)
    → of_link.Answers (of_link.broken o) (Err fault)
    → Answers (broken (first_broken o m)) (Err (fault_of_monitor fault))
of_link_rule o m monitor.Memory a = tt
of_link_rule None m monitor.Levels a = absurd cc
of_link_rule (Some r) m monitor.Levels a = absurd cc
of_link_rule None m monitor.Closed a = absurd cc
of_link_rule (Some r) m monitor.Closed a = absurd cc
of_link_rule None m (monitor.Broken r) a = absurd cc
of_link_rule (Some s) m (monitor.Broken r) a = ap (λ v. Some (judge.Broken (OfLink v))) (own a)
  where
    own : Some (monitor.Broken s) ≡ Some (monitor.Broken r) → s ≡ r
    own e = cc

pub refused : {w : ℕ} (j : Judge w) (left : Unjudged) (levels : List Level) (may : Liberties) (t : Trace w)
    (closed : Bool) (link : Link) (x : Beat w) (fault : MonitorFault) (f : JudgeFault) → Knows j levels may t closed
    → j.closed ≡ false → of_link.Answers (of_link.fault_under levels may t false (link, x)) (Err fault)
    → f ≡ fault_of_monitor fault
    → Answers (fault_but left levels may t closed (link, x)) (Err f)
refused j left levels may t closed link x fault f k e a f_is =
    subst (λ g. Answers (fault_but left levels may t closed (link, x)) (Err g)) (sym f_is)
    (subst (λ c. Answers (fault_but left levels may t c (link, x)) (Err (fault_of_monitor fault)))
    (sym (sym k.closed_is ∙ e))
    (of_link_rule (broken_on_link_under may levels (link, x) t) (judged left (broken_memory (length levels) link.0 x t))
    fault a))

-- what breaks this rule of memory breaks it, where it breaks no rule of its link
breach_is : (o : Option Rule) (m : Option MemoryRule) (rule : MemoryRule) (breach : Breach)
    → Some breach ≡ first_broken o (Some rule) → (o ≡ None → m ≡ Some rule) → first_broken o m ≡ Some breach
breach_is None m rule breach is here = rw (here refl) (sym is)
breach_is (Some r) m rule breach is here = sym is

pub broken_so : {w : ℕ} (j : Judge w) (left : Unjudged) (levels : List Level) (may : Liberties) (t : Trace w)
    (closed : Bool) (link : Link) (x : Beat w) (rule : MemoryRule) (breach : Breach) → Knows j levels may t closed
    → j.closed ≡ false
    → Some breach ≡ first_broken (broken_on_link_under may levels (link, x) t) (Some rule)
    → (KeepsRules may levels (link, x) t → judged left (broken_memory (length levels) link.0 x t) ≡ Some rule)
    → fault_but left levels may t closed (link, x) ≡ Some (judge.Broken breach)
broken_so j left levels may t closed link x rule breach k e is here =
    rw (
      sym k.closed_is ∙ e,
      breach_is (broken_on_link_under may levels (link, x) t) (judged left (broken_memory (length levels) link.0 x t)) rule
          breach is here,
    ) refl

-- ---- whether the judge is closed

-- a judge that takes a beat isn't closed
pub unclosed : {w : ℕ} (j : Judge w) (levels : List Level) (may : Liberties) (t s : Trace w) (closed : Bool)
    (x : Link × Beat w) → fault_of levels may t closed x ≡ None → Knows j levels may s closed → Knows j levels may s false
unclosed j levels may t s true x e k = absurd cc
unclosed j levels may t s false x e k = k

-- it is closed after a refusal, but for want of memory
pub refused_knows : {w : ℕ} (j j' : Judge w) (levels : List Level) (may : Liberties) (t : Trace w) (closed : Bool)
    (fault : JudgeFault) → Knows j levels may t closed → j'.closed ≡ closed_after j.closed (Err fault)
    → j'.links ≡ j.links → j'.moment ≡ j.moment → j'.monitor ≡ j.monitor → j'.asked.items ≡ j.asked.items
    → j'.windows ≡ j.windows → ((n : ℕ) (t : Trace w) → KnowsMemory j.memory n t → KnowsMemory j'.memory n t)
    → Knows j' levels may t (closed_after closed (Err fault))
refused_knows j j' levels may t closed judge.Memory k e links moment m asked windows memory =
    unnoted j j' levels may t closed k e links moment m asked windows memory
refused_knows j j' levels may t closed judge.Levels k e links moment m asked windows memory = shut j' levels may t e
refused_knows j j' levels may t closed judge.Closed k e links moment m asked windows memory = shut j' levels may t e
refused_knows j j' levels may t closed (judge.Broken b) k e links moment m asked windows memory = shut j' levels may t e

none_yet : (w : ℕ) (entries : Moments) (n : ℕ) → ((k : ℕ) → value_in entries k ≡ None)
    → KnowsWindows {w = w} entries n []
unfolding window_at
none_yet w entries n e perm.None b closed = rw (e b) refl
none_yet w entries n e perm.Branch b closed = rw (e b) refl
none_yet w entries n e perm.Trunk b closed = rw (e b) refl

none_asked : (w : ℕ) (tables : List (List (Option ℕ))) (n : ℕ) → KnowsAsked {w = w} tables n []
unfolding pending on_link
none_asked w tables n link source lt some = absurd cc

pub new_knows : {w : ℕ} (j : Judge w) (levels : List Level) (may : Liberties) → j.closed ≡ false → j.links ≡ length levels
    → j.moment ≡ 0 → Follows j.monitor levels may []
    → length j.asked.items ≡ length levels → ((k : ℕ) → value_in j.windows k ≡ None) → KnowsMemory {w = w} j.memory (length levels) []
    → Knows j levels may [] false
new_knows {w} j levels may e links moment m tables entries memory = record {
  closed_is = e;
  open_knows = λ _. record {
    links_are = links;
    moment_is = moment;
    monitor_is = m;
    tables_are = tables;
    asked_are = none_asked w j.asked.items (length levels);
    windows_are = none_yet w j.windows (length levels) entries;
    memory_is = memory;
  };
}
