-- The permissions that all links hold of a block, with one more event, and what is told of them.
use Rattle.std.proofs.Common.{◌≡◌, ◌∙◌, ◌+◌, ◌<◌, ℕ, Bool, true, false, List, [], ◌∷◌, ◌++◌, length, refl, ap, sym}
use Rattle.std.proofs.Common.{◌≤◌, arith, subst, cond, inl, inr}
use Rattle.std.proofs.Math.Path.{fun_ext}
use Rattle.std.proofs.lemmas.Bool.{cases_eq, cases_lt, eq-eqb, le-ltb, lt-ltb, ltb-true, ne_eqb}
use Rattle.std.proofs.lemmas.List.Sums.{sum_by_push}
use Rattle.std.proofs.lemmas.Option.{same_Some}
use Rattle.std.specs.Prelude.{◌==◌, Option, Some, None, count_by, nat_lt}
use Rattle.tl_beat.specs.declared.beat.Beat.{Beat}
use Rattle.tl_beat.specs.declared.beat.BeatD.{BeatD}
use Rattle.tl_beat.specs.declared.beat.Link.{Link}
use Rattle.tl_commits.specs.statement.Events.{Events, beats_of}
use Rattle.tl_events.specs.declared.commit.Commit.{Commit}
use Rattle.tl_events.specs.declared.commit.Event.TheVariants as event
use Rattle.tl_explain.specs.statement.Evidence.{next_line}
use Rattle.tl_memory.specs.code.Elsewhere.{block_asked}
use Rattle.tl_monitor.specs.statement.Knows.{request_on}
use Rattle.tl_params.specs.declared.level.Level.{Level}
use Rattle.tl_params.specs.declared.liberties.Liberties.{Liberties}
use Rattle.tl_params.specs.declared.memory_rule.MemoryRule.{MemoryRule}
use Rattle.tl_params.specs.declared.memory_rule.MemoryRule.TheVariants.{M1, M2, M3, M4}
use Rattle.tl_rules.specs.code.Open.{open_request}
use Rattle.tl_rules.specs.declared.past.Request.{Request}
use Rattle.tl_rules.specs.statement.Conformance.{Trace, on_link}
use Rattle.tl_rules.specs.statement.History.{capped}
use Rattle.tl_together.specs.declared.judge.Judge.{Judge}
use Rattle.tl_together.specs.statement.Knows.{Knows}
use Rattle.tl_witness.specs.code.Witness.{KnowsWitness}
use Rattle.tl_witness.specs.declared.witness.Witness.{Witness}
use Rattle.tl_witness.specs.statement.Grounds.{access_grounds, access_text, conflicts_text, grant_grounds, grounds_text}
use Rattle.tl_witness.specs.statement.Naming.{Naming}
use Rattle.tl_commit_story.specs.code.Placing.{FollowsLinks, IsAnswered, KnowsLines, KnowsLinks, TellsLinks}
use Rattle.tl_commit_story.specs.code.Placing.{is_of_links}
use Rattle.tl_commit_story.specs.code.Placing.{names_by}
use Rattle.tl_commit_story.specs.declared.beat_lines.BeatLines.{BeatLines}
use Rattle.tl_commit_story.specs.declared.links_record.LinksRecord.{LinksRecord}
use Rattle.tl_commit_story.specs.statement.BeatLines.{event_names, line_of_beat}

-- ---- the lines of beats

-- the line of a beat with one more beat
beat-line : (last beats events count other n : ℕ) → last ≡ beats + 1 → (last < n → count + beats ≡ events)
    → cond (nat_lt last n) n (n + count) ≡ other
    → cond (nat_lt (last + 1) n) n (n + count) ≡ cond (n == beats + 2) (events + 2) other
beat-line last beats events count other n at past is =
    elim (cases_eq n (beats + 2)) [
      | inl same ↦
          rw (eq-eqb n (beats + 2) same, le-ltb (last + 1) n (omega (arith, same, at)))
          (let all = past (omega (arith, same, at)) in omega (arith, same, all))
      | inr differs ↦ rw (ne_eqb n (beats + 2) differs) (elim (cases_lt (last + 1) n) [
        | inl lt ↦ rw (lt-ltb (last + 1) n lt) (rw (lt-ltb last n (omega (arith, lt))) at is)
        | inr le ↦
            let low : n ≤ last = elim (cases_lt n (last + 1)) [
              | inl lt ↦ omega (arith, lt)
              | inr ge ↦ absurd (differs (omega (arith, le, ge, at)))
            ] in
            rw (le-ltb (last + 1) n le) (rw (le-ltb last n low) at is)
      ])
    ]

-- and with one more commit
commit-line : (last count more other n : ℕ) → more ≡ count + cond (nat_lt last n) 1 0
    → cond (nat_lt last n) n (n + count) ≡ other → cond (nat_lt last n) n (n + more) ≡ other
commit-line last count more other n = go (nat_lt last n)
  where
    go : (b : Bool) → more ≡ count + cond b 1 0 → cond b n (n + count) ≡ other → cond b n (n + more) ≡ other
    go true is same = same
    go false is same = let sum : n + more ≡ n + count = omega (arith, is) in sum ∙ same

counts-one : (b : Bool) → b ≡ true → cond {A = ℕ} b 1 0 ≡ 1
counts-one true is = refl
counts-one false is = absurd cc

module _ {w : ℕ} (b : BeatLines) (link : Link) (e : Events w) (k : KnowsLines b e) where
  lines-beat : (number : ℕ) (x : Beat w) → number ≡ b.last + 1
      → KnowsLines (record b { last = number }) ((link, event.Beat x) ∷ e)
  unfolding beats_of line_of_beat
  lines-beat number x next = record {
    last_is = omega (arith, next, k.last_is);
    past_is = λ n lt. let was = k.past_is n (omega (arith, next, lt)) in omega (arith, was);
    line_is = λ n. rw next (beat-line b.last (length (beats_of e)) (length e)
        (count_by (λ m. nat_lt m n) b.commits.items) (line_of_beat e n) n k.last_is (k.past_is n) (k.line_is n));
  }

  lines-commit : (new : BeatLines) (x : Commit) → new.last ≡ b.last
      → new.commits.items ≡ b.commits.items ++ b.last ∷ [] → KnowsLines new ((link, event.Commit x) ∷ e)
  unfolding beats_of line_of_beat
  lines-commit new x last pushed = record {
    last_is = last ∙ k.last_is;
    past_is = λ n lt.
        let below : b.last < n = omega (arith, lt, last) in
        let was = k.past_is n below in
        let more = counted n in
        let one = counts-one (nat_lt b.last n) (lt-ltb b.last n below) in
        omega (arith, was, more, one);
    line_is = λ n. rw last (commit-line b.last (count_by (λ m. nat_lt m n) b.commits.items)
        (count_by (λ m. nat_lt m n) new.commits.items) (line_of_beat e n) n (counted n) (k.line_is n));
  }
    where
      counted : (n : ℕ) → count_by (λ m. nat_lt m n) new.commits.items
          ≡ count_by (λ m. nat_lt m n) b.commits.items + cond (nat_lt b.last n) 1 0
      counted n =
          ap (count_by (λ m. nat_lt m n)) pushed
          ∙ sum_by_push (λ m. cond (nat_lt m n) 1 0) b.commits.items b.last

-- ---- the events

-- before any event
pub links-fresh : {w : ℕ} (r : LinksRecord w) (may : Liberties) (levels : List Level) (n : ℕ)
    → Knows {w = w} r.judge levels may [] false → KnowsWitness {w = w} r.witness n r.block [] → n ≡ length levels
    → r.lines.last ≡ 1 → r.lines.commits.items ≡ [] → KnowsLinks r may levels []
unfolding beats_of line_of_beat
links-fresh {w} r may levels n judge witness many first none = record {
  judge_is = judge;
  witness_is = subst (λ (m : ℕ). KnowsWitness {w = w} r.witness m r.block []) many witness;
  lines_are = record {
    last_is = first;
    past_is = λ k lt. rw none refl;
    line_is = λ k. rw (first, none) (go (nat_lt 1 k) k);
  };
}
  where
    go : (b : Bool) (k : ℕ) → cond b k (k + 0) ≡ k
    go true k = refl
    go false k = omega arith

module _ {w : ℕ} (old : LinksRecord w) (link : Link) where
  -- a beat that the judge takes
  pub links-beat : (judge : Judge w) (witness : Witness) (number : ℕ) (x : Beat w) → number ≡ old.lines.last + 1
      → ((n block : ℕ) (t : Trace w) → KnowsWitness old.witness n block t → number ≡ next_line t
      → KnowsWitness witness n block ((link, x) ∷ t))
      → ((levels : List Level) (may : Liberties) (t : Trace w) → Knows old.judge levels may t false
      → Knows judge levels may ((link, x) ∷ t) false)
      → FollowsLinks old
      (record old { judge = judge; witness = witness; lines = record old.lines { last = number } }) link (event.Beat x)
  unfolding beats_of
  links-beat judge witness number x next takes pushes = λ may levels e k. record {
    judge_is = pushes levels may (beats_of e) k.judge_is;
    witness_is = takes (length levels) old.block (beats_of e) k.witness_is (omega (arith, next, k.lines_are.last_is));
    lines_are = lines-beat old.lines link e k.lines_are number x next;
  }

  -- a commit
  pub links-commit : (lines : BeatLines) → lines.last ≡ old.lines.last
      → lines.commits.items ≡ old.lines.commits.items ++ old.lines.last ∷ []
      → (x : Commit) → FollowsLinks old (record old { lines = lines }) link (event.Commit x)
  unfolding beats_of
  links-commit lines last pushed x = λ may levels e k. record {
    judge_is = k.judge_is;
    witness_is = k.witness_is;
    lines_are = lines-commit old.lines link e k.lines_are lines x last pushed;
  }

-- ---- the response

-- it answers a request of the block
pub links-answered : {w : ℕ} (r : LinksRecord w) (link : Link) (source : ℕ) (asked : Option Request) (o : Request)
    → asked ≡ Some o → o.block ≡ r.block
    → ((levels : List Level) (may : Liberties) (t : Trace w) → Knows r.judge levels may t false
    → asked ≡ request_on levels link source t)
    → (levels : List Level) (may : Liberties) (t : Trace w) → Knows r.judge levels may t false
    → IsAnswered levels link source r.block t
links-answered r link source asked o is here says levels may t k =
    go (nat_lt link.0 (length levels)) refl (open_request source (on_link link.0 t)) (sym is ∙ says levels may t k)
  where
    go : (b : Bool) → nat_lt link.0 (length levels) ≡ b → (opened : Option Request) → Some o ≡ cond b opened None
        → (link.0 < length levels) × (block_asked opened ≡ Some r.block)
    go true lt opened e = (ltb-true link.0 (length levels) lt, ap block_asked (sym e) ∙ ap (λ (n : ℕ). Some n) here)
    go false lt opened e = absurd cc

-- the lines by what is kept are those of the events
names-same : {w : ℕ} (names : Naming) (r : LinksRecord w) (may : Liberties) (levels : List Level) (e : Events w)
    → KnowsLinks r may levels e → names_by r.lines.last r.lines.commits.items names ≡ event_names names e
names-same names r may levels e k =
    ap (λ (line : ℕ → ℕ). record { line = λ n. names.line (line n); address = names.address })
    (fun_ext k.lines_are.line_is)

-- ---- what is told, by what is told of each rule

module _ {w : ℕ} (names : Naming) (n link : ℕ) (x : BeatD w) (t : Trace w) (block : ℕ) (was is : List ℕ) where
  for-grant : (o : Option Request) → block_asked o ≡ Some block
      → is ≡ was ++ conflicts_text names n link (capped x.param) block t → is ≡ was ++ grant_grounds names n link x o t
  for-grant None of e = absurd cc
  for-grant (Some asked) of e = let same : asked.block ≡ block = same_Some asked.block block of in rw same e

  for-access : (o : Option Request) → block_asked o ≡ Some block
      → ((asked : Request) → o ≡ Some asked → is ≡ was ++ access_text names n link x.source asked block t)
      → is ≡ was ++ access_grounds names n link x o t
  for-access None of e = absurd cc
  for-access (Some asked) of e =
      let same : asked.block ≡ block = same_Some asked.block block of in rw same (e asked refl)

  of-rule : (rule : MemoryRule) → is_of_links rule ≡ true
      → block_asked (open_request x.source (on_link link t)) ≡ Some block
      → (rule ≡ M1 → is ≡ was ++ conflicts_text names n link (capped x.param) block t)
      → (rule ≡ M4 → (asked : Request) → open_request x.source (on_link link t) ≡ Some asked
      → is ≡ was ++ access_text names n link x.source asked block t)
      → is ≡ was ++ grounds_text names rule n link x t
  of-rule M1 links of grant access = for-grant (open_request x.source (on_link link t)) of (grant refl)
  of-rule M4 links of grant access = for-access (open_request x.source (on_link link t)) of (access refl)
  of-rule M2 links of grant access = absurd cc
  of-rule M3 links of grant access = absurd cc

pub links-told : {w : ℕ} (names : Naming) (r : LinksRecord w) (rule : MemoryRule) (link : Link) (x : BeatD w) (was is : List ℕ)
    → is_of_links rule ≡ true
    → ((levels : List Level) (may : Liberties) (t : Trace w) → Knows r.judge levels may t false
    → IsAnswered levels link x.source r.block t)
    → (rule ≡ M1 → (levels : List Level) (may : Liberties) (block : ℕ) (t : Trace w) → Knows r.judge levels may t false
    → KnowsWitness r.witness (length levels) block t
    → is ≡ was
    ++ conflicts_text (names_by r.lines.last r.lines.commits.items names) (length levels) link.0 (capped x.param) block t)
    → (rule ≡ M4 → (levels : List Level) (may : Liberties) (asked : Request) (block : ℕ) (t : Trace w)
    → Knows r.judge levels may t false → KnowsWitness r.witness (length levels) block t → link.0 < length levels
    → open_request x.source (on_link link.0 t) ≡ Some asked
    → is ≡ was
    ++ access_text (names_by r.lines.last r.lines.commits.items names) (length levels) link.0 x.source asked block t)
    → TellsLinks r names rule link x was is
links-told names r rule link x was is of answered grant access = record {
  of_links = of;
  says = λ may levels e k.
      let so = answered levels may (beats_of e) k.judge_is in
      let said = of-rule (names_by r.lines.last r.lines.commits.items names) (length levels) link.0 x (beats_of e) r.block was
      is rule of so.1 (λ one. grant one levels may r.block (beats_of e) k.judge_is k.witness_is)
      (λ four asked opened. access four levels may asked r.block (beats_of e) k.judge_is k.witness_is so.0 opened) in
      said ∙ ap (λ (named : Naming). was ++ grounds_text named rule (length levels) link.0 x (beats_of e))
      (names-same names r may levels e k);
}

-- what is known stays so with a judge that knows the same
pub links-kept : {w : ℕ} (r : LinksRecord w) (judge : Judge w) (may : Liberties) (levels : List Level) (e : Events w)
    → KnowsLinks r may levels e
    → ((levels : List Level) (may : Liberties) (t : Trace w) (closed : Bool) → Knows r.judge levels may t closed
    → Knows judge levels may t closed)
    → KnowsLinks (record r { judge = judge }) may levels e
links-kept r judge may levels e k knows = record {
  judge_is = knows levels may (beats_of e) false k.judge_is;
  witness_is = k.witness_is;
  lines_are = k.lines_are;
}
