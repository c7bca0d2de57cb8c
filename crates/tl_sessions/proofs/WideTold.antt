-- The answer to a wide beat or a commit, by what is known before it.
use Rattle.std.proofs.Common.{◌≡◌, ◌∙◌, ℕ, Bool, true, false, List, ◌∷◌, ap, refl, subst, sym, inl, inr}
use Rattle.std.proofs.Common.{true≢false}
use Rattle.std.proofs.lemmas.Bool.{and_parts, eq-eqb, eqb-true}
use Rattle.std.proofs.lemmas.Bool.Decides.{Decides-and, Decides-eqb}
use Rattle.std.proofs.lemmas.Slice.Eq.{bytes_eq-Decides}
use Rattle.std.specs.Bool.{Decides}
use Rattle.std.specs.Prelude.{◌⊎◌, ◌==◌, ◌&&◌, Option, Some, None, Result, Ok, Err, option_map}
use Rattle.tl_beat.specs.declared.beat.Link.{Link}
use Rattle.tl_commits.specs.declared.rule.CommitBreach.{CommitBreach}
use Rattle.tl_events.specs.declared.commit.Event.{Event}
use Rattle.tl_params.specs.declared.level.Level.{Level}
use Rattle.tl_params.specs.declared.liberties.Liberties.{Liberties}
use Rattle.tl_pictures.specs.declared.answer.Answer.{Answer}
use Rattle.tl_pictures.specs.declared.commit.CommitPicture.{CommitPicture}
use Rattle.tl_pictures.specs.declared.wide.WidePicture.{WidePicture}
use Rattle.tl_pictures.specs.statement.Answer.{no_memory}
use Rattle.tl_pictures.specs.statement.Codes.{link_at}
use Rattle.tl_wide.specs.statement.Naming.{is_beyond}
use Rattle.tl_wide.specs.statement.Verdict.{Breaks, Beyond}
use Rattle.tl_wide.specs.statement.Width.{part_width}
use Rattle.tl_wide_events.specs.declared.commit.WideEvent.{WideEvent}
use Rattle.tl_wide_events.specs.statement.Narrowed.{WideEvents, events_of, names_of, narrowed, with_events}
use Rattle.tl_sessions.specs.code.WideJudging.{AnswersVerdict, Begins, BeginsEvent, BeginsParts, GoesOn, Stays, TakesParts}
use Rattle.tl_sessions.specs.code.WideJudging.{JudgesWideEvent, ToldOfEvent, ToldOfShown}
use Rattle.tl_sessions.specs.code.WideJudging.{is_same, is_same_beat, is_same_commit}
use Rattle.tl_sessions.specs.declared.part_judge.Left.{Left}
use Rattle.tl_sessions.specs.declared.part_judge.PartJudge.{PartJudge}
use Rattle.tl_sessions.specs.declared.part_judge.Verdict.{Verdict}
use Rattle.tl_sessions.specs.declared.part_judge.Verdict.TheVariants.{Taken, Broken, OutOfMemory}
use Rattle.tl_sessions.specs.declared.shown.Shown.{Shown}
use Rattle.tl_sessions.specs.declared.shown.Shown.TheVariants as fields
use Rattle.tl_sessions.specs.declared.wide.Begun.{Begun}
use Rattle.tl_sessions.specs.declared.wide.WideJudge.{WideJudge}
use Rattle.tl_sessions.specs.statement.Wide.{AnswersFault, AnswersWide, HasLeft, IsOf, Judging, KnowsOpen, KnowsParts, KnowsWide}
use Rattle.tl_sessions.specs.statement.Wide.{MayPush, Pushed, RunsOut, StopsAtPart, ToldOfWideEvent, ToldWide}
use Rattle.tl_sessions.specs.statement.Wide.{event_shown, events_left, part_breach, wide_fault}

some-is : {A : Type 0} {x y : A} → Some x ≡ Some y → x ≡ y
some-is e = cc

not-both : {A : Type 0} {C : Type 0} (x : A) → None ≡ Some x → C
not-both x e = absurd cc

-- one that isn't closed is not closed
not-closed : {C : Type 0} (b : Bool) → b ≡ true → b ≡ false → C
not-closed b is shut = absurd (true≢false (sym is ∙ shut))

-- ---- the event that was begun

both : {P Q : Type 0} {a b : Bool} → Decides a P → Decides b Q → Decides (a && b) (P × Q)
both {P} {Q} {a} {b} first second = Decides-and a b first second

fields-decide : (a b : WidePicture)
    → Decides (is_same_beat a b) (((((((((((a.lanes ≡ b.lanes) × (a.address ≡ b.address)) × (a.mask ≡ b.mask))
    × (a.source ≡ b.source)) × (a.sink ≡ b.sink)) × (a.channel ≡ b.channel)) × (a.opcode ≡ b.opcode))
    × (a.param ≡ b.param)) × (a.size ≡ b.size)) × (a.denied ≡ b.denied)) × (a.corrupt ≡ b.corrupt))
fields-decide a b =
    both (both (both (both (both (both (both (both (both (both (bytes_eq-Decides a.lanes b.lanes)
    (Decides-eqb a.address b.address)) (Decides-eqb a.mask b.mask)) (Decides-eqb a.source b.source))
    (Decides-eqb a.sink b.sink)) (Decides-eqb a.channel b.channel)) (Decides-eqb a.opcode b.opcode))
    (Decides-eqb a.param b.param)) (Decides-eqb a.size b.size)) (Decides-eqb a.denied b.denied))
    (Decides-eqb a.corrupt b.corrupt)

same-fields : (a b : WidePicture) → is_same_beat a b ≡ true → a ≡ b
same-fields a b e =
    let ((((((((((lanes, address), mask), source), sink), channel), opcode), param), size), denied), corrupt) =
    (fields-decide a b).0 e in
    λ i. record {
      lanes = lanes i;
      address = address i;
      mask = mask i;
      source = source i;
      sink = sink i;
      channel = channel i;
      opcode = opcode i;
      param = param i;
      size = size i;
      denied = denied i;
      corrupt = corrupt i;
    }

own-fields : (a : WidePicture) → is_same_beat a a ≡ true
own-fields a =
    (fields-decide a a).1 ((((((((((refl, refl), refl), refl), refl), refl), refl), refl), refl), refl), refl)

commit-decides : (a b : CommitPicture)
    → Decides (is_same_commit a b) ((((a.value ≡ b.value) × (a.address ≡ b.address)) × (a.kind ≡ b.kind)) × (a.size ≡ b.size))
commit-decides a b =
    both (both (both (Decides-eqb a.value b.value) (Decides-eqb a.address b.address)) (Decides-eqb a.kind b.kind))
    (Decides-eqb a.size b.size)

same-commit : (a b : CommitPicture) → is_same_commit a b ≡ true → a ≡ b
same-commit a b e =
    let (((value, address), kind), size) = (commit-decides a b).0 e in
    λ i. record { value = value i; address = address i; kind = kind i; size = size i }

own-commit : (a : CommitPicture) → is_same_commit a a ≡ true
own-commit a = (commit-decides a a).1 (((refl, refl), refl), refl)

same-shown : (a b : Shown) → is_same a b ≡ true → a ≡ b
same-shown (fields.Beat a) (fields.Beat b) e = ap fields.Beat (same-fields a b e)
same-shown (fields.Commit a) (fields.Commit b) e = ap fields.Commit (same-commit a b e)
same-shown (fields.Beat a) (fields.Commit b) e = absurd (true≢false (sym e))
same-shown (fields.Commit a) (fields.Beat b) e = absurd (true≢false (sym e))

own-shown : (a : Shown) → is_same a a ≡ true
own-shown (fields.Beat a) = own-fields a
own-shown (fields.Commit a) = own-commit a

pub is-of : (b : Begun) (code : ℕ) (x : Shown) → (b.link == code && is_same b.shown x) ≡ true
    → Some b ≡ Some (record { link = code; shown = x; rest = b.rest })
is-of b code x e =
    let parts = and_parts (b.link == code) (is_same b.shown x) e in
    let link = eqb-true b.link code parts.0 in
    let same = same-shown b.shown x parts.1 in
    λ i. Some (record { link = link i; shown = same i; rest = b.rest })

pub not-of : (b : Begun) (code : ℕ) (x : Shown) → (b.link == code && is_same b.shown x) ≡ false → ¬ (IsOf b code x)
not-of b code x e (link, same) =
    let is : (b.link == code && is_same b.shown x) ≡ true =
    rw (← link, ← same, eq-eqb b.link b.link refl, own-shown b.shown) refl in
    true≢false (sym is ∙ e)

-- an event that wasn't begun begins now, or can't be judged
pub begins-left : {w p : ℕ} (old new : WideJudge p) (link : Link) (code : ℕ) (shown : Shown) (x : WideEvent w)
    (result : Result Left Answer) → old.begun ≡ None → BeginsEvent old new link x result
    → BeginsParts old new link code shown x result
begins-left old new link code shown x (Ok rest) none begin = inr (none, begin)
begins-left old new link code shown x (Err answer) none refusal = inr (none, refusal)

-- ---- what is known before and after

module _ {w : ℕ} (judging : Judging) (levels : List Level) (l : Liberties) (t : WideEvents w) (pushed : Pushed)
    (x : Link × WideEvent w) where
  -- ---- what the fault is

  fault-beyond : is_beyond x.0 (names_of (x ∷ t)) ≡ true → wide_fault judging levels l x t ≡ Some Beyond
  fault-beyond is = rw is refl

  fault-by : (o : Option CommitBreach) → is_beyond x.0 (names_of (x ∷ t)) ≡ false
      → part_breach judging levels l x.0 (events_of x.0 x.1 (names_of (x ∷ t))) (narrowed t) ≡ o
      → wide_fault judging levels l x t ≡ option_map Breaks o
  fault-by o is found = rw (is, found) refl

  -- ---- what is left was judged

  module _ (between new : WideJudge (part_width w)) (begun : Option Pushed) (rest : Left) (answer : Answer)
      (has : HasLeft between judging levels l t x rest) (same : new.narrower.value ≡ between.narrower.value)
      (was_open : between.closed ≡ false) where
    taken-known : new.begun ≡ None → new.closed ≡ between.closed
        → TakesParts between.judge new.judge x.0 x.1 (events_left rest x.1) Taken
        → KnowsWide new judging levels l (x ∷ t) None false
    unfolding narrowed
    taken-known none going judged =
        let (good, knows) = judged judging levels l has.taken has.knows in
        (going ∙ was_open, (none, rw same has.follows, rw has.trace_is knows))

    left-known : (more : Left) → new.begun ≡ Some (record { link = pushed.0; shown = pushed.1; rest = more })
        → new.closed ≡ between.closed → Some x.0 ≡ link_at pushed.0 → Some x.1 ≡ event_shown w pushed.1
        → TakesParts between.judge new.judge x.0 x.1 (events_left rest x.1) (OutOfMemory more)
        → StopsAtPart new judging levels l t pushed
    left-known more kept going link_is event_is (valid, judged) =
        let (u, knows, fault_is, trace_is, stops) = judged judging levels l has.taken has.knows in (
          going ∙ was_open,
          record {
            begun = record { link = pushed.0; shown = pushed.1; rest = more };
            event = x;
            kept = kept;
            same = (refl, refl);
            link_is = link_is;
            event_is = event_is;
            rest = record {
              within = has.within;
              follows = rw same has.follows;
              valid = valid;
              taken = u;
              knows = knows;
              fault_is = has.fault_is ∙ fault_is;
              trace_is = has.trace_is ∙ trace_is;
            };
          },
          stops,
        )

    left-judged : (verdict : Verdict) → MayPush begun pushed → Some x.0 ≡ link_at pushed.0
        → Some x.1 ≡ event_shown w pushed.1
        → TakesParts between.judge new.judge x.0 x.1 (events_left rest x.1) verdict
        → AnswersVerdict between new pushed.0 pushed.1 verdict answer
        → (MayPush begun pushed × (answer ≡ no_memory) × RunsOut new judging levels l t begun pushed)
        ⊎ (MayPush begun pushed
        × AnswersFault new judging levels l t begun x (wide_fault judging levels l x t) answer)
    left-judged Taken may link_is event_is judged (answer_is, none, going) =
        let good = (judged judging levels l has.taken has.knows).0 in
        inr (may, rw (fault-by None has.within (has.fault_is ∙ good)) (answer_is, taken-known none going judged))
    left-judged (Broken breach) may link_is event_is judged (answer_is, closed) =
        let bad = judged judging levels l has.taken has.knows in
        inr (may, rw (fault-by (Some breach) has.within (has.fault_is ∙ bad)) (answer_is, closed))
    left-judged (OutOfMemory more) may link_is event_is judged (answer_is, kept, going) =
        inl (may, answer_is, runs-out begun (left-known more kept going link_is event_is judged))
      where
        runs-out : (begun : Option Pushed) → StopsAtPart new judging levels l t pushed
            → RunsOut new judging levels l t begun pushed
        runs-out None stops = inr stops
        runs-out (Some y) stops = stops

module _ {w : ℕ} (old new : WideJudge (part_width w)) (pushed : Pushed) (x : Link × WideEvent w) (answer : Answer)
    (link_is : Some x.0 ≡ link_at pushed.0) (event_is : Some x.1 ≡ event_shown w pushed.1) (judging : Judging)
    (levels : List Level) (l : Liberties) (t : WideEvents w) where
  -- what was left of an event that was begun is left
  goes-on : (begun : Option Pushed) (between : WideJudge (part_width w)) (rest : Left)
      → GoesOn old between pushed.0 pushed.1 rest → KnowsOpen old judging levels l t begun
      → MayPush begun pushed × (between.closed ≡ old.closed) × HasLeft between judging levels l t x rest
  goes-on None between rest (same, kept) known = not-both _ (sym known.0 ∙ kept)
  goes-on (Some y) between rest (same, kept) has =
      let is : has.begun ≡ record { link = pushed.0; shown = pushed.1; rest = rest } =
      some-is (sym has.kept ∙ kept) in
      let link_same : y.0 ≡ pushed.0 = sym has.same.0 ∙ ap (λ (b : Begun). b.link) is in
      let shown_same : y.1 ≡ pushed.1 = sym has.same.1 ∙ ap (λ (b : Begun). b.shown) is in
      let pushed_is : y ≡ pushed = λ i. (link_same i, shown_same i) in
      let first : has.event.0 ≡ x.0 =
      some-is (has.link_is ∙ ap link_at link_same ∙ sym link_is) in
      let second : has.event.1 ≡ x.1 =
      some-is (has.event_is ∙ ap (event_shown w) shown_same ∙ sym event_is) in
      let event_same : has.event ≡ x = λ i. (first i, second i) in (
        pushed_is,
        ap (λ (v : WideJudge (part_width w)). v.closed) same,
        subst (λ (v : WideJudge (part_width w)). HasLeft v judging levels l t x rest) (sym same)
            (subst (λ (q : Left). HasLeft old judging levels l t x q) (ap (λ (b : Begun). b.rest) is)
            (subst (λ (z : Link × WideEvent w). HasLeft old judging levels l t z has.begun.rest) event_same has.rest)),
      )

  -- all of an event that begins is left
  begins : (begun : Option Pushed) (between : WideJudge (part_width w)) (rest : Left) → old.begun ≡ None
      → Begins old between x.0 x.1 rest → KnowsOpen old judging levels l t begun
      → MayPush begun pushed × (between.closed ≡ old.closed) × HasLeft between judging levels l t x rest
  begins None between rest none (still, judge, going, valid, becomes) (_, follows, knows) =
      let (within, events_are, goes) = becomes t follows in (
        tt,
        going,
        record {
          within = within;
          follows = goes;
          valid = valid;
          taken = narrowed t;
          knows =
              subst (λ (j : PartJudge (part_width w)). KnowsParts judging j levels l (narrowed t)) (sym judge) knows;
          fault_is =
              ap (λ (events : List (Event (part_width w))). part_breach judging levels l x.0 events (narrowed t))
              (sym events_are);
          trace_is = ap (λ (events : List (Event (part_width w))). with_events x.0 events (narrowed t)) (sym events_are);
        },
      )
  begins (Some y) between rest none begin has = not-both _ (sym none ∙ has.kept)

  -- no event was begun, and nothing is known to have changed
  stays : old.begun ≡ None → Stays x.1 old new → old.closed ≡ false → (begun : Option Pushed)
      → KnowsOpen old judging levels l t begun → MayPush begun pushed × KnowsWide new judging levels l t begun false
  stays none (still, judge, same, follows) going None (_, follow, knows) = (
    tt,
    (
      same ∙ going,
      (
        still ∙ none,
        follows t follow,
        subst (λ (j : PartJudge (part_width w)). KnowsParts judging j levels l (narrowed t)) (sym judge) knows,
      ),
    ),
  )
  stays none still going (Some y) has = not-both _ (sym none ∙ has.kept)

  -- the event can't be judged
  refused : (begun : Option Pushed) → old.closed ≡ false → KnowsOpen old judging levels l t begun
      → BeginsParts old new x.0 pushed.0 pushed.1 x.1 (Err answer)
      → AnswersWide old new judging levels l t begun false pushed x answer
  refused None going known (inl ((b, kept, other), bad)) = not-both _ (sym known.0 ∙ kept)
  refused (Some y) going has (inl ((b, kept, other), bad)) =
      let is : b ≡ has.begun = some-is (sym kept ∙ has.kept) in
      inl (
        λ same. other (
          ap (λ (c : Begun). c.link) is ∙ has.same.0 ∙ ap (λ (z : Pushed). z.0) same,
          ap (λ (c : Begun). c.shown) is ∙ has.same.1 ∙ ap (λ (z : Pushed). z.1) same,
        ),
        bad,
      )
  refused None going known (inr (none, inl (memory, still))) =
      let (may, knows) = stays none still going None known in inr (inl (may, memory, inl knows))
  refused None going known (inr (none, inr (many, still, beyond))) =
      let (may, knows) = stays none still going None known in
      inr (inr (may, rw (fault-beyond judging levels l t pushed x (beyond t known.1)) (many, knows)))
  refused (Some y) going has (inr (none, refusal)) = not-both _ (sym none ∙ has.kept)

  -- what is left of an event, whether it was begun or begins
  what-left : (begun : Option Pushed) (between : WideJudge (part_width w)) (rest : Left)
      → BeginsParts old between x.0 pushed.0 pushed.1 x.1 (Ok rest) → KnowsOpen old judging levels l t begun
      → MayPush begun pushed × (between.closed ≡ old.closed) × HasLeft between judging levels l t x rest
  what-left begun between rest (inl goes) known = goes-on begun between rest goes known
  what-left begun between rest (inr (none, fresh)) known = begins begun between rest none fresh known

  answers : (begun : Option Pushed) (closed : Bool) → KnowsWide old judging levels l t begun closed
      → JudgesWideEvent old new x.0 pushed.0 pushed.1 x.1 answer
      → AnswersWide old new judging levels l t begun closed pushed x answer
  answers begun true known (inl (closed, is, same)) = (is, same)
  answers begun true known (inr (inl (going, more))) = not-closed old.closed known going
  answers begun true known (inr (inr (going, between, rest, fresh, judged))) = not-closed old.closed known going
  answers begun false known (inl (closed, is, same)) = not-closed old.closed closed known.0
  answers begun false known (inr (inl (going, refusal))) = refused begun going known.1 refusal
  answers begun false known (inr (inr (going, between, rest, fresh, (verdict, judged, same, told)))) =
      let (may, still, has) = what-left begun between rest fresh known.1 in
      inr (left-judged judging levels l t pushed x between new begun rest answer has same (still ∙ going) verdict may
      link_is event_is (judged has.valid) told)

-- the answer to the wide beat or the commit with these fields
pub told_wide : (w : ℕ) (old new : WideJudge (part_width w)) (code : ℕ) (x : Shown) (answer : Answer)
    → ToldOfShown w old new code x answer → ToldWide w old new code x answer
told_wide w old new code x answer told = go (link_at code) (event_shown w x) refl refl told
  where
    go : (o : Option Link) (b : Option (WideEvent w)) → o ≡ link_at code → b ≡ event_shown w x
        → ToldOfEvent old new code x o b answer → ToldOfWideEvent old new (code, x) o b answer
    go None b e f bad = bad
    go (Some link) None e f bad = bad
    go (Some link) (Some event) e f judged = λ judging levels l t begun closed known.
        answers old new (code, x) (link, event) answer e f judging levels l t begun closed known judged
