-- Lines that are read again, up to the line at fault.
use Rattle.std.proofs.Common.{◌≡◌, ◌∙◌, ◌+◌, ℕ, Bool, true, false, List, [], ◌∷◌, ◌++◌, refl, ap, sym, subst, arith}
use Rattle.std.specs.Global.{Vec}
use Rattle.tl_beat.specs.declared.beat.Link.{Link}
use Rattle.tl_commits.specs.statement.Events.{Events}
use Rattle.tl_events.specs.declared.commit.Event.{Event}
use Rattle.tl_events.specs.statement.EventLine.{SpellsEvent}
use Rattle.tl_commit_story.specs.code.Replaying.{AreReplayed, BeginsFollowing, GoesOn, HasReasons}
use Rattle.tl_commit_story.specs.code.Replaying.{KnowsState, Reads, ReadsLast, ReadsOn, TakesLine}
use Rattle.tl_commit_story.specs.declared.follower.Follower.{Follower}
use Rattle.tl_commit_story.specs.declared.replay.Replay.{Replay}
use Rattle.tl_commit_story.specs.declared.replay.State.{State}
use Rattle.tl_commit_story.specs.declared.replay.State.TheVariants.{Waiting, Following, Lost}
use Rattle.tl_commit_story.specs.statement.Explained.{AreSpelled}

-- no line has been read
none-spelled : (w : ℕ) → AreSpelled {w = w} [] []
unfolding AreSpelled
none-spelled w = refl

one-more : {w : ℕ} (link : Link) (x : Event w) (e : Events w) (lines : List (List ℕ)) (line : List ℕ)
    → SpellsEvent line link x → AreSpelled e lines → AreSpelled ((link, x) ∷ e) (lines ++ line ∷ [])
unfolding AreSpelled
one-more link x e lines line spells are = (lines, line, refl, spells, are)

module _ {w : ℕ} (old : Replay w) (number : ℕ) (line : List ℕ) (counts : number ≡ old.count + 1) where
  abbrev after : State w → Replay w
  after state = record old { state = state; count = number }

  begun : (g : Follower w) (lines : List (List ℕ)) → BeginsFollowing old g line → (lines ≡ []) × (old.count ≡ 0)
      → AreReplayed (after (Following g)) g (lines ++ line ∷ [])
  begun g lines begins (none, first) = record {
    width = begins.width;
    of_width = begins.of_width;
    may = begins.may;
    links = begins.links;
    header = line;
    spelled = [];
    are_lines = rw none refl;
    named = begins.named;
    events = [];
    are_spelled = none-spelled w;
    counted = omega (arith, counts, first);
    known = begins.known;
  }

  taken : (g new : Follower w) (lines : List (List ℕ)) → TakesLine g new number line → AreReplayed old g lines
      → AreReplayed (after (Following new)) new (lines ++ line ∷ [])
  taken g new lines takes k = record {
    width = k.width;
    of_width = k.of_width;
    may = k.may;
    links = k.links;
    header = k.header;
    spelled = k.spelled ++ line ∷ [];
    are_lines = ap (λ (l : List (List ℕ)). l ++ line ∷ []) k.are_lines;
    named = k.named;
    events = (takes.link, takes.event) ∷ k.events;
    are_spelled = one-more takes.link takes.event k.events k.spelled line takes.spells k.are_spelled;
    counted = omega (arith, counts, k.counted);
    known = takes.takes old.together k.may _ k.events (omega (arith, counts, k.counted)) k.known;
  }

  -- a line that isn't at fault
  pub line-read : (state : State w) → GoesOn old old.state state number line → ReadsOn old (after state) line
  line-read state goes = λ lines known. (known.0, go old.state state goes lines known.1)
    where
      go : (was is : State w) → GoesOn old was is number line → (lines : List (List ℕ)) → KnowsState old was lines
          → KnowsState (after is) is (lines ++ line ∷ [])
      go was Lost goes lines k = tt
      go Waiting Waiting goes lines k = absurd goes
      go Waiting (Following g) goes lines k = begun g lines goes k
      go (Following g) (Following new) goes lines k = taken g new lines goes k
      go (Following g) Waiting goes lines k = absurd goes
      go Lost Waiting goes lines k = absurd goes
      go Lost (Following g) goes lines k = absurd goes

  pub line-taken : (mid : Replay w) → Reads old mid number line → ReadsOn old (record mid { count = number }) line
  line-taken mid reads = subst (λ (r : Replay w). ReadsOn old (record r { count = number }) line) (sym reads.same)
      (line-read mid.state reads.goes)

  -- the line at fault
  pub line-told : (g : Follower w) (state : State w) (reasons : Vec ℕ) (told : Bool) → old.state ≡ Following g
      → (told ≡ true → HasReasons g old.fault number line reasons.items)
      → ReadsLast old (record old { state = state; told = told; reasons = reasons }) line
  line-told g state reasons told at has = λ lines known more is.
      let k : AreReplayed old g lines = subst (λ (s : State w). KnowsState old s lines) at known.1 in
      let why = has is in
      let so = why.says old.together k.may _ k.events (omega (arith, counts, k.counted)) k.known in
      record {
        width = k.width;
        of_width = k.of_width;
        may = k.may;
        links = k.links;
        header = k.header;
        before = k.spelled;
        line = line;
        more = more;
        are_lines = ap (λ (l : List (List ℕ)). l ++ line ∷ more) k.are_lines;
        named = k.named;
        events = k.events;
        are_spelled = k.are_spelled;
        counted = k.counted;
        link = why.link;
        event = why.event;
        spells = why.spells;
        grounds = so.0;
        says = so.1;
        are = so.2;
      }

-- nothing is told
pub untold : {w : ℕ} (old : Replay w) (line : List ℕ) → ReadsLast old old line
untold old line = λ lines known more told. let no : true ≡ false = sym told ∙ known.0 in absurd cc
