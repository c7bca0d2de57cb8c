-- Each piece of an input brings its judging on.
use Rattle.std.proofs.Common.{◌≡◌, ◌<◌, ◌≤◌, ℕ, ◌+◌, List, [], ◌∷◌, ◌++◌, length, true, false, refl, sym, ap, ◌∙◌}
use Rattle.std.proofs.Common.{arith, append_assoc, length-append, inl, inr, eqb-true}
use Rattle.std.proofs.lemmas.Bool.{cases_lt}
use Rattle.std.specs.Prelude.{◌==◌, IsOk, is_err, Result, Ok, Err, IfOk, Some, None}
use Rattle.std.proofs.lemmas.List.{append-nil}
use Rattle.std.proofs.lemmas.List.Elements.{All-append, All-nil}
use Rattle.tl_lines.specs.declared.fault.Fault.{Fault}
use Rattle.tl_lines.specs.declared.lines.Lines.{Lines}
use Rattle.tl_lines.specs.declared.status.Status.{Status}
use Rattle.tl_lines.specs.declared.status.ToolFault.{ToolFault}
use Rattle.tl_lines.specs.declared.status.Status.TheVariants.{Clean, Broken}
use Rattle.tl_lines.specs.statement.Fault.{fault_text}
use Rattle.tl_lines.specs.code.Judging.{Ends, EndsHere, Finishes}
use Rattle.tl_lines.specs.statement.Lines.{lines_of, LacksLf, IsLine, IsOpen}
use Rattle.tl_lines.specs.code.Progress.{Continues, Progress, StopsAt, CountsLine, EndsWithin, Feeds, FinishesInput}
use Rattle.tl_lines.specs.code.Progress.{HasAll}
use Rattle.tl_lines.proofs.InputLines.{lines_of-line, lines_of-begun, lines_of-rest, ends-lacks, open_from}
use Rattle.tl_lines.proofs.InputLines.{ended_lines-append, ended_lines-lacks, ended_lines-line}

pub lacks-append : (xs ys : List ℕ) → LacksLf xs → LacksLf ys → LacksLf (xs ++ ys)
lacks-append xs ys p q = All-append (λ b. (b == 10) ≡ false) xs ys p q

pub empty_is : (xs : List ℕ) → (length xs == 0) ≡ true → xs ≡ []
empty_is [] e = refl
empty_is (x ∷ xs) e = absurd (omega (arith, eqb-true (length (x ∷ xs)) 0 e))

one_rest : (rest : List ℕ) → LacksLf rest → 0 < length rest → lines_of rest ≡ rest ∷ []
one_rest [] lacks some = absurd (omega arith)
one_rest (b ∷ rest) lacks some = lines_of-rest b rest lacks

not_empty : (xs : List ℕ) → (length xs == 0) ≡ false → 0 < length xs
not_empty [] e = absurd cc
not_empty (x ∷ xs) e = omega arith

lacks-nil : LacksLf []
lacks-nil = All-nil (λ b. (b == 10) ≡ false)

module _ {H : Type 0} (knows : H → List (List ℕ) → List ℕ → Type 0) (tells : List (List ℕ) → List ℕ → Status → Type 0)
  where
    -- the lines, where the one that has begun ends
    cut_line : (state : Lines H) (read text line more : List ℕ) (p : Progress knows state read text) → IsLine line
        → lines_of ((read ++ line) ++ more) ≡ p.lines ++ (state.begun.items ++ line) ∷ lines_of more
    cut_line state read text line more p (front, none, is) =
        let whole : state.begun.items ++ line ≡ (state.begun.items ++ front) ++ 10 ∷ [] =
        rw is (sym (append_assoc state.begun.items front (10 ∷ []))) in
        let first : lines_of ((state.begun.items ++ line) ++ more) ≡ (state.begun.items ++ line) ∷ lines_of more =
        rw whole (lines_of-line (state.begun.items ++ front) more (lacks-append state.begun.items front p.unended none))
        in
        ap lines_of (append_assoc read line more) ∙ p.cut (line ++ more)
        ∙ ap (λ (rest : List ℕ). p.lines ++ lines_of rest) (sym (append_assoc state.begun.items line more))
        ∙ ap (λ (rest : List (List ℕ)). p.lines ++ rest) first

    -- a line that ends with this piece was judged
    pub feeds_line : (old new : Lines H) (line was is : List ℕ) (status : Status) → IsLine line → new.begun.items ≡ []
        → CountsLine knows tells old.handler new.handler old.count new.count (old.begun.items ++ line) was is status
        → Feeds knows tells old new line was is status
    feeds_line old new line was is Clean ends none counts = λ read before p.
        let next : List (List ℕ) = p.lines ++ (old.begun.items ++ line) ∷ [] in
        record {
          lines = next;
          known = counts.0 p.lines before p.known;
          counted = omega (arith, counts.1, p.counted, length-append p.lines ((old.begun.items ++ line) ∷ []));
          cut = λ more. cut_line old read (before ++ was) line more p ends ∙ rw none
              (sym (append_assoc p.lines ((old.begun.items ++ line) ∷ []) (lines_of more)));
          unended = rw none lacks-nil;
          short = rw none (omega arith);
          ended = omega (
            arith,
            ended_lines-append read line,
            ended_lines-line line ends,
            p.ended,
            length-append p.lines
                ((old.begun.items ++ line) ∷ []),
          );
          rest = (
            read ++ line,
            rw (none, append-nil) refl,
            inr
                (read ++ ends.0, rw ends.2 (sym (append_assoc read ends.0 (10 ∷ [])))),
          );
        }
    feeds_line old new line was is Broken ends none counts = λ read before p more.
        rw (cut_line old read (before ++ was) line more p ends)
        (counts p.lines before p.known p.counted (lines_of more))

    -- a line that is too long is at fault
    feeds_open : (old new : Lines H) (piece was is front back : List ℕ) → piece ≡ front ++ back → LacksLf front
        → 256 ≤ length old.begun.items + length front
        → ((line : List ℕ) → IsOpen line → StopsAt knows tells old.handler old.count line was is)
        → Feeds knows tells old new piece was is Broken
    feeds_open old new piece was is front back cut lacks long stops = λ read before p more.
        let begun = old.begun.items ++ front in
        let size : 256 ≤ length begun = omega (arith, length-append old.begun.items front) in
        let unended : LacksLf begun = lacks-append old.begun.items front p.unended lacks in
        let found = lines_of-begun begun (back ++ more) unended (omega arith) in
        let same : old.begun.items ++ (piece ++ more) ≡ begun ++ (back ++ more) = rw cut (simp append_assoc) in
        let all : lines_of ((read ++ piece) ++ more) ≡ p.lines ++ (begun ++ found.0) ∷ found.1 =
        ap lines_of (append_assoc read piece more) ∙ p.cut (piece ++ more) ∙ ap
        (λ (rest : List ℕ). p.lines ++ lines_of rest) same ∙ ap (λ (rest : List (List ℕ)). p.lines ++ rest) found.2 in
        rw all (stops (begun ++ found.0) (open_from begun found.0 unended size) p.lines before p.known p.counted
        found.1)

    pub feeds_stopped : (r : Result Status ToolFault) (old new : Lines H) (piece was is front back : List ℕ)
        → piece ≡ front ++ back → LacksLf front → 256 ≤ length old.begun.items + length front
        → IfOk r (λ status. status ≡ Broken)
        → IfOk r (λ _. (line : List ℕ) → IsOpen line → StopsAt knows tells old.handler old.count line was is)
        → IfOk r (Feeds knows tells old new piece was is)
    feeds_stopped (Err fault) old new piece was is front back cut lacks long broken stops = tt
    feeds_stopped (Ok status) old new piece was is front back cut lacks long broken stops =
        rw broken (feeds_open old new piece was is front back cut lacks long stops)

    -- a piece that ends no line is kept
    pub feeds_kept : (old new : Lines H) (piece was : List ℕ) → new.handler ≡ old.handler → new.count ≡ old.count
        → new.begun.items ≡ old.begun.items ++ piece
        → LacksLf piece → length new.begun.items ≤ 255 → Feeds knows tells old new piece was was Clean
    feeds_kept old new piece was handler count begun lacks short = λ read before p. record {
      lines = p.lines;
      known = rw handler p.known;
      counted = count ∙ p.counted;
      cut = λ more. ap lines_of (append_assoc read piece more) ∙ p.cut (piece ++ more) ∙ rw (begun, append_assoc) refl;
      unended = rw begun (lacks-append old.begun.items piece p.unended lacks);
      short = short;
      ended = omega (arith, ended_lines-append read piece, ended_lines-lacks piece lacks, p.ended);
      rest = (
        p.rest.0,
        ap (λ (xs : List ℕ). xs ++ piece) p.rest.1 ∙ append_assoc p.rest.0 old.begun.items piece ∙ ap
            (λ (xs : List ℕ). p.rest.0 ++ xs) (sym begun),
        p.rest.2,
      );
    }

    -- a piece behind another
    pub feeds_then : (a b c : Lines H) (taken next piece was mid is : List ℕ) → taken ++ next ≡ piece
        → Feeds knows tells a b taken was mid Clean → Feeds knows tells b c next mid is Clean
        → Feeds knows tells a c piece was is Clean
    feeds_then a b c taken next piece was mid is cut first second = λ read before p.
        rw (← cut, ← append_assoc) (second (read ++ taken) before (first read before p))

    pub feeds_until : (a b c : Lines H) (taken line after rest piece was mid is : List ℕ) → taken ++ rest ≡ piece
        → line ++ after ≡ rest → Feeds knows tells a b taken was mid Clean
        → Feeds knows tells b c line mid is Broken → Feeds knows tells a c piece was is Broken
    feeds_until a b c taken line after rest piece was mid is cut behind first second = λ read before p more.
        let same : ((read ++ taken) ++ line) ++ (after ++ more) ≡ (read ++ piece) ++ more =
        rw (← cut, ← behind) (simp append_assoc) in
        rw (← same) (second (read ++ taken) before (first read before p) (after ++ more))

    pub feeds_last : (r : Result Status ToolFault) (a b c : Lines H) (taken next piece was mid is : List ℕ)
        → taken ++ next ≡ piece → Feeds knows tells a b taken was mid Clean
        → IfOk r (Feeds knows tells b c next mid is) → IfOk r (Feeds knows tells a c piece was is)
    feeds_last (Err fault) a b c taken next piece was mid is cut first second = tt
    feeds_last (Ok Clean) a b c taken next piece was mid is cut first second =
        feeds_then a b c taken next piece was mid is cut first second
    feeds_last (Ok Broken) a b c taken next piece was mid is cut first second =
        feeds_until a b c taken next [] next piece was mid is cut (append-nil next) first second

    -- The lines that are judged from a whole line on. The first may have begun earlier, when the lines stood as `begun` says.
    abbrev pub LeadsTo : Lines H → List ℕ → List ℕ → Lines H → List ℕ → List ℕ → List ℕ → List ℕ → Type 0
    LeadsTo old first after state line rest was is =
        (begun : Lines H) (part : List ℕ) → Continues begun old part first
        → (now : Lines H) × (taken ended : List ℕ) × Continues now state ended line
        × (taken ++ (ended ++ rest) ≡ part ++ after) × Feeds knows tells begun now taken was is Clean

    pub leads_start : (old : Lines H) (first after was : List ℕ) → LeadsTo old first after old first after was was
    leads_start old first after was = λ begun part first_is.
        (begun, [], part, first_is, refl, λ read before p. rw append-nil p)

    -- the last of them was judged
    feeds_ended : (now state new : Lines H) (ended line was is : List ℕ) (status : Status)
        → Continues now state ended line → new.begun.items ≡ []
        → CountsLine knows tells state.handler new.handler state.count new.count line was is status
        → Feeds knows tells now new ended was is status
    feeds_ended now state new ended line was is status there none counts =
        feeds_line now new ended was is status there.0 none (rw (there.1, there.2, there.3) counts)

    pub leads_past : (old state new : Lines H) (first after line rest was mid is : List ℕ)
        → LeadsTo old first after state line rest was mid → new.begun.items ≡ []
        → CountsLine knows tells state.handler new.handler state.count new.count line mid is Clean
        → (begun : Lines H) (part : List ℕ) → Continues begun old part first
        → (taken : List ℕ) × (taken ++ rest ≡ part ++ after) × Feeds knows tells begun new taken was is Clean
    leads_past old state new first after line rest was mid is leads none counts = λ begun part first_is.
        let (now, taken, ended, there, cut, feeds) = leads begun part first_is in (
          taken ++ ended,
          append_assoc taken ended rest ∙ cut,
          feeds_then begun now new taken ended (taken ++ ended) was mid is refl feeds
              (feeds_ended now state new ended line mid is Clean there none counts),
        )

    pub leads_on : (old state new : Lines H) (first after line rest next more was mid is : List ℕ)
        → LeadsTo old first after state line rest was mid → new.begun.items ≡ []
        → CountsLine knows tells state.handler new.handler state.count new.count line mid is Clean
        → IsLine next → next ++ more ≡ rest → LeadsTo old first after new next more was is
    leads_on old state new first after line rest next more was mid is leads none counts ends cut = λ begun part first_is.
        let (taken, all, feeds) =
        leads_past old state new first after line rest was mid is leads none counts begun part first_is in
        (new, taken, next, (ends, rw none refl, refl, refl), rw cut all, feeds)

    pub leads_until : (old state new : Lines H) (first after line rest was mid is : List ℕ)
        → LeadsTo old first after state line rest was mid → new.begun.items ≡ []
        → CountsLine knows tells state.handler new.handler state.count new.count line mid is Broken
        → (begun : Lines H) (part : List ℕ) → Continues begun old part first
        → Feeds knows tells begun new (part ++ after) was is Broken
    leads_until old state new first after line rest was mid is leads none counts = λ begun part first_is.
        let (now, taken, ended, there, cut, feeds) = leads begun part first_is in
        feeds_until begun now new taken ended rest (ended ++ rest) (part ++ after) was mid is cut refl feeds
        (feeds_ended now state new ended line mid is Broken there none counts)

    -- nothing more comes
    pub all_lines : (state : Lines H) (read text : List ℕ) (p : Progress knows state read text)
        → lines_of read ≡ p.lines ++ lines_of state.begun.items
    all_lines state read text p =
        ap lines_of (sym (append-nil read)) ∙ p.cut [] ∙ ap (λ (rest : List ℕ). p.lines ++ lines_of rest)
        (append-nil state.begun.items)

    all_ended : (state : Lines H) (read text : List ℕ) (p : Progress knows state read text) → state.begun.items ≡ []
        → lines_of read ≡ p.lines
    unfolding lines_of
    all_ended state read text p none = all_lines state read text p ∙ rw none (append-nil p.lines)

    pub finishes_clean : (state : Lines H) (was is : List ℕ) → state.begun.items ≡ []
        → Finishes knows tells state.handler state.count was is None → FinishesInput knows tells state was is Clean
    finishes_clean state was is none ends = λ read before p.
        rw (all_ended state read (before ++ was) p none) (ends p.lines before p.known p.counted)

    pub finishes_broken : (state : Lines H) (was said is : List ℕ) (fault : Fault) → state.begun.items ≡ []
        → Finishes knows tells state.handler state.count was said (Some fault)
        → is ≡ said ++ fault_text (state.count + 1) fault → FinishesInput knows tells state was is Broken
    finishes_broken state was said is fault none ends says = λ read before p. (
      rw (all_ended state read (before ++ was) p none, says, p.counted) (ends p.lines before p.known p.counted),
      record {
        front = read;
        rest = [];
        whole = sym (append-nil read);
        ended = (let same : read ≡ p.rest.0 = p.rest.1 ∙ rw (none, append-nil) refl in rw same p.rest.2);
        unended = lacks-nil;
        short = omega arith;
        before = before ++ said;
        fault = fault;
        says = rw (says, p.counted, p.ended) (sym (append_assoc before said (fault_text (length p.lines + 1) fault)));
      },
    )

    -- the rest has no LF
    finishes_open : (state : Lines H) (was is : List ℕ) (fault : Fault) → 0 < length state.begun.items
        → ((line : List ℕ) → IsOpen line → StopsAt knows tells state.handler state.count line was is)
        → is ≡ was ++ fault_text (state.count + 1) fault
        → FinishesInput knows tells state was is Broken
    finishes_open state was is fault some stops says = λ read before p. (
      rw (all_lines state read (before ++ was) p, one_rest state.begun.items p.unended some)
          (stops state.begun.items (inl (ends-lacks state.begun.items p.unended)) p.lines before p.known p.counted []),
      record {
        front = p.rest.0;
        rest = state.begun.items;
        whole = p.rest.1;
        ended = p.rest.2;
        unended = p.unended;
        short = omega (arith, p.short);
        before = before ++ was;
        fault = fault;
        says = rw (says, p.counted, p.ended) (sym (append_assoc before was (fault_text (length p.lines + 1) fault)));
      },
    )

    pub finishes_stopped : (r : Result Status ToolFault) (state : Lines H) (was is : List ℕ)
        → (length state.begun.items == 0) ≡ false
        → IfOk r (λ status. status ≡ Broken)
        → IfOk r (λ _. (line : List ℕ) → IsOpen line → StopsAt knows tells state.handler state.count line was is)
        → IfOk r (λ _. (fault : Fault) × (is ≡ was ++ fault_text (state.count + 1) fault))
        → IfOk r (FinishesInput knows tells state was is)
    finishes_stopped (Err fault) state was is some broken stops says = tt
    finishes_stopped (Ok status) state was is some broken stops says =
        rw broken (finishes_open state was is says.0 (not_empty state.begun.items some) stops says.1)

-- ---- what a handler has where a line is at fault

module _ {H : Type 0} (knows : H → List (List ℕ) → List ℕ → Type 0) (ends : H → List (List ℕ) → Type 0) where
  -- what a handler has is of these lines, whatever is said of them
  abbrev Has : H → List (List ℕ) → List ℕ → Status → Type 0
  Has handler lines text status = ends handler lines

  -- in the line that ends with this piece
  pub ends_line : (old : Lines H) (new : H) (line was : List ℕ) → IsLine line
      → Ends knows ends old.handler new (old.begun.items ++ line) → EndsWithin knows ends old new line was
  ends_line old new line was is has = λ read before p more.
      rw (cut_line knows (Has new) old read (before ++ was) line more p is)
      (has p.lines (before ++ was) p.known (lines_of more))

  -- in one that is too long
  pub ends_open : (old : Lines H) (new : H) (piece was front back : List ℕ) → piece ≡ front ++ back → LacksLf front
      → 256 ≤ length old.begun.items + length front
      → ((line : List ℕ) → IsOpen line → Ends knows ends old.handler new line)
      → EndsWithin knows ends old new piece was
  ends_open old new piece was front back cut lacks long has =
      feeds_open knows (Has new) old old piece was was front back cut lacks long
      (λ line is lines before known counted more. has line is lines (before ++ was) known more)

  -- behind other lines of the piece
  pub ends_until : (tells : List (List ℕ) → List ℕ → Status → Type 0) (a b : Lines H) (c : H)
      (taken line after rest piece was mid : List ℕ) → taken ++ rest ≡ piece → line ++ after ≡ rest
      → Feeds knows tells a b taken was mid Clean → EndsWithin knows ends b c line mid
      → EndsWithin knows ends a c piece was
  ends_until tells a b c taken line after rest piece was mid cut behind first has =
      feeds_until knows (Has c) a b b taken line after rest piece was mid mid cut behind first has

  -- in a line that is judged after others
  pub ends_after : (tells : List (List ℕ) → List ℕ → Status → Type 0) (old state : Lines H) (new : H)
      (first after line rest was mid : List ℕ) → LeadsTo knows tells old first after state line rest was mid
      → Ends knows ends state.handler new line → (begun : Lines H) (part : List ℕ) → Continues begun old part first
      → EndsWithin knows ends begun new (part ++ after) was
  ends_after tells old state new first after line rest was mid leads has = λ begun part first_is.
      let (now, taken, ended, there, cut, feeds) = leads begun part first_is in
      ends_until tells begun now new taken ended rest (ended ++ rest) (part ++ after) was mid cut refl feeds
      (ends_line now new ended mid there.0 (rw (there.1, there.2) has))

  -- at the end of the input
  pub has_open : (r : Result Status ToolFault) (state : Lines H) → (length state.begun.items == 0) ≡ false
      → IfOk r (λ status. status ≡ Broken)
      → IfOk r (λ _. (line : List ℕ) → IsOpen line → Ends knows ends state.handler state.handler line)
      → IfOk r (λ status. (read text : List ℕ) → Progress knows state read text
      → HasAll knows ends state.handler (lines_of read) status)
  has_open (Err fault) state some broken has = tt
  has_open (Ok Clean) state some broken has = absurd cc
  has_open (Ok Broken) state some broken has = λ read text p.
      rw (
        all_lines knows (Has state.handler) state read text p,
        one_rest state.begun.items p.unended
            (not_empty state.begun.items some),
      )
      (has state.begun.items (inl (ends-lacks state.begun.items p.unended)) p.lines text p.known [])

  pub has_ended : (state : Lines H) → state.begun.items ≡ [] → (read text : List ℕ) → Progress knows state read text
      → HasAll knows ends state.handler (lines_of read) Clean
  has_ended state none read text p = (text, rw (all_ended knows (Has state.handler) state read text p none) p.known)

  pub has_missed : (state : Lines H) → state.begun.items ≡ [] → EndsHere knows ends state.handler
      → (read text : List ℕ) → Progress knows state read text → HasAll knows ends state.handler (lines_of read) Broken
  has_missed state none missed read text p =
      rw (all_ended knows (Has state.handler) state read text p none) (missed p.lines text p.known)

-- what didn't fit was too long
pub refused : {A E : Type 0} (r : Result A E) (n : ℕ) → is_err r ≡ true → (n ≤ 256 → IsOk r) → 256 < n
refused (Ok x) n e fits = absurd cc
refused (Err x) n e fits = elim (cases_lt 256 n) [
  | inl past ↦ past
  | inr within ↦ let bad : false ≡ true =
      fits within in absurd cc
]
