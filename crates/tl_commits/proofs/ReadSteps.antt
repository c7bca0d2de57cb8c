-- The readings that a judge keeps are those of the pending accesses after one more beat.
use Rattle.std.proofs.Common.{◌≡◌, ℕ, suc, Bool, true, false, ◌&&◌, ◌||◌, ◌+◌, ◌*◌, ◌≤◌, ◌<◌, List, [], ◌∷◌, length}
use Rattle.std.proofs.Common.{refl, sym, ap, ap₂, ◌∙◌, ◌⊎◌, inl, inr, arith, find}
use Rattle.std.proofs.Math.Bool.{or-false}
use Rattle.std.proofs.lemmas.Bool.{and_parts, cases_Bool, eq-eqb, le-leb, lt-leb, lt-ltb}
use Rattle.std.specs.List.{AllZip}
use Rattle.std.specs.Prelude.{if◌then◌else◌, ◌==◌, is_some, nat_lt, Option, Some, None}
use Rattle.tl_beat.specs.declared.beat.Beat.{Beat}
use Rattle.tl_beat.specs.declared.beat.Link.{Link}
use Rattle.tl_beat.specs.statement.Width.{IsWidth}
use Rattle.tl_burst.specs.statement.Messages.{on}
use Rattle.tl_bytes.proofs.Finding.{found-passes}
use Rattle.tl_bytes.proofs.Pending.{IsAskedNow, IsPending, asked-by_now, pending-before}
use Rattle.tl_bytes.specs.statement.Bytes as bytes
use Rattle.tl_bytes.specs.statement.Bytes.{Access, asked_since, asks, is_access, is_get, is_put}
unfoldable use Rattle.tl_bytes.specs.statement.Bytes.{pending_accesses}
use Rattle.tl_bytes.specs.statement.Shown.{is_window}
use Rattle.tl_memory.proofs.states.Found.{in_block}
use Rattle.tl_memory.proofs.lawful.Lawful.{goes_on}
use Rattle.tl_memory.specs.code.ByteSet.{has_at}
use Rattle.tl_memory.specs.statement.Links.{AreLegal, IsLegal}
use Rattle.tl_params.specs.declared.level.Level.{Level}
use Rattle.tl_rules.specs.statement.Conformance.{Trace}
unfoldable use Rattle.tl_rules.specs.statement.Conformance.{on_link}
use Rattle.tl_rules.specs.statement.History.{block_at}
use Rattle.tl_rules.specs.statement.Windows.{needs}
use Rattle.tl_commits.specs.code.Reached.{is_reached}
use Rattle.tl_commits.specs.code.Reading.{IsFound, IsMet, IsReading, IsReadingOf, IsTaken, KnowsReadings, come, finds}
use Rattle.tl_commits.specs.code.Reading.{found_by, is_of, is_open, may_find}
use Rattle.tl_commits.specs.code.Reading as code
use Rattle.tl_commits.specs.declared.reading.Reading.{Reading}
use Rattle.tl_commits.specs.statement.Completeness.{Completeness}
use Rattle.tl_commits.specs.statement.Events.{Events}
unfoldable use Rattle.tl_commits.specs.statement.Events.{beats_of}
use Rattle.tl_commits.specs.statement.True.{found_after_seen, may_find_seen}
unfoldable use Rattle.tl_commits.specs.statement.True.{before_last_seen, may_read_seen}
use Rattle.tl_commits.proofs.Loads.{AreBoth, found-zip, or-comm}
use Rattle.tl_commits.proofs.PendingReads.{HasNames, IsFor, asks_for, is-for, names-of, noted-asked, noted-kept}
use Rattle.tl_events.specs.declared.commit.Event.{Event}
use Rattle.tl_events.specs.declared.commit.Event.TheVariants as event
use Rattle.tl_commits.proofs.AskedAnew.{differ, no-access, none-before}
use Rattle.tl_commits.proofs.AnswerBeats.{none-comes, next, asked-none}

-- the reading is of the access
record IsSame {w : ℕ} (r : Reading) (p : Access w) : Type 0 where
  opcode_is : r.opcode ≡ p.request.opcode
  address_is : r.address ≡ p.request.address
  link_is : r.link.0 ≡ p.link
  source_is : r.source ≡ p.request.source

-- a Get goes on to find bytes
on-get : (r : Reading) → is_get r.opcode ≡ true → code.goes_on r ≡ true
on-get r get = rw get refl

-- so does another access before its answer begins
on-idle : (r : Reading) → r.begun ≡ false → code.goes_on r ≡ true
on-idle r idle = rw idle (either (is_get r.opcode))
  where
    either : (v : Bool) → v || true ≡ true
    either true = refl
    either false = refl

off-begun : (r : Reading) → is_get r.opcode ≡ false → r.begun ≡ true → code.goes_on r ≡ false
off-begun r other begun = rw (other, begun) refl

-- it reaches what it reached
same-reach : (new old : Reading) (place : ℕ) → new.address ≡ old.address → new.size ≡ old.size
    → code.reaches new place ≡ true → code.reaches old place ≡ true
same-reach new old place address size there =
    ap₂ (λ a s. is_reached a s place) (sym address) (sym size) ∙ there

some-come : (k j : ℕ) → k ≡ suc j → nat_lt 0 k ≡ true
some-come k j is = rw is (lt-ltb 0 (suc j) (omega arith))

module _ {w : ℕ} (levels : List Level) (width : IsWidth w) (link : Link) (x : Beat w) (e : Events w)
    (legal : AreLegal levels (beats_of e)) (fine : IsLegal levels (link, x) (beats_of e)) where
  abbrev t : Trace w
  t = beats_of e

  abbrev b : Link × Event w
  b = (link, event.Beat x)

  abbrev past : List (Beat w)
  past = on_link link.0 t

  -- ---- what is found with the beat

  module _ (complete : Completeness) (n : ℕ) where
    -- an access finds bytes with the beat, or found them before
    read-more : (p : Access w) (a v : ℕ) → p.asked ≤ suc (length t)
        → may_read_seen complete n p (b ∷ e) a v
        ≡ ((is_window n (needs p.request.opcode) (block_at a) (link, x) t && may_find_seen complete n p (b ∷ e) a v)
        || may_read_seen complete n p e a v)
    unfolding may_read_seen beats_of
    read-more p a v le = rw (le-leb p.asked (suc (length t)) le) refl

    -- one that wasn't asked for found none
    unread : (past : Events w) (p : Access w) (a v : ℕ) → length (beats_of past) < p.asked
        → may_read_seen complete n p past a v ≡ false
    unfolding may_read_seen
    unread [] p a v lt = refl
    unread (y ∷ past) p a v lt = rw (lt-leb p.asked (length (beats_of (y ∷ past))) lt) refl

    same-find : (r : Reading) (p : Access w) (place v : ℕ) → place < 64 → IsSame r p
        → (is_open n r (link, x) t && may_find complete n r (b ∷ e) place v)
        ≡ (is_window n (needs p.request.opcode) (block_at (64 * block_at p.request.address + place)) (link, x) t
        && may_find_seen complete n p (b ∷ e) (64 * block_at p.request.address + place) v)
    same-find r p place v lt same =
        rw (same.opcode_is, same.address_is, same.link_is, same.source_is, in_block (block_at p.request.address) place lt)
        refl

    -- with a beat by which it may be performed
    found-now : (r new : Reading) (p : Access w) (place v : ℕ) → place < 64 → v < 256 → code.reaches r place ≡ true
        → IsSame r p
        → p.asked ≤ suc (length t) → code.goes_on r ≡ true
        → IsFound complete n (code.goes_on r && is_open n r (link, x) t) (b ∷ e) r new
        → has_at r.found place v ≡ may_read_seen complete n p e (64 * block_at p.request.address + place) v
        → has_at new.found place v ≡ may_read_seen complete n p (b ∷ e) (64 * block_at p.request.address + place) v
    found-now r new p place v lt small there same le goes found was =
        let a = 64 * block_at p.request.address + place in
        found.found_are place v lt small there
        ∙ ap₂ (λ u d. u || ((d && is_open n r (link, x) t) && may_find complete n r (b ∷ e) place v)) was goes
        ∙ ap (λ d. may_read_seen complete n p e a v || d) (same-find r p place v lt same)
        ∙ or-comm (may_read_seen complete n p e a v) _
        ∙ sym (read-more p a v le)

    -- and with one that adds nothing
    found-then : (r new : Reading) (place v : ℕ) → place < 64 → v < 256 → code.reaches r place ≡ true
        → code.goes_on r ≡ false
        → IsFound complete n (code.goes_on r && is_open n r (link, x) t) (b ∷ e) r new
        → has_at new.found place v ≡ has_at r.found place v
    found-then r new place v lt small there stops found =
        found.found_are place v lt small there
        ∙ ap (λ d. has_at r.found place v || ((d && is_open n r (link, x) t) && may_find complete n r (b ∷ e) place v)) stops
        ∙ or-false (has_at r.found place v)

    -- ---- one reading

    -- what is kept of an access is what it may have found by the events before its answer
    found-get : (p : Access w) (c k : ℕ) (u : Events w) → is_get p.request.opcode ≡ true
        → found_after_seen (Some p) c k u ≡ u
    found-get p c k u get = rw get refl

    found-first : (p : Access w) (c k : ℕ) (u : Events w) → k ≡ 0 → found_after_seen (Some p) c k u ≡ u
    unfolding before_last_seen
    found-first p c k u none = rw none (go (is_get p.request.opcode))
      where
        go : (get : Bool) → (if get then u else u) ≡ u
        go true = refl
        go false = refl

    -- the events by which it found its bytes
    now-get : (p : Access w) (u : Events w) → is_get p.request.opcode ≡ true → found_by p u ≡ u
    now-get p u get = found-get p p.link (come p.link p.request.source u) u get

    now-first : (c s : ℕ) (p : Access w) (u : Events w) → HasNames p c s → come c s u ≡ 0 → found_by p u ≡ u
    now-first c s p u names none = found-first p p.link (come p.link p.request.source u) u
        (ap₂ (λ i j. come i j u) names.link_is names.source_is ∙ none)

    now-later : (c s : ℕ) (p : Access w) (u : Events w) → HasNames p c s → is_get p.request.opcode ≡ false
        → found_by p u ≡ before_last_seen c (come c s u) u
    now-later c s p u names other =
        rw other (ap₂ (λ i k. before_last_seen i k u) names.link_is
        (ap₂ (λ i j. come i j u) names.link_is names.source_is))

    -- of an access that was pending
    kept-found : (c s : ℕ) (p : Access w) (r new : Reading) → HasNames p c s → p.asked ≤ suc (length t) → IsSame r p
        → r.begun ≡ nat_lt 0 (come c s (b ∷ e))
        → IsFound complete n (code.goes_on r && is_open n r (link, x) t) (b ∷ e) r new
        → ((come c s e ≡ 0) × (come c s (b ∷ e) ≡ 0))
        ⊎ ((j : ℕ) × (come c s (b ∷ e) ≡ suc j)
        × (before_last_seen c (come c s (b ∷ e)) (b ∷ e) ≡ before_last_seen c (come c s e) e))
        → (place v : ℕ) → place < 64 → v < 256 → code.reaches r place ≡ true
        → has_at r.found place v ≡ may_read_seen complete n p (found_by p e) (64 * block_at p.request.address + place) v
        → has_at new.found place v
        ≡ may_read_seen complete n p (found_by p (b ∷ e)) (64 * block_at p.request.address + place) v
    kept-found c s p r new names le same begun found step place v lt small there had =
        elim (cases_Bool (is_get p.request.opcode)) [
          | inl get ↦
              found-now r new p place v lt small there same le (on-get r (ap is_get same.opcode_is ∙ get)) found
              (had ∙ ap reads (now-get p e get)) ∙ ap reads (sym (now-get p (b ∷ e) get))
          | inr other ↦ elim step [
            | inl none ↦
                found-now r new p place v lt small there same le (on-idle r (begun ∙ ap (nat_lt 0) none.1)) found
                (had ∙ ap reads (now-first c s p e names none.0)) ∙ ap reads (sym (now-first c s p (b ∷ e) names none.1))
            | inr some ↦
                found-then r new place v lt small there
                (off-begun r (ap is_get same.opcode_is ∙ other) (begun ∙ some-come (come c s (b ∷ e)) some.0 some.1)) found
                ∙ had ∙ ap reads (now-later c s p e names other ∙ sym some.2 ∙ sym (now-later c s p (b ∷ e) names other))
          ]
        ]
      where
        reads : Events w → Bool
        reads u = may_read_seen complete n p u (64 * block_at p.request.address + place) v

    kept-next : (c s : ℕ) (p : Access w) (old new : Reading) → HasNames p c s → IsFor old c s
        → p.asked ≤ suc (length t) → IsPending c s p ((link, x) ∷ t) → asks_for link x old ≡ false
        → IsReading old complete n p e → IsTaken complete n link x e old new → IsReading new complete n p (b ∷ e)
    unfolding beats_of
    kept-next c s p old new names for le pending none is taken =
        let r = taken.noted in
        let kept = noted-kept link x _ old r none taken.is_noted in
        let found = taken.is_found in
        let was : old.begun ≡ nat_lt 0 (come c s e) =
        is.begun_is ∙ ap₂ (λ i j. nat_lt 0 (come i j e)) names.link_is names.source_is in
        let one = next levels width link x e legal fine c s old p for pending was in
        let begun : r.begun ≡ nat_lt 0 (come c s (b ∷ e)) = kept.1 ∙ one.1 in
        let same : IsSame r p = record {
          opcode_is = kept.0.opcode_is ∙ is.opcode_is;
          address_is = kept.0.address_is ∙ is.address_is;
          link_is = ap (λ (l : Link). l.0) kept.0.link_is ∙ for.link_is ∙ sym names.link_is;
          source_is = kept.0.source_is ∙ for.source_is ∙ sym names.source_is;
        } in
        record {
          opcode_is = found.opcode_is ∙ same.opcode_is;
          address_is = found.address_is ∙ same.address_is;
          size_is = found.size_is ∙ kept.0.size_is ∙ is.size_is;
          begun_is = found.begun_is ∙ begun
              ∙ sym (ap₂ (λ i j. nat_lt 0 (come i j (b ∷ e))) names.link_is names.source_is);
          found_are = λ place v lt small there.
              let was_there = same-reach new r place found.address_is found.size_is there in
              kept-found c s p r new names le same begun found one.0 place v lt small was_there
              (ap (λ m. has_at m place v) kept.0.found_is ∙ is.found_are place v lt small
              (same-reach r old place kept.0.address_is kept.0.size_is was_there));
        }

    -- of one that is asked for with the beat
    asked-next : (c s : ℕ) (p : Access w) (old new : Reading) → IsFor old c s → HasNames p c s
        → IsAskedNow c s p (link, x) t → is_put p.request.opcode ≡ false → IsTaken complete n link x e old new
        → IsReading new complete n p (b ∷ e)
    unfolding beats_of
    asked-next c s p old new for names now other taken =
        let y = now.beat in
        let r = taken.noted in
        let found = taken.is_found in
        let opcode : p.request.opcode ≡ y.opcode = ap (λ (q : Access w). q.request.opcode) now.access_is in
        let bare : is_put y.opcode ≡ false = ap is_put (sym opcode) ∙ other in
        let both = and_parts (asks y past) _ now.asks_it in
        let reads : finds y.opcode ≡ true =
        rw ((and_parts (is_access y.opcode) _ both.0).0, bare) refl in
        let mine : is_of link.0 y.source old ≡ true =
        rw (eq-eqb old.link.0 link.0 (for.link_is ∙ now.link_is), eq-eqb old.source y.source (for.source_is ∙ now.source_is))
        refl in
        let on : asks_for link x old ≡ true = ap (λ v. asks_for link v old) now.beat_is ∙ rw (reads, mine) refl in
        let new_one = noted-asked link x _ old r y now.beat_is on taken.is_noted in
        let none : find (bytes.is_of link.0 y.source) (pending_accesses t) ≡ None = none-before levels width link x e legal fine y now.beat_is bare in
        let asked : p.asked ≡ suc (length t) =
        ap (λ (q : Access w). q.asked) now.access_is ∙ ap (λ o. asked_since o (suc (length t))) none in
        let stands : come c s (b ∷ e) ≡ 0 =
        asked-none levels width link x e legal fine c s y now.beat_is (none-comes levels width link x e legal fine c s y now.beat_is now.link_is now.source_is both.1) in
        let come_is : come p.link p.request.source (b ∷ e) ≡ 0 =
        ap₂ (λ i j. come i j (b ∷ e)) names.link_is names.source_is ∙ stands in
        let same : IsSame r p = record {
          opcode_is = new_one.opcode_is ∙ sym opcode;
          address_is = new_one.address_is ∙ sym (ap (λ (q : Access w). q.request.address) now.access_is);
          link_is = ap (λ (l : Link). l.0) new_one.link_is ∙ sym (names.link_is ∙ now.link_is);
          source_is = new_one.source_is ∙ sym (names.source_is ∙ now.source_is);
        } in
        record {
          opcode_is = found.opcode_is ∙ same.opcode_is;
          address_is = found.address_is ∙ same.address_is;
          size_is = found.size_is ∙ new_one.size_is ∙ sym (ap (λ (q : Access w). q.request.size) now.access_is);
          begun_is = found.begun_is ∙ new_one.begun_is ∙ sym (ap (nat_lt 0) come_is);
          found_are = λ place v lt small there.
              let a = 64 * block_at p.request.address + place in
              let was_there = same-reach new r place found.address_is found.size_is there in
              found-now r new p place v lt small was_there same (omega (arith, asked)) (on-idle r new_one.begun_is) found
              (new_one.found_are place v lt small was_there ∙ sym (unread e p a v (omega (arith, asked))))
              ∙ ap (λ u. may_read_seen complete n p u a v) (sym (now-first c s p (b ∷ e) names stands));
        }

    -- ---- all readings

    -- a reading keeps its names
    same-key : (c s : ℕ) (old new : Reading) → IsTaken complete n link x e old new → is_of c s new ≡ is_of c s old
    same-key c s old new taken =
        ap₂ (λ i j. (i == c) && (j == s)) (ap (λ (l : Link). l.0) taken.is_found.link_is) taken.is_found.source_is
        ∙ noted (asks_for link x old) refl
      where
        r : Reading
        r = taken.noted

        began : (y : Beat w) → x ≡ y → asks_for link y old ≡ true → is_of c s r ≡ is_of c s old
        began (Beat.A y) is on =
            let mine = is-for link.0 y.source old (and_parts (finds y.opcode) _ on).1 in
            let new_one = noted-asked link x _ old r y is (ap (λ v. asks_for link v old) is ∙ on) taken.is_noted in
            ap₂ (λ i j. (i == c) && (j == s)) (ap (λ (l : Link). l.0) new_one.link_is ∙ sym mine.link_is)
            (new_one.source_is ∙ sym mine.source_is)
        began (Beat.B y) is on = absurd (differ (sym on))
        began (Beat.C y) is on = absurd (differ (sym on))
        began (Beat.D y) is on = absurd (differ (sym on))
        began (Beat.E y) is on = absurd (differ (sym on))

        noted : (v : Bool) → asks_for link x old ≡ v → is_of c s r ≡ is_of c s old
        noted true on = began x refl on
        noted false off =
            let kept = (noted-kept link x _ old r off taken.is_noted).0 in
            ap₂ (λ i j. (i == c) && (j == s)) (ap (λ (l : Link). l.0) kept.link_is) kept.source_is

    -- no beat asks for an access that was pending before
    asks-none : (c s : ℕ) (p : Access w) (old : Reading) → IsFor old c s → IsPending c s p t
        → is_put p.request.opcode ≡ false → asks_for link x old ≡ false
    asks-none c s p old for was other = go x refl
      where
        go : (y : Beat w) → x ≡ y → asks_for link x old ≡ false
        go (Beat.A y) is = elim (cases_Bool (asks_for link x old)) [
          | inr off ↦ off
          | inl on ↦
              let both = and_parts (finds y.opcode) (is_of link.0 y.source old) (ap (λ v. asks_for link v old) (sym is) ∙ on) in
              let mine = is-for link.0 y.source old both.1 in
              absurd (no-access levels width link x e legal fine c s p y is (sym mine.link_is ∙ for.link_is) (sym mine.source_is ∙ for.source_is) was other)
        ]
        go (Beat.B y) is = ap (λ v. asks_for link v old) is
        go (Beat.C y) is = ap (λ v. asks_for link v old) is
        go (Beat.D y) is = ap (λ v. asks_for link v old) is
        go (Beat.E y) is = ap (λ v. asks_for link v old) is

    pub readings-beat : (old new : List Reading) → KnowsReadings old complete n e → IsMet old link.0 x
        → AllZip (IsTaken complete n link x e) old new → KnowsReadings new complete n (b ∷ e)
    unfolding beats_of
    readings-beat old new k met taken c s p pending other =
        elim (pending-before c s p (link, x) t pending) [
          | inl was ↦ kept (find (is_of c s) old) (find (is_of c s) new) refl both was.0 (k c s p was.0 other)
          | inr now ↦ asked (find (is_of c s) old) (find (is_of c s) new) refl both now (there now)
        ]
      where
        names : HasNames p c s
        names = names-of c s p (pending_accesses ((link, x) ∷ t)) pending

        both : AreBoth (IsTaken complete n link x e) (find (is_of c s) old) (find (is_of c s) new)
        both = found-zip (IsTaken complete n link x e) (is_of c s) (same-key c s) old new taken

        kept : (o q : Option Reading) → find (is_of c s) old ≡ o → AreBoth (IsTaken complete n link x e) o q
            → IsPending c s p t → IsReadingOf o complete n p e → IsReadingOf q complete n p (b ∷ e)
        kept None q found pair was is = absurd is
        kept (Some r) None found pair was is = absurd pair
        kept (Some r) (Some m) found pair was is =
            let for = is-for c s r (found-passes (is_of c s) old r found) in
            let by_now = (asked-by_now c s p t was).by_now in
            kept-next c s p r m names for (omega (arith, by_now)) pending (asks-none c s p r for was other) is pair

        there : IsAskedNow c s p (link, x) t → is_some (find (is_of c s) old) ≡ true
        there now =
            let y = now.beat in
            let bare : is_put y.opcode ≡ false =
            ap is_put (ap (λ (q : Access w). q.request.opcode) (sym now.access_is)) ∙ other in
            let asks_it = (and_parts (asks y past) _ now.asks_it).0 in
            let reads : finds y.opcode ≡ true = rw ((and_parts (is_access y.opcode) _ asks_it).0, bare) refl in
            ap₂ (λ i j. is_some (find (is_of i j) old)) now.link_is now.source_is ∙ met y now.beat_is reads

        asked : (o q : Option Reading) → find (is_of c s) old ≡ o → AreBoth (IsTaken complete n link x e) o q
            → IsAskedNow c s p (link, x) t → is_some (find (is_of c s) old) ≡ true → IsReadingOf q complete n p (b ∷ e)
        asked None q found pair now some = absurd (differ (sym some ∙ ap is_some found))
        asked (Some r) None found pair now some = absurd pair
        asked (Some r) (Some m) found pair now some =
            asked-next c s p r m (is-for c s r (found-passes (is_of c s) old r found)) names now other pair
