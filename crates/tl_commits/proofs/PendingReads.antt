-- The readings that a judge keeps are those of the pending accesses: before the trace, with one more, and after a commit.
use Rattle.std.proofs.Common.{◌≡◌, ℕ, zero, suc, Bool, true, false, not, ◌&&◌, ◌||◌, ◌≤◌, ◌<◌, List, [], ◌∷◌, ◌++◌, length}
use Rattle.std.proofs.Common.{refl, sym, ap, subst, ◌∙◌, filter, find, inl, inr}
use Rattle.std.proofs.lemmas.Bool.{and_parts, cases_Bool, cases_eq, eq-eqb, eqb-true, le-leb, lt-ltb}
use Rattle.std.specs.Prelude.{if◌then◌else◌, ◌==◌, is_some, Option, Some, None}
use Rattle.tl_memory.proofs.lawful.Open.{open-whole}
use Rattle.tl_memory.proofs.lawful.OpenAccesses.{pending-open}
use Rattle.tl_memory.proofs.values.Writing.{found-append}
use Rattle.tl_memory.specs.statement.Links.{AreLegal}
use Rattle.tl_monitor.specs.statement.Knows.{request_on}
use Rattle.tl_beat.specs.statement.Width.{IsWidth}
use Rattle.tl_rules.specs.code.Open.{open_request}
use Rattle.tl_rules.specs.statement.Conformance.{Trace}
use Rattle.tl_beat.specs.declared.beat.Link.{Link}
use Rattle.tl_bytes.proofs.Finding.{find-left, found-passes}
use Rattle.tl_bytes.proofs.Pending.{IsPending, asked-by_now}
use Rattle.tl_bytes.specs.statement.Bytes as bytes
use Rattle.tl_bytes.specs.statement.Bytes.{Access, is_get, is_put}
unfoldable use Rattle.tl_bytes.specs.statement.Bytes.{pending_accesses}
use Rattle.std.specs.List.{AllZip}
use Rattle.tl_beat.specs.declared.beat.Beat.{Beat}
use Rattle.tl_params.specs.declared.level.Level.{Level}
use Rattle.tl_params.specs.declared.liberties.Liberties.{Liberties}
use Rattle.tl_rules.specs.statement.Conformance.{on_link}
use Rattle.tl_together.specs.code.Windows.{MayShow}
use Rattle.tl_together.specs.declared.judge.Judge.{Judge}
use Rattle.tl_together.specs.statement.Knows.{Knows}
use Rattle.tl_beat.specs.declared.beat.BeatA.{BeatA}
use Rattle.tl_commits.specs.code.Reading.{AreTakenBy, IsFresh, IsNoted, IsReadingOf, IsSameFound, IsTaken}
use Rattle.tl_commits.specs.code.Reading.{IsMet, KnowsReadings, asks_bytes, come, finds, is_of}
use Rattle.tl_commits.specs.code.ValueTable.{KnowsTable, Table}
use Rattle.tl_commits.specs.declared.reading.Reading.{Reading}
use Rattle.tl_commits.specs.statement.Completeness.{Completeness}
use Rattle.tl_commits.specs.statement.Events.{Events}
unfoldable use Rattle.tl_commits.specs.statement.Events.{beats_of}
unfoldable use Rattle.tl_commits.specs.statement.True.{before_last_seen, may_read_seen}
use Rattle.tl_events.specs.declared.commit.Commit.{Commit}
use Rattle.tl_events.specs.declared.commit.Event.TheVariants as event

-- before the trace no access is pending
pub no-readings : {w : ℕ} (readings : List Reading) (complete : Completeness) (n : ℕ)
    → KnowsReadings {w = w} readings complete n []
unfolding beats_of pending_accesses
no-readings readings complete n link source access pending other = absurd cc

-- ---- keys

-- the access has the source and the link by which it is found
pub record HasNames {w : ℕ} (access : Access w) (link source : ℕ) : Type 0 where
  pub link_is : access.link ≡ link
  pub source_is : access.request.source ≡ source

pub names-of : {w : ℕ} (link source : ℕ) (access : Access w) (accesses : List (Access w))
    → find (bytes.is_of link source) accesses ≡ Some access → HasNames access link source
names-of link source access accesses found =
    let both = and_parts (access.link == link) (access.request.source == source)
    (found-passes (bytes.is_of link source) accesses access found) in
    record { link_is = eqb-true access.link link both.0; source_is = eqb-true access.request.source source both.1 }

-- so has the reading
pub record IsFor (r : Reading) (link source : ℕ) : Type 0 where
  pub link_is : r.link.0 ≡ link
  pub source_is : r.source ≡ source

pub is-for : (link source : ℕ) (r : Reading) → is_of link source r ≡ true → IsFor r link source
is-for link source r on =
    let both = and_parts (r.link.0 == link) (r.source == source) on in
    record { link_is = eqb-true r.link.0 link both.0; source_is = eqb-true r.source source both.1 }

-- a reading of another link or source is another one
pub other-reading : (c s link source : ℕ) (r : Reading) → ((c ≡ link) × (s ≡ source) → ⊥) → is_of c s r ≡ true
    → is_of link source r ≡ false
other-reading c s link source r differ on = elim (cases_Bool (is_of link source r)) [
  | inr off ↦ off
  | inl too ↦
      let one = is-for c s r on in
      let other = is-for link source r too in
      absurd (differ (sym one.link_is ∙ other.link_is, sym one.source_is ∙ other.source_is))
]

-- ---- a beat that is noted

-- the access is asked for with this beat
abbrev pub asks_for : {w : ℕ} → Link → Beat w → Reading → Bool
asks_for link (Beat.A y) r = finds y.opcode && is_of link.0 y.source r
asks_for link _ r = false

-- a beat of channel D comes that has its source
abbrev pub answers : {w : ℕ} → Link → Beat w → Reading → Bool
answers link (Beat.D y) r = is_of link.0 y.source r
answers link _ r = false

pub noted-asked : {w : ℕ} (link : Link) (x : Beat w) (more : Bool) (old new : Reading) (y : BeatA w) → x ≡ Beat.A y
    → asks_for link x old ≡ true → IsNoted link x more old new → IsFresh new link y
noted-asked {w} link x more old new y is on noted =
    (subst (λ v. IsNoted link v more old new) is noted).own (ap (λ v. asks_for link v old) (sym is) ∙ on)

same-found : (old new : Reading) → new ≡ old → IsSameFound old new
same-found old new same = rw same (record {
  link_is = refl;
  source_is = refl;
  opcode_is = refl;
  address_is = refl;
  size_is = refl;
  found_is = refl;
})

pub noted-kept : {w : ℕ} (link : Link) (x : Beat w) (more : Bool) (old new : Reading) → asks_for link x old ≡ false
    → IsNoted link x more old new
    → IsSameFound old new × (new.begun ≡ (if answers link x old then more else old.begun))
noted-kept link (Beat.A y) more old new off noted =
    (same-found old new (noted.other off), ap (λ (r : Reading). r.begun) (noted.other off))
noted-kept link (Beat.D y) more old new off noted = (noted.same, noted.begun_is)
noted-kept link (Beat.B y) more old new off noted = (same-found old new noted, ap (λ (r : Reading). r.begun) noted)
noted-kept link (Beat.C y) more old new off noted = (same-found old new noted, ap (λ (r : Reading). r.begun) noted)
noted-kept link (Beat.E y) more old new off noted = (same-found old new noted, ap (λ (r : Reading). r.begun) noted)

-- ---- one reading more, and one less

found-first : {X : Type 0} (p : X → Bool) (xs ys : List X) (x : X) → find p xs ≡ Some x → find p (xs ++ ys) ≡ Some x
found-first p [] ys x found = absurd cc
found-first {X} p (y ∷ xs) ys x found = go (p y) found (found-first p xs ys x)
  where
    go : (b : Bool) → (if b then Some y else find p xs) ≡ Some x → (find p xs ≡ Some x → find p (xs ++ ys) ≡ Some x)
        → (if b then Some y else find p (xs ++ ys)) ≡ Some x
    go true is more = is
    go false is more = more is

pub readings-more : {w : ℕ} (r : Reading) (old : List Reading) (complete : Completeness) (n : ℕ) (e : Events w)
    → KnowsReadings old complete n e → KnowsReadings (old ++ r ∷ []) complete n e
readings-more r old complete n e k link source access pending other =
    stays (find (is_of link source) old) refl (k link source access pending other)
  where
    stays : (o : Option Reading) → find (is_of link source) old ≡ o → IsReadingOf o complete n access e
        → IsReadingOf (find (is_of link source) (old ++ r ∷ [])) complete n access e
    stays None none is = absurd is
    stays (Some x) found is = rw (found-first (is_of link source) old (r ∷ []) x found) is

-- a beat that asks for no bytes needs none
pub met-none : {w : ℕ} (readings : List Reading) (link : ℕ) (x : Beat w) → asks_bytes x ≡ false → IsMet readings link x
met-none readings link x off y is reads =
    absurd (let no : true ≡ false = sym reads ∙ ap asks_bytes (sym is) ∙ off in cc)

same-request : {w : ℕ} {y z : BeatA w} → Beat.A y ≡ Beat.A z → y ≡ z
same-request e = cc

-- another has the one that is found
pub met-some : {w : ℕ} (readings : List Reading) (link : ℕ) (x : Beat w) (z : BeatA w) → x ≡ Beat.A z
    → is_some (find (is_of link z.source) readings) ≡ true → IsMet readings link x
met-some {w} readings link x z at found y is reads =
    ap (λ (v : BeatA w). is_some (find (is_of link v.source) readings)) (same-request (sym is ∙ at)) ∙ found

-- or the one that is made
pub met-new : {w : ℕ} (old : List Reading) (link : Link) (x : Beat w) (z : BeatA w) (r : Reading) → x ≡ Beat.A z
    → IsFresh r link z → IsMet (old ++ r ∷ []) link.0 x
met-new old link x z r at fresh =
    met-some (old ++ r ∷ []) link.0 x z at
    (found-append (is_of link.0 z.source) old (r ∷ []) ∙ rw mine (either (is_some (find (is_of link.0 z.source) old))))
  where
    mine : is_of link.0 z.source r ≡ true
    mine = rw (fresh.link_is, fresh.source_is, eq-eqb link.0 link.0 refl, eq-eqb z.source z.source refl) refl

    either : (b : Bool) → (b || true) ≡ true
    either true = refl
    either false = refl

-- the one that is left out is of no pending access that isn't a Put
pub readings-without : {w : ℕ} (link source : ℕ) (old : List Reading) (complete : Completeness) (n : ℕ) (e : Events w)
    → ((access : Access w) → IsPending link source access (beats_of e) → is_put access.request.opcode ≡ false → ⊥)
    → KnowsReadings old complete n e → KnowsReadings (filter (λ r. not (is_of link source r)) old) complete n e
readings-without {w} link source old complete n e none k c s access pending other = elim (cases_eq c link) [
  | inr ne ↦ left (λ same. ne same.0)
  | inl own ↦ elim (cases_eq s source) [
    | inr ne ↦ left (λ same. ne same.1)
    | inl too ↦ absurd (none access (rw (own, too) at pending) other)
  ]
]
  where
    left : ((c ≡ link) × (s ≡ source) → ⊥)
        → IsReadingOf (find (is_of c s) (filter (λ r. not (is_of link source r)) old)) complete n access e
    left differ = rw (find-left (is_of link source) (is_of c s) old (λ r. other-reading c s link source r differ))
        (k c s access pending other)

-- where no request with a source is open, no access with it is pending that isn't a Put
pub unasked : {w : ℕ} (levels : List Level) (width : IsWidth w) (link : Link) (source : ℕ) (t : Trace w)
    → AreLegal levels t → link.0 < length levels → request_on levels link source t ≡ None → (access : Access w)
    → IsPending link.0 source access t → is_put access.request.opcode ≡ false → ⊥
unasked levels width link source t legal lt none access pending other =
    let q = pending-open levels link.0 source access t width legal pending in
    let opened : open_request source (on_link link.0 t) ≡ Some q.asked =
    open-whole source q.asked (on_link link.0 t) (record { kept = q.is_kept; complete = q.whole other }) in
    never (sym (rw (lt-ltb link.0 (length levels) lt) at none) ∙ opened)
  where
    never : {X : Type 0} {x : X} → None ≡ Some x → ⊥
    never e = cc

-- ---- a commit

-- no access finds bytes with a commit
skipped : {w : ℕ} (complete : Completeness) (n : ℕ) (access : Access w) (from : Link) (x : Commit) (e : Events w)
    (address v : ℕ) → access.asked ≤ length (beats_of e)
    → may_read_seen complete n access e address v
    ≡ may_read_seen complete n access ((from, event.Commit x) ∷ e) address v
unfolding beats_of may_read_seen
skipped complete n access from x e address v le = rw (le-leb access.asked (length (beats_of e)) le) refl

skipped-before : {w : ℕ} (complete : Completeness) (n : ℕ) (access : Access w) (from : Link) (x : Commit) (e : Events w)
    (address v link k : ℕ) → access.asked ≤ length (beats_of e)
    → may_read_seen complete n access (before_last_seen link k e) address v
    ≡ may_read_seen complete n access (before_last_seen link k ((from, event.Commit x) ∷ e)) address v
unfolding before_last_seen
skipped-before complete n access from x e address v link zero le = skipped complete n access from x e address v le
skipped-before complete n access from x e address v link (suc k) le = refl

pub readings-commit : {w : ℕ} (readings : List Reading) (complete : Completeness) (n : ℕ) (from : Link) (x : Commit)
    (e : Events w) → KnowsReadings readings complete n e → KnowsReadings readings complete n ((from, event.Commit x) ∷ e)
unfolding beats_of
readings-commit {w} readings complete n from x e k link source access pending other =
    still (find (is_of link source) readings) (k link source access pending other)
  where
    le : access.asked ≤ length (beats_of e)
    le = (asked-by_now link source access (beats_of e) pending).by_now

    same : (get : Bool) (kept address v : ℕ)
        → may_read_seen complete n access (if get then e else before_last_seen access.link kept e) address v
        ≡ may_read_seen complete n access (if get then (from, event.Commit x) ∷ e
        else before_last_seen access.link kept ((from, event.Commit x) ∷ e)) address v
    same true kept address v = skipped complete n access from x e address v le
    same false kept address v = skipped-before complete n access from x e address v access.link kept le

    still : (o : Option Reading) → IsReadingOf o complete n access e
        → IsReadingOf o complete n access ((from, event.Commit x) ∷ e)
    still None is = absurd is
    still (Some r) is = record {
      opcode_is = is.opcode_is;
      address_is = is.address_is;
      size_is = is.size_is;
      begun_is = is.begun_is;
      found_are = λ place v lt small there. is.found_are place v lt small there
          ∙ same (is_get access.request.opcode) (come access.link access.request.source e) _ v;
    }

-- ---- all readings, by the judge of beats

pub all-taken : {w : ℕ} (judge : Judge w) (table : Table) (link : Link) (x : Beat w) (shown : Option ℕ)
    (levels : List Level) (l : Liberties) (complete : Completeness) (e : Events w) (old new : List Reading)
    → Knows judge levels l ((link, x) ∷ beats_of e) false → link.0 < length levels
    → MayShow shown x (on_link link.0 (beats_of e))
    → KnowsTable table complete (length levels) ((link, event.Beat x) ∷ e)
    → AreTakenBy judge table link x shown old new → AllZip (IsTaken complete (length levels) link x e) old new
all-taken judge table link x shown levels l complete e [] [] k lt may known are = tt
all-taken judge table link x shown levels l complete e (r ∷ old) (m ∷ new) k lt may known are = (
  are.0 levels l complete e k lt may known,
  all-taken judge table link x shown levels l complete e old new k lt may known
      are.1,
)
all-taken judge table link x shown levels l complete e [] (m ∷ new) k lt may known are = absurd are
all-taken judge table link x shown levels l complete e (r ∷ old) [] k lt may known are = absurd are
