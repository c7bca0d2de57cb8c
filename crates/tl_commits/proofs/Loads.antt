-- The loads that have begun, after one more event.
use Rattle.std.proofs.Common.{◌≡◌, ◌<◌, ◌+◌, ◌^◌, ℕ, Bool, true, false, not, ◌&&◌, ◌||◌, List, [], ◌∷◌, ◌++◌, length}
use Rattle.std.proofs.Common.{refl, sym, ap, ◌∙◌, filter, find, inl, inr, arith}
use Rattle.std.proofs.lemmas.Bool.{and_parts, eq-eqb, eqb-true, cases_Bool}
use Rattle.std.specs.List.{AllZip}
use Rattle.std.specs.Prelude.{if◌then◌else◌, ◌==◌, Option, Some, None, ⊤}
use Rattle.tl_beat.specs.declared.beat.Link.{Link}
use Rattle.tl_params.specs.declared.level.Level.{Level}
use Rattle.tl_params.specs.declared.liberties.Liberties.{Liberties}
use Rattle.tl_together.specs.declared.judge.Judge.{Judge}
use Rattle.tl_together.specs.statement.Knows.{Knows}
use Rattle.tl_commits.specs.code.Loading.{ArePieces, AreRenewed, IsFresh, IsLoading, IsNewer, is_of}
use Rattle.tl_commits.specs.code.ValueTable.{KnowsTable, Table}
use Rattle.tl_events.specs.declared.commit.Event.{Event}
use Rattle.tl_events.specs.declared.commit.Piece.{Piece}
use Rattle.tl_commits.specs.declared.loading.Loading.{Loading}
use Rattle.tl_events.specs.statement.CommitLine.{IsPiece}
use Rattle.tl_commits.specs.statement.Completeness.{Completeness}
use Rattle.tl_commits.specs.statement.Commits.{may_bring}
use Rattle.tl_commits.proofs.Pieces.{most-bytes}
use Rattle.tl_commits.specs.statement.Events.{Events, beats_of, begins_load, is_load, is_loading, same_piece, since_begun}

-- ---- keys

-- the load is of this link and piece
pub record HasKey (x : Loading) (link : ℕ) (piece : Piece) : Type 0 where
  pub link_is : x.link.0 ≡ link
  pub piece_is : x.piece ≡ piece

pub same-piece-is : (p q : Piece) → same_piece p q ≡ true → p ≡ q
same-piece-is p q e =
    let both = and_parts (p.size == q.size) (p.address == q.address) e in
    let size : p.size ≡ q.size = eqb-true p.size q.size both.0 in
    let address : p.address ≡ q.address = eqb-true p.address q.address both.1 in
    made p.size q.size p.address q.address size address
  where
    piece_of : ℕ → ℕ → Piece
    piece_of size address = record { size = size; address = address }

    made : (s t a b : ℕ) → s ≡ t → a ≡ b → piece_of s a ≡ piece_of t b
    made s t a b e f = rw (e, f) refl

pub key-of : (x : Loading) (link : ℕ) (piece : Piece) → is_of link piece x ≡ true → HasKey x link piece
key-of x link piece e =
    let both = and_parts (x.link.0 == link) (same_piece x.piece piece) e in
    record { link_is = eqb-true x.link.0 link both.0; piece_is = same-piece-is x.piece piece both.1 }

-- the load that is found, if there is one, is of this link and piece
abbrev pub HasKeyIfAny : Option Loading → ℕ → Piece → Type 0
HasKeyIfAny None link piece = ⊤
HasKeyIfAny (Some x) link piece = HasKey x link piece

pub found-key : (link : ℕ) (piece : Piece) (loads : List Loading) → HasKeyIfAny (find (is_of link piece) loads) link piece
found-key link piece [] = tt
found-key link piece (x ∷ loads) = go (is_of link piece x) (found-key link piece loads) refl
  where
    go : (b : Bool) → HasKeyIfAny (find (is_of link piece) loads) link piece → is_of link piece x ≡ b
        → HasKeyIfAny (if b then Some x else find (is_of link piece) loads) link piece
    go true rest e = key-of x link piece e
    go false rest e = rest

-- ---- one load, after one more event

pub or-comm : (a b : Bool) → (a || b) ≡ (b || a)
or-comm true true = refl
or-comm true false = refl
or-comm false true = refl
or-comm false false = refl

-- the two are related, if there is one
abbrev pub AreBoth : {X : Type 0} → (X → X → Type 0) → Option X → Option X → Type 0
AreBoth R None None = ⊤
AreBoth R (Some y) (Some z) = R y z
AreBoth R None (Some z) = ⊥
AreBoth R (Some y) None = ⊥

module _ {w : ℕ} (complete : Completeness) (n link : ℕ) (piece : Piece) (x : Link × Event w) (e : Events w) where
  abbrev test : ℕ → ℕ → Events w → Bool
  test i v = may_bring complete n link (piece.address + i) v

  -- an event that neither begins nor ends the load
  pub goes-on : (o p : Option Loading) → AreBoth (IsNewer complete n (x ∷ e)) o p → HasKeyIfAny o link piece
      → IsLoading o complete n link piece e → begins_load link piece x ≡ false → is_load link piece x ≡ false
      → IsLoading p complete n link piece (x ∷ e)
  unfolding is_loading since_begun
  goes-on None None newer key is no_begin no_end = rw (no_begin, no_end, is) refl
  goes-on (Some y) (Some z) newer key is no_begin no_end = (
    rw (no_begin, no_end, is.0) refl,
    record {
      loadable_is = newer.loadable_is ∙ rw (no_begin, key.link_is, key.piece_is, is.1.loadable_is) refl;
      values_are = λ i v few small.
          let few_own : i < 2 ^ y.piece.size = rw key.piece_is few in
          newer.values_are i v few_own small ∙ rw (no_begin, key.link_is, key.piece_is, is.1.values_are i v few small)
          (or-comm (since_begun (test i v) link piece e) (test i v (x ∷ e)));
    },
  )
  goes-on None (Some z) newer key is no_begin no_end = absurd newer
  goes-on (Some y) None newer key is no_begin no_end = absurd newer

  -- the event begins it
  pub has-begun : (from : Link) (y z : Loading) → IsFresh y from piece → from.0 ≡ link → IsPiece piece
      → IsNewer complete n (x ∷ e) y z → begins_load link piece x ≡ true
      → IsLoading (Some z) complete n link piece (x ∷ e)
  unfolding is_loading since_begun
  has-begun from y z fresh own is newer begins =
      let link_is : y.link.0 ≡ link = ap (λ (l : Link). l.0) fresh.link_is ∙ own in (
        rw begins refl,
        record {
          loadable_is = newer.loadable_is ∙ rw (begins, link_is, fresh.piece_is, fresh.loadable_is) refl;
          values_are = λ i v few small.
              let few_own : i < 2 ^ y.piece.size = rw fresh.piece_is few in
              let within : i < 8 = omega (arith, few, most-bytes piece.size is.small) in
              newer.values_are i v few_own small ∙ rw (begins, link_is, fresh.piece_is, fresh.values_are i v within small)
              (or-comm false (test i v (x ∷ e)));
        },
      )

  -- the event ends it
  pub has-ended : begins_load link piece x ≡ false → is_load link piece x ≡ true
      → IsLoading None complete n link piece (x ∷ e)
  unfolding is_loading
  has-ended no_begin ends = rw (no_begin, ends) refl

-- ---- all loads

-- what is found among loads that are related, and have the same keys
pub found-zip : {X : Type 0} (R : X → X → Type 0) (p : X → Bool) → ((y z : X) → R y z → p z ≡ p y) → (old new : List X)
    → AllZip R old new → AreBoth R (find p old) (find p new)
found-zip R p same [] [] are = tt
found-zip R p same (y ∷ old) (z ∷ new) are =
    rw (same y z are.0) (go (p y) (found-zip R p same old new are.1))
  where
    go : (b : Bool) → AreBoth R (find p old) (find p new)
        → AreBoth R (if b then Some y else find p old) (if b then Some z else find p new)
    go true rest = are.0
    go false rest = rest
found-zip R p same [] (z ∷ new) are = absurd are
found-zip R p same (y ∷ old) [] are = absurd are

-- a load keeps its key
pub newer-key : {w : ℕ} (complete : Completeness) (n : ℕ) (e : Events w) (link : ℕ) (piece : Piece) (y z : Loading)
    → IsNewer complete n e y z → is_of link piece z ≡ is_of link piece y
newer-key complete n e link piece y z newer = rw (newer.link_is, newer.piece_is) refl

pub newer-found : {w : ℕ} (complete : Completeness) (n : ℕ) (e : Events w) (link : ℕ) (piece : Piece)
    (old new : List Loading) → AllZip (IsNewer complete n e) old new
    → AreBoth (IsNewer complete n e) (find (is_of link piece) old) (find (is_of link piece) new)
newer-found complete n e link piece =
    found-zip (IsNewer complete n e) (is_of link piece) (newer-key complete n e link piece)

-- each load is renewed
pub all-renewed : {w : ℕ} (judge : Judge w) (table : Table) (complete : Completeness) (levels : List Level)
    (l : Liberties) (e : Events w) (old new : List Loading)
    → AreRenewed judge table complete.stores old new → Knows judge levels l (beats_of e) false
    → KnowsTable table complete (length levels) e → ArePieces (length levels) old
    → AllZip (IsNewer complete (length levels) e) old new
all-renewed judge table complete levels l e [] [] are k t pieces = tt
all-renewed judge table complete levels l e (x ∷ old) (y ∷ new) are k t pieces = (
  are.0 levels l complete e refl k t pieces.0.0 pieces.0.1,
  all-renewed judge table complete levels l e old new are.1 k t pieces.1,
)
all-renewed judge table complete levels l e [] (y ∷ new) are k t pieces = absurd are
all-renewed judge table complete levels l e (x ∷ old) [] are k t pieces = absurd are

-- they stay loads of pieces
pub pieces-zip : (n : ℕ) (R : Loading → Loading → Type 0)
    → ((y z : Loading) → R y z → (y.link.0 < n) × IsPiece y.piece → (z.link.0 < n) × IsPiece z.piece)
    → (old new : List Loading) → AllZip R old new → ArePieces n old → ArePieces n new
pieces-zip n R stays [] [] are is = tt
pieces-zip n R stays (y ∷ old) (z ∷ new) are is = (stays y z are.0 is.0, pieces-zip n R stays old new are.1 is.1)
pieces-zip n R stays [] (z ∷ new) are is = absurd are
pieces-zip n R stays (y ∷ old) [] are is = absurd are

pub pieces-newer : {w : ℕ} (complete : Completeness) (n : ℕ) (e : Events w) (old new : List Loading)
    → AllZip (IsNewer complete n e) old new → ArePieces n old → ArePieces n new
pieces-newer complete n e = pieces-zip n (IsNewer complete n e)
    (λ y z newer is. (rw newer.link_is is.0, rw newer.piece_is is.1))

pub pieces-filter : (n : ℕ) (keep : Loading → Bool) (loads : List Loading) → ArePieces n loads
    → ArePieces n (filter keep loads)
pieces-filter n keep [] are = tt
pieces-filter n keep (x ∷ loads) are = go (keep x) (pieces-filter n keep loads are.1)
  where
    go : (b : Bool) → ArePieces n (filter keep loads) → ArePieces n (if b then x ∷ filter keep loads else filter keep loads)
    go true rest = (are.0, rest)
    go false rest = rest

pub pieces-more : (n : ℕ) (x : Loading) (loads : List Loading) → (x.link.0 < n) × IsPiece x.piece → ArePieces n loads
    → ArePieces n (loads ++ x ∷ [])
pieces-more n x [] is are = (is, tt)
pieces-more n x (y ∷ loads) is are = (are.0, pieces-more n x loads is are.1)

-- ---- keys that differ

pub same-self : (link : ℕ) (piece : Piece) → ((link == link) && same_piece piece piece) ≡ true
same-self link piece =
    rw (eq-eqb link link refl, eq-eqb piece.size piece.size refl, eq-eqb piece.address piece.address refl) refl

pub other-key : (from link : ℕ) (own piece : Piece) → ((from == link) && same_piece own piece) ≡ false → (y : Loading)
    → is_of link piece y ≡ true → is_of from own y ≡ false
other-key from link own piece apart y on = elim (cases_Bool (is_of from own y)) [
  | inl both ↦ absurd
      (let a = key-of y from own both in
      let b = key-of y link piece on in
      let links : from ≡ link = sym a.link_is ∙ b.link_is in
      let pieces : own ≡ piece = sym a.piece_is ∙ b.piece_is in
      let same : ((from == link) && same_piece own piece) ≡ true = rw (links, pieces) (same-self link piece) in
      let no : true ≡ false = sym same ∙ apart in cc)
  | inr off ↦ off
]

module _ (p q : Loading → Bool) where
  -- what another test leaves out
  pub find-kept : ((y : Loading) → p y ≡ true → q y ≡ false) → (loads : List Loading)
      → find p (filter (λ y. not (q y)) loads) ≡ find p loads
  find-kept apart [] = refl
  find-kept apart (y ∷ loads) = elim (cases_Bool (p y)) [
    | inl on ↦ rw (apart y on, on) refl
    | inr off ↦ go (q y) (find-kept apart loads) off
  ]
    where
      go : (b : Bool) → find p (filter (λ y. not (q y)) loads) ≡ find p loads → p y ≡ false
          → find p (if not b then y ∷ filter (λ y. not (q y)) loads else filter (λ y. not (q y)) loads)
          ≡ (if p y then Some y else find p loads)
      go true rest off = rw off rest
      go false rest off = rw off rest

-- none is found of those that a test leaves out
pub find-gone : (p : Loading → Bool) (loads : List Loading) → find p (filter (λ y. not (p y)) loads) ≡ None
find-gone p [] = refl
find-gone p (y ∷ loads) = go (p y) refl (find-gone p loads)
  where
    go : (b : Bool) → p y ≡ b → find p (filter (λ y. not (p y)) loads) ≡ None
        → find p (if not b then y ∷ filter (λ y. not (p y)) loads else filter (λ y. not (p y)) loads) ≡ None
    go true on rest = rest
    go false off rest = rw off rest

-- one more at the end
pub find-more : (p : Loading → Bool) (x : Loading) (loads : List Loading) → p x ≡ false
    → find p (loads ++ x ∷ []) ≡ find p loads
find-more p x [] off = rw off refl
find-more p x (y ∷ loads) off = ap (λ (o : Option Loading). if p y then Some y else o) (find-more p x loads off)

pub find-last : (p : Loading → Bool) (x : Loading) (loads : List Loading) → p x ≡ true → find p loads ≡ None
    → find p (loads ++ x ∷ []) ≡ Some x
find-last p x [] on none = rw on refl
find-last p x (y ∷ loads) on none = go (p y) (find-last p x loads on) none
  where
    go : (b : Bool) → (find p loads ≡ None → find p (loads ++ x ∷ []) ≡ Some x)
        → (if b then Some y else find p loads) ≡ None
        → (if b then Some y else find p (loads ++ x ∷ [])) ≡ Some x
    go true rest f = absurd cc
    go false rest f = rest f
