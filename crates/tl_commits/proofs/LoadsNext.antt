-- The loads that a judge keeps are those that have begun, after one more event.
use Rattle.std.proofs.Common.{◌≡◌, ◌<◌, ℕ, true, false, not, ◌&&◌, List, [], ◌∷◌, ◌++◌, refl, ap, filter, find}
use Rattle.std.proofs.Common.{inl, inr, subst}
use Rattle.std.proofs.lemmas.Bool.{and_parts, cases_Bool, eqb-true}
use Rattle.std.specs.List.{AllZip}
use Rattle.std.specs.Prelude.{◌==◌, Option, Some, None}
use Rattle.tl_beat.specs.declared.beat.Link.{Link}
use Rattle.tl_commits.specs.code.Loading.{ArePieces, IsBegun, IsFresh, IsLoading, IsNewer, IsRestarted, KnowsLoads, is_of}
use Rattle.tl_events.specs.declared.commit.Commit.TheVariants as commit
use Rattle.tl_events.specs.declared.commit.Event.{Event}
use Rattle.tl_events.specs.declared.commit.Event.TheVariants as event
use Rattle.tl_events.specs.declared.commit.Piece.{Piece}
use Rattle.tl_commits.specs.declared.loading.Loading.{Loading}
use Rattle.tl_events.specs.statement.CommitLine.{IsPiece}
use Rattle.tl_commits.specs.statement.Completeness.{Completeness}
use Rattle.tl_commits.specs.statement.Events.{Events, begins_load, is_load, is_loading, same_piece}
use Rattle.tl_commits.proofs.Loads.{AreBoth, HasKey, HasKeyIfAny, find-gone, find-kept, find-last, find-more, found-key}
use Rattle.tl_commits.proofs.Loads.{found-zip, goes-on, has-begun, has-ended, key-of, newer-found, other-key, pieces-filter}
use Rattle.tl_commits.proofs.Loads.{pieces-more, pieces-newer, pieces-zip, same-piece-is, same-self}

-- before the trace none has begun
pub no-loads : {w : ℕ} (complete : Completeness) (n : ℕ) → KnowsLoads {w = w} [] complete n []
unfolding is_loading
no-loads complete n = record { pieces = tt; are = λ link piece. refl }

-- an event that neither begins nor ends a load
pub loads-other : {w : ℕ} (complete : Completeness) (n : ℕ) (x : Link × Event w) (e : Events w) (old new : List Loading)
    → KnowsLoads old complete n e → AllZip (IsNewer complete n (x ∷ e)) old new
    → ((link : ℕ) (piece : Piece) → begins_load link piece x ≡ false)
    → ((link : ℕ) (piece : Piece) → is_load link piece x ≡ false) → KnowsLoads new complete n (x ∷ e)
loads-other complete n x e old new k newer no_begin no_end = record {
  pieces = pieces-newer complete n (x ∷ e) old new newer k.pieces;
  are = λ link piece. goes-on complete n link piece x e (find (is_of link piece) old) (find (is_of link piece) new)
      (newer-found complete n (x ∷ e) link piece old new newer) (found-key link piece old) (k.are link piece)
      (no_begin link piece) (no_end link piece);
}

-- the same keys
keys-same : (from link : ℕ) (own piece : Piece) → ((from == link) && same_piece own piece) ≡ true
    → (from ≡ link) × (own ≡ piece)
keys-same from link own piece e =
    let both = and_parts (from == link) (same_piece own piece) e in
    (eqb-true from link both.0, same-piece-is own piece both.1)

-- nothing is related to no load
none-related : (R : Loading → Loading → Type 0) (o p : Option Loading) → AreBoth R o p → o ≡ None → p ≡ None
none-related R None None both none = refl
none-related R None (Some z) both none = absurd both
none-related R (Some y) None both none = refl
none-related R (Some y) (Some z) both none = absurd cc

-- a load ends
pub loads-load : {w : ℕ} (complete : Completeness) (n : ℕ) (from : Link) (own : Piece) (value : ℕ) (e : Events w)
    (old mid new : List Loading)
    → KnowsLoads old complete n e → mid ≡ filter (λ y. not (is_of from.0 own y)) old
    → AllZip (IsNewer complete n ((from, event.Commit (commit.Load own value)) ∷ e)) mid new
    → KnowsLoads new complete n ((from, event.Commit (commit.Load own value)) ∷ e)
loads-load {w} complete n from own value e old mid new k mid_is newer = record {
  pieces = pieces-newer complete n (x ∷ e) mid new newer
      (rw mid_is (pieces-filter n (λ y. not (is_of from.0 own y)) old k.pieces));
  are = λ link piece. go link piece;
}
  where
    x : Link × Event w
    x = (from, event.Commit (commit.Load own value))

    go : (link : ℕ) (piece : Piece) → IsLoading (find (is_of link piece) new) complete n link piece (x ∷ e)
    go link piece = elim (cases_Bool (is_load link piece x)) [
      | inl ends ↦
          let same = keys-same from.0 link own piece ends in
          let gone : find (is_of link piece) mid ≡ None =
          rw (mid_is, same.0, same.1) (find-gone (is_of link piece) old) in
          let none : find (is_of link piece) new ≡ None =
          none-related (IsNewer complete n (x ∷ e)) (find (is_of link piece) mid) (find (is_of link piece) new)
          (newer-found complete n (x ∷ e) link piece mid new newer) gone in
          rw none (has-ended complete n link piece x e refl ends)
      | inr apart ↦
          let kept : find (is_of link piece) mid ≡ find (is_of link piece) old =
          rw mid_is (find-kept (is_of link piece) (is_of from.0 own) (other-key from.0 link own piece apart) old) in
          goes-on complete n link piece x e (find (is_of link piece) old) (find (is_of link piece) new)
          (subst (λ o. AreBoth (IsNewer complete n (x ∷ e)) o (find (is_of link piece) new)) kept
          (newer-found complete n (x ∷ e) link piece mid new newer))
          (found-key link piece old) (k.are link piece) refl apart
    ]

-- ---- a load begins

-- a load that begins again keeps its key
restarted-key : (from : Link) (own : Piece) (link : ℕ) (piece : Piece) (y z : Loading) → IsRestarted from own y z
    → is_of link piece z ≡ is_of link piece y
restarted-key from own link piece y z again = elim (cases_Bool (is_of from.0 own y)) [
  | inl on ↦
      let key = key-of y from.0 own on in
      let fresh = again.own on in
      rw (fresh.link_is, fresh.piece_is, key.link_is, key.piece_is) refl
  | inr off ↦ ap (is_of link piece) (again.other off)
]

restarted-piece : (n : ℕ) (from : Link) (own : Piece) (y z : Loading) → IsRestarted from own y z
    → (y.link.0 < n) × IsPiece y.piece → (z.link.0 < n) × IsPiece z.piece
restarted-piece n from own y z again is = elim (cases_Bool (is_of from.0 own y)) [
  | inl on ↦
      let key = key-of y from.0 own on in
      let fresh = again.own on in
      (rw (fresh.link_is, ← key.link_is) is.0, rw (fresh.piece_is, ← key.piece_is) is.1)
  | inr off ↦ rw (again.other off) is
]

-- the loads with one that begins are loads of pieces
pub pieces-begun : (n : ℕ) (from : Link) (own : Piece) (o : Option Loading) (old mid : List Loading)
    → IsBegun from own o old mid → from.0 < n → IsPiece own → ArePieces n old → ArePieces n mid
pieces-begun n from own None old mid (y, fresh, is) lt piece are =
    rw is (pieces-more n y old (rw fresh.link_is lt, rw fresh.piece_is piece) are)
pieces-begun n from own (Some y) old mid is lt piece are =
    pieces-zip n (IsRestarted from own) (restarted-piece n from own) old mid is are

-- the load of this key is a fresh one, and one of another key is as before
record HasBegun (from : Link) (own : Piece) (old mid : List Loading) : Type 0 where
  own_is : (y : Loading) × IsFresh y from own × (find (is_of from.0 own) mid ≡ Some y)
  others : (link : ℕ) (piece : Piece) → ((from.0 == link) && same_piece own piece) ≡ false
      → find (is_of link piece) mid ≡ find (is_of link piece) old

fresh-on : (from : Link) (own : Piece) (y : Loading) → IsFresh y from own → is_of from.0 own y ≡ true
fresh-on from own y fresh = rw (fresh.link_is, fresh.piece_is) (same-self from.0 own)

-- none of this key had begun
first-begun : (from : Link) (own : Piece) (old mid : List Loading) (y : Loading) → IsFresh y from own
    → find (is_of from.0 own) old ≡ None → mid ≡ old ++ y ∷ [] → HasBegun from own old mid
first-begun from own old mid y fresh none mid_is = record {
  own_is = (
    y,
    fresh,
    rw mid_is (find-last (is_of from.0 own) y old (fresh-on from own y fresh) none),
  );
  others = λ link piece apart.
      let off : is_of link piece y ≡ false = rw (fresh.link_is, fresh.piece_is) apart in
      rw mid_is (find-more (is_of link piece) y old off);
}

-- one of this key had
again-begun : (from : Link) (own : Piece) (old mid : List Loading) (y : Loading)
    → find (is_of from.0 own) old ≡ Some y → AllZip (IsRestarted from own) old mid → HasBegun from own old mid
again-begun from own old mid y there again = record {
  own_is = fresh (find (is_of from.0 own) mid) refl (subst (λ o. AreBoth (IsRestarted from own) o
      (find (is_of from.0 own) mid)) there (both from.0 own));
  others = λ link piece apart. same link piece apart (find (is_of link piece) old) (find (is_of link piece) mid)
      (both link piece) (found-key link piece old);
}
  where
    both : (link : ℕ) (piece : Piece)
        → AreBoth (IsRestarted from own) (find (is_of link piece) old) (find (is_of link piece) mid)
    both link piece = found-zip (IsRestarted from own) (is_of link piece) (restarted-key from own link piece) old mid again

    on : is_of from.0 own y ≡ true
    on =
        let key : HasKey y from.0 own = subst (λ o. HasKeyIfAny o from.0 own) there (found-key from.0 own old) in
        rw (key.link_is, key.piece_is) (same-self from.0 own)

    fresh : (o : Option Loading) → find (is_of from.0 own) mid ≡ o → AreBoth (IsRestarted from own) (Some y) o
        → (z : Loading) × IsFresh z from own × (find (is_of from.0 own) mid ≡ Some z)
    fresh None is related = absurd related
    fresh (Some z) is related = (z, related.own on, is)

    same : (link : ℕ) (piece : Piece) → ((from.0 == link) && same_piece own piece) ≡ false → (o p : Option Loading)
        → AreBoth (IsRestarted from own) o p → HasKeyIfAny o link piece → p ≡ o
    same link piece apart None None related key = refl
    same link piece apart None (Some z) related key = absurd related
    same link piece apart (Some x) None related key = absurd related
    same link piece apart (Some x) (Some z) related key =
        let here : is_of link piece x ≡ true = rw (key.link_is, key.piece_is) (same-self link piece) in
        ap Some (related.other (other-key from.0 link own piece apart x here))

begun-by : (from : Link) (own : Piece) (o : Option Loading) (old mid : List Loading)
    → find (is_of from.0 own) old ≡ o → IsBegun from own o old mid → HasBegun from own old mid
begun-by from own None old mid none (y, fresh, is) = first-begun from own old mid y fresh none is
begun-by from own (Some y) old mid there is = again-begun from own old mid y there is

pub loads-begun : {w : ℕ} (complete : Completeness) (n : ℕ) (from : Link) (own : Piece) (e : Events w)
    (old mid new : List Loading) → KnowsLoads old complete n e
    → IsBegun from own (find (is_of from.0 own) old) old mid → from.0 < n → IsPiece own
    → AllZip (IsNewer complete n ((from, event.Commit (commit.Begin own)) ∷ e)) mid new
    → KnowsLoads new complete n ((from, event.Commit (commit.Begin own)) ∷ e)
loads-begun {w} complete n from own e old mid new k is lt piece_is newer = record {
  pieces = pieces-newer complete n (x ∷ e) mid new newer
      (pieces-begun n from own (find (is_of from.0 own) old) old mid is lt piece_is k.pieces);
  are = λ link piece. go link piece;
}
  where
    x : Link × Event w
    x = (from, event.Commit (commit.Begin own))

    begun : HasBegun from own old mid
    begun = begun-by from own (find (is_of from.0 own) old) old mid refl is

    related : (link : ℕ) (piece : Piece)
        → AreBoth (IsNewer complete n (x ∷ e)) (find (is_of link piece) mid) (find (is_of link piece) new)
    related link piece = newer-found complete n (x ∷ e) link piece mid new newer

    started : (link : ℕ) (piece : Piece) → from.0 ≡ link → own ≡ piece → begins_load link piece x ≡ true
        → (y : Loading) → IsFresh y from own → (p : Option Loading) → AreBoth (IsNewer complete n (x ∷ e)) (Some y) p
        → IsLoading p complete n link piece (x ∷ e)
    started link piece link_is own_is begins y fresh None both = absurd both
    started link piece link_is own_is begins y fresh (Some z) both =
        has-begun complete n link piece x e from y z (subst (λ p. IsFresh y from p) own_is fresh) link_is
        (subst IsPiece own_is piece_is) both begins

    go : (link : ℕ) (piece : Piece) → IsLoading (find (is_of link piece) new) complete n link piece (x ∷ e)
    go link piece = elim (cases_Bool (begins_load link piece x)) [
      | inl on ↦
          let same = keys-same from.0 link own piece on in
          let own_is = begun.own_is in
          let found : find (is_of link piece) mid ≡ Some own_is.0 = rw (← same.0, ← same.1) own_is.2 in
          started link piece same.0 same.1 on own_is.0 own_is.1 (find (is_of link piece) new)
          (subst (λ o. AreBoth (IsNewer complete n (x ∷ e)) o (find (is_of link piece) new)) found (related link piece))
      | inr apart ↦
          let kept : find (is_of link piece) mid ≡ find (is_of link piece) old = begun.others link piece apart in
          goes-on complete n link piece x e (find (is_of link piece) old) (find (is_of link piece) new)
          (subst (λ o. AreBoth (IsNewer complete n (x ∷ e)) o (find (is_of link piece) new)) kept (related link piece))
          (found-key link piece old) (k.are link piece) apart refl
    ]
