-- The loads that have begun, as a judge keeps them.
use Rattle.std.specs.List.{AllZip}
use Rattle.std.specs.Prelude.{ℕ, Bool, true, false, ◌+◌, ◌^◌, ◌++◌, ◌==◌, ◌&&◌, ◌||◌, ◌≡◌, ◌<◌, List, [], ◌∷◌, length}
use Rattle.std.specs.Prelude.{find, Option, Some, None, ⊤}
use Rattle.tl_beat.specs.declared.beat.Link.{Link}
use Rattle.tl_params.specs.declared.level.Level.{Level}
use Rattle.tl_params.specs.declared.liberties.Liberties.{Liberties}
use Rattle.tl_rules.specs.statement.Effect.{byte_of}
use Rattle.tl_rules.specs.statement.Legality.{each_below}
use Rattle.tl_together.specs.declared.judge.Judge.{Judge}
use Rattle.tl_together.specs.statement.Knows.{Knows}
use Rattle.tl_events.specs.declared.commit.Piece.{Piece}
use Rattle.tl_events.specs.statement.CommitLine.{IsPiece}
use Rattle.tl_memory.specs.code.ByteSet.{has_at}
use Rattle.tl_commits.specs.code.ValueTable.{KnowsTable, Table}
use Rattle.tl_commits.specs.declared.loading.Loading.{Loading}
use Rattle.tl_commits.specs.statement.Completeness.{Completeness}
use Rattle.tl_commits.specs.statement.Commits.{is_piece_loadable, may_bring}
use Rattle.tl_commits.specs.statement.Events.{Events, beats_of, is_loading, same_piece, since_begun}

-- it is the load of this piece on this link
abbrev pub is_of : ℕ → Piece → Loading → Bool
is_of link piece loading = (loading.link.0 == link) && same_piece loading.piece piece

-- byte i of a load is kept as one that may be v
abbrev pub had : Loading → ℕ → ℕ → Bool
had x i v = has_at x.values i v

-- so is each byte of this value
abbrev pub brings : Loading → ℕ → Bool
brings x value = each_below (2 ^ x.piece.size) (λ i. had x i (byte_of value i))

-- what is kept of a load says whether it could be performed at a moment since it began, and which bytes it could bring
pub record IsKept {w : ℕ} (x : Loading) (complete : Completeness) (n link : ℕ) (piece : Piece) (e : Events w)
    : Type 0 where
  pub loadable_is : x.loadable ≡ since_begun (is_piece_loadable link piece) link piece e
  pub values_are : (i v : ℕ) → i < 2 ^ piece.size → v < 256
      → had x i v ≡ since_begun (may_bring complete n link (piece.address + i) v) link piece e

-- this is the load that has begun, if one has
abbrev pub IsLoading : {w : ℕ} → Option Loading → Completeness → ℕ → ℕ → Piece → Events w → Type 0
IsLoading None complete n link piece e = is_loading link piece e ≡ false
IsLoading (Some x) complete n link piece e =
    (is_loading link piece e ≡ true) × IsKept x complete n link piece e

-- each is a load of a piece on one of the first n links
abbrev pub ArePieces : ℕ → List Loading → Type 0
ArePieces n [] = ⊤
ArePieces n (x ∷ loads) = ((x.link.0 < n) × IsPiece x.piece) × ArePieces n loads

-- the loads that have begun, on n links
pub record KnowsLoads {w : ℕ} (loads : List Loading) (complete : Completeness) (n : ℕ) (e : Events w) : Type 0 where
  pub pieces : ArePieces n loads
  pub are : (link : ℕ) (piece : Piece) → IsLoading (find (is_of link piece) loads) complete n link piece e

-- a load that begins, before it is known whether it is possible
pub record IsFresh (x : Loading) (link : Link) (piece : Piece) : Type 0 where
  pub link_is : x.link ≡ link
  pub piece_is : x.piece ≡ piece
  pub loadable_is : x.loadable ≡ false
  pub values_are : (i v : ℕ) → i < 8 → v < 256 → had x i v ≡ false

-- the load with what is possible now
pub record IsNewer {w : ℕ} (complete : Completeness) (n : ℕ) (e : Events w) (old new : Loading) : Type 0 where
  pub link_is : new.link ≡ old.link
  pub piece_is : new.piece ≡ old.piece
  pub loadable_is : new.loadable ≡ (is_piece_loadable old.link.0 old.piece e || old.loadable)
  pub values_are : (i v : ℕ) → i < 2 ^ old.piece.size → v < 256
      → had new i v ≡ (had old i v || may_bring complete n old.link.0 (old.piece.address + i) v e)

-- whether a load is possible now, by a judge of the beats
abbrev pub IsPossible : {w : ℕ} → Judge w → Loading → Bool → Type 0
IsPossible {w} judge x now = (levels : List Level) (l : Liberties) (e : Events w) → Knows judge levels l (beats_of e) false
    → x.link.0 < length levels → IsPiece x.piece → now ≡ is_piece_loadable x.link.0 x.piece e

-- a load with what is possible now, by a judge of the beats and the values of blocks
abbrev pub IsRenewed : {w : ℕ} → Judge w → Table → List Bool → Loading → Loading → Type 0
IsRenewed {w} judge table stores old new = (levels : List Level) (l : Liberties) (complete : Completeness) (e : Events w)
    → stores ≡ complete.stores → Knows judge levels l (beats_of e) false → KnowsTable table complete (length levels) e
    → old.link.0 < length levels → IsPiece old.piece → IsNewer complete (length levels) e old new

-- each of them
abbrev pub AreRenewed : {w : ℕ} → Judge w → Table → List Bool → List Loading → List Loading → Type 0
AreRenewed judge table stores old new = AllZip (IsRenewed judge table stores) old new

-- the load, as if it began now if it is the one of this piece on this link
pub record IsRestarted (link : Link) (piece : Piece) (old new : Loading) : Type 0 where
  pub own : is_of link.0 piece old ≡ true → IsFresh new link piece
  pub other : is_of link.0 piece old ≡ false → new ≡ old

-- the loads if that one begins: one of them begins again, if there is one, or there is one more
abbrev pub IsBegun : Link → Piece → Option Loading → List Loading → List Loading → Type 0
IsBegun link piece None old new = (x : Loading) × IsFresh x link piece × (new ≡ old ++ x ∷ [])
IsBegun link piece (Some loading) old new = AllZip (IsRestarted link piece) old new

-- the load that has begun, or one that begins now
abbrev pub IsLoadOf : Option Loading → Link → Piece → Loading → Type 0
IsLoadOf None link piece x = IsFresh x link piece
IsLoadOf (Some y) link piece x = x ≡ y
