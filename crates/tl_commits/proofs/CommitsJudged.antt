-- The answers of a judge to commits.
use Rattle.std.proofs.Common.{◌≡◌, ◌<◌, ◌+◌, ◌-◌, ◌^◌, ℕ, Bool, true, false, not, List, refl, sym, subst, ap, ◌∙◌}
use Rattle.std.proofs.Common.{inl, inr, length, slice_get, find, arith}
use Rattle.std.proofs.lemmas.Option.{slice_get_cases}
use Rattle.std.specs.Prelude.{if◌then◌else◌, Option, Some, None, Err, is_some}
use Rattle.tl_beat.specs.declared.beat.Link.{Link}
use Rattle.tl_params.specs.declared.level.Level.{Level}
use Rattle.tl_params.specs.declared.liberties.Liberties.{Liberties}
use Rattle.tl_rules.specs.statement.Effect.{byte_of}
use Rattle.tl_rules.specs.statement.Legality.{each_below}
use Rattle.tl_together.specs.declared.judge.Judge.{Judge}
use Rattle.tl_together.specs.statement.Knows.{Knows}
use Rattle.tl_events.specs.declared.commit.Piece.{Piece}
use Rattle.tl_events.specs.declared.rule.CommitRule.{CommitRule}
use Rattle.tl_events.specs.declared.rule.CommitRule.TheVariants.{M5, M6}
use Rattle.tl_events.specs.statement.CommitLine.{IsPiece}
use Rattle.tl_commits.specs.code.Judging.{of_rule}
use Rattle.tl_commits.specs.code.Loading.{IsLoadOf, IsLoading, IsNewer, IsRenewed, KnowsLoads, brings, had, is_of}
use Rattle.tl_commits.specs.code.ValueTable.{KnowsTable, Table}
use Rattle.tl_commits.specs.declared.fault.CommitFault.{CommitFault}
use Rattle.tl_commits.specs.declared.loading.Loading.{Loading}
use Rattle.tl_commits.specs.statement.Completeness.{Completeness}
use Rattle.tl_commits.specs.statement.Breaches.{breach_of, has_cache}
use Rattle.tl_commits.specs.statement.Commits.{broken_load, each_byte, is_piece_loadable, may_bring}
use Rattle.tl_commits.specs.statement.Events.{Events, at_some, beats_of, is_loading, since_begun}
use Rattle.tl_commits.specs.statement.Knows.{Answers}
use Rattle.tl_commits.specs.statement.Seen.{byte_in}
use Rattle.tl_commits.proofs.Loads.{HasKeyIfAny, found-key, or-comm}
use Rattle.tl_commits.proofs.Pieces.{each-below-same, most-bytes}

pub begun-is : {w : ℕ} (o : Option Loading) (complete : Completeness) (n link : ℕ) (piece : Piece) (e : Events w)
    → IsLoading o complete n link piece e → is_some o ≡ is_loading link piece e
begun-is None complete n link piece e is = sym is
begun-is (Some y) complete n link piece e is = sym is.0

-- ---- a load

-- the load says whether the piece could be loaded at a moment, and which bytes it could have
pub record SaysAll {w : ℕ} (x : Loading) (complete : Completeness) (n link : ℕ) (piece : Piece) (e : Events w) : Type 0 where
  piece_is : x.piece ≡ piece
  pub loadable_is : x.loadable ≡ at_some (is_piece_loadable link piece) link piece e
  pub values_are : (i v : ℕ) → i < 2 ^ piece.size → v < 256
      → had x i v ≡ at_some (may_bring complete n link (piece.address + i) v) link piece e

-- so does the load that has begun, or one that begins now, with what is possible now
pub says-all : {w : ℕ} (complete : Completeness) (n : ℕ) (link : Link) (piece : Piece) (e : Events w)
    (o : Option Loading)
    (x y : Loading) → IsLoading o complete n link.0 piece e → HasKeyIfAny o link.0 piece → IsLoadOf o link piece x
    → IsPiece piece → IsNewer complete n e x y → SaysAll y complete n link.0 piece e
says-all complete n link piece e None x y is key fresh small newer = record {
  piece_is = newer.piece_is ∙ fresh.piece_is;
  loadable_is = newer.loadable_is ∙ rw (fresh.link_is, fresh.piece_is, fresh.loadable_is, is) refl;
  values_are = λ i v few byte.
      let few_own : i < 2 ^ x.piece.size = rw fresh.piece_is few in
      let within : i < 8 = omega (arith, few, most-bytes piece.size small.small) in
      newer.values_are i v few_own byte ∙ rw (fresh.link_is, fresh.piece_is, fresh.values_are i v within byte, is)
      (or-comm false (may_bring complete n link.0 (piece.address + i) v e));
}
says-all complete n link piece e (Some z) x y is key same small newer =
    kept (subst (λ x. IsNewer complete n e x y) same newer)
  where
    kept : IsNewer complete n e z y → SaysAll y complete n link.0 piece e
    kept newer = record {
      piece_is = newer.piece_is ∙ key.piece_is;
      loadable_is = newer.loadable_is ∙ rw (key.link_is, key.piece_is, is.1.loadable_is, is.0) refl;
      values_are = λ i v few byte.
          let few_own : i < 2 ^ z.piece.size = rw key.piece_is few in
          newer.values_are i v few_own byte ∙ rw (key.link_is, key.piece_is, is.1.values_are i v few byte, is.0)
          (or-comm (since_begun (may_bring complete n link.0 (piece.address + i) v) link.0 piece e)
          (may_bring complete n link.0 (piece.address + i) v e));
    }

-- so does the load that a judge takes
pub judged-load : {w : ℕ} (judge : Judge w) (table : Table) (loads : List Loading) (levels : List Level)
    (complete : Completeness) (l : Liberties) (link : Link) (piece : Piece) (e : Events w) (x y : Loading)
    → Knows judge levels l (beats_of e) false → KnowsTable table complete (length levels) e
    → KnowsLoads loads complete (length levels) e → link.0 < length levels → IsPiece piece
    → IsLoadOf (find (is_of link.0 piece) loads) link piece x → IsRenewed judge table complete.stores x y
    → SaysAll y complete (length levels) link.0 piece e
judged-load judge table loads levels complete l link piece e x y j t k lt is of renewed =
    let key = found-key link.0 piece loads in
    says-all complete (length levels) link piece e (find (is_of link.0 piece) loads) x y (k.are link.0 piece) key of is
    (renewed levels l complete e refl j t (link-of (find (is_of link.0 piece) loads) key of).0
    (link-of (find (is_of link.0 piece) loads) key of).1)
  where
    link-of : (o : Option Loading) → HasKeyIfAny o link.0 piece → IsLoadOf o link piece x
        → (x.link.0 < length levels) × IsPiece x.piece
    link-of None key fresh = (rw fresh.link_is lt, rw fresh.piece_is is)
    link-of (Some z) key same = rw same (rw key.link_is lt, rw key.piece_is is)

module _ {w : ℕ} (complete : Completeness) (n link : ℕ) (piece : Piece) (value : ℕ) (e : Events w) (x : Loading)
    (says : SaysAll x complete n link piece e) where
  -- the bytes of a value
  brings-each : brings x value
      ≡ each_byte piece (λ address. at_some (may_bring complete n link address (byte_in piece value address)) link piece e)
  brings-each =
      ap (λ (p : Piece). each_below (2 ^ p.size) (λ i. had x i (byte_of value i))) says.piece_is
      ∙ each-below-same (2 ^ piece.size) (λ i. had x i (byte_of value i))
      (λ i. at_some (may_bring complete n link (piece.address + i) (byte_in piece value (piece.address + i))) link piece e)
      (λ i few.
      let at : i ≡ piece.address + i - piece.address = omega arith in
      says.values_are i (byte_of value i) few (omega arith)
      ∙ ap (λ j. at_some (may_bring complete n link (piece.address + i) (byte_of value j)) link piece e) at)

  -- the rule that the load breaks
  pub lacks-copy : x.loadable ≡ false → Some M5 ≡ broken_load complete n link piece value e
  lacks-copy off = go (at_some (is_piece_loadable link piece) link piece e) _ (sym says.loadable_is ∙ off)
    where
      go : (b : Bool) (rest : Option CommitRule) → b ≡ false → Some M5 ≡ (if not b then Some M5 else rest)
      go true rest f = absurd cc
      go false rest f = refl

  pub brings-or : (passes : Bool) (rule : Option CommitRule) → x.loadable ≡ true → IsPiece piece
      → (IsPiece x.piece → passes ≡ brings x value) → rule ≡ (if passes then None else Some M6)
      → rule ≡ broken_load complete n link piece value e
  brings-or passes rule on small passes_is rule_is =
      rule_is ∙ rw (passes_is (rw says.piece_is small) ∙ brings-each) (go (at_some (is_piece_loadable link piece) link piece e)
      (each_byte piece (λ address. at_some (may_bring complete n link address (byte_in piece value address)) link piece e))
      (sym says.loadable_is ∙ on))
    where
      go : (b p : Bool) → b ≡ true → (if p then None else Some M6)
          ≡ (if not b then Some M5 else if not p then Some M6 else None)
      go true true f = refl
      go true false f = refl
      go false p f = absurd cc

-- a commit that breaks this rule
pub commit-refused : (wrong found : Option CommitRule) (rule : CommitRule) (f : CommitFault) → found ≡ wrong
    → found ≡ Some rule → f ≡ of_rule rule → Answers (breach_of None wrong) (Err f)
commit-refused wrong found rule f same is of = subst (λ o. Answers (breach_of None o) (Err f)) (sym is ∙ same) (rw of refl)

-- a link that has a cache is one of those that have a level
pub cache-below : (levels : List Level) (link : ℕ) → has_cache (slice_get levels link) ≡ true → link < length levels
cache-below levels link e = elim (slice_get_cases levels link).1 [
  | inl found ↦ found.1
  | inr past ↦ absurd (no-cache (slice_get levels link) past.1 e)
]
  where
    no-cache : (o : Option Level) → o ≡ None → has_cache o ≡ true → ⊥
    no-cache None is f = cc
    no-cache (Some level) is f = cc
