-- The names of a trace after a commit.
use Rattle.std.proofs.Common.{◌≡◌, ◌∙◌, ℕ, Bool, true, false, cond, List, [], ◌∷◌, ◌++◌, ap, map, refl}
use Rattle.std.specs.Prelude.{◌==◌, Option, Some, None}
use Rattle.tl_beat.specs.declared.beat.Link.{Link}
use Rattle.tl_rules.specs.statement.History.{block_at}
use Rattle.tl_rules.specs.statement.Legality.{is_one_of}
use Rattle.tl_wide.proofs.Naming.{among-more}
use Rattle.tl_wide.specs.statement.Naming.{WideTrace, blocks, named, sinks, source_named, sources, with_number}
use Rattle.tl_wide.specs.statement.Narrowed.{asked_address}
use Rattle.tl_wide_events.specs.declared.commit.WideCommit.{WideCommit}
use Rattle.tl_wide_events.specs.declared.commit.WideEvent.TheVariants as wide
use Rattle.tl_wide_events.specs.statement.Narrowed.{WideEvents, address_of, names_of}

-- a name stays
still-among : (o : Option ℕ) (names : List ℕ) (n : ℕ) → is_one_of n names ≡ true
    → is_one_of n (with_number o names) ≡ true
still-among None names n is = is
still-among (Some m) names n is = go (is_one_of m names)
  where
    go : (b : Bool) → is_one_of n (cond b names (names ++ m ∷ [])) ≡ true
    go true = is
    go false = among-more names m n ∙ rw is refl

-- 0 is a source of each link
first-source : {w : ℕ} (link : ℕ) (t : WideTrace w) → is_one_of 0 (sources link t) ≡ true
unfolding named
first-source link [] = refl
first-source link (x ∷ t) = still-among (source_named link x) (sources link t) 0 (first-source link t)

-- so it is no new one
no-source : {w : ℕ} (link : ℕ) (t : WideTrace w) (own : Bool)
    → with_number (cond own (Some 0) None) (sources link t) ≡ sources link t
no-source link t true = rw (first-source link t) refl
no-source link t false = refl

module _ {w : ℕ} (link : Link) (x : WideCommit) (t : WideEvents w) where
  pub block-named : blocks (names_of ((link, wide.Commit x) ∷ t))
      ≡ with_number (Some (block_at (address_of x))) (blocks (names_of t))
  unfolding named
  block-named = refl

  pub sources-same : (from : ℕ) → sources from (names_of ((link, wide.Commit x) ∷ t)) ≡ sources from (names_of t)
  unfolding named
  sources-same from = no-source from (names_of t) (link.0 == from)

  pub sinks-same : sinks (names_of ((link, wide.Commit x) ∷ t)) ≡ sinks (names_of t)
  unfolding named
  sinks-same = refl

  pub asked-same : (on : Link) (source : ℕ)
      → asked_address on source (names_of ((link, wide.Commit x) ∷ t)) ≡ asked_address on source (names_of t)
  unfolding asked_address
  asked-same on source = refl

-- the names of beats alone
pub beats-alone : {w : ℕ} (t : WideTrace w) → names_of (map (λ x. (x.0, wide.Beat x.1)) t) ≡ t
beats-alone [] = refl
beats-alone {w} (x ∷ t) = ap (λ (more : WideTrace w). x ∷ more) (beats-alone t)
