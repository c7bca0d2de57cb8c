-- The Release by which a manager is told what a client dropped.
use Rattle.std.proofs.Common.{◌≡◌, ℕ, Bool, true, false, ◌&&◌, ◌==◌, ◌*◌, ◌/◌, ◌%◌, ◌^◌, [], ◌∷◌, List, Some, None, refl}
use Rattle.std.proofs.Common.{ap, sym, ◌∙◌, arith, inl, inr}
use Rattle.std.specs.Prelude.{nat_le}
use Rattle.std.proofs.lemmas.Bool.{cases_lt, eq-eqb, eqb-true, lt-leb, not-false}
use Rattle.std.specs.Prelude.{if◌then◌else◌, unwrap_or}
use Rattle.tl_beat.specs.declared.beat.Beat.{Beat}
use Rattle.tl_beat.specs.declared.beat.Link.{Link}
use Rattle.tl_beat.specs.declared.channel.Channel.{Channel}
use Rattle.tl_beat.specs.statement.Width.{IsWidth}
use Rattle.tl_burst.specs.statement.Messages.{unfinished}
use Rattle.tl_burst.specs.statement.Part.{is_empty}
use Rattle.tl_params.specs.declared.config.Config.{Config}
use Rattle.tl_params.specs.declared.level.Level.{Level}
use Rattle.tl_params.specs.declared.perm.Perm.{Perm}
use Rattle.tl_params.specs.statement.Param.{prune_code, prune_of}
use Rattle.tl_rules.specs.statement.Conformance.{broken_in_order, on_link, prunes_from}
unfoldable use Rattle.tl_rules.specs.statement.Conformance.{broken_order}
use Rattle.tl_rules.specs.statement.History.{block_at, capped, ends, reported}
unfoldable use Rattle.tl_rules.specs.statement.Legality.{illegal}
use Rattle.tl_manager.proofs.blocks.Outside.{recorded-outside}
use Rattle.tl_manager.proofs.calls.Events.{reaction-release}
use Rattle.tl_manager.proofs.calls.Keeping.{recorded-offered}
use Rattle.tl_manager.proofs.judging.Judged.{manager-takes}
use Rattle.tl_manager.specs.code.Kept.{IsKept}
use Rattle.tl_manager.specs.statement.End.{End}
use Rattle.tl_manager.specs.statement.Handing.{release_ack}
use Rattle.tl_manager.specs.statement.Holders.{has_copy, recorded}
use Rattle.tl_manager.specs.statement.Offer.{Sent, offered, taken, unlawful}
use Rattle.tl_manager.specs.statement.Reaction.{reaction}
use Rattle.tl_partner.specs.statement.Dropping.{after_drop, is_reporting, prune_from, release_beat}
use Rattle.tl_partner.proofs.Drops.{IsDropped}

-- ---- it breaks no rule

block_again : (k : ℕ) → 64 * k / 64 ≡ k
block_again k = omega arith

aligned : (k : ℕ) → (64 * k % 2 ^ 6 == 0) ≡ true
aligned k = eq-eqb (64 * k % 64) 0 (omega arith)

lawful : (w k : ℕ) (p : Perm) → unlawful Level.C Channel.C (release_beat {w = w} k p) ≡ None
unfolding illegal
lawful w k Perm.None = rw (aligned k) refl
lawful w k Perm.Branch = rw (aligned k) refl
lawful w k Perm.Trunk = rw (aligned k) refl

prunes : (p : Perm) → has_copy p ≡ true → prunes_from (prune_of (prune_code (prune_from p))) p ≡ true
prunes Perm.None copy = absurd cc
prunes Perm.Branch copy = refl
prunes Perm.Trunk copy = refl

pub inside : {w : ℕ} (config : Config) (link : Link) (k : ℕ) (e : End w) → IsKept config e
    → has_copy (recorded link.0 k e.trace) ≡ true → nat_le config.blocks k ≡ false
inside config link k e kept copy = elim (cases_lt k config.blocks) [
  | inl lt ↦ lt-leb config.blocks k lt
  | inr past ↦ absurd (let none = rw (recorded-outside config link.0 k e.trace kept.sound past) at copy in cc)
]

pub empty : {w : ℕ} (burst : List (Beat w)) → is_empty burst ≡ true → burst ≡ []
empty [] e = refl
empty (x ∷ burst) e = absurd cc

pub idle : {w : ℕ} (link : Link) (e : End w) → is_reporting link e.trace ≡ false
    → unfinished Channel.C (on_link link.0 e.trace) ≡ []
idle link e free =
    empty (unfinished Channel.C (on_link link.0 e.trace))
    (not-false (is_empty (unfinished Channel.C (on_link link.0 e.trace))) free)

in_order : {w : ℕ} (config : Config) (link : Link) (k : ℕ) (e : End w) → IsKept config e → IsDropped config link k e
    → unfinished Channel.C (on_link link.0 e.trace) ≡ []
    → broken_in_order config.profile (release_beat k (recorded link.0 k e.trace)) (on_link link.0 e.trace) ≡ None
unfolding broken_order
in_order config link k e kept is none =
    let sources = rw none at ((kept.releases link.0).sources 0) in
    let blocks = rw none at ((kept.releases link.0).blocks k) in
    rw (none, block_again k, sources, blocks, is.free, prunes (recorded link.0 k e.trace) is.copy) refl

-- ---- it is taken and answered

pub taken_whole : {w : ℕ} (config : Config) (link : Link) (k : ℕ) (e : End w) → IsKept config e
    → IsDropped config link k e → is_reporting link e.trace ≡ false
    → offered config link Channel.C (release_beat k (recorded link.0 k e.trace)) e
    ≡ (
      Sent (reaction config link (release_beat k (recorded link.0 k e.trace)) e).handed,
      taken link
          (release_beat k (recorded link.0 k e.trace)) (reaction config link (release_beat k (recorded link.0 k e.trace)) e) e,
    )
taken_whole {w} config link k e kept is free =
    manager-takes config Level.C link Channel.C (release_beat k (recorded link.0 k e.trace)) e is.live
    (lawful w k (recorded link.0 k e.trace)) (in_order config link k e kept is (idle link e free)) refl
    (rw (block_again k) (inside config link k e kept is.copy)) refl

ends_whole : {w : ℕ} (link : Link) (k : ℕ) (p : Perm) (e : End w) → is_reporting link e.trace ≡ false
    → ends (release_beat k p) (on_link link.0 e.trace) ≡ true
ends_whole link k p e free = rw (idle link e free) refl

pub reaction-is : {w : ℕ} (config : Config) (link : Link) (k : ℕ) (e : End w) → is_reporting link e.trace ≡ false
    → reaction config link (release_beat k (recorded link.0 k e.trace)) e
    ≡ record { handed = (link, release_ack 0) ∷ []; memory = e.memory }
reaction-is config link k e free =
    reaction-release config link _ e (ends_whole link k (recorded link.0 k e.trace) e free) refl

pub answered : {w : ℕ} (config : Config) (link : Link) (k : ℕ) (e : End w) → IsKept config e → IsDropped config link k e
    → is_reporting link e.trace ≡ false
    → (offered config link Channel.C (release_beat k (recorded link.0 k e.trace)) e).0
    ≡ Sent ((link, release_ack 0) ∷ [])
answered config link k e kept is free = ap (λ r. r.0) (taken_whole config link k e kept is free)
    ∙ ap (λ d. Sent d.handed) (reaction-is config link k e free)

-- memory and the links that are closed stay
pub beside : {w : ℕ} (config : Config) (link : Link) (k : ℕ) (e : End w) → IsKept config e → IsDropped config link k e
    → is_reporting link e.trace ≡ false
    → ((after_drop config link k e).memory ≡ e.memory) × ((after_drop config link k e).closed ≡ e.closed)
beside config link k e kept is free = (
  ap (λ r. r.1.memory) (taken_whole config link k e kept is free)
      ∙ ap (λ d. d.memory) (reaction-is config link k e free),
  ap (λ r. r.1.closed) (taken_whole config link k e kept is free),
)

-- ---- what is recorded then

gone : (p : Perm) → reported (prune_code (prune_from p)) ≡ Perm.None
gone Perm.None = refl
gone Perm.Branch = refl
gone Perm.Trunk = refl

pub recorded-drop : {w : ℕ} (config : Config) (link : Link) (k : ℕ) (e : End w) (client block : ℕ) → IsWidth w
    → IsKept config e → IsDropped config link k e → is_reporting link e.trace ≡ false
    → recorded client block (after_drop config link k e).trace
    ≡ (if (link.0 == client) && (k == block) then Perm.None else recorded client block e.trace)
recorded-drop {w} config link k e client block width kept is free =
    recorded-offered config link Channel.C (release_beat k (recorded link.0 k e.trace)) e client block width tt kept
    ∙ rw (answered config link k e kept is free) (go (link.0 == client) refl)
  where
    x : Beat w
    x = release_beat k (recorded link.0 k e.trace)

    by_cases : (b : Bool) → unwrap_or (if b then Some Perm.None else None) (recorded client block e.trace)
        ≡ (if b then Perm.None else recorded client block e.trace)
    by_cases true = refl
    by_cases false = refl

    go : (b : Bool) → (link.0 == client) ≡ b
        → unwrap_or (if b && false then Some (capped 0) else None)
        (unwrap_or (if b && (ends x (on_link client e.trace) && (block_at (64 * k) == block)) then Some
        (reported (prune_code (prune_from (recorded link.0 k e.trace)))) else None) (recorded client block e.trace))
        ≡ (if b && (k == block) then Perm.None else recorded client block e.trace)
    go false at = refl
    go true at =
        let whole : ends x (on_link client e.trace) ≡ true =
        ap (λ n. ends x (on_link n e.trace)) (sym (eqb-true link.0 client at))
        ∙ ends_whole link k (recorded link.0 k e.trace) e free in
        rw (whole, block_again k, gone (recorded link.0 k e.trace)) (by_cases (k == block))
