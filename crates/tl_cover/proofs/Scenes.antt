-- What is known of a message when it begins.
use Rattle.std.proofs.Common.{◌≡◌, ℕ, Bool, true, false, refl, ◌+◌, length}
use Rattle.std.specs.Prelude.{if◌then◌else◌, Option, Some, None, is_some}
use Rattle.tl_beat.specs.declared.beat.Beat.{Beat}
use Rattle.tl_cover.specs.code.Covering.{opening_of}
use Rattle.tl_cover.specs.declared.scene.Scene.{Scene}
use Rattle.tl_cover.specs.declared.scene.Standing.{Standing}
use Rattle.tl_cover.specs.statement.Scene.{acquiring, answered, asked_of, block_named, depth}
use Rattle.tl_cover.specs.statement.Scene.{granting, holders, is_between, newest}
use Rattle.tl_cover.specs.statement.Scene.{request_named, scene, standing_of}
use Rattle.tl_monitor.specs.statement.Count.{count_below}
use Rattle.tl_params.specs.declared.key.Key.TheVariants.{AcquireOf, ReleaseOf, GrantSink, GrantAckOf, ProbeOf}
use Rattle.tl_params.specs.declared.liberties.Liberties.{Liberties}
use Rattle.tl_params.specs.declared.perm.Perm.TheVariants as perm
use Rattle.tl_rules.specs.statement.Conformance.{Trace, on_link}
use Rattle.tl_rules.specs.statement.History.{begins, pending}
use Rattle.tl_rules.specs.statement.Liberties.{held_under}

module _ {w : ℕ} (l : Liberties) (n i : ℕ) (t : Trace w) where
  pub standing_is : (block : Option ℕ) (k : ℕ) (s : Standing) → block ≡ Some k → s.held ≡ held_under l k (on_link i t)
      → s.acquire ≡ pending (AcquireOf k) (on_link i t) → s.release ≡ pending (ReleaseOf k) (on_link i t)
      → s.probe ≡ pending (ProbeOf k) (on_link i t) → s.grant_ack ≡ pending (GrantAckOf k) (on_link i t)
      → s.acquiring ≡ acquiring n i k t → s.owners ≡ holders l n i k perm.Trunk t
      → s.readers ≡ holders l n i k perm.Branch t → s ≡ standing_of l n i block t
  standing_is block k s is held acquire release probe grant_ack acquiring owners readers =
      rw (is, ← held, ← acquire, ← release, ← probe, ← grant_ack, ← acquiring, ← owners, ← readers) refl

  pub opening_none : (x : Beat w) → begins x (on_link i t) ≡ false → None ≡ opening_of l n i x t
  opening_none x e = rw e refl

  pub opening_some : (x : Beat w) (s : Scene) → begins x (on_link i t) ≡ true
      → s.line ≡ length t + 1 → s.asked ≡ asked_of i (block_named x (on_link i t)) t
      → s.block ≡ standing_of l n i (block_named x (on_link i t)) t
      → s.waiting ≡ count_below 256 (λ sink. pending (GrantSink sink) (on_link i t))
      → s.depth ≡ depth x (on_link i t)
      → s.request ≡ request_named x (on_link i t) → s.previous ≡ newest (on_link i t)
      → s.answered ≡ answered x (on_link i t) → s.between ≡ is_between (on_link i t) → s.granting ≡ granting n i t
      → Some s ≡ opening_of l n i x t
  opening_some x s e line asked block waiting many request previous answers between grants =
      rw (e, ← line, ← asked, ← block, ← waiting, ← many, ← request, ← previous, ← answers, ← between, ← grants) refl

  -- what is known of it says whether it begins
  pub opening_begins : (x : Beat w) → is_some (opening_of l n i x t) ≡ begins x (on_link i t)
  opening_begins x = go (begins x (on_link i t))
    where
      go : (b : Bool) → is_some (if b then Some (scene l n i x t) else None) ≡ b
      go true = refl
      go false = refl
