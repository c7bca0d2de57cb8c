-- What a monitor says of a link that has a level.
use Rattle.std.proofs.Common.{◌≡◌, ◌<◌, ℕ, Bool, true, false, List, [], ◌∷◌, length, refl, ap, ◌∙◌}
use Rattle.std.specs.Prelude.{if◌then◌else◌}
use Rattle.std.proofs.lemmas.Bool.{lt-ltb}
use Rattle.tl_beat.specs.declared.beat.Beat.{Beat}
use Rattle.tl_beat.specs.declared.beat.Beat.TheVariants as beat
use Rattle.tl_beat.specs.declared.beat.Link.{Link}
use Rattle.tl_burst.specs.statement.Messages.{History, channel_of, grown, on, unfinished}
use Rattle.tl_burst.specs.statement.Part.{completes, is_empty}
use Rattle.tl_monitor.proofs.OnLink.{own_link}
use Rattle.tl_monitor.specs.statement.Knows.{begins_on, held_on_under}
use Rattle.tl_params.specs.declared.level.Level.{Level}
use Rattle.tl_params.specs.declared.liberties.Liberties.{Liberties}
use Rattle.tl_rules.specs.statement.Conformance.{Trace, on_link}
use Rattle.tl_rules.specs.statement.History.{begins, ends}
use Rattle.tl_rules.specs.statement.Liberties.{held_under}

on_itself : {w : ℕ} (x : Beat w) → on (channel_of x) x ≡ true
on_itself (beat.A x) = refl
on_itself (beat.B x) = refl
on_itself (beat.C x) = refl
on_itself (beat.D x) = refl
on_itself (beat.E x) = refl

emptied : {w : ℕ} (x : Beat w) (burst : List (Beat w)) → is_empty (grown x burst) ≡ completes x burst
emptied x burst = go (completes x burst)
  where
    go : (b : Bool) → is_empty (if b then [] else x ∷ burst) ≡ b
    go true = refl
    go false = refl

-- behind a beat one of its channel begins a message where that is complete with it
begins_behind : {w : ℕ} (x : Beat w) (h : History w) → begins x (x ∷ h) ≡ ends x h
unfolding unfinished
begins_behind x h = rw (on_itself x) (emptied x (unfinished (channel_of x) h))

module _ {w : ℕ} (levels : List Level) (link : Link) (within : link.0 < length levels) where
  pub begins_within : (x : Beat w) (t : Trace w) → begins_on levels link x t ≡ begins x (on_link link.0 t)
  begins_within x t = rw (lt-ltb link.0 (length levels) within) refl

  pub held_within : (l : Liberties) (k : ℕ) (t : Trace w) → held_on_under l levels link k t ≡ held_under l k
      (on_link link.0 t)
  held_within l k t = rw (lt-ltb link.0 (length levels) within) refl

  -- a message is complete with a beat where the next of its channel begins one
  pub ends_within : (x : Beat w) (t : Trace w) → begins_on levels link x ((link, x) ∷ t) ≡ ends x (on_link link.0 t)
  ends_within x t =
      begins_within x ((link, x) ∷ t)
      ∙ ap (λ (h : History w). begins x h) (own_link link.0 (link, x) t refl)
      ∙ begins_behind x (on_link link.0 t)
