-- Which beats are stalled.
use Rattle.tl_manager.proofs.Imports.{Beat, Link, Channel, first_if, Config, Level, Rule, A1, A2, is_outside}
use Rattle.tl_manager.proofs.Imports.{is_spoiled, Trace, on_link, broken_in_order, End, Judgement, Breaks, Waits}
use Rattle.tl_manager.proofs.Imports.{Passes, breaks_or, must_wait, judged_at, judged, open_level, offered_as, offered}
use Rattle.std.proofs.Common.{◌≡◌, ℕ, false, Option, Some, None, refl}
use Rattle.tl_manager.specs.code.Kept.{is_stalled}
use Rattle.tl_manager.specs.statement.Offer.{unlawful, before_stall, judged_on, is_waiting, stalls}

stalled_as : {w : ℕ} (j : Judgement) (config : Config) (link : Link) (x : Beat w) (e : End w)
    → is_waiting j ≡ is_stalled (offered_as j config link x e).0
stalled_as (Breaks r) config link x e = refl
stalled_as v config link x e = refl

pub stalls-answered : {w : ℕ} (config : Config) (link : Link) (ch : Channel) (x : Beat w) (e : End w)
    → stalls config link ch x e ≡ is_stalled (offered config link ch x e).0
unfolding stalls offered
stalls-answered config link ch x e = stalled_as (judged config link ch x e) config link x e

goes_on : (o : Option Rule) (rest : Judgement) → is_waiting rest ≡ false → is_waiting (breaks_or o rest) ≡ false
goes_on None rest e = e
goes_on (Some r) rest e = refl

never_at : {w : ℕ} (config : Config) (l : Level) (link : Link) (ch : Channel) (x : Beat w) (t : Trace w)
    → must_wait config link x t ≡ false → is_waiting (judged_at config l link ch x t) ≡ false
unfolding judged_at
never_at config l link ch x t free =
    goes_on (unlawful l ch x) _
    (goes_on (before_stall (broken_in_order config.profile x (on_link link.0 t))) _
    (rw free (goes_on (broken_in_order config.profile x (on_link link.0 t)) _
    (goes_on (first_if (is_outside config.blocks x) A1 (first_if (is_spoiled x) A2 None)) Passes refl))))

-- what needn't wait isn't stalled
pub never-stalled : {w : ℕ} (config : Config) (link : Link) (ch : Channel) (x : Beat w) (e : End w)
    → must_wait config link x e.trace ≡ false → stalls config link ch x e ≡ false
unfolding stalls
never-stalled config link ch x e free = go (open_level config link e)
  where
    go : (o : Option Level) → is_waiting (judged_on config o link ch x e.trace) ≡ false
    go None = refl
    go (Some l) = never_at config l link ch x e.trace free
