-- A beat that goes on with its message breaks no rule of order, and a lawful message in order none.
use Rattle.std.proofs.Common.{◌≡◌, ℕ, zero, suc, ◌<◌, [], ◌++◌, None, refl, ◌∙◌, ap}
use Rattle.tl_burst.specs.declared.message.Message.{Message}
use Rattle.tl_burst.specs.statement.Burst.{beats_of, beat_of, begun}
use Rattle.tl_burst.specs.statement.Messages.{History, channel_of, channel_in, unfinished}
use Rattle.tl_burst.proofs.Splitting.{control_own}
use Rattle.tl_params.specs.declared.level.Level.{Level}
use Rattle.tl_params.specs.declared.profile.Profile.{Profile}
use Rattle.tl_rules.specs.statement.Conformance.{broken_in_order, broken_after}
use Rattle.tl_rules.specs.statement.Legality.{illegal, illegal_message}
use Rattle.tl_rules.proofs.Legal.{legal_beat}
use Rattle.tl_rules.proofs.Sent.{same_channel, unfinished-begun}

pub later-legal : {w : ℕ} (p : Profile) (m : Message w) (i : ℕ) (t : History w)
    → unfinished (channel_in m) t ≡ begun m (suc i) → broken_in_order p (beat_of m (suc i)) t ≡ None
later-legal {w} p m i t rest =
    let burst : unfinished (channel_of (beat_of m (suc i))) t ≡ begun m (suc i) = rw (same_channel m (suc i)) rest in
    rw (burst, control_own m (suc i) i) refl

legal_there : {w : ℕ} (l : Level) (m : Message w) (i : ℕ) → illegal_message l (channel_in m) m ≡ None → i < beats_of m
    → illegal l (channel_of (beat_of m i)) (beat_of m i) ≡ None
legal_there l m i lawful lt = ap (λ ch. illegal l ch (beat_of m i)) (same_channel m i) ∙ legal_beat l (channel_in m) m i
    lawful lt

in_order_at : {w : ℕ} (p : Profile) (m : Message w) (i : ℕ) (t : History w) → broken_in_order p (beat_of m 0) t ≡ None
    → unfinished (channel_in m) t ≡ [] → i < beats_of m
    → broken_in_order p (beat_of m i) (begun m i ++ t) ≡ None
in_order_at p m zero t order none lt = order
in_order_at p m (suc i) t order none lt =
    later-legal p m i (begun m (suc i) ++ t) (unfinished-begun m t (suc i) none lt)

pub message-legal : {w : ℕ} (l : Level) (p : Profile) (m : Message w) (i : ℕ) (t : History w)
    → illegal_message l (channel_in m) m ≡ None → broken_in_order p (beat_of m 0) t ≡ None
    → unfinished (channel_in m) t ≡ [] → i < beats_of m → broken_after l p (beat_of m i) (begun m i ++ t) ≡ None
unfolding broken_after
message-legal l p m i t lawful order none lt = rw (legal_there l m i lawful lt) (in_order_at p m i t order none lt)
