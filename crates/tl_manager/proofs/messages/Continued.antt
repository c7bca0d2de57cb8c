-- The beats of an unfinished request have its control fields.
use Rattle.tl_manager.proofs.Imports.{Beat, BeatA, Link, Channel, first_if, Message, A, B, C, D, E, beat_of, History}
use Rattle.tl_manager.proofs.Imports.{on, unfinished, breaks_burst, same_control, burst_length, is_empty, Config}
use Rattle.tl_manager.proofs.Imports.{Profile, S1, sent, Trace, on_link, broken_in_order, broken_order, next_rule}
use Rattle.tl_manager.proofs.Imports.{is_of_clients, Handed, with_handed, Each, IsSound, is_from_client}
use Rattle.tl_manager.proofs.Imports.{unfinished-sent_other}
use Rattle.std.proofs.Common.{◌≡◌, ℕ, ◌+◌, ◌==◌, Bool, true, false, not, List, [], ◌∷◌, length, None, refl, sym, ap}
use Rattle.std.proofs.Common.{◌∙◌}
use Rattle.std.{specs.Prelude.if◌then◌else◌, proofs.lemmas.Bool.not-false, proofs.lemmas.Bool.eqb-true}
use Rattle.tl_burst.proofs.ControlFields.{control_a}
use Rattle.tl_manager.{specs.code.Kept.IsLike, specs.code.Kept.AreOfOne, proofs.messages.Lawful.IsHandable}
use Rattle.tl_manager.{proofs.words_of_clients.Lists.each_weaker, proofs.words_of_clients.Masks.each_unfinished}
use Rattle.tl_manager.{proofs.messages.Requests.IsWhole, proofs.messages.Sound.sound_on_link}
use Rattle.tl_manager.proofs.pending.Handed.{after_sent, own_link, other_link}

like_too : {w : ℕ} (x y : BeatA w) (z : Beat w) → IsLike x (Beat.A y) → IsLike y z → IsLike x z
like_too x y (Beat.A z) first like = (like.0 ∙ first.0, like.1 ∙ first.1, like.2 ∙ first.2)
like_too x y v first like = absurd like

continues : {w : ℕ} (p : Profile) (x : BeatA w) (t : History w) (burst : List (Beat w)) → AreOfOne burst
    → (if is_empty burst then broken_order p (Beat.A x) t else first_if (breaks_burst (Beat.A x) burst) S1 None) ≡ None
    → Each (IsLike x) burst
continues p x t [] ok e = tt
continues p x t (Beat.A y ∷ burst) ok e =
    let same = not-false (same_control (Beat.A x) (Beat.A y)) (next_rule (not (same_control (Beat.A x) (Beat.A y))) S1
    None e).0 in
    let fields = control_a x y (rw same refl) in
    let first : IsLike x (Beat.A y) = (sym fields.0, sym fields.2, sym fields.4) in
    (first, each_weaker (IsLike y) (IsLike x) burst (λ z like. like_too x y z first like) ok)
continues p x t v ok e = absurd ok

-- a beat that breaks neither S1 nor the order of messages continues the request that is unfinished
pub continued : {w : ℕ} (p : Profile) (x : BeatA w) (t : History w) → AreOfOne (unfinished Channel.A t)
    → broken_in_order p (Beat.A x) t ≡ None → Each (IsLike x) (unfinished Channel.A t)
continued p x t ok e = continues p x t (unfinished Channel.A t) ok e

-- the beats of a request, up to one that is taken
pub whole_request : {w : ℕ} (config : Config) (link : Link) (x : BeatA w) (t : Trace w)
    → IsSound config (link, Beat.A x) → Each (IsSound config) t
    → AreOfOne (unfinished Channel.A (on_link link.0 t)) → broken_in_order config.profile (Beat.A x) (on_link link.0 t)
    ≡ None
    → Each (IsWhole config link x) (Beat.A x ∷ unfinished Channel.A (on_link link.0 t))
whole_request {w} config link x t ok sound bursts order = (
  record { sound = ok; like = (refl, refl, refl) },
  both (unfinished Channel.A (on_link link.0 t)) (each_unfinished (λ y. IsSound config (link, y)) Channel.A
      (on_link link.0 t)
      (sound_on_link config link.0 t sound)) (continued config.profile x (on_link link.0 t) bursts order),
)
  where
    both : (beats : List (Beat w)) → Each (λ y. IsSound config (link, y)) beats → Each (IsLike x) beats
        → Each (IsWhole config link x) beats
    both [] sounds likes = tt
    both (y ∷ beats) sounds likes = (record { sound = sounds.0; like = likes.0 }, both beats sounds.1 likes.1)

-- ---- after a beat, and after messages were handed out

more_of_one : {w : ℕ} (p : Profile) (x : Beat w) (t : History w) → is_from_client x ≡ true
    → broken_in_order p x t ≡ None → AreOfOne (unfinished Channel.A t) → AreOfOne (unfinished Channel.A (x ∷ t))
unfolding unfinished
more_of_one {w} p (Beat.A x) t theirs order ok = go (length (unfinished Channel.A t) + 1 == burst_length (Beat.A x))
  where
    go : (last : Bool) → AreOfOne (if last then [] else Beat.A x ∷ unfinished Channel.A t)
    go true = tt
    go false = continued p x t ok order
more_of_one p (Beat.B x) t theirs order ok = absurd cc
more_of_one p (Beat.C x) t theirs order ok = ok
more_of_one p (Beat.D x) t theirs order ok = absurd cc
more_of_one p (Beat.E x) t theirs order ok = ok

pub of_one-taken : {w : ℕ} (config : Config) (client : ℕ) (link : Link) (x : Beat w) (t : Trace w)
    → is_from_client x ≡ true → broken_in_order config.profile x (on_link link.0 t) ≡ None
    → ((n : ℕ) → AreOfOne (unfinished Channel.A (on_link n t)))
    → AreOfOne (unfinished Channel.A (on_link client ((link, x) ∷ t)))
unfolding on_link
of_one-taken {w} config client link x t theirs order ok = go (link.0 == client) refl
  where
    go : (b : Bool) → (link.0 == client) ≡ b
        → AreOfOne (unfinished Channel.A (if b then x ∷ on_link client t else on_link client t))
    go true e = more_of_one config.profile x (on_link client t) theirs
        (ap (λ n. broken_in_order config.profile x (on_link n t)) (sym (eqb-true link.0 client e)) ∙ order) (ok client)
    go false e = ok client

ours_elsewhere : {w : ℕ} (ch : Channel) (m : Message w) (t : History w) → is_of_clients ch ≡ true
    → is_from_client (beat_of m 0) ≡ false → unfinished ch (sent m t) ≡ unfinished ch t
ours_elsewhere {w} ch m t theirs ours = unfinished-sent_other ch m t (off ch m theirs ours)
  where
    off : (ch : Channel) (m : Message w) → is_of_clients ch ≡ true → is_from_client (beat_of m 0) ≡ false
        → on ch (beat_of m 0) ≡ false
    off Channel.A (B m) theirs ours = refl
    off Channel.C (B m) theirs ours = refl
    off Channel.E (B m) theirs ours = refl
    off Channel.A (D m) theirs ours = refl
    off Channel.C (D m) theirs ours = refl
    off Channel.E (D m) theirs ours = refl
    off v u theirs ours = absurd cc

one_handed : {w : ℕ} (ch : Channel) (client : ℕ) (link : Link) (m : Message w) (t : Trace w) → is_of_clients ch ≡ true
    → is_from_client (beat_of m 0) ≡ false
    → unfinished ch (on_link client (after_sent link m t)) ≡ unfinished ch (on_link client t)
one_handed {w} ch client link m t theirs ours = go (link.0 == client) refl
  where
    go : (b : Bool) → (link.0 == client) ≡ b → unfinished ch (on_link client (after_sent link m t)) ≡ unfinished ch
        (on_link client t)
    go true e = rw (own_link client link m t e) (ours_elsewhere ch m (on_link client t) theirs ours)
    go false e = rw (other_link client link m t e) refl

-- messages that are handed out leave the bursts of clients that are unfinished
pub bursts-handed : {w : ℕ} (config : Config) (ch : Channel) (client : ℕ) (handed : Handed w) (t : Trace w)
    → is_of_clients ch ≡ true → Each (IsHandable config) handed
    → unfinished ch (on_link client (with_handed handed t)) ≡ unfinished ch (on_link client t)
unfolding with_handed
bursts-handed config ch client [] t theirs each = refl
bursts-handed config ch client (x ∷ handed) t theirs each = bursts-handed config ch client handed (after_sent x.0 x.1 t)
    theirs each.1 ∙ one_handed ch client x.0 x.1 t theirs each.0.ours
