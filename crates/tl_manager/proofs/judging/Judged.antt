-- What is known of a beat that the manager takes.
use Rattle.tl_manager.proofs.Imports.{Beat, Link, Channel, first_if, channel_of, Config, Level, Rule, L1, A1, A2}
use Rattle.tl_manager.proofs.Imports.{is_outside, is_spoiled, Trace, on_link, broken_in_order, illegal, breaks_l1}
use Rattle.tl_manager.proofs.Imports.{is_one_of, next_rule, IsTyped, reaction, End, Sent, Judgement, Passes, breaks_or}
use Rattle.tl_manager.proofs.Imports.{is_from_client, must_wait, judged_at, judged, level_of, open_level, taken}
use Rattle.tl_manager.proofs.Imports.{offered_as, offered, IsPassed}
use Rattle.std.proofs.Common.{◌≡◌, ℕ, Bool, true, false, Option, Some, None, refl, ap}
use Rattle.std.specs.Prelude.{if◌then◌else◌}
use Rattle.tl_beat.specs.declared.beat.Beat.TheVariants.{A, B, C, D, E}
use Rattle.tl_manager.specs.statement.Offer.{waits_or, unlawful, before_stall, judged_on}

past_rule : (o : Option Rule) (rest : Judgement) → breaks_or o rest ≡ Passes → (o ≡ None) × (rest ≡ Passes)
past_rule None rest e = (refl, e)
past_rule (Some r) rest e = absurd cc

past_stall : (b : Bool) (rest : Judgement) → waits_or b rest ≡ Passes → (b ≡ false) × (rest ≡ Passes)
past_stall false rest e = (refl, e)
past_stall true rest e = absurd cc

from_client : (b : Bool) (o : Option Rule) → (if b then o else Some L1) ≡ None → (b ≡ true) × (o ≡ None)
from_client true o e = (refl, e)
from_client false o e = absurd cc

-- the channel is the beat's own
own_channel : {w : ℕ} (l : Level) (ch : Channel) (x : Beat w) → breaks_l1 l ch x ≡ false → ch ≡ channel_of x
own_channel l Channel.A (A x) e = refl
own_channel l Channel.B (B x) e = refl
own_channel l Channel.C (C x) e = refl
own_channel l Channel.D (D x) e = refl
own_channel l Channel.E (E x) e = refl
own_channel l ch x e = absurd cc

legal_at_own : {w : ℕ} (l : Level) (ch : Channel) (x : Beat w) → illegal l ch x ≡ None
    → illegal l (channel_of x) x ≡ None
unfolding illegal
legal_at_own l ch x e = rw (← own_channel l ch x (next_rule (breaks_l1 l ch x) L1 _ e).0) e

passed_at : {w : ℕ} (config : Config) (l : Level) (link : Link) (ch : Channel) (x : Beat w) (t : Trace w) → IsTyped x
    → level_of config link.0 ≡ Some l
    → judged_at config l link ch x t ≡ Passes → IsPassed config link x t
unfolding judged_at
passed_at config l link ch x t typed has_level e =
    let lawful = past_rule (unlawful l ch x) _ e in
    let theirs = from_client (is_from_client x) (illegal l ch x) lawful.0 in
    let early = past_rule (before_stall (broken_in_order config.profile x (on_link link.0 t))) _ lawful.1 in
    let stall = past_stall (must_wait config link x t) _ early.1 in
    let order = past_rule (broken_in_order config.profile x (on_link link.0 t)) _ stall.1 in
    let mapped = past_rule (first_if (is_outside config.blocks x) A1 (first_if (is_spoiled x) A2 None)) _ order.1 in
    let inside = next_rule (is_outside config.blocks x) A1 (first_if (is_spoiled x) A2 None) mapped.0 in
    let clean = next_rule (is_spoiled x) A2 None inside.1 in
    record {
      theirs = theirs.0;
      sound = record {
        lawful = rw has_level (legal_at_own l ch x theirs.1);
        inside = inside.0;
        clean = clean.0;
        typed =
            typed;
      };
      order = order.0;
      waits = stall.0;
    }

there_is : (closed : Bool) (o : Option Level) (l : Level) → (if closed then None else o) ≡ Some l → o ≡ Some l
there_is true o l e = absurd cc
there_is false o l e = e

pub passed : {w : ℕ} (config : Config) (link : Link) (ch : Channel) (x : Beat w) (e : End w) → IsTyped x
    → judged config link ch x e ≡ Passes → IsPassed config link x e.trace
passed config link ch x e typed passes = go (open_level config link e) refl passes
  where
    go : (o : Option Level) → open_level config link e ≡ o → judged_on config o link ch x e.trace ≡ Passes
        → IsPassed config link x e.trace
    go None is f = absurd cc
    go (Some l) is f = passed_at config l link ch x e.trace typed
        (there_is (is_one_of link.0 e.closed) (level_of config link.0) l is) f

-- ---- the other way: a beat that breaks no rule, and needn't wait, is taken

passes_at : {w : ℕ} (config : Config) (l : Level) (link : Link) (ch : Channel) (x : Beat w) (e : End w)
    → unlawful l ch x ≡ None
    → broken_in_order config.profile x (on_link link.0 e.trace) ≡ None → must_wait config link x e.trace ≡ false
    → is_outside config.blocks x ≡ false → is_spoiled x ≡ false → judged_at config l link ch x e.trace ≡ Passes
unfolding judged_at
passes_at config l link ch x e lawful order free inside clean = rw (lawful, order, free, inside, clean) refl

pub judged-passes : {w : ℕ} (config : Config) (l : Level) (link : Link) (ch : Channel) (x : Beat w) (e : End w)
    → open_level config link e ≡ Some l → unlawful l ch x ≡ None
    → broken_in_order config.profile x (on_link link.0 e.trace) ≡ None
    → must_wait config link x e.trace ≡ false → is_outside config.blocks x ≡ false → is_spoiled x ≡ false
    → judged config link ch x e ≡ Passes
judged-passes config l link ch x e live lawful order free inside clean =
    rw live (passes_at config l link ch x e lawful order free inside clean)

pub manager-takes : {w : ℕ} (config : Config) (l : Level) (link : Link) (ch : Channel) (x : Beat w) (e : End w)
    → open_level config link e ≡ Some l → unlawful l ch x ≡ None
    → broken_in_order config.profile x (on_link link.0 e.trace) ≡ None
    → must_wait config link x e.trace ≡ false → is_outside config.blocks x ≡ false → is_spoiled x ≡ false
    → offered config link ch x e ≡ (Sent (reaction config link x e).handed, taken link x (reaction config link x e) e)
unfolding offered
manager-takes config l link ch x e live lawful order free inside clean =
    ap (λ j. offered_as j config link x e) (judged-passes config l link ch x e live lawful order free inside clean)
