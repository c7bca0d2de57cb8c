-- The history of each link, and the ProbeAcks that are missing, after any beat that the manager is offered.
use Rattle.tl_manager.proofs.Imports.{IsWidth, Beat, Link, Channel, Message, A, B, C, D, E, beat_of, on, unfinished}
use Rattle.tl_manager.proofs.Imports.{beats-positive, Config, ProbeOf, sent, Trace, on_link, ends, block_at}
use Rattle.tl_manager.proofs.Imports.{is_probe_ack, pending, pending-sent_b, unfinished-sent_other, pending-quiet}
use Rattle.tl_manager.proofs.Imports.{is_of_clients, Handed, with_handed, is_missing, Each, IsTyped, IsKept, reaction}
use Rattle.tl_manager.proofs.Imports.{End, Judgement, Breaks, Waits, Passes, is_from_client, judged, offered_as}
use Rattle.tl_manager.proofs.Imports.{offered, IsWhole}
use Rattle.std.proofs.Common.{◌≡◌, ℕ, ◌==◌, Bool, true, false, ◌&&◌, [], ◌∷◌, refl, ap, ◌∙◌}
use Rattle.std.specs.Prelude.{if◌then◌else◌}
use Rattle.tl_rules.specs.statement.History.{is_probe}
use Rattle.tl_manager.specs.laws.After.{with_sent, history_after, taken_after, is_probe_to, missing_with, is_report_of}
use Rattle.tl_manager.specs.laws.After.{missing_after}
use Rattle.tl_manager.{proofs.calls.Reactions.reaction_handable, proofs.judging.Judged.passed}
use Rattle.tl_manager.{proofs.messages.Lawful.IsHandable, proofs.pending.Replies.reply-quiet}
use Rattle.tl_manager.proofs.pending.Handed.{after_sent, own_link, other_link, whole-after_sent, whole-taken}
use Rattle.tl_manager.proofs.pending.LinkHistories.{beat-keeps, sent-keeps, pending-closed}

-- ---- the history of a link

link-sent : {w : ℕ} (c : ℕ) (link : Link) (m : Message w) (t : Trace w)
    → on_link c (after_sent link m t) ≡ (if link.0 == c then sent m (on_link c t) else on_link c t)
link-sent {w} c link m t = go (link.0 == c) refl
  where
    go : (b : Bool) → (link.0 == c) ≡ b
        → on_link c (after_sent link m t) ≡ (if b then sent m (on_link c t) else on_link c t)
    go true e = own_link c link m t e
    go false e = other_link c link m t e

pub link-handed : {w : ℕ} (c : ℕ) (handed : Handed w) (t : Trace w)
    → on_link c (with_handed handed t) ≡ with_sent c handed (on_link c t)
unfolding with_handed
link-handed c [] t = refl
link-handed c (x ∷ handed) t = link-handed c handed (after_sent x.0 x.1 t) ∙ ap (with_sent c handed)
    (link-sent c x.0 x.1 t)

link-taken : {w : ℕ} (c : ℕ) (link : Link) (x : Beat w) (t : Trace w)
    → on_link c ((link, x) ∷ t) ≡ (if link.0 == c then x ∷ on_link c t else on_link c t)
unfolding on_link
link-taken c link x t = refl

history_as : {w : ℕ} (j : Judgement) (config : Config) (link : Link) (x : Beat w) (e : End w) (c : ℕ)
    → on_link c (offered_as j config link x e).1.trace ≡ history_after (offered_as j config link x e).0 (link, x) c
    (on_link c e.trace)
history_as Passes config link x e c = link-handed c (reaction config link x e).handed ((link, x) ∷ e.trace) ∙ ap
    (with_sent c (reaction config link x e).handed) (link-taken c link x e.trace)
history_as v config link x e c = refl

pub history-offered : {w : ℕ} (config : Config) (link : Link) (ch : Channel) (x : Beat w) (e : End w) (c : ℕ)
    → on_link c (offered config link ch x e).1.trace ≡ history_after (offered config link ch x e).0 (link, x) c
    (on_link c e.trace)
unfolding offered
history-offered config link ch x e c = history_as (judged config link ch x e) config link x e c

-- ---- messages that aren't complete

ours_off : {w : ℕ} (ch : Channel) (m : Message w) → is_of_clients ch ≡ true → is_from_client (beat_of m 0) ≡ false
    → on ch (beat_of m 0) ≡ false
ours_off Channel.B m theirs ours = absurd cc
ours_off Channel.D m theirs ours = absurd cc
ours_off ch (A m) theirs ours = absurd cc
ours_off ch (C m) theirs ours = absurd cc
ours_off ch (E m) theirs ours = absurd cc
ours_off v u theirs ours = refl

unfinished-handed : {w : ℕ} (config : Config) (c : ℕ) (ch : Channel) (handed : Handed w) (t : Trace w)
    → is_of_clients ch ≡ true → Each (IsHandable config) handed
    → unfinished ch (on_link c (with_handed handed t)) ≡ unfinished ch (on_link c t)
unfolding with_handed
unfinished-handed config c ch [] t theirs each = refl
unfinished-handed config c ch (x ∷ handed) t theirs each =
    unfinished-handed config c ch handed (after_sent x.0 x.1 t) theirs each.1
    ∙ sent-keeps (unfinished ch) c x.0 x.1 t
    (λ h e. unfinished-sent_other ch x.1 h (ours_off ch x.1 theirs each.0.ours))

unfinished_as : {w : ℕ} (j : Judgement) (config : Config) (link : Link) (ch : Channel) (x : Beat w) (e : End w) (c : ℕ)
    (on_ch : Channel) → IsWidth w → IsTyped x
    → judged config link ch x e ≡ j → IsKept config e → is_of_clients on_ch ≡ true
    → unfinished on_ch (on_link c (offered_as j config link x e).1.trace) ≡ unfinished on_ch
    (taken_after (offered_as j config link x e).0 (link, x) c (on_link c e.trace))
unfinished_as Passes config link ch x e c on_ch width typed is before theirs =
    let ok = passed config link ch x e typed is in
    unfinished-handed config c on_ch (reaction config link x e).handed ((link, x) ∷ e.trace) theirs
    (reaction_handable config link x e width ok.sound before.sound)
    ∙ ap (unfinished on_ch) (link-taken c link x e.trace)
unfinished_as v config link ch x e c on_ch width typed is before theirs = refl

pub unfinished-offered : {w : ℕ} (config : Config) (link : Link) (ch : Channel) (x : Beat w) (e : End w) (c : ℕ)
    (on_ch : Channel) → IsWidth w → IsTyped x → IsKept config e
    → is_of_clients on_ch ≡ true
    → unfinished on_ch (on_link c (offered config link ch x e).1.trace) ≡ unfinished on_ch
    (taken_after (offered config link ch x e).0 (link, x) c (on_link c e.trace))
unfolding offered
unfinished-offered config link ch x e c on_ch width typed before theirs =
    unfinished_as (judged config link ch x e) config link ch x e c on_ch width typed refl before theirs

-- ---- ProbeAcks

pub missing-sent : {w : ℕ} (c k : ℕ) (link : Link) (m : Message w) (t : Trace w) → IsWidth w
    → is_from_client (beat_of m 0) ≡ false → ((d : ℕ) → IsWhole (on_link d t))
    → is_missing c k (after_sent link m t) ≡ (if is_probe_to c k (link, m) then true else is_missing c k t)
missing-sent c k link (A m) t width ours whole = absurd cc
missing-sent {w} c k link (B m) t width ours whole = ap (pending (ProbeOf k)) (link-sent c link (B m) t) ∙ go
    (link.0 == c)
  where
    go : (b : Bool)
        → pending (ProbeOf k) (if b then sent (B m) (on_link c t) else on_link c t)
        ≡ (if b && (is_probe m.opcode && (block_at m.address == k)) then true else pending (ProbeOf k)
        (on_link c t))
    go true = pending-sent_b (ProbeOf k) m (on_link c t) (whole c).0 (beats-positive (B m) width)
    go false = refl
missing-sent c k link (C m) t width ours whole = absurd cc
missing-sent c k link (D m) t width ours whole = reply-quiet (ProbeOf k) link m t c width (whole link.0).1
    (λ e. (refl, refl))
missing-sent c k link (E m) t width ours whole = absurd cc

pub missing-handed : {w : ℕ} (config : Config) (c k : ℕ) (handed : Handed w) (t : Trace w) → IsWidth w
    → Each (IsHandable config) handed → ((d : ℕ) → IsWhole (on_link d t))
    → is_missing c k (with_handed handed t) ≡ missing_with c k handed (is_missing c k t)
unfolding with_handed
missing-handed config c k [] t width each whole = refl
missing-handed config c k (x ∷ handed) t width each whole =
    missing-handed config c k handed (after_sent x.0 x.1 t) width each.1
    (λ d. whole-after_sent d x.0 x.1 t width each.0.ours (whole d))
    ∙ ap (missing_with c k handed) (missing-sent c k x.0 x.1 t width each.0.ours whole)

pub missing-taken : {w : ℕ} (c k : ℕ) (link : Link) (x : Beat w) (t : Trace w) → is_from_client x ≡ true
    → is_missing c k ((link, x) ∷ t) ≡ (if is_report_of c k (link, x) t then false else is_missing c k t)
missing-taken c k link (Beat.A x) t theirs = beat-keeps (pending (ProbeOf k)) c link (Beat.A x) t
    (λ h. pending-quiet (ProbeOf k) (Beat.A x) h refl refl)
missing-taken c k link (Beat.B x) t theirs = absurd cc
missing-taken {w} c k link (Beat.C x) t theirs = ap (pending (ProbeOf k)) (link-taken c link (Beat.C x) t) ∙ go
    (link.0 == c)
  where
    go : (b : Bool) → pending (ProbeOf k) (if b then Beat.C x ∷ on_link c t else on_link c t)
        ≡ (if b && (ends (Beat.C x) (on_link c t) && (is_probe_ack x.opcode && (block_at x.address == k))) then false
        else pending (ProbeOf k) (on_link c t))
    go true = pending-closed (ProbeOf k) (Beat.C x) (on_link c t) refl
    go false = refl
missing-taken c k link (Beat.D x) t theirs = absurd cc
missing-taken c k link (Beat.E x) t theirs = beat-keeps (pending (ProbeOf k)) c link (Beat.E x) t
    (λ h. pending-quiet (ProbeOf k) (Beat.E x) h refl refl)

missing_as : {w : ℕ} (j : Judgement) (config : Config) (link : Link) (ch : Channel) (x : Beat w) (e : End w) (c k : ℕ)
    → IsWidth w → IsTyped x → judged config link ch x e ≡ j → IsKept config e
    → is_missing c k (offered_as j config link x e).1.trace ≡ missing_after (offered_as j config link x e).0 (link, x)
    e.trace c k
missing_as Passes config link ch x e c k width typed is before =
    let ok = passed config link ch x e typed is in
    missing-handed config c k (reaction config link x e).handed ((link, x) ∷ e.trace) width
    (reaction_handable config link x e width ok.sound before.sound)
    (λ d. whole-taken d link x e.trace ok.theirs (before.whole d))
    ∙ ap (missing_with c k (reaction config link x e).handed) (missing-taken c k link x e.trace ok.theirs)
missing_as v config link ch x e c k width typed is before = refl

pub missing-offered : {w : ℕ} (config : Config) (link : Link) (ch : Channel) (x : Beat w) (e : End w) (c k : ℕ)
    → IsWidth w → IsTyped x → IsKept config e
    → is_missing c k (offered config link ch x e).1.trace ≡ missing_after (offered config link ch x e).0 (link, x)
    e.trace c k
unfolding offered
missing-offered config link ch x e c k width typed before = missing_as (judged config link ch x e) config link ch x e c
    k width typed refl before
