-- What the links of a trace say after messages were handed out.
use Rattle.tl_manager.proofs.Imports.{IsWidth, Beat, Link, Message, A, B, C, D, E, beats_of, beat_of, burst_of, History}
use Rattle.tl_manager.proofs.Imports.{unfinished, beats-positive, Config, Perm, sent, Trace, on_link, ends, block_at}
use Rattle.tl_manager.proofs.Imports.{is_probe_ack, is_release, says_held, held, request_of, Handed, with_handed}
use Rattle.tl_manager.proofs.Imports.{recorded, Each, granted_by, is_from_client, unfinished-sent_other, IsWhole}
use Rattle.std.proofs.Common.{◌≡◌, ℕ, ◌==◌, Bool, true, false, ◌&&◌, ◌||◌, List, [], ◌∷◌, ◌++◌, map, Some, None, refl}
use Rattle.std.proofs.Common.{ap, ◌∙◌}
use Rattle.std.specs.Prelude.{if◌then◌else◌, unwrap_or}
use Rattle.tl_beat.specs.declared.channel.Channel.{Channel}
use Rattle.tl_rules.specs.statement.History.{reported}
use Rattle.tl_manager.specs.laws.Record.{reported_by, granted_by_all}
use Rattle.tl_manager.proofs.messages.Lawful.{IsHandable}
use Rattle.tl_rules.proofs.Sent.{unfinished-sent, held_unsaid, held-sent_unsaid, held-sent_d, request_of-other}

-- ---- one link of a trace

-- the trace after one message was handed out on a link
abbrev pub after_sent : {w : ℕ} → Link → Message w → Trace w → Trace w
after_sent link m t = map (λ b. (link, b)) (burst_of m) ++ t

-- the part that a link has of beats before a trace
pub beats_on_link : {w : ℕ} (client : ℕ) (link : Link) (beats : List (Beat w)) (t : Trace w)
    → on_link client (map (λ b. (link, b)) beats ++ t) ≡ (if link.0 == client then beats ++ on_link client t else
    on_link client t)
unfolding on_link
beats_on_link client link [] t = go (link.0 == client)
  where
    go : (b : Bool) → on_link client t ≡ (if b then on_link client t else on_link client t)
    go true = refl
    go false = refl
beats_on_link client link (x ∷ beats) t = go (link.0 == client) (beats_on_link client link beats t)
  where
    go : (b : Bool) → on_link client (map (λ b. (link, b)) beats ++ t) ≡ (if b then beats ++ on_link client t else
        on_link client t)
        → (if b then x ∷ on_link client (map (λ b. (link, b)) beats ++ t) else on_link client
        (map (λ b. (link, b)) beats ++ t)) ≡ (if b then x ∷ (beats ++ on_link client t) else on_link client t)
    go true e = ap (λ xs. x ∷ xs) e
    go false e = e

-- a link's part after a message was handed out on it, or on another link
pub own_link : {w : ℕ} (client : ℕ) (link : Link) (m : Message w) (t : Trace w) → (link.0 == client) ≡ true
    → on_link client (after_sent link m t) ≡ sent m (on_link client t)
own_link client link m t e = beats_on_link client link (burst_of m) t ∙ rw e refl

pub other_link : {w : ℕ} (client : ℕ) (link : Link) (m : Message w) (t : Trace w) → (link.0 == client) ≡ false
    → on_link client (after_sent link m t) ≡ on_link client t
other_link client link m t e = beats_on_link client link (burst_of m) t ∙ rw e refl

-- ---- nothing handed out is unfinished

whole-sent : {w : ℕ} (m : Message w) (t : History w) → IsWidth w → is_from_client (beat_of m 0) ≡ false → IsWhole t
    → IsWhole (sent m t)
whole-sent (B m) t width ours ok =
    (unfinished-sent (B m) t ok.0 (beats-positive (B m) width), unfinished-sent_other Channel.D (B m) t refl ∙ ok.1)
whole-sent (D m) t width ours ok =
    (unfinished-sent_other Channel.B (D m) t refl ∙ ok.0, unfinished-sent (D m) t ok.1 (beats-positive (D m) width))
whole-sent v t width ours ok = absurd cc

pub whole-after_sent : {w : ℕ} (client : ℕ) (link : Link) (m : Message w) (t : Trace w) → IsWidth w
    → is_from_client (beat_of m 0) ≡ false → IsWhole (on_link client t)
    → IsWhole (on_link client (after_sent link m t))
whole-after_sent {w} client link m t width ours ok = go (link.0 == client) refl
  where
    go : (b : Bool) → (link.0 == client) ≡ b → IsWhole (on_link client (after_sent link m t))
    go true e = rw (own_link client link m t e) (whole-sent m (on_link client t) width ours ok)
    go false e = rw (other_link client link m t e) ok

pub whole-handed : {w : ℕ} (config : Config) (client : ℕ) (handed : Handed w) (t : Trace w) → IsWidth w
    → Each (IsHandable config) handed → IsWhole (on_link client t)
    → IsWhole (on_link client (with_handed handed t))
unfolding with_handed
whole-handed config client [] t width each ok = ok
whole-handed config client (x ∷ handed) t width each ok =
    whole-handed config client handed (after_sent x.0 x.1 t) width each.1
    (whole-after_sent client x.0 x.1 t width each.0.ours ok)

whole-more : {w : ℕ} (x : Beat w) (t : History w) → is_from_client x ≡ true → IsWhole t → IsWhole (x ∷ t)
unfolding unfinished
whole-more (Beat.B x) t theirs ok = absurd cc
whole-more (Beat.D x) t theirs ok = absurd cc
whole-more v t theirs ok = ok

-- a client's beat is none of those messages
pub whole-taken : {w : ℕ} (client : ℕ) (link : Link) (x : Beat w) (t : Trace w) → is_from_client x ≡ true
    → IsWhole (on_link client t) → IsWhole (on_link client ((link, x) ∷ t))
unfolding on_link
whole-taken client link x t theirs ok = go (link.0 == client)
  where
    go : (b : Bool) → IsWhole (if b then x ∷ on_link client t else on_link client t)
    go true = whole-more x (on_link client t) theirs ok
    go false = ok

-- ---- what is recorded

by_cases : (last about : Bool) (p q : Perm) → (if last then unwrap_or (if about then Some p else None) q else q)
    ≡ unwrap_or (if last && about then Some p else None) q
by_cases true about p q = refl
by_cases false about p q = refl

unsaid : {w : ℕ} (client : ℕ) (link : Link) (block : ℕ) (x : Beat w) (t : Trace w)
    → ((h : History w) → says_held block x h ≡ None) → recorded client block ((link, x) ∷ t) ≡ recorded client block t
unfolding on_link
unsaid client link block x t none = go (link.0 == client)
  where
    go : (b : Bool) → held block (if b then x ∷ on_link client t else on_link client t) ≡ held block (on_link client t)
    go true = held_unsaid block x (on_link client t) (none (on_link client t))
    go false = refl

-- what is recorded after a client's beat
pub recorded-taken : {w : ℕ} (client : ℕ) (link : Link) (block : ℕ) (x : Beat w) (t : Trace w) → is_from_client x ≡ true
    → recorded client block ((link, x) ∷ t) ≡ unwrap_or (reported_by (link, x) t client block) (recorded client block t)
unfolding on_link held
recorded-taken client link block (Beat.A x) t theirs = unsaid client link block (Beat.A x) t (λ h. refl)
recorded-taken client link block (Beat.B x) t theirs = absurd cc
recorded-taken client link block (Beat.C x) t theirs = go (link.0 == client)
  where
    go : (b : Bool) → held block (if b then Beat.C x ∷ on_link client t else on_link client t)
        ≡ unwrap_or (if b && (ends (Beat.C x)
        (on_link client t) && ((is_probe_ack x.opcode || is_release x.opcode) && (block_at x.address == block)))
        then Some
        (reported x.param) else None) (held block (on_link client t))
    go true = by_cases (ends (Beat.C x) (on_link client t))
        ((is_probe_ack x.opcode || is_release x.opcode) && (block_at x.address == block)) (reported x.param)
        (held block (on_link client t))
    go false = refl
recorded-taken client link block (Beat.D x) t theirs = absurd cc
recorded-taken client link block (Beat.E x) t theirs = unsaid client link block (Beat.E x) t (λ h. refl)

held-sent : {w : ℕ} (block : ℕ) (m : Message w) (link : Link) (client : ℕ) (t : Trace w) → IsWidth w
    → is_from_client (beat_of m 0) ≡ false → IsWhole (on_link client t) → (link.0 == client) ≡ true
    → held block (sent m (on_link client t)) ≡ unwrap_or (granted_by (link, m) t client block)
    (held block (on_link client t))
held-sent block (B m) link client t width ours ok e = held-sent_unsaid block (B m) (on_link client t) (λ i u. refl)
held-sent block (D m) link client t width ours ok e =
    held-sent_d block m (on_link client t) ok.1 (beats-positive (D m) width) ∙ rw e refl
held-sent block v link client t width ours ok e = absurd cc

granted_elsewhere : {w : ℕ} (block : ℕ) (m : Message w) (link : Link) (client : ℕ) (t : Trace w)
    → (link.0 == client) ≡ false → granted_by (link, m) t client block ≡ None
granted_elsewhere block (D m) link client t e = rw e refl
granted_elsewhere block v link client t e = refl

pub recorded-sent : {w : ℕ} (client block : ℕ) (link : Link) (m : Message w) (t : Trace w) → IsWidth w
    → is_from_client (beat_of m 0) ≡ false → IsWhole (on_link client t)
    → recorded client block (after_sent link m t) ≡ unwrap_or (granted_by (link, m) t client block)
    (recorded client block t)
recorded-sent {w} client block link m t width ours ok = go (link.0 == client) refl
  where
    go : (b : Bool) → (link.0 == client) ≡ b → recorded client block (after_sent link m t) ≡ unwrap_or
        (granted_by (link, m) t client block) (recorded client block t)
    go true e = ap (held block) (own_link client link m t e) ∙ held-sent block m link client t width ours ok e
    go false e = ap (held block) (other_link client link m t e) ∙ rw (granted_elsewhere block m link client t e) refl

request_of-ours : {w : ℕ} (s : ℕ) (m : Message w) (t : History w) → is_from_client (beat_of m 0) ≡ false
    → request_of s (sent m t) ≡ request_of s t
request_of-ours s (B m) t ours = request_of-other s (B m) t (beats_of (B m)) refl
request_of-ours s (D m) t ours = request_of-other s (D m) t (beats_of (D m)) refl
request_of-ours s v t ours = absurd cc

-- what is handed out is no request
pub request_of-sent : {w : ℕ} (s client : ℕ) (link : Link) (m : Message w) (t : Trace w)
    → is_from_client (beat_of m 0) ≡ false
    → request_of s (on_link client (after_sent link m t)) ≡ request_of s (on_link client t)
request_of-sent {w} s client link m t ours = go (link.0 == client) refl
  where
    go : (b : Bool) → (link.0 == client) ≡ b → request_of s (on_link client (after_sent link m t)) ≡ request_of s
        (on_link client t)
    go true e = ap (request_of s) (own_link client link m t e) ∙ request_of-ours s m (on_link client t) ours
    go false e = ap (request_of s) (other_link client link m t e)

granted_by-sent : {w : ℕ} (x : Link × Message w) (link : Link) (m : Message w) (t : Trace w) (client block : ℕ)
    → is_from_client (beat_of m 0) ≡ false
    → granted_by x (after_sent link m t) client block ≡ granted_by x t client block
granted_by-sent (to, A y) link m t client block ours = refl
granted_by-sent (to, B y) link m t client block ours = refl
granted_by-sent (to, C y) link m t client block ours = refl
granted_by-sent (to, D y) link m t client block ours = rw (request_of-sent y.source client link m t ours) refl
granted_by-sent (to, E y) link m t client block ours = refl

granted_by_all-sent : {w : ℕ} (handed : Handed w) (link : Link) (m : Message w) (t : Trace w) (client block : ℕ)
    (p : Perm) → is_from_client (beat_of m 0) ≡ false
    → granted_by_all handed (after_sent link m t) client block p ≡ granted_by_all handed t client block p
granted_by_all-sent [] link m t client block p ours = refl
granted_by_all-sent (x ∷ handed) link m t client block p ours =
    granted_by_all-sent handed link m t client block _ ours ∙ ap
    (λ said. granted_by_all handed t client block (unwrap_or said p)) (granted_by-sent x link m t client block ours)

-- what is recorded after messages were handed out
pub recorded-handed : {w : ℕ} (config : Config) (client block : ℕ) (handed : Handed w) (t : Trace w) → IsWidth w
    → Each (IsHandable config) handed → IsWhole (on_link client t)
    → recorded client block (with_handed handed t) ≡ granted_by_all handed t client block (recorded client block t)
unfolding with_handed
recorded-handed config client block [] t width each ok = refl
recorded-handed config client block (x ∷ handed) t width each ok =
    recorded-handed config client block handed (after_sent x.0 x.1 t) width each.1
    (whole-after_sent client x.0 x.1 t width each.0.ours ok)
    ∙ granted_by_all-sent handed x.0 x.1 t client block (recorded client block (after_sent x.0 x.1 t)) each.0.ours
    ∙ ap (granted_by_all handed t client block) (recorded-sent client block x.0 x.1 t width each.0.ours ok)
