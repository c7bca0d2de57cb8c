-- Beats that break no L rule at their links: what they say of levels and of the requests in service.
use Rattle.tl_manager.proofs.Imports.{Beat, BeatA, Link, OpD, History, channel_of, unfinished, Config, Level, Perm, L1}
use Rattle.tl_manager.proofs.Imports.{Trace, on_link, a_control, a_own, ends, block_at, capped, held, says_held}
use Rattle.tl_manager.proofs.Imports.{is_grant, illegal, breaks_l1, next_rule, both_none, illegal_a, recorded, has_copy}
use Rattle.tl_manager.proofs.Imports.{Each, IsSound, illegal_at, request_if, request_carried, Service, least_untaken}
use Rattle.tl_manager.proofs.Imports.{trackers_of, with_service, is_ended_by, services_after, services, level_of}
use Rattle.std.proofs.Common.{subst, ◌≡◌, ℕ, ◌==◌, Bool, true, false, not, ◌&&◌, List, [], ◌∷◌, Option, Some, None}
use Rattle.std.proofs.Common.{refl, sym, ap, ◌∙◌}
use Rattle.std.specs.Prelude.{nat_le, option_map, if◌then◌else◌, unwrap_or}
use Rattle.std.proofs.lemmas.Bool.{eqb-true}
use Rattle.tl_beat.specs.declared.beat.Beat.TheVariants.{A, B, C, D, E}
use Rattle.tl_rules.specs.statement.Legality.{has_transfers, d_of_level}
use Rattle.tl_manager.proofs.words_of_clients.Lists.{each_filter, each_weaker}

-- where a beat breaks no L rule there is a level
pub leveled : {w : ℕ} (o : Option Level) (x : Beat w) → illegal_at o x ≡ None → (l : Level) × (o ≡ Some l)
    × (illegal l (channel_of x) x ≡ None)
leveled None x e = absurd cc
leveled (Some l) x e = (l, refl, e)

-- ---- requests in service

-- a request that breaks no L rule by its control fields at its link, and is of a block of the map
pub record IsServable {w : ℕ} (config : Config) (s : Service w) : Type 0 where
  pub level : Level
  pub has_level : level_of config s.link.0 ≡ Some level
  pub control : a_control w level s.request.opcode s.request.param s.request.size s.request.address ≡ None
  pub inside : nat_le config.blocks (block_at s.request.address) ≡ false

pub servable_new : {w : ℕ} (config : Config) (link : Link) (x : BeatA w) (beats : List (Beat w)) (tracker : ℕ)
    (ss : List (Service w)) (fits : Bool) (e : nat_le x.size 6 ≡ fits)
    → IsSound config (link, A x) → Each (IsServable config) ss
    → Each (IsServable config)
    (with_service (option_map (λ m. record { tracker = tracker; link = link; request = m })
    (request_if x beats fits e)) ss)
servable_new config link x beats tracker ss false e sound each = each
servable_new {w} config link x beats tracker ss true e sound each =
    let l = leveled (level_of config link.0) (A x) sound.lawful in (
      record {
        level = l.0;
        has_level = l.1;
        control = (both_none (a_control w l.0 x.opcode x.param x.size x.address)
            (a_own w x.opcode x.size x.address x.mask x.corrupt) (sym (illegal_a l.0 x) ∙ l.2)).0;
        inside = sound.inside;
      },
      each,
    )

pub servable_served : {w : ℕ} (config : Config) (link : Link) (x : Beat w) (burst : List (Beat w))
    (ss : List (Service w)) → IsSound config (link, x) → Each (IsServable config) ss
    → Each (IsServable config) (services_after (link, x) burst ss)
unfolding request_carried
servable_served config link (A x) burst ss sound each =
    servable_new config link x (A x ∷ burst) (least_untaken (trackers_of ss)) ss (nat_le x.size 6) refl sound each
servable_served config link (B x) burst ss sound each =
    each_filter (IsServable config) (λ s. not (is_ended_by (link, B x) s)) ss each
servable_served config link (C x) burst ss sound each =
    each_filter (IsServable config) (λ s. not (is_ended_by (link, C x) s)) ss each
servable_served config link (D x) burst ss sound each =
    each_filter (IsServable config) (λ s. not (is_ended_by (link, D x) s)) ss each
servable_served config link (E x) burst ss sound each =
    each_filter (IsServable config) (λ s. not (is_ended_by (link, E x) s)) ss each

pub servable : {w : ℕ} (config : Config) (t : Trace w) → Each (IsSound config) t → Each (IsServable config) (services t)
unfolding services
servable config [] each = tt
servable config (x ∷ t) each = go (ends x.1 (on_link x.0.0 t)) (servable config t each.1)
  where
    go : (b : Bool) → Each (IsServable config) (services t)
        → Each (IsServable config) (if b then services_after x (unfinished (channel_of x.1) (on_link x.0.0 t))
        (services t) else services t)
    go true rest = servable_served config x.0 x.1 (unfinished (channel_of x.1) (on_link x.0.0 t)) (services t) each.0
        rest
    go false rest = rest

-- ---- who holds a block has a link of the level C

-- the beats of a link
pub sound_on_link : {w : ℕ} (config : Config) (client : ℕ) (t : Trace w) → Each (IsSound config) t
    → Each (λ x. IsSound config (record { 0 = client }, x)) (on_link client t)
unfolding on_link
sound_on_link config client [] each = tt
sound_on_link {w} config client (x ∷ t) each = go (x.0.0 == client) refl (sound_on_link config client t each.1)
  where
    go : (b : Bool) → (x.0.0 == client) ≡ b → Each (λ y. IsSound config (record { 0 = client }, y)) (on_link client t)
        → Each (λ y. IsSound config (record { 0 = client }, y)) (if b then x.1 ∷ on_link client t else on_link client t)
    go true e rest = (subst (λ (n : ℕ). IsSound config (record { 0 = n }, x.1)) (eqb-true x.0.0 client e) each.0, rest)
    go false e rest = rest

pub transfers_level : (l : Level) → not (has_transfers l) ≡ false → l ≡ Level.C
transfers_level Level.C e = refl
transfers_level v e = absurd cc

grant_level : (l : Level) (opcode : OpD) → is_grant opcode ≡ true → not (d_of_level l opcode) ≡ false → l ≡ Level.C
grant_level Level.UL OpD.Grant e f = absurd cc
grant_level Level.UL OpD.GrantData e f = absurd cc
grant_level Level.UH OpD.Grant e f = absurd cc
grant_level Level.UH OpD.GrantData e f = absurd cc
grant_level Level.C opcode e f = refl
grant_level l OpD.AccessAck e f = absurd cc
grant_level l OpD.AccessAckData e f = absurd cc
grant_level l OpD.HintAck e f = absurd cc
grant_level l OpD.ReleaseAck e f = absurd cc

-- the level of a beat that breaks no L rule has its opcode
pub past_l1 : {w : ℕ} (l : Level) (x : Beat w) → illegal l (channel_of x) x ≡ None
    → breaks_l1 l (channel_of x) x ≡ false
unfolding illegal
past_l1 l x e = (next_rule (breaks_l1 l (channel_of x) x) L1 _ e).0

says_level : {w : ℕ} (o : Option Level) (k : ℕ) (x : Beat w) (t : History w) (p : Perm) → illegal_at o x ≡ None
    → says_held k x t ≡ Some p → o ≡ Some Level.C
says_level o k (A x) t p e says = absurd cc
says_level o k (B x) t p e says = absurd cc
says_level o k (C x) t p e says =
    let l = leveled o (C x) e in
    l.1 ∙ ap Some (transfers_level l.0 (past_l1 l.0 (C x) l.2))
says_level o k (D x) t p e says =
    let l = leveled o (D x) e in
    l.1 ∙ ap Some (grant_level l.0 x.opcode (is_grant-from (is_grant x.opcode) _ says) (past_l1 l.0 (D x) l.2))
  where
    is_grant-from : (b c : Bool) → (if b && c then Some (capped x.param) else None) ≡ Some p → b ≡ true
    is_grant-from true c f = refl
    is_grant-from false c f = absurd cc
says_level o k (E x) t p e says = absurd cc

-- a client that holds anything has a link of the level C
pub copy_level : {w : ℕ} (o : Option Level) (k : ℕ) (t : History w) → Each (λ x. illegal_at o x ≡ None) t
    → has_copy (held k t) ≡ true → o ≡ Some Level.C
unfolding held
copy_level o k [] each copy = absurd cc
copy_level o k (x ∷ t) each copy = go (ends x t) (says_held k x t) (copy_level o k t each.1) refl copy
  where
    go : (b : Bool) (said : Option Perm) → (has_copy (held k t) ≡ true → o ≡ Some Level.C) → says_held k x t ≡ said
        → has_copy (if b then unwrap_or said (held k t) else held k t) ≡ true
        → o ≡ Some Level.C
    go true (Some p) before e f = says_level o k x t p each.0 e
    go v u before e f = before f

pub holder_level : {w : ℕ} (config : Config) (client block : ℕ) (t : Trace w) → Each (IsSound config) t
    → has_copy (recorded client block t) ≡ true → level_of config client ≡ Some Level.C
holder_level config client block t each copy =
    copy_level (level_of config client) block (on_link client t)
    (each_weaker (λ x. IsSound config (record { 0 = client }, x)) (λ x. illegal_at (level_of config client) x ≡ None)
    (on_link client t) (λ x ok. ok.lawful) (sound_on_link config client t each)) copy
