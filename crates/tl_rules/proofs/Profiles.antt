-- Under the liberties of a profile the rules are those of the profile.
use Rattle.std.proofs.Common.{◌≡◌, ℕ, Bool, true, false, refl, sym, ap, ◌∙◌}
use Rattle.std.specs.Prelude.{[], ◌∷◌, List, if◌then◌else◌, not, ◌||◌, ◌&&◌, unwrap_or, Option, Some, None, is_none}
use Rattle.std.specs.Prelude.{length, slice_get}
use Rattle.tl_beat.specs.declared.channel.Channel.{Channel}
use Rattle.tl_beat.specs.declared.channel.Channel.TheVariants as channel
use Rattle.tl_beat.specs.declared.beat.Beat.{Beat}
use Rattle.tl_beat.specs.declared.beat.BeatC.{BeatC}
use Rattle.tl_beat.specs.declared.beat.BeatD.{BeatD}
use Rattle.tl_beat.specs.declared.beat.BeatA.{BeatA}
use Rattle.tl_beat.specs.declared.beat.Beat.TheVariants.{A, B, C, D, E}
use Rattle.tl_beat.specs.declared.beat.Link.{Link}
use Rattle.tl_beat.specs.declared.opcode.OpC.{OpC}
use Rattle.tl_beat.specs.declared.opcode.OpC.TheVariants as c
use Rattle.tl_beat.specs.declared.opcode.OpD.{OpD}
use Rattle.tl_beat.specs.declared.opcode.OpD.TheVariants as d
use Rattle.tl_burst.specs.statement.Messages.{History, channel_of}
use Rattle.tl_params.specs.declared.level.Level.{Level}
use Rattle.tl_params.specs.declared.profile.Profile.{Profile}
use Rattle.tl_params.specs.declared.profile.Profile.TheVariants as profile
use Rattle.tl_params.specs.declared.rule.Rule.{Rule}
use Rattle.tl_params.specs.declared.liberties.Liberties.{Liberties}
use Rattle.tl_params.specs.statement.Liberties.{liberties_of, no_liberties}
use Rattle.tl_rules.specs.code.Open.{IsOfProfile}
use Rattle.tl_rules.specs.statement.History.{block_at, ends, held, request_of, says_held}
use Rattle.tl_rules.specs.statement.Legality.{c_has_param, illegal, may_be_denied}
use Rattle.tl_rules.specs.statement.Conformance.{Trace, broken_after, broken_given, broken_in_order, broken_on_link}
use Rattle.tl_rules.specs.statement.Conformance.{broken_order, fault_from, first_fault, misgrants, on_link, fault_or}
use Rattle.tl_rules.specs.statement.Conformance.{broken_at_level}
use Rattle.tl_rules.specs.statement.Liberties.{broken_after_under, broken_given_under, broken_in_order_under}
use Rattle.tl_rules.specs.statement.Liberties.{broken_on_link_under, broken_order_under, c_has_param_under, held_under}
use Rattle.tl_rules.specs.statement.Liberties.{fault_from_under, illegal_under, may_be_denied_under, misgrants_under}
use Rattle.tl_rules.specs.statement.Liberties.{broken_at_level_under, profile_under, says_held_under}

-- ---- legality

param-of : (p : Profile) (opcode : OpC) (param : ℕ)
    → c_has_param_under (liberties_of p) opcode param ≡ c_has_param opcode param
param-of p c.AccessAck param = refl
param-of p c.AccessAckData param = refl
param-of p c.HintAck param = refl
param-of p c.ProbeAck param = refl
param-of p c.ProbeAckData param = refl
param-of p c.Release param = refl
param-of p c.ReleaseData param = refl

denied-of : (p : Profile) (opcode : OpD) (corrupt : Bool)
    → may_be_denied_under (liberties_of p) opcode corrupt ≡ may_be_denied opcode corrupt
denied-of p d.AccessAck corrupt = refl
denied-of p d.AccessAckData corrupt = refl
denied-of p d.HintAck corrupt = refl
denied-of p d.Grant corrupt = refl
denied-of p d.GrantData corrupt = refl
denied-of p d.ReleaseAck corrupt = refl

pub illegal-of : {w : ℕ} (p : Profile) (level : Level) (ch : Channel) (x : Beat w)
    → illegal_under (liberties_of p) level ch x ≡ illegal level ch x
unfolding illegal illegal_under
illegal-of p level ch (A x) = refl
illegal-of p level ch (B x) = refl
illegal-of p level ch (C x) = rw (param-of p x.opcode x.param) refl
illegal-of p level ch (D x) = rw (denied-of p x.opcode x.corrupt) refl
illegal-of p level ch (E x) = refl

pub illegal-none : {w : ℕ} (level : Level) (ch : Channel) (x : Beat w)
    → illegal_under no_liberties level ch x ≡ illegal level ch x
illegal-none level ch x = illegal-of profile.One level ch x

-- ---- what is held

says-of : {w : ℕ} (p : Profile) (k : ℕ) (x : Beat w) (t : History w)
    → says_held_under (liberties_of p) k x t ≡ says_held k x t
says-of p k (A x) t = refl
says-of p k (B x) t = refl
says-of p k (C x) t = refl
says-of p k (D x) t = refl
says-of p k (E x) t = refl

pub held-of : {w : ℕ} (p : Profile) (k : ℕ) (t : History w) → held_under (liberties_of p) k t ≡ held k t
unfolding held held_under
held-of p k [] = refl
held-of p k (x ∷ t) = rw (says-of p k x t, held-of p k t) refl

-- ---- the order of messages

pub profile-of : (p : Profile) → profile_under (liberties_of p) ≡ p
profile-of profile.One = refl
profile-of profile.Two = refl

misgrants-of : {w : ℕ} (p : Profile) (x : BeatD w) (r : Option (BeatA w)) (t : History w)
    → misgrants_under (liberties_of p) x r t ≡ misgrants p x r t
misgrants-of p x None t = refl
misgrants-of p x (Some r) t = rw (held-of p (block_at r.address) t, profile-of p) refl

pub order-of : {w : ℕ} (p : Profile) (x : Beat w) (t : History w)
    → broken_order_under (liberties_of p) x t ≡ broken_order p x t
unfolding broken_order broken_order_under
order-of p (A x) t = rw (held-of p (block_at x.address) t) refl
order-of p (B x) t = refl
order-of p (C x) t = rw (held-of p (block_at x.address) t) refl
order-of p (D x) t = rw (misgrants-of p x (request_of x.source t) t) refl
order-of p (E x) t = refl

pub in_order-of : {w : ℕ} (p : Profile) (x : Beat w) (t : History w)
    → broken_in_order_under (liberties_of p) x t ≡ broken_in_order p x t
in_order-of p x t = rw (order-of p x t) refl

-- ---- after a history, and of traces

given-of : {w : ℕ} (p : Profile) (o : Option Rule) (x : Beat w) (t : History w)
    → broken_given_under (liberties_of p) o x t ≡ broken_given p o x t
given-of p None x t = in_order-of p x t
given-of p (Some r) x t = refl

pub after-of : {w : ℕ} (p : Profile) (level : Level) (x : Beat w) (t : History w)
    → broken_after_under (liberties_of p) level x t ≡ broken_after level p x t
unfolding broken_after broken_after_under
after-of p level x t =
    rw (illegal-of p level (channel_of x) x) (given-of p (illegal level (channel_of x) x) x t)

at_level-of : {w : ℕ} (p : Profile) (level : Option Level) (x : Beat w) (t : History w)
    → broken_at_level_under (liberties_of p) level x t ≡ broken_at_level level p x t
at_level-of p None x t = refl
at_level-of p (Some level) x t = after-of p level x t

pub on_link-of : {w : ℕ} (p : Profile) (levels : List Level) (x : Link × Beat w) (t : Trace w)
    → broken_on_link_under (liberties_of p) levels x t ≡ broken_on_link levels p x t
on_link-of p levels x t = at_level-of p (slice_get levels x.0.0) x.1 (on_link x.0.0 t)

pub fault-of : {w : ℕ} (p : Profile) (levels : List Level) (before trace : Trace w)
    → fault_from_under (liberties_of p) levels before trace ≡ fault_from levels p before trace
unfolding fault_from fault_from_under
fault-of p levels before [] = refl
fault-of p levels before (x ∷ trace) =
    rw (on_link-of p levels x before, fault-of p levels (x ∷ before) trace) refl

-- ---- what an end of a link keeps

pub held-same : {w : ℕ} (l : Liberties) (k : ℕ) (t : History w) → IsOfProfile l → held_under l k t ≡ held k t
held-same l k t (p, is) = rw is (held-of p k t)
