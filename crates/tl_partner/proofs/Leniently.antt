-- How beats are answered by what they are.
use Rattle.std.proofs.Common.{◌≡◌, ℕ, true, false, refl}
use Rattle.tl_beat.specs.declared.beat.Beat.{Beat}
use Rattle.tl_beat.specs.declared.beat.Link.{Link}
use Rattle.tl_beat.specs.declared.channel.Channel.{Channel}
use Rattle.tl_params.specs.declared.config.Config.{Config}
use Rattle.tl_manager.specs.statement.End.{End}
use Rattle.tl_manager.specs.statement.Offer.{Refused, Stalled, offered, open_level, refused, stalls}
use Rattle.tl_partner.specs.declared.terms.Terms.{Terms}
use Rattle.tl_partner.specs.statement.Dropping.{after_drop, block_of, is_drop, is_reporting}
use Rattle.tl_partner.specs.statement.Lenient.{misnamed_rule, offered_lenient, offered_plain, received}
use Rattle.tl_partner.specs.statement.Lenient.{stalls_lenient}
use Rattle.tl_partner.specs.statement.Naming.{is_misnamed, plain}

pub stalls-misnamed : {w : ℕ} (terms : Terms) (config : Config) (link : Link) (ch : Channel) (x : Beat w) (e : End w)
    → is_misnamed terms link x ≡ true → false ≡ stalls_lenient terms config link ch x e
unfolding stalls_lenient
stalls-misnamed terms config link ch x e misnamed = rw misnamed refl

pub stalls-dropped : {w : ℕ} (terms : Terms) (config : Config) (link : Link) (ch : Channel) (x : Beat w) (e : End w)
    → is_misnamed terms link x ≡ false → is_drop terms config link ch (plain terms x) e ≡ true
    → is_reporting link e.trace ≡ stalls_lenient terms config link ch x e
unfolding stalls_lenient
stalls-dropped terms config link ch x e named dropped = rw (named, dropped) refl

pub stalls-passed : {w : ℕ} (terms : Terms) (config : Config) (link : Link) (ch : Channel) (x : Beat w) (e : End w)
    → is_misnamed terms link x ≡ false → is_drop terms config link ch (plain terms x) e ≡ false
    → stalls config link ch (plain terms x) e ≡ stalls_lenient terms config link ch x e
unfolding stalls_lenient
stalls-passed terms config link ch x e named kept = rw (named, kept) refl

pub offered-misnamed : {w : ℕ} (terms : Terms) (config : Config) (link : Link) (ch : Channel) (x : Beat w) (e : End w)
    → is_misnamed terms link x ≡ true
    → offered_lenient terms config link ch x e
    ≡ (
      Refused (misnamed_rule (open_level config link e) ch (plain terms x) (is_reporting link e.trace)),
      refused link
          e,
    )
unfolding offered_lenient
offered-misnamed terms config link ch x e misnamed = rw misnamed refl

pub offered-named : {w : ℕ} (terms : Terms) (config : Config) (link : Link) (ch : Channel) (x : Beat w) (e : End w)
    → is_misnamed terms link x ≡ false
    → offered_lenient terms config link ch x e ≡ offered_plain terms config link ch (plain terms x) e
unfolding offered_lenient
offered-named terms config link ch x e named = rw named refl

-- ---- of a beat as the first profile has it

pub plain-kept : {w : ℕ} (terms : Terms) (config : Config) (link : Link) (ch : Channel) (x : Beat w) (e : End w)
    → is_drop terms config link ch x e ≡ false
    → offered_plain terms config link ch x e ≡ received terms (offered config link ch x e)
plain-kept terms config link ch x e kept = rw kept refl

pub plain-waits : {w : ℕ} (terms : Terms) (config : Config) (link : Link) (ch : Channel) (x : Beat w) (e : End w)
    → is_drop terms config link ch x e ≡ true → is_reporting link e.trace ≡ true
    → offered_plain terms config link ch x e ≡ (Stalled, e)
plain-waits terms config link ch x e dropped busy = rw (dropped, busy) refl

pub plain-dropped : {w : ℕ} (terms : Terms) (config : Config) (link : Link) (ch : Channel) (x : Beat w) (e : End w)
    → is_drop terms config link ch x e ≡ true → is_reporting link e.trace ≡ false
    → offered_plain terms config link ch x e
    ≡ received terms (offered config link ch x (after_drop config link (block_of x) e))
plain-dropped terms config link ch x e dropped free = rw (dropped, free) refl
