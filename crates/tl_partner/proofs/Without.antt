-- Without liberties a partner is the manager.
use Rattle.std.proofs.Common.{◌≡◌, ℕ, false, [], ◌∷◌, refl, ap, ap₂}
use Rattle.tl_beat.specs.declared.beat.Beat.{Beat}
use Rattle.tl_beat.specs.declared.beat.Link.{Link}
use Rattle.tl_beat.specs.declared.channel.Channel.{Channel}
use Rattle.tl_burst.specs.declared.message.Message.{Message}
use Rattle.tl_params.specs.declared.config.Config.{Config}
use Rattle.tl_params.specs.declared.liberties.Liberties.{Liberties}
use Rattle.tl_rules.proofs.Open.{never}
use Rattle.tl_rules.specs.statement.History.{is_acquire}
use Rattle.tl_manager.specs.statement.End.{End}
use Rattle.tl_manager.specs.statement.Handing.{Handed}
use Rattle.tl_manager.specs.statement.Offer.{Reception, Refused, Sent, Stalled, offered, stalls}
use Rattle.tl_partner.specs.declared.terms.Terms.{Terms}
use Rattle.tl_partner.specs.laws.Without.{GrantsNone}
use Rattle.tl_partner.specs.statement.Cleaning.{PartnerEnd, cleaning_on, is_of_cleaning}
use Rattle.tl_partner.specs.statement.Granting.{granted}
use Rattle.tl_partner.specs.statement.Lenient.{answer_named, offered_lenient, stalls_lenient}
use Rattle.tl_partner.specs.statement.Naming.{all_named, is_misnamed, named, plain}
use Rattle.tl_partner.specs.statement.Partner.{asks_for_cleaned, beside, offered_under, stalls_under}

no_cleaning : {w : ℕ} (l : Liberties) (x : Beat w) → l.reports ≡ false → is_of_cleaning l x [] ≡ false
no_cleaning l (Beat.A x) none = refl
no_cleaning l (Beat.B x) none = refl
no_cleaning l (Beat.C x) none = rw none refl
no_cleaning l (Beat.D x) none = refl
no_cleaning l (Beat.E x) none = refl

no_asking : {w : ℕ} (x : Beat w) → asks_for_cleaned x [] ≡ false
no_asking (Beat.A x) = never (is_acquire x.opcode)
no_asking (Beat.B x) = refl
no_asking (Beat.C x) = refl
no_asking (Beat.D x) = refl
no_asking (Beat.E x) = refl

right_name : {w : ℕ} (terms : Terms) (link : Link) (x : Beat w) → terms.ids ≡ false
    → is_misnamed terms link x ≡ false
right_name terms link (Beat.A x) none = refl
right_name terms link (Beat.B x) none = refl
right_name terms link (Beat.C x) none = rw none refl
right_name terms link (Beat.D x) none = refl
right_name terms link (Beat.E x) none = refl

plain_same : {w : ℕ} (terms : Terms) (x : Beat w) → terms.ids ≡ false → plain terms x ≡ x
plain_same terms (Beat.A x) none = refl
plain_same terms (Beat.B x) none = refl
plain_same terms (Beat.C x) none = rw none refl
plain_same terms (Beat.D x) none = refl
plain_same terms (Beat.E x) none = refl

named_same : {w : ℕ} (terms : Terms) (link : Link) (m : Message w) → terms.ids ≡ false
    → named terms link m ≡ m
named_same terms link (Message.A m) none = refl
named_same terms link (Message.B m) none = rw none refl
named_same terms link (Message.C m) none = refl
named_same terms link (Message.D m) none = refl
named_same terms link (Message.E m) none = refl

all_same : {w : ℕ} (terms : Terms) (handed : Handed w) → terms.ids ≡ false → all_named terms handed ≡ handed
all_same terms [] none = refl
all_same terms (x ∷ handed) none =
    ap₂ (λ y ys. y ∷ ys) (ap (λ m. (x.0, m)) (named_same terms x.0 x.1 none)) (all_same terms handed none)

answer_same : {w : ℕ} (terms : Terms) (r : Reception w) → terms.ids ≡ false → answer_named terms r ≡ r
answer_same terms (Refused rule) none = refl
answer_same terms Stalled none = refl
answer_same terms (Sent handed) none = ap (λ sent. Sent sent) (all_same terms handed none)

lenient-none : {w : ℕ} (terms : Terms) (config : Config) (link : Link) (ch : Channel) (x : Beat w) (e : End w)
    → GrantsNone terms → offered_lenient terms config link ch x e ≡ offered config link ch x e
unfolding offered_lenient
lenient-none terms config link ch x e none =
    rw (right_name terms link x none.ids, plain_same terms x none.ids, none.drops)
    (ap (λ r. (r, (offered config link ch x e).1)) (answer_same terms (offered config link ch x e).0 none.ids))

pub offered-none : {w : ℕ} (terms : Terms) (config : Config) (link : Link) (ch : Channel) (x : Beat w)
    (e : PartnerEnd w) → GrantsNone terms → cleaning_on link e ≡ []
    → offered_under terms config link ch x e ≡ beside (offered config link ch x e.manager) e
unfolding offered_under
offered-none terms config link ch x e none idle =
    rw (idle, no_cleaning (granted terms) x none.reports, no_asking x)
    (ap (λ r. beside r e) (lenient-none terms config link ch x e.manager none))

pub stalls-none : {w : ℕ} (terms : Terms) (config : Config) (link : Link) (ch : Channel) (x : Beat w)
    (e : PartnerEnd w) → GrantsNone terms → cleaning_on link e ≡ []
    → stalls_under terms config link ch x e ≡ stalls config link ch x e.manager
unfolding stalls_under stalls_lenient
stalls-none terms config link ch x e none idle =
    rw (
      idle,
      no_cleaning (granted terms) x none.reports,
      no_asking x,
      right_name terms link x none.ids,
      plain_same
          terms x none.ids,
      none.drops,
    ) refl
