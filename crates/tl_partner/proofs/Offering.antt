-- How beats are answered by what they are.
use Rattle.std.proofs.Common.{Result, ap, ◌∙◌}
use Rattle.tl_manager.specs.declared.manager.admission.Admission.{Admission}
use Rattle.std.proofs.Common.{◌≡◌, ℕ, Bool, true, false, List, [], ◌∷◌, Option, Some, None, Ok, Err, refl}
use Rattle.tl_beat.specs.declared.beat.Beat.{Beat}
use Rattle.tl_beat.specs.declared.beat.Link.{Link}
use Rattle.tl_beat.specs.declared.channel.Channel.{Channel}
use Rattle.tl_beat.specs.statement.First.{first_if}
use Rattle.tl_burst.specs.statement.Messages.{breaks_burst}
use Rattle.tl_params.specs.declared.config.Config.{Config}
use Rattle.tl_params.specs.declared.level.Level.{Level}
use Rattle.tl_params.specs.declared.liberties.Liberties.{Liberties}
use Rattle.tl_params.specs.declared.rule.Rule.{Rule}
use Rattle.tl_params.specs.declared.rule.Rule.TheVariants.{S1}
use Rattle.tl_rules.specs.statement.Conformance.{Trace}
use Rattle.tl_rules.specs.statement.Liberties.{illegal_under}
use Rattle.tl_manager.proofs.judging.Refusing.{stall-is}
use Rattle.tl_manager.specs.code.Admission.{admission_of, is_stall}
use Rattle.tl_manager.specs.declared.manager.admission.Admission.TheVariants as admission
use Rattle.tl_manager.specs.statement.Offer.{Breaks, Judgement, Passes, Waits, breaks_or, is_waiting, judged}
use Rattle.tl_partner.specs.declared.terms.Terms.{Terms}
use Rattle.tl_partner.specs.statement.Cleaning.{PartnerEnd, cleaning_on, cleaning_order, is_of_cleaning}
use Rattle.tl_partner.specs.statement.Cleaning.{judged_cleaning, offered_cleaning}
use Rattle.tl_partner.specs.statement.Granting.{granted}
use Rattle.tl_partner.specs.statement.Lenient.{offered_lenient, stalls_lenient}
use Rattle.tl_partner.specs.statement.Partner.{asks_for_cleaned, beside, held_back, held_back_as, offered_under}
use Rattle.tl_partner.specs.statement.Partner.{stalls_under}

-- ---- judgements by what a call answers

pub breaks-by : (j : Judgement) (r : Rule) → Err r ≡ admission_of j → j ≡ Breaks r
breaks-by (Breaks s) r e = cc
breaks-by Waits r e = absurd cc
breaks-by Passes r e = absurd cc

pub waits-by : (j : Judgement) → Ok admission.Waits ≡ admission_of j → j ≡ Waits
waits-by (Breaks s) e = absurd cc
waits-by Waits e = refl
waits-by Passes e = absurd cc

pub passes-by : (j : Judgement) → Ok admission.Passes ≡ admission_of j → j ≡ Passes
passes-by (Breaks s) e = absurd cc
passes-by Waits e = absurd cc
passes-by Passes e = refl

pub past : (o : Option Rule) (rest : Judgement) → breaks_or o rest ≡ Passes → (o ≡ None) × (rest ≡ Passes)
past None rest e = (refl, e)
past (Some r) rest e = absurd cc

unbroken : (b : Bool) → first_if b S1 None ≡ None → b ≡ false
unbroken true e = absurd cc
unbroken false e = refl

order-unbroken : {w : ℕ} (l : Liberties) (link : Link) (x : Beat w) (burst : List (Beat w)) (t : Trace w)
    → cleaning_order l link x burst t ≡ None → breaks_burst x burst ≡ false
order-unbroken l link x [] t e = refl
order-unbroken l link x (y ∷ burst) t e = unbroken (breaks_burst x (y ∷ burst)) e

-- a beat that passes goes on with its message
pub passes-unbroken : {w : ℕ} (l : Liberties) (config : Config) (o : Option Level) (link : Link) (ch : Channel)
    (x : Beat w) (burst : List (Beat w)) (t : Trace w) → judged_cleaning l config o link ch x burst t ≡ Passes
    → breaks_burst x burst ≡ false
passes-unbroken l config None link ch x burst t e = absurd cc
passes-unbroken l config (Some level) link ch x burst t e =
    let lawful = past (illegal_under l level ch x) _ e in
    order-unbroken l link x burst t (past (cleaning_order l link x burst t) _ lawful.1).0

-- whether a call's answer is that the beat waits
pub waits-as : (b : Bool) (judged : Result Admission Rule) (j : Judgement) → b ≡ is_stall judged
    → judged ≡ admission_of j → b ≡ is_waiting j
waits-as b judged j is same = is ∙ ap is_stall same ∙ stall-is j

pub held-waits : (j : Judgement) → is_waiting j ≡ true → held_back j ≡ Waits
held-waits (Breaks r) e = absurd cc
held-waits Waits e = refl
held-waits Passes e = absurd cc

-- ---- which beat it is

pub under-cleaning : {w : ℕ} (terms : Terms) (config : Config) (link : Link) (ch : Channel) (x : Beat w)
    (e : PartnerEnd w) → is_of_cleaning (granted terms) x (cleaning_on link e) ≡ true
    → offered_under terms config link ch x e ≡ offered_cleaning (granted terms) config link ch x e
unfolding offered_under
under-cleaning terms config link ch x e is = rw is refl

pub under-held : {w : ℕ} (terms : Terms) (config : Config) (link : Link) (ch : Channel) (x : Beat w)
    (e : PartnerEnd w) → is_of_cleaning (granted terms) x (cleaning_on link e) ≡ false
    → asks_for_cleaned x (cleaning_on link e) ≡ true
    → offered_under terms config link ch x e ≡ held_back_as (held_back (judged config link ch x e.manager)) link e
unfolding offered_under
under-held terms config link ch x e other asks = rw (other, asks) refl

pub under-lenient : {w : ℕ} (terms : Terms) (config : Config) (link : Link) (ch : Channel) (x : Beat w)
    (e : PartnerEnd w) → is_of_cleaning (granted terms) x (cleaning_on link e) ≡ false
    → asks_for_cleaned x (cleaning_on link e) ≡ false
    → offered_under terms config link ch x e ≡ beside (offered_lenient terms config link ch x e.manager) e
unfolding offered_under
under-lenient terms config link ch x e other free = rw (other, free) refl

pub stalls-cleaning : {w : ℕ} (terms : Terms) (config : Config) (link : Link) (ch : Channel) (x : Beat w)
    (e : PartnerEnd w) → is_of_cleaning (granted terms) x (cleaning_on link e) ≡ true
    → false ≡ stalls_under terms config link ch x e
unfolding stalls_under
stalls-cleaning terms config link ch x e is = rw is refl

pub stalls-held : {w : ℕ} (terms : Terms) (config : Config) (link : Link) (ch : Channel) (x : Beat w)
    (e : PartnerEnd w) → is_of_cleaning (granted terms) x (cleaning_on link e) ≡ false
    → asks_for_cleaned x (cleaning_on link e) ≡ true
    → is_waiting (judged config link ch x e.manager) ≡ stalls_under terms config link ch x e
unfolding stalls_under
stalls-held terms config link ch x e other asks = rw (other, asks) refl

pub stalls-lenient : {w : ℕ} (terms : Terms) (config : Config) (link : Link) (ch : Channel) (x : Beat w)
    (e : PartnerEnd w) → is_of_cleaning (granted terms) x (cleaning_on link e) ≡ false
    → asks_for_cleaned x (cleaning_on link e) ≡ false
    → stalls_lenient terms config link ch x e.manager ≡ stalls_under terms config link ch x e
unfolding stalls_under
stalls-lenient terms config link ch x e other free = rw (other, free) refl
