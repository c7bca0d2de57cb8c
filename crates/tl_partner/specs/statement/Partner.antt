-- The manager's answer to each beat of clients with the liberties `drops`, `ids` and `reports`.
use Rattle.std.specs.Prelude.{ℕ, Bool, false, List, ◌∷◌, ◌==◌, ◌&&◌, if◌then◌else◌}
use Rattle.tl_beat.specs.declared.beat.Beat.{Beat}
use Rattle.tl_beat.specs.declared.beat.Beat.TheVariants as beat
use Rattle.tl_beat.specs.declared.beat.Link.{Link}
use Rattle.tl_beat.specs.declared.channel.Channel.{Channel}
use Rattle.tl_params.specs.declared.config.Config.{Config}
use Rattle.tl_params.specs.declared.rule.Rule.TheVariants.{H4, H5, A1, A2}
use Rattle.tl_rules.specs.statement.History.{block_at, is_acquire}
use Rattle.tl_manager.specs.statement.End.{End}
use Rattle.tl_manager.specs.statement.Offer.{Judgement, Breaks, Waits, Passes, Reception, Refused, Stalled, is_waiting, judged}
use Rattle.tl_partner.specs.declared.terms.Terms.{Terms}
use Rattle.tl_partner.specs.statement.Cleaning.{PartnerEnd, cleaning_on, is_of_cleaning, offered_cleaning, refused_on}
use Rattle.tl_partner.specs.statement.Granting.{granted}
use Rattle.tl_partner.specs.statement.Lenient.{offered_lenient, stalls_lenient}

-- the unfinished message is of this block
abbrev pub cleans : {w : ℕ} → ℕ → List (Beat w) → Bool
cleans block (beat.C x ∷ burst) = block_at x.address == block
cleans block _ = false

-- the beat is an Acquire of the block of the unfinished cleaning
abbrev pub asks_for_cleaned : {w : ℕ} → Beat w → List (Beat w) → Bool
asks_for_cleaned (beat.A x) burst = is_acquire x.opcode && cleans (block_at x.address) burst
asks_for_cleaned x burst = false

-- the judgement of such an Acquire: it breaks H4, unless it breaks an earlier rule or must wait
abbrev pub held_back : Judgement → Judgement
held_back (Breaks H5) = Breaks H4
held_back (Breaks A1) = Breaks H4
held_back (Breaks A2) = Breaks H4
held_back (Breaks rule) = Breaks rule
held_back Waits = Waits
held_back Passes = Breaks H4

-- the answer to an Acquire with this judgement, and the end afterwards
abbrev pub held_back_as : {w : ℕ} → Judgement → Link → PartnerEnd w → Reception w × PartnerEnd w
held_back_as (Breaks rule) link e = (Refused rule, refused_on link e)
held_back_as Waits link e = (Stalled, e)
held_back_as Passes link e = (Stalled, e)

-- the answer and the end of a manager, with the cleanings as they were
abbrev pub beside : {w : ℕ} → Reception w × End w → PartnerEnd w → Reception w × PartnerEnd w
beside r e = (r.0, record { manager = r.1; cleanings = e.cleanings })

-- the manager's answer to a beat on this channel of a link, and its end afterwards
unfoldable pub offered_under : {w : ℕ} → Terms → Config → Link → Channel → Beat w → PartnerEnd w
    → Reception w × PartnerEnd w
offered_under terms config link ch x e =
    if is_of_cleaning (granted terms) x (cleaning_on link e)
    then offered_cleaning (granted terms) config link ch x e
    else if asks_for_cleaned x (cleaning_on link e)
    then held_back_as (held_back (judged config link ch x e.manager)) link e
    else beside (offered_lenient terms config link ch x e.manager) e

-- the manager would stall the beat
unfoldable pub stalls_under : {w : ℕ} → Terms → Config → Link → Channel → Beat w → PartnerEnd w → Bool
stalls_under terms config link ch x e =
    if is_of_cleaning (granted terms) x (cleaning_on link e)
    then false
    else if asks_for_cleaned x (cleaning_on link e)
    then is_waiting (judged config link ch x e.manager)
    else stalls_lenient terms config link ch x e.manager
