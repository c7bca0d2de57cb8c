-- Which L rule a beat breaks: under the liberties of its client, and as the first profile has it.
use Rattle.std.proofs.Common.{◌≡◌, ℕ, Bool, true, false, ◌&&◌, ◌||◌, ◌==◌, Some, None, refl, ◌∙◌}
use Rattle.std.proofs.lemmas.Bool.{eqb-true}
use Rattle.std.specs.Prelude.{if◌then◌else◌, is_some}
use Rattle.tl_beat.specs.declared.beat.Beat.{Beat}
use Rattle.tl_beat.specs.declared.beat.BeatC.{BeatC}
use Rattle.tl_beat.specs.declared.channel.Channel.{Channel}
use Rattle.tl_beat.specs.declared.opcode.OpC.{OpC}
use Rattle.tl_params.specs.declared.level.Level.{Level}
use Rattle.tl_params.specs.declared.param.Prune.{Prune}
use Rattle.tl_params.specs.declared.param.Report.{Report}
use Rattle.tl_params.specs.statement.Param.{prune_of, report_code, report_named}
use Rattle.tl_params.specs.declared.param.Report.TheVariants as report
use Rattle.tl_rules.specs.statement.History.{is_probe_ack, is_release}
use Rattle.tl_rules.specs.statement.Legality.{breaks_l1, c_has_param, c_has_source}
unfoldable use Rattle.tl_rules.specs.statement.Legality.{illegal}
use Rattle.tl_rules.specs.statement.Liberties.{c_has_param_under}
unfoldable use Rattle.tl_rules.specs.statement.Liberties.{illegal_under}
use Rattle.tl_manager.specs.statement.Offer.{unlawful}
use Rattle.tl_partner.specs.declared.terms.Terms.{Terms}
use Rattle.tl_partner.specs.laws.Judged.{unlawful_under}
use Rattle.tl_partner.specs.statement.Cleaning.{is_cleaning, keeps_held}
use Rattle.tl_partner.specs.statement.Granting.{granted}
use Rattle.tl_partner.specs.statement.Naming.{from_zero, plain}

-- ---- the params of a Release that gives something up

named_or : (a b c d e f : Bool)
    → keeps_held (if a then Some Report.TtoB else if b then Some Report.TtoN else if c then Some Report.BtoN else
    if d then Some Report.TtoT else if e then Some Report.BtoB else if f then Some Report.NtoN else None) ≡ false
    → is_some (if a then Some Report.TtoB else if b then Some Report.TtoN else if c then Some Report.BtoN else
    if d then Some Report.TtoT else if e then Some Report.BtoB else if f then Some Report.NtoN else None)
    ≡ is_some (if a then Some Prune.TtoB else if b then Some Prune.TtoN else if c then Some Prune.BtoN else None)
named_or true b c d e f keeps = refl
named_or false true c d e f keeps = refl
named_or false false true d e f keeps = refl
named_or false false false true e f keeps = absurd cc
named_or false false false false true f keeps = absurd cc
named_or false false false false false true keeps = absurd cc
named_or false false false false false false keeps = refl

not_whole : (param : ℕ) → keeps_held (report_named param) ≡ false → (param == report_code report.TtoT) ≡ false
not_whole param keeps = go (param == 3) refl
  where
    go : (b : Bool) → (param == 3) ≡ b → b ≡ false
    go true is = absurd (let three : param ≡ 3 = eqb-true param 3 is in let no-such = rw three at keeps in cc)
    go false is = refl

params-same : (terms : Terms) (opcode : OpC) (param : ℕ)
    → (terms.reports && (is_release opcode && keeps_held (report_named param))) ≡ false
    → c_has_param_under (granted terms) opcode param ≡ c_has_param opcode param
params-same terms OpC.Release param other = go terms.reports refl
  where
    go : (b : Bool) → terms.reports ≡ b
        → (if b then is_some (report_named param) else is_some (prune_of param)) ≡ is_some (prune_of param)
    go true is = named_or (param == 0) (param == 1) (param == 2) (param == 3) (param == 4) (param == 5) (rw is at other)
    go false is = refl
params-same terms OpC.ReleaseData param other = go terms.reports refl
  where
    go : (b : Bool) → terms.reports ≡ b
        → ((b && (param == report_code report.TtoT)) || c_has_param OpC.ReleaseData param)
        ≡ c_has_param OpC.ReleaseData param
    go true is = rw (not_whole param (rw is at other)) refl
    go false is = refl
params-same terms v param other = refl

-- ---- a beat of channel C

channel-same : {w : ℕ} (l : Level) (ch : Channel) (x y : BeatC w) → breaks_l1 l ch (Beat.C x) ≡ breaks_l1 l ch (Beat.C y)
channel-same l Channel.A x y = refl
channel-same l Channel.B x y = refl
channel-same l Channel.C x y = refl
channel-same l Channel.D x y = refl
channel-same l Channel.E x y = refl

-- with `ids` its source isn't asked
source-same : (ids : Bool) (opcode : OpC) (source : ℕ) → (ids && is_probe_ack opcode) ≡ false
    → (ids || c_has_source opcode source) ≡ c_has_source opcode source
source-same false opcode source other = refl
source-same true OpC.ProbeAck source other = absurd cc
source-same true OpC.ProbeAckData source other = absurd cc
source-same true v source other = refl

source-zero : (opcode : OpC) → c_has_source opcode 0 ≡ true
source-zero OpC.ProbeAck = refl
source-zero OpC.ProbeAckData = refl
source-zero v = refl

pub lawful-c : {w : ℕ} (terms : Terms) (level : Level) (ch : Channel) (x : BeatC w)
    → is_cleaning (granted terms) (Beat.C x) ≡ false
    → illegal_under (granted terms) level ch (Beat.C x) ≡ illegal level ch (plain terms (Beat.C x))
unfolding illegal illegal_under
lawful-c {w} terms level ch x other = go (terms.ids && is_probe_ack x.opcode) refl
  where
    go : (b : Bool) → (terms.ids && is_probe_ack x.opcode) ≡ b
        → illegal_under (granted terms) level ch (Beat.C x) ≡ illegal level ch (plain terms (Beat.C x))
    go true is =
        let ids : terms.ids ≡ true = first terms.ids (is_probe_ack x.opcode) is in
        rw (
          is,
          channel-same level ch x (from_zero x),
          params-same terms x.opcode x.param other,
          ids,
          source-zero x.opcode,
        ) refl
      where
        first : (a b : Bool) → (a && b) ≡ true → a ≡ true
        first true b e = refl
        first false b e = absurd cc
    go false is =
        rw (is, params-same terms x.opcode x.param other, source-same terms.ids x.opcode x.source is) refl

-- ---- any beat that isn't of a cleaning

pub lawful-same : {w : ℕ} (terms : Terms) (level : Level) (ch : Channel) (x : Beat w)
    → is_cleaning (granted terms) x ≡ false
    → unlawful_under (granted terms) level ch x ≡ unlawful level ch (plain terms x)
unfolding illegal illegal_under
lawful-same terms level ch (Beat.A x) other = refl
lawful-same terms level ch (Beat.B x) other = refl
lawful-same {w} terms level ch (Beat.C x) other = lawful-c terms level ch x other ∙ of_c (terms.ids && is_probe_ack x.opcode)
  where
    of_c : (b : Bool) → illegal level ch (if b then Beat.C (from_zero x) else Beat.C x)
        ≡ unlawful level ch (if b then Beat.C (from_zero x) else Beat.C x)
    of_c true = refl
    of_c false = refl
lawful-same terms level ch (Beat.D x) other = refl
lawful-same terms level ch (Beat.E x) other = refl
