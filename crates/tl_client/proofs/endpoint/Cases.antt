-- The cases in which a client answers to an operation or a beat.
use Rattle.tl_client.proofs.Imports.{Beat, BeatD, Channel, OpB, OpD, Message, Prune, Report, Perm, prune_code}
use Rattle.tl_client.proofs.Imports.{report_code, Rule, L1, A3, broken_in_order, is_grant, illegal, next_rule}
use Rattle.tl_client.proofs.Imports.{both_none, Busy, B1, B2, B3, B4, B5, Op, Finish, Stalled, Done, asked, asked_given}
use Rattle.tl_client.proofs.Imports.{busy, breaks_b1, breaks_b2, breaks_b3, breaks_b4, op_block, done, only, EndConfig}
use Rattle.tl_client.proofs.Imports.{Endpoint, held_at, zeros, Offered, offered, taken, ended, refused, silent}
use Rattle.tl_client.proofs.Imports.{is_sent_on, waits, broken_before, broken_later, judged, judged_later, on_c}
use Rattle.tl_client.proofs.Imports.{release, probe_ack, grant_ack}
use Rattle.std.proofs.Common.{◌≡◌, ℕ, Bool, true, false, cond, List, Option, Some, None, refl, ◌∙◌}
use Rattle.tl_beat.specs.declared.opcode.OpB.TheVariants as b
use Rattle.tl_beat.specs.declared.opcode.OpC.TheVariants as c
use Rattle.tl_beat.specs.declared.opcode.OpD.TheVariants as d
use Rattle.tl_params.specs.declared.param.Prune.TheVariants as prune
use Rattle.tl_params.specs.declared.perm.Perm.TheVariants as perm
use Rattle.tl_params.specs.declared.rule.Rule.TheVariants.{A1, A2}
use Rattle.tl_rules.specs.statement.Admission.{is_outside, is_spoiled}
use Rattle.tl_client.specs.declared.reply.Reply.TheVariants as reply
use Rattle.tl_client.specs.statement.Ask.{Asked, breaks_b5}
use Rattle.tl_client.specs.statement.Offer.{answered}

-- ---- operations

pub record NotBusy {w : ℕ} (terms : EndConfig) (op : Op w) (e : Endpoint w) : Type 0 where
  pub b4 : breaks_b4 terms.level op ≡ false
  pub b5 : breaks_b5 terms op ≡ false
  pub b2 : breaks_b2 op e.past ≡ false
  pub b3 : breaks_b3 op (held_at e (op_block op)) ≡ false
  pub b1 : breaks_b1 terms op e.past ≡ false

pub not_busy : {w : ℕ} (terms : EndConfig) (op : Op w) (e : Endpoint w) → busy terms op e ≡ None → NotBusy terms op e
unfolding busy
not_busy terms op e none =
    let four = next_rule (breaks_b4 terms.level op) B4 _ none in
    let five = next_rule (breaks_b5 terms op) B5 _ four.1 in
    let two = next_rule (breaks_b2 op e.past) B2 _ five.1 in
    let three = next_rule (breaks_b3 op (held_at e (op_block op))) B3 _ two.1 in
    let one = next_rule (breaks_b1 terms op e.past) B1 None three.1 in
    record { b4 = four.0; b5 = five.0; b2 = two.0; b3 = three.0; b1 = one.0 }

-- what holds of an answer where the client is busy and where it isn't holds of the answer
pub asked-cases : {w : ℕ} (terms : EndConfig) (op : Op w) (e : Endpoint w) (P : Asked w → Type 0)
    → ((b : Busy) → P (only (reply.Busy b) e)) → (NotBusy terms op e → P (done terms op e)) → P (asked terms op e)
unfolding asked
asked-cases {w} terms op e P busies dones = go (busy terms op e) (λ none. dones (not_busy terms op e none))
  where
    go : (o : Option Busy) → (o ≡ None → P (done terms op e)) → P (asked_given o terms op e)
    go (Some b) more = busies b
    go None more = more refl

-- ---- beats

pub record IsPassed {w : ℕ} (terms : EndConfig) (ch : Channel) (x : Beat w) (e : Endpoint w) : Type 0 where
  pub live : e.closed ≡ false
  pub comes : is_sent_on ch ≡ false
  pub lawful : illegal terms.level ch x ≡ None
  pub moves : waits x e.past ≡ false
  pub order : broken_in_order terms.profile x e.past ≡ None
  pub inside : is_outside terms.blocks x ≡ false
  pub clean : is_spoiled x ≡ false

passed : {w : ℕ} (terms : EndConfig) (ch : Channel) (x : Beat w) (e : Endpoint w) → broken_before terms ch x e ≡ None
    → waits x e.past ≡ false → broken_later terms x e ≡ None → IsPassed terms ch x e
passed terms ch x e before moves later =
    let live = next_rule e.closed A3 _ before in
    let way = next_rule (is_sent_on ch) L1 _ live.1 in
    let order = both_none (broken_in_order terms.profile x e.past) _ later in
    let inside = next_rule (is_outside terms.blocks x) A1 _ order.1 in
    let clean = next_rule (is_spoiled x) A2 None inside.1 in
    record {
      live = live.0;
      comes = way.0;
      lawful = way.1;
      moves = moves;
      order = order.0;
      inside = inside.0;
      clean =
          clean.0;
    }

-- what holds of an answer where the beat is refused, stalled and taken holds of the answer
pub offered-cases : {w : ℕ} (terms : EndConfig) (ch : Channel) (x : Beat w) (e : Endpoint w) (P : Offered w → Type 0)
    → ((r : Rule) → P (refused r e)) → P (silent Stalled e)
    → (IsPassed terms ch x e → P (taken x e)) → P (offered terms ch x e)
unfolding offered
offered-cases {w} terms ch x e P refusals stall takes = before (broken_before terms ch x e) refl
  where
    later : (o : Option Rule) → (o ≡ None → P (taken x e)) → P (judged_later o x e)
    later (Some r) more = refusals r
    later None more = more refl

    stalled : (b : Bool) → waits x e.past ≡ b → broken_before terms ch x e ≡ None
        → P (cond b (silent Stalled e) (judged_later (broken_later terms x e) x e))
    stalled true is none = stall
    stalled false is none = later (broken_later terms x e) (λ last. takes (passed terms ch x e none is last))

    before : (o : Option Rule) → broken_before terms ch x e ≡ o → P (judged o terms x e)
    before (Some r) is = refusals r
    before None is = stalled (waits x e.past) refl is

-- the last beat of a response
pub ended-cases : {w : ℕ} (opcode : OpD) (x : BeatD w) (f : Finish) (e : Endpoint w) (P : Offered w → Type 0)
    → (is_grant opcode ≡ true → P (answered (Done x.source f) (grant_ack x.sink) e))
    → (is_grant opcode ≡ false → P (silent (Done x.source f) e)) → P (ended opcode x f e)
ended-cases d.Grant x f e P grant other = grant refl
ended-cases d.GrantData x f e P grant other = grant refl
ended-cases d.AccessAck x f e P grant other = other refl
ended-cases d.AccessAckData x f e P grant other = other refl
ended-cases d.HintAck x f e P grant other = other refl
ended-cases d.ReleaseAck x f e P grant other = other refl

-- ---- messages of channel C

pub probe_ack-cases : {w : ℕ} (opcode : OpB) (p : Perm) (r : Report) (block : ℕ) (copy : List ℕ) (P : Message w
    → Type 0) → P (on_c c.ProbeAckData (report_code r) 0 block copy)
    → P (on_c c.ProbeAck (report_code r) 0 block zeros) → P (probe_ack opcode p r block copy)
probe_ack-cases b.ProbeBlock perm.Trunk r block copy P with_data bare = with_data
probe_ack-cases b.ProbeBlock perm.Branch r block copy P with_data bare = bare
probe_ack-cases b.ProbeBlock perm.None r block copy P with_data bare = bare
probe_ack-cases b.ProbePerm p r block copy P with_data bare = bare
probe_ack-cases b.PutFullData p r block copy P with_data bare = bare
probe_ack-cases b.PutPartialData p r block copy P with_data bare = bare
probe_ack-cases b.ArithmeticData p r block copy P with_data bare = bare
probe_ack-cases b.LogicalData p r block copy P with_data bare = bare
probe_ack-cases b.Get p r block copy P with_data bare = bare
probe_ack-cases b.Intent p r block copy P with_data bare = bare

pub release-cases : {w : ℕ} (p : Prune) (source block : ℕ) (copy : List ℕ) (P : Message w → Type 0)
    → P (on_c c.ReleaseData (prune_code p) source block copy)
    → P (on_c c.Release (prune_code p) source block zeros) → P (release p source block copy)
release-cases prune.TtoB source block copy P with_data bare = with_data
release-cases prune.TtoN source block copy P with_data bare = with_data
release-cases prune.BtoN source block copy P with_data bare = bare

-- ---- what is taken

-- a beat that breaks no rule and doesn't wait is taken
pub takes : {w : ℕ} (terms : EndConfig) (ch : Channel) (x : Beat w) (e : Endpoint w) → broken_before terms ch x e ≡ None
    → waits x e.past ≡ false → broken_later terms x e ≡ None
    → offered terms ch x e ≡ taken x e
unfolding offered
takes {w} terms ch x e passed moves lawful = judged_none (broken_before terms ch x e) passed ∙ unstalled
    (waits x e.past) moves ∙ later (broken_later terms x e) lawful
  where
    judged_none : (o : Option Rule) → o ≡ None → judged o terms x e ≡ cond (waits x e.past) (silent Stalled e)
        (judged_later (broken_later terms x e) x e)
    judged_none o f = rw f refl

    unstalled : (stalled : Bool) → stalled ≡ false
        → cond stalled (silent Stalled e) (judged_later (broken_later terms x e) x e) ≡ judged_later
        (broken_later terms x e) x e
    unstalled stalled f = rw f refl

    later : (o : Option Rule) → o ≡ None → judged_later o x e ≡ taken x e
    later o f = rw f refl

-- the rules before a stall and after it, one by one
pub passes_before : {w : ℕ} (terms : EndConfig) (ch : Channel) (x : Beat w) (e : Endpoint w) → e.closed ≡ false
    → is_sent_on ch ≡ false → illegal terms.level ch x ≡ None → broken_before terms ch x e ≡ None
passes_before terms ch x e live comes lawful = rw (live, comes, lawful) refl
