-- What comes of an event, by what the end that takes the beat answers.
use Rattle.std.proofs.Common.{◌≡◌, ℕ, Bool, true, false, cond, List, Option, Some, None, refl, ap, sym, ◌∙◌}
use Rattle.std.specs.Prelude.{Result, Ok, Err}
use Rattle.tl_beat.specs.declared.beat.Beat.{Beat}
use Rattle.tl_beat.specs.declared.beat.Link.{Link}
use Rattle.tl_beat.specs.declared.channel.Channel.{Channel}
use Rattle.tl_burst.specs.declared.message.Message.{Message}
use Rattle.tl_params.specs.declared.config.Config.{Config}
use Rattle.tl_params.specs.declared.rule.Rule.{Rule}
use Rattle.tl_client.specs.declared.verdict.Verdict.{Verdict}
use Rattle.tl_client.specs.declared.verdict.Verdict.TheVariants as verdict
use Rattle.tl_client.specs.statement.Endpoint.{EndConfig, Endpoint}
use Rattle.tl_client.specs.statement.Offer as offer
use Rattle.tl_client.specs.statement.Offer.{offered, is_stalled, silent, waits, broken_before, broken_later}
use Rattle.tl_client.proofs.endpoint.Stalls.{taken_now}
use Rattle.tl_manager.specs.statement.Handing.{Handed}
use Rattle.tl_manager.specs.statement.End as manager_end
use Rattle.tl_manager.specs.statement.Offer as manager
use Rattle.tl_world.specs.code.Holds.{is_stay}
use Rattle.tl_coherence.specs.statement.Step.{only, handing, handed_by, judged, outcome_of, manager_took}
use Rattle.tl_coherence.specs.statement.System.{System, with_client, with_manager, with_channel}
use Rattle.tl_coherence.specs.declared.event.Outcome.TheVariants as outcome

-- ---- a client

module _ {w : ℕ} where
  -- the beat stays: what a client is stays the same
  abbrev Stays : offer.Offered w → Endpoint w → Type 0
  Stays o e = is_stalled o.answer ≡ true → o.after ≡ e

  later : (o : Option Rule) (x : Beat w) (e : Endpoint w) → Stays (offer.judged_later o x e) e
  later (Some rule) x e stays = absurd cc
  later None x e stays = absurd (let no_stall = taken_now x e in cc)

  before : (o : Option Rule) (terms : EndConfig) (x : Beat w) (e : Endpoint w) → Stays (offer.judged o terms x e) e
  before (Some rule) terms x e stays = absurd cc
  before None terms x e stays = go (waits x e.past) stays
    where
      go : (b : Bool) → Stays (cond b (silent verdict.Stalled e) (offer.judged_later (broken_later terms x e) x e)) e
      go true stays = refl
      go false stays = later (broken_later terms x e) x e stays

  is_stalled-stay : (v : Verdict) (m : Option (Message w)) → is_stay v ≡ true → is_stalled (Ok (v, m)) ≡ true
  is_stalled-stay verdict.Stalled m e = refl
  is_stalled-stay verdict.Taken m e = absurd cc
  is_stalled-stay (verdict.Done source finish) m e = absurd cc

  pub stayed-client : (terms : EndConfig) (ch : Channel) (x : Beat w) (e : Endpoint w) (v : Verdict)
      (m : Option (Message w)) → Ok (v, m) ≡ (offered terms ch x e).answer
      → is_stay v ≡ true → (offered terms ch x e).after ≡ e
  unfolding offered
  stayed-client terms ch x e v m answer stay =
      before (broken_before terms ch x e) terms x e (ap is_stalled (sym answer) ∙ is_stalled-stay v m stay)

  pub judged-refused : (answer : Result (Verdict × Option (Message w)) Rule) (rule : Rule) (link : ℕ) (ch : Channel)
      (x : Beat w) (rest : List (Beat w)) (e : Endpoint w) (s : System w) → Err rule ≡ answer
      → judged answer link ch x rest e s ≡ only outcome.Stalled (with_client link e s)
  judged-refused answer rule link ch x rest e s is = rw (← is) refl

  pub judged-stayed : (answer : Result (Verdict × Option (Message w)) Rule) (v : Verdict) (m : Option (Message w))
      (link : ℕ) (ch : Channel) (x : Beat w)
      (rest : List (Beat w)) (e : Endpoint w) (s : System w) → Ok (v, m) ≡ answer
      → is_stay v ≡ true → judged answer link ch x rest e s ≡ only outcome.Stalled s
  judged-stayed answer v m link ch x rest e s is stay = rw (← is) (go v stay)
    where
      go : (v : Verdict) → is_stay v ≡ true → judged (Ok (v, m)) link ch x rest e s ≡ only outcome.Stalled s
      go verdict.Stalled f = refl
      go verdict.Taken f = absurd cc
      go (verdict.Done source finish) f = absurd cc

  pub judged-taken : (answer : Result (Verdict × Option (Message w)) Rule) (v : Verdict) (m : Option (Message w))
      (link : ℕ) (ch : Channel) (x : Beat w)
      (rest : List (Beat w)) (e : Endpoint w) (s : System w) → Ok (v, m) ≡ answer
      → is_stay v ≡ false → judged answer link ch x rest e s ≡ handing (outcome_of x v) (handed_by link m)
      (with_client link e (with_channel link ch rest s))
  judged-taken answer v m link ch x rest e s is moves = rw (← is) (go v moves)
    where
      go : (v : Verdict) → is_stay v ≡ false → judged (Ok (v, m)) link ch x rest e s ≡ handing (outcome_of x v)
          (handed_by link m) (with_client link e (with_channel link ch rest s))
      go verdict.Stalled f = absurd cc
      go verdict.Taken f = refl
      go (verdict.Done source finish) f = refl

  -- ---- the manager

  abbrev Stood : manager.Reception w × manager_end.End w → manager_end.End w → Type 0
  Stood p e = p.0 ≡ manager.Stalled → p.1 ≡ e

  stood-as : (j : manager.Judgement) (config : Config) (link : Link) (x : Beat w) (e : manager_end.End w)
      → Stood (manager.offered_as j config link x e) e
  stood-as (manager.Breaks rule) config link x e f = absurd cc
  stood-as manager.Waits config link x e f = refl
  stood-as manager.Passes config link x e f = absurd cc

  pub stayed-manager : (config : Config) (link : Link) (ch : Channel) (x : Beat w) (e : manager_end.End w)
      → (manager.offered config link ch x e).0 ≡ manager.Stalled → (manager.offered config link ch x e).1 ≡ e
  unfolding manager.offered
  stayed-manager config link ch x e f = stood-as (manager.judged config link ch x e) config link x e f

  pub took-refused : (p : manager.Reception w × manager_end.End w) (rule : Rule) (link : ℕ) (ch : Channel) (x : Beat w)
      (rest : List (Beat w)) (s : System w) → p.0 ≡ manager.Refused rule
      → manager_took link ch x rest p s ≡ only outcome.Stalled (with_manager p.1 s)
  took-refused p rule link ch x rest s is = ap (λ (a : manager.Reception w). manager_took link ch x rest (a, p.1) s) is

  pub took-stalled : (p : manager.Reception w × manager_end.End w) (link : ℕ) (ch : Channel) (x : Beat w)
      (rest : List (Beat w)) (s : System w) → p.0 ≡ manager.Stalled
      → manager_took link ch x rest p s ≡ only outcome.Stalled s
  took-stalled p link ch x rest s is = ap (λ (a : manager.Reception w). manager_took link ch x rest (a, p.1) s) is

  pub took-sent : (p : manager.Reception w × manager_end.End w) (handed : Handed w) (link : ℕ) (ch : Channel)
      (x : Beat w) (rest : List (Beat w)) (s : System w) → p.0 ≡ manager.Sent handed
      → manager_took link ch x rest p s ≡ handing (outcome.Moved x) handed
      (with_manager p.1 (with_channel link ch rest s))
  took-sent p handed link ch x rest s is = ap (λ (a : manager.Reception w). manager_took link ch x rest (a, p.1) s) is
