-- What a caching client judges of a beat is what its end of the link says.
use Rattle.tl_client.proofs.Imports.{Beat, BeatD, Channel, first_if, Message, completes, Rule, A3, L1, ok_unless}
use Rattle.tl_client.proofs.Imports.{broken_in_order, ends, illegal, both_none, Caching, Verdict, Stalled, EndConfig}
use Rattle.tl_client.proofs.Imports.{Endpoint, KnowsCaching, caching_terms}
use Rattle.tl_client.proofs.Imports.{offered, refused, silent, is_sent_on, stalls}
use Rattle.tl_client.proofs.Imports.{waits, broken_before, broken_later}
use Rattle.std.proofs.Common.{◌≡◌, ℕ, Bool, true, false, Option, Some, None, refl, sym, ◌∙◌, ap, subst}
use Rattle.std.specs.Bool.{OnTrue}
use Rattle.std.specs.Prelude.{Result, Ok, Err, ◌&&◌, is_none, is_ok}
use Rattle.tl_beat.specs.declared.beat.Beat.TheVariants as beat
use Rattle.tl_beat.specs.declared.channel.Channel.TheVariants as channel
use Rattle.tl_burst.specs.statement.Part.{is_middle, part_of}
use Rattle.tl_burst.proofs.Begun.{GoesOn, middle-goes_on}
use Rattle.tl_params.proofs.Refusals.{some_broken, none_broken}
use Rattle.tl_rules.specs.statement.Admission.{is_spoiled}
use Rattle.tl_client.specs.declared.verdict.Verdict.TheVariants.{Taken}
use Rattle.tl_client.specs.code.Takes.{Goes, Takes, IsJudged}
use Rattle.tl_client.proofs.pending.AccountedTaken.{fit}
use Rattle.tl_client.proofs.caching_client.Probed.{answer-probed, knows-probed}
use Rattle.tl_client.proofs.caching_client.Responded.{grants_inside, knows-goes, knows-ends}
use Rattle.tl_client.proofs.endpoint.Cases.{takes}
use Rattle.tl_client.proofs.endpoint.HeldAfter.{incoming}

before-known : {w : ℕ} (c : Caching w) (ch : Channel) (x : Beat w) (e : Endpoint w) → KnowsCaching c e
    → broken_before (caching_terms c) ch x e ≡ first_if c.closed A3
    (first_if (is_sent_on ch) L1 (illegal c.config.level ch x))
before-known c ch x e knows = rw (knows.closed_is) refl

pub passes_alone : {w : ℕ} (c : Caching w) (ch : Channel) (x : Beat w) (e : Endpoint w) → KnowsCaching c e
    → Ok tt ≡ ok_unless (first_if c.closed A3 (first_if (is_sent_on ch) L1 (illegal c.config.level ch x)))
    → broken_before (caching_terms c) ch x e ≡ None
passes_alone c ch x e knows ok = before-known c ch x e knows ∙ none_broken _ ok

pub refused_alone : {w : ℕ} (c : Caching w) (ch : Channel) (x : Beat w) (e : Endpoint w) (rule : Rule)
    → KnowsCaching c e
    → Err rule ≡ ok_unless (first_if c.closed A3 (first_if (is_sent_on ch) L1 (illegal c.config.level ch x)))
    → offered (caching_terms c) ch x e ≡ refused rule e
unfolding offered
refused_alone c ch x e rule knows broken =
    let before : broken_before (caching_terms c) ch x e ≡ Some rule =
    before-known c ch x e knows ∙ some_broken _ rule broken
    in
    rw before refl

pub stalled : {w : ℕ} (c : Caching w) (ch : Channel) (x : Beat w) (e : Endpoint w)
    → broken_before (caching_terms c) ch x e ≡ None → waits x e.past ≡ true
    → offered (caching_terms c) ch x e ≡ silent Stalled e
unfolding offered
stalled c ch x e before waiting = rw (before, waiting) refl

pub refused_order : {w : ℕ} (c : Caching w) (ch : Channel) (x : Beat w) (e : Endpoint w) (rule : Rule)
    → broken_before (caching_terms c) ch x e ≡ None → waits x e.past ≡ false
    → Err rule ≡ ok_unless (broken_later (caching_terms c) x e) → offered (caching_terms c) ch x e ≡ refused rule e
unfolding offered
refused_order c ch x e rule before moves broken =
    let later : broken_later (caching_terms c) x e ≡ Some rule = some_broken _ rule broken in
    rw (before, moves, later) refl

-- what is answered to a beat that was taken, and what is known afterwards
pub knows-took : {w : ℕ} (c d : Caching w) (ch : Channel) (x : Beat w) (e : Endpoint w)
    (r : Verdict × Option (Message w)) → KnowsCaching c e → IsJudged (caching_terms c) ch x e (Ok false) → Takes c d x r
    → ((offered (caching_terms c) ch x e).answer ≡ Ok r) × KnowsCaching d (offered (caching_terms c) ch x e).after
knows-took c d ch (beat.A x) e r knows judged took = absurd (incoming (caching_terms c) ch (beat.A x) e judged.0)
knows-took c d ch (beat.C x) e r knows judged took = absurd (incoming (caching_terms c) ch (beat.C x) e judged.0)
knows-took c d ch (beat.E x) e r knows judged took = absurd (incoming (caching_terms c) ch (beat.E x) e judged.0)
knows-took c d ch (beat.B x) e r knows judged took =
    let is = takes (caching_terms c) ch (beat.B x) e judged.0 judged.1 judged.2 in
    (ap (λ o. o.answer) is ∙ answer-probed c d x e r knows took, knows-probed c d ch x e r knows took is)
knows-took {w} c d ch (beat.D x) e r knows judged took =
    let is = takes (caching_terms c) ch (beat.D x) e judged.0 judged.1 judged.2 in
    let order = (both_none (broken_in_order c.profile (beat.D x) e.past) _ judged.2).0 in
    let fits = fit c.profile x e.past knows.accounted.acked order in
    let same : completes (beat.D x) c.responses ≡ ends (beat.D x) e.past =
    ap (λ b. completes (beat.D x) b) knows.response_is in
    go (ends (beat.D x) e.past) refl
    (λ more. knows-goes c d ch x e r knows fits more (took.0 (same ∙ more)) is)
    (λ last. knows-ends c d ch x e r knows fits last (took.1 (same ∙ last) (grants_inside c x e knows order)) is)
  where
    go : (b : Bool) → ends (beat.D x) e.past ≡ b
        → (ends (beat.D x) e.past ≡ false → ((offered (caching_terms c) ch (beat.D x) e).answer ≡ Ok r)
        × KnowsCaching d (offered (caching_terms c) ch (beat.D x) e).after)
        → (ends (beat.D x) e.past ≡ true → ((offered (caching_terms c) ch (beat.D x) e).answer ≡ Ok r)
        × KnowsCaching d (offered (caching_terms c) ch (beat.D x) e).after)
        → ((offered (caching_terms c) ch (beat.D x) e).answer ≡ Ok r)
        × KnowsCaching d (offered (caching_terms c) ch (beat.D x) e).after
    go true is part last = last is
    go false is part last = part is

stalls_if : (o : Option Rule) (b : Bool) → b ≡ true → is_ok (ok_unless o) ≡ (is_none o && b)
stalls_if None b waits = sym waits
stalls_if (Some rule) b waits = refl

never_if : (o : Option Rule) (b : Bool) → b ≡ false → (is_none o && b) ≡ false
never_if None b moves = moves
never_if (Some rule) b moves = refl

-- whether a beat is stalled: one that waits, by whether it breaks no rule
pub stalls-waiting : {w : ℕ} (c : Caching w) (ch : Channel) (x : Beat w) (e : Endpoint w) (b : Bool) → KnowsCaching c e
    → waits x e.past ≡ true
    → b ≡ is_ok (ok_unless (first_if c.closed A3 (first_if (is_sent_on ch) L1 (illegal c.config.level ch x))))
    → b ≡ stalls (caching_terms c) ch x e
unfolding stalls
stalls-waiting c ch x e b knows waiting ok =
    ok ∙ stalls_if _ _ waiting ∙ sym (ap (λ o. is_none o && waits x e.past) (before-known c ch x e knows))

pub stalls-moving : {w : ℕ} (c : Caching w) (ch : Channel) (x : Beat w) (e : Endpoint w) (b : Bool) → b ≡ waits x e.past
    → b ≡ false → b ≡ stalls (caching_terms c) ch x e
unfolding stalls
stalls-moving c ch x e b is moving = moving ∙ sym (never_if _ _ (sym is ∙ moving))

pub lawful : {w : ℕ} (terms : EndConfig) (ch : Channel) (x : Beat w) (e : Endpoint w) (o : Result Bool Rule)
    → IsJudged terms ch x e o → o ≡ Ok false → IsJudged terms ch x e (Ok false)
lawful terms ch x e o judged is = subst (λ (r : Result Bool Rule). IsJudged terms ch x e r) is judged

-- ---- a beat that goes on with a response, and doesn't complete it

judged-middle : {w : ℕ} (c : Caching w) (x : BeatD w) (e : Endpoint w) → KnowsCaching c e → c.closed ≡ false
    → illegal c.config.level channel.D (beat.D x) ≡ None → is_spoiled (beat.D x) ≡ false
    → GoesOn (beat.D x) c.responses → IsJudged (caching_terms c) channel.D (beat.D x) e (Ok false)
judged-middle c x e knows live lawful clean goes =
    let here = subst (λ b. GoesOn (beat.D x) b) knows.response_is goes in (
      before-known c channel.D (beat.D x) e knows ∙ rw (live, lawful) refl,
      refl,
      rw (here.begun_before, here.continues, clean) refl,
    )

knows-middle : {w : ℕ} (c d : Caching w) (x : BeatD w) (e : Endpoint w) → KnowsCaching c e → c.closed ≡ false
    → illegal c.config.level channel.D (beat.D x) ≡ None → is_spoiled (beat.D x) ≡ false
    → is_middle (part_of (beat.D x) c.responses) ≡ true → Goes c d x (Taken, None)
    → ((offered (caching_terms c) channel.D (beat.D x) e).answer ≡ Ok (Taken, None))
    × KnowsCaching d (offered (caching_terms c) channel.D (beat.D x) e).after
knows-middle c d x e knows live lawful clean middle grew =
    let goes = middle-goes_on (beat.D x) c.responses middle in
    knows-took c d channel.D (beat.D x) e (Taken, None) knows (judged-middle c x e knows live lawful clean goes)
    (λ more. grew, λ last fits. absurd (let no : true ≡ false = sym last ∙ goes.leaves_more in cc))

pub answer-middle : {w : ℕ} (c d : Caching w) (ch : Channel) (x : Beat w) (y : BeatD w) (b : Bool) → ch ≡ channel.D
    → x ≡ beat.D y → OnTrue b (c.closed ≡ false) → OnTrue b (illegal c.config.level channel.D x ≡ None)
    → OnTrue b (is_spoiled x ≡ false) → OnTrue b (is_middle (part_of x c.responses) ≡ true)
    → OnTrue b (Goes c d y (Taken, None))
    → OnTrue b ((e : Endpoint w) → KnowsCaching c e → Ok (Taken, None) ≡ (offered (caching_terms c) ch x e).answer)
answer-middle c d ch x y true on_d is live lawful clean middle grew = λ e knows.
    rw (on_d, is) (sym (knows-middle c d y e knows live (rw is at lawful) (rw is at clean) (rw is at middle) grew).0)
answer-middle c d ch x y false on_d is live lawful clean middle grew = tt

pub after-middle : {w : ℕ} (c d : Caching w) (ch : Channel) (x : Beat w) (y : BeatD w) (b : Bool) → ch ≡ channel.D
    → x ≡ beat.D y → OnTrue b (c.closed ≡ false) → OnTrue b (illegal c.config.level channel.D x ≡ None)
    → OnTrue b (is_spoiled x ≡ false) → OnTrue b (is_middle (part_of x c.responses) ≡ true)
    → OnTrue b (Goes c d y (Taken, None))
    → OnTrue b ((e : Endpoint w) → KnowsCaching c e → KnowsCaching d (offered (caching_terms c) ch x e).after)
after-middle c d ch x y true on_d is live lawful clean middle grew = λ e knows.
    rw (on_d, is) (knows-middle c d y e knows live (rw is at lawful) (rw is at clean) (rw is at middle) grew).1
after-middle c d ch x y false on_d is live lawful clean middle grew = tt
