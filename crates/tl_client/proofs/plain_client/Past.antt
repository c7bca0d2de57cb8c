-- What is pending, and which rule of the order a response breaks, by what a plain client keeps.
use Rattle.tl_client.proofs.Imports.{Beat, BeatD, first_if, History, unfinished, breaks_burst, Key, RequestSource, Rule}
use Rattle.tl_client.proofs.Imports.{S1, ok_unless, broken_in_order, pending, illegal, Plain, Endpoint, KnowsPlain}
use Rattle.tl_client.proofs.Imports.{response_rule, open_at}
use Rattle.std.proofs.Common.{◌≡◌, ℕ, Bool, cond, Option, Some, None, Err, refl, sym, ◌∙◌, ap}
use Rattle.std.specs.Prelude.{Result, is_some}
use Rattle.tl_beat.specs.declared.beat.Beat.TheVariants.{D}
use Rattle.tl_beat.specs.declared.channel.Channel.TheVariants as channel
use Rattle.tl_burst.specs.declared.part.Broken.{Broken}
use Rattle.tl_burst.specs.declared.part.Part.{Part}
use Rattle.tl_burst.specs.statement.Messages.{channel_of}
use Rattle.tl_burst.specs.statement.Part.{is_empty, part_of}
use Rattle.tl_params.specs.declared.rule.Rule.TheVariants.{A2}
use Rattle.tl_rules.specs.statement.Admission.{is_spoiled}
use Rattle.tl_client.specs.code.KnowsPlain.{KnowsPlainPast}
use Rattle.tl_client.specs.code.Plain.{order_rule}
use Rattle.tl_client.proofs.plain_client.Asks.{is_some-open}
use Rattle.tl_client.proofs.plain_client.Rules.{legal_answer, order_agrees}

pub request_pending : {w : ℕ} (p : Plain w) (t : History w) (key : Key) (s : ℕ) (b : Bool) → KnowsPlainPast p t
    → key ≡ RequestSource s → b ≡ is_some (open_at p.requests s) → b ≡ pending key t
request_pending p t key s b knows of is = is ∙ ap is_some (knows.1.requests_are s) ∙ is_some-open s knows.0.past ∙ rw
    (of, knows.2) refl

-- what the order of messages judges of a response, by what is kept
abbrev in_order : {w : ℕ} → Plain w → BeatD w → Option Rule
in_order p y = cond (is_empty p.responses) (response_rule y (open_at p.requests y.source))
    (first_if (breaks_burst (D y) p.responses) S1 None)

-- a judge that is right for each history that the client knows
abbrev pub JudgesOrder : {w : ℕ} → Plain w → Beat w → Result Part Broken → Option Rule → Type 0
JudgesOrder {w} p x part o = (t : History w) → KnowsPlainPast p t → part ≡ part_of x (unfinished (channel_of x) t)
    → o ≡ broken_in_order p.profile x t

agreed : {w : ℕ} (p : Plain w) (e : Endpoint w) (x : Beat w) (y : BeatD w) (part : Result Part Broken) (o : Option Rule)
    → x ≡ D y → KnowsPlain p e → illegal p.config.level channel.D x ≡ None
    → part ≡ part_of x p.responses → JudgesOrder p x part o → o ≡ in_order p y
agreed p e x y part o own k legal peeked judges =
    let here : part ≡ part_of x (unfinished (channel_of x) e.past) = peeked ∙ rw (own, k.response_is) refl in
    let answer = legal_answer p.config.level y p.accesses (rw own at legal) in
    judges e.past (e, k, refl) here ∙ ap (λ z. broken_in_order p.profile z e.past) own
    ∙ order_agrees p.profile y e.past (open_at p.requests y.source) p.responses answer k.sent_whole
    (k.requests_are y.source) k.response_is

pub refused_in_order : {w : ℕ} (p : Plain w) (e : Endpoint w) (x : Beat w) (y : BeatD w) (part : Result Part Broken)
    (rule : Rule) → x ≡ D y → KnowsPlain p e → illegal p.config.level channel.D x ≡ None
    → part ≡ part_of x p.responses → JudgesOrder p x part (Some rule)
    → Err rule ≡ ok_unless (order_rule y (open_at p.requests y.source) p.responses)
refused_in_order p e x y part rule own k legal peeked judges =
    let broken : in_order p y ≡ Some rule = sym (agreed p e x y part (Some rule) own k legal peeked judges) in
    rw broken refl

pub judged_by_bits : {w : ℕ} (p : Plain w) (e : Endpoint w) (x : Beat w) (y : BeatD w) (part : Result Part Broken)
    (b : Bool) → x ≡ D y → KnowsPlain p e → illegal p.config.level channel.D x ≡ None
    → part ≡ part_of x p.responses → JudgesOrder p x part None → b ≡ is_spoiled x
    → ok_unless (first_if b A2 None) ≡ ok_unless (order_rule y (open_at p.requests y.source) p.responses)
judged_by_bits p e x y part b own k legal peeked judges bits =
    let passes : in_order p y ≡ None = sym (agreed p e x y part None own k legal peeked judges) in
    rw (passes, bits, own) refl
