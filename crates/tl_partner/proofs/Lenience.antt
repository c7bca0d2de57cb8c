-- What is pending after any beat of a client that takes liberties, but for cleanings.
use Rattle.std.proofs.Common.{◌≡◌, ℕ, ◌==◌, Bool, true, false, ◌&&◌, List, [], ◌∷◌, ◌++◌, map}
use Rattle.std.proofs.Common.{None, refl, ap, sym, subst, ◌∙◌}
use Rattle.std.proofs.lemmas.Bool.{eqb-true}
use Rattle.std.specs.Prelude.{if◌then◌else◌, slice_index_or}
use Rattle.tl_beat.specs.declared.beat.Beat.{Beat}
use Rattle.tl_beat.specs.declared.beat.BeatC.{BeatC}
use Rattle.tl_beat.specs.declared.beat.Link.{Link}
use Rattle.tl_beat.specs.declared.channel.Channel.{Channel}
use Rattle.tl_beat.specs.statement.First.{first_if}
use Rattle.tl_beat.specs.statement.Width.{IsWidth}
use Rattle.tl_burst.specs.statement.Messages.{History, breaks_burst}
unfoldable use Rattle.tl_burst.specs.statement.Messages.{unfinished}
use Rattle.tl_burst.specs.statement.Part.{is_empty}
use Rattle.tl_params.specs.declared.config.Config.{Config}
use Rattle.tl_params.specs.declared.key.Key.TheVariants.{AcquireOf, GrantSink, ProbeOf, RequestSource}
use Rattle.tl_params.specs.declared.profile.Profile.{Profile}
use Rattle.tl_params.specs.declared.rule.Rule.TheVariants.{S1}
use Rattle.tl_rules.proofs.Bursts.{next_rule}
use Rattle.tl_rules.specs.statement.Conformance.{Trace, broken_in_order, broken_order, on_link}
use Rattle.tl_rules.specs.statement.History.{is_probe_ack}
use Rattle.tl_manager.proofs.calls.Keeping.{kept-offered}
use Rattle.tl_manager.proofs.judging.Judged.{passed}
use Rattle.tl_manager.proofs.pending.SteadyReports.{release_kind}
use Rattle.tl_manager.specs.code.Kept.{IsKept, IsTyped}
use Rattle.tl_manager.specs.code.Releases.{IsAnswered}
use Rattle.tl_manager.specs.statement.End.{End}
use Rattle.tl_manager.specs.statement.Holders.{recorded}
use Rattle.tl_manager.specs.statement.Offer.{Breaks, Judgement, Passes, Waits, is_from_client, judged, offered_as}
unfoldable use Rattle.tl_manager.specs.statement.Offer.{offered}
use Rattle.tl_partner.specs.declared.terms.Terms.{Terms}
use Rattle.tl_partner.specs.laws.Carried.{AreAllAlike, AreAllPendingAlike, AreAlike, ArePendingAlike, carried_after}
use Rattle.tl_partner.specs.laws.Carried.{is_newest_misnamed}
use Rattle.tl_partner.specs.statement.Dropping.{after_drop, block_of, is_drop, is_reporting, release_beat}
use Rattle.tl_partner.specs.statement.Lenient.{offered_lenient, offered_plain, received}
use Rattle.tl_partner.specs.statement.Naming.{from_zero, is_misnamed, plain}
use Rattle.tl_partner.proofs.Afterward.{pending-drop, probe-drop, reports-drop, requests-drop}
use Rattle.tl_partner.proofs.Apart.{IsBeside, typed_plain}
use Rattle.tl_partner.proofs.Carried.{others-drop}
use Rattle.tl_partner.proofs.Carrying.{taken-alike}
use Rattle.tl_partner.proofs.Drops.{IsDropped}
use Rattle.tl_partner.proofs.Leniently.{offered-misnamed, offered-named, plain-dropped, plain-kept, plain-waits}
use Rattle.tl_partner.proofs.Passing.{drop-parts, is_dropped, passes-drop}
use Rattle.tl_partner.proofs.Pendings.{pending-as}
use Rattle.tl_partner.proofs.Said.{idle}
use Rattle.tl_partner.proofs.Stepping.{dropped-alike}
use Rattle.tl_partner.proofs.ReportOrders.{breaks-same}
use Rattle.tl_partner.proofs.Taken.{IsStep, step-after}

-- ---- any beat of a client that takes liberties

-- a beat that passes goes on with the burst of channel C
goes-on : {w : ℕ} (terms : Terms) (link : Link) (p : Profile) (x : BeatC w) (t e : History w)
    → map (plain terms) (unfinished Channel.C t) ≡ unfinished Channel.C e
    → broken_in_order p (plain terms (Beat.C x)) e ≡ None → is_misnamed terms link (Beat.C x) ≡ false
    → is_newest_misnamed terms link.0 (unfinished Channel.C t) ≡ false
    → breaks_burst (Beat.C x) (unfinished Channel.C t) ≡ false
goes-on {w} terms link p x t e reports order right newest =
    sym (breaks-same terms link x (unfinished Channel.C t) right newest)
    ∙ ap (breaks_burst (plain terms (Beat.C x))) reports ∙ named (terms.ids && is_probe_ack x.opcode) refl order
  where
    unbroken : (y : BeatC w) (u : List (Beat w)) → unfinished Channel.C e ≡ u
        → (if is_empty u then broken_order p (Beat.C y) e else first_if (breaks_burst (Beat.C y) u) S1 None) ≡ None
        → breaks_burst (Beat.C y) u ≡ false
    unbroken y [] same f = refl
    unbroken y (z ∷ u) same f = (next_rule (breaks_burst (Beat.C y) (z ∷ u)) S1 None f).0

    named : (b : Bool) → (terms.ids && is_probe_ack x.opcode) ≡ b
        → broken_in_order p (if b then Beat.C (from_zero x) else Beat.C x) e ≡ None
        → breaks_burst (if b then Beat.C (from_zero x) else Beat.C x) (unfinished Channel.C e) ≡ false
    named true is f = unbroken (from_zero x) (unfinished Channel.C e) refl f
    named false is f = unbroken x (unfinished Channel.C e) refl f

-- the cleaning of a link whose client sends a beat of channel C that isn't of one
reports-c : {w : ℕ} (terms : Terms) (x : Beat w) (cleaning : List (Beat w)) (t e : History w) → IsBeside x cleaning
    → AreAlike terms cleaning t e → (y : BeatC w) → x ≡ Beat.C y
    → map (plain terms) (unfinished Channel.C t) ≡ unfinished Channel.C e
reports-c {w} terms x cleaning t e apart a y same =
    let none : cleaning ≡ [] = subst (λ (z : Beat w). IsBeside z cleaning) same apart in
    a.reports ∙ ap (λ (c : List (Beat w)). c ++ unfinished Channel.C e) none

sent_by : {w : ℕ} (terms : Terms) (x : Beat w) → is_from_client (plain terms x) ≡ true → is_from_client x ≡ true
sent_by terms (Beat.A x) theirs = refl
sent_by terms (Beat.B x) theirs = theirs
sent_by terms (Beat.C x) theirs = refl
sent_by terms (Beat.D x) theirs = theirs
sent_by terms (Beat.E x) theirs = refl

goes : {w : ℕ} (terms : Terms) (link : Link) (p : Profile) (x : Beat w) (z : BeatC w) (t e : History w) → x ≡ Beat.C z
    → map (plain terms) (unfinished Channel.C t) ≡ unfinished Channel.C e
    → broken_in_order p (plain terms x) e ≡ None → is_misnamed terms link x ≡ false
    → is_newest_misnamed terms link.0 (unfinished Channel.C t) ≡ false
    → breaks_burst x (unfinished Channel.C t) ≡ false
goes {w} terms link p x z t e same reports order right newest =
    ap (λ (v : Beat w). breaks_burst v (unfinished Channel.C t)) same
    ∙ goes-on terms link p z t e reports
    (subst (λ (v : Beat w). broken_in_order p (plain terms v) e ≡ None) same order)
    (subst (λ (v : Beat w). is_misnamed terms link v ≡ false) same right) newest

after-offered : {w : ℕ} (cleanings : List (List (Beat w))) (terms : Terms) (config : Config) (link : Link)
    (ch : Channel) (x : Beat w) (t : Trace w) (e : End w) → IsStep cleanings terms config link x t e
    → judged config link ch (plain terms x) e ≡ Passes
    → AreAllPendingAlike terms (carried_after link x (received terms (offered config link ch (plain terms x) e)).0 t)
    (offered config link ch (plain terms x) e).1.trace
    × ((client : ℕ) → IsAnswered (on_link client (carried_after link x
    (received terms (offered config link ch (plain terms x) e)).0 t)))
unfolding offered
after-offered cleanings terms config link ch x t e is passes = rw passes (step-after cleanings terms config link x t e is)

-- one that the manager is offered as it came
pub kept-after : {w : ℕ} (cleanings : List (List (Beat w))) (terms : Terms) (config : Config) (link : Link) (ch : Channel)
    (x : Beat w) (t : Trace w) (e : End w) → IsWidth w → IsTyped (plain terms x) → IsKept config e
    → IsBeside x (slice_index_or cleanings link.0 []) → is_misnamed terms link x ≡ false
    → AreAllAlike terms cleanings t e.trace → AreAllPendingAlike terms t e.trace
    → ((client : ℕ) → IsAnswered (on_link client t))
    → AreAllPendingAlike terms (carried_after link x (received terms (offered config link ch (plain terms x) e)).0 t)
    (offered config link ch (plain terms x) e).1.trace
    × ((client : ℕ) → IsAnswered (on_link client (carried_after link x
    (received terms (offered config link ch (plain terms x) e)).0 t)))
unfolding offered
kept-after {w} cleanings terms config link ch x t e width typed kept apart right alike pendings answered =
    go (judged config link ch (plain terms x) e) refl
  where
    y : Beat w
    y = plain terms x

    passed-after : judged config link ch y e ≡ Passes
        → AreAllPendingAlike terms (carried_after link x (received terms (offered config link ch y e)).0 t)
        (offered config link ch y e).1.trace
        × ((client : ℕ) → IsAnswered (on_link client (carried_after link x
        (received terms (offered config link ch y e)).0 t)))
    passed-after passes =
        let ok = passed config link ch y e typed passes in
        let reports = reports-c terms x (slice_index_or cleanings link.0 []) (on_link link.0 t)
        (on_link link.0 e.trace) apart (alike link.0) in
        after-offered cleanings terms config link ch x t e (record {
          width = width;
          kept = kept;
          passes = ok;
          next = record {
            theirs = sent_by terms x ok.theirs;
            right = right;
            requests = (alike link.0).requests;
            reports = reports;
            goes_on = λ z same. goes terms link config.profile x z (on_link link.0 t) (on_link link.0 e.trace) same
                (reports z same) ok.order right (pendings link.0).named;
            pendings = pendings link.0;
            answered = answered link.0;
          };
          pendings = pendings;
          answered = answered;
          alike = taken-alike cleanings terms config link ch x t e typed passes apart alike;
        }) passes

    go : (j : Judgement) → judged config link ch y e ≡ j
        → AreAllPendingAlike terms (carried_after link x (received terms (offered_as j config link y e)).0 t)
        (offered_as j config link y e).1.trace
        × ((client : ℕ) → IsAnswered (on_link client (carried_after link x
        (received terms (offered_as j config link y e)).0 t)))
    go (Breaks r) is = (pendings, answered)
    go Waits is = (pendings, answered)
    go Passes is = rw is at (passed-after is)

-- ---- after what was dropped is said

pub pending-drops : {w : ℕ} (terms : Terms) (config : Config) (link : Link) (k : ℕ) (t : History w) (e : End w)
    → IsWidth w → IsKept config e → IsDropped config link k e → is_reporting link e.trace ≡ false
    → ArePendingAlike terms link.0 t (on_link link.0 e.trace)
    → ArePendingAlike terms link.0 t (on_link link.0 (after_drop config link k e).trace)
pending-drops {w} terms config link k t e width kept is free a =
    pending-as terms link.0 t (on_link link.0 e.trace) (on_link link.0 (after_drop config link k e).trace)
    (λ s. pending-drop config link k e (RequestSource s) width kept is free (λ y h r. (refl, refl))
    (λ y h r g. (refl, rw r refl)))
    (λ j. pending-drop config link k e (AcquireOf j) width kept is free (λ y h r. (refl, refl))
    (λ y h r g. (refl, rw g refl)))
    (λ s. pending-drop config link k e (GrantSink s) width kept is free (λ y h r. (refl, refl))
    (λ y h r g. (rw g refl, refl)))
    (λ j. pending-drop config link k e (ProbeOf j) width kept is free
    (λ y h r. (refl, rw (release_kind y.opcode r) refl)) (λ y h r g. (refl, refl)))
    (λ j. probe-drop config link k e j kept is free) a

all-drops : {w : ℕ} (terms : Terms) (config : Config) (link : Link) (k : ℕ) (t : Trace w) (e : End w)
    → IsWidth w → IsKept config e → IsDropped config link k e → is_reporting link e.trace ≡ false
    → AreAllPendingAlike terms t e.trace → AreAllPendingAlike terms t (after_drop config link k e).trace
all-drops {w} terms config link k t e width kept is free pendings = λ client. go client (link.0 == client) refl
  where
    go : (client : ℕ) (b : Bool) → (link.0 == client) ≡ b
        → ArePendingAlike terms client (on_link client t) (on_link client (after_drop config link k e).trace)
    go client true at = subst (λ (n : ℕ). ArePendingAlike terms n (on_link n t)
        (on_link n (after_drop config link k e).trace)) (eqb-true link.0 client at)
        (pending-drops terms config link k (on_link link.0 t) e width kept is free (pendings link.0))
    go client false at = rw (others-drop config link k e client kept is free at) (pendings client)

drop-after : {w : ℕ} (cleanings : List (List (Beat w))) (terms : Terms) (config : Config) (link : Link) (ch : Channel)
    (x : Beat w) (t : Trace w) (e : End w) → IsWidth w → IsTyped (plain terms x) → IsKept config e
    → IsBeside x (slice_index_or cleanings link.0 []) → is_misnamed terms link x ≡ false
    → is_drop terms config link ch (plain terms x) e ≡ true → is_reporting link e.trace ≡ false
    → AreAllAlike terms cleanings t e.trace → AreAllPendingAlike terms t e.trace
    → ((client : ℕ) → IsAnswered (on_link client t))
    → AreAllPendingAlike terms (carried_after link x (received terms
    (offered config link ch (plain terms x) (after_drop config link (block_of (plain terms x)) e))).0 t)
    (offered config link ch (plain terms x) (after_drop config link (block_of (plain terms x)) e)).1.trace
    × ((client : ℕ) → IsAnswered (on_link client (carried_after link x (received terms
    (offered config link ch (plain terms x) (after_drop config link (block_of (plain terms x)) e))).0 t)))
drop-after {w} cleanings terms config link ch x t e width typed kept apart right is free alike pendings answered =
    let y = plain terms x in
    let k = block_of y in
    let dropped = is_dropped terms config link ch y e kept is in
    let parts = drop-parts terms config link ch y e is in
    let passes = passes-drop config link ch y e width kept parts.0 parts.1 free in
    let after = kept-offered config link Channel.C (release_beat k (recorded link.0 k e.trace)) e width tt kept in
    let ok = passed config link ch y (after_drop config link k e) typed passes in
    let none = idle link e free ∙ sym (reports-drop config link k e kept dropped free) in
    let same = all-drops terms config link k t e width kept dropped free pendings in
    let reports = reports-c terms x (slice_index_or cleanings link.0 []) (on_link link.0 t) (on_link link.0 e.trace) apart
    (alike link.0) in
    after-offered cleanings terms config link ch x t (after_drop config link k e) (record {
      width = width;
      kept = after;
      passes = ok;
      next = record {
        theirs = sent_by terms x ok.theirs;
        right = right;
        requests = (alike link.0).requests ∙ sym (requests-drop config link k e kept dropped free);
        reports = λ z at. reports z at ∙ none;
        goes_on = λ z at. goes terms link config.profile x z (on_link link.0 t)
            (on_link link.0 (after_drop config link k e).trace) at (reports z at ∙ none) ok.order right
            (pendings link.0).named;
        pendings = same link.0;
        answered = answered link.0;
      };
      pendings = same;
      answered = answered;
      alike = dropped-alike cleanings terms config link ch x t e width kept is free apart alike;
    }) passes

pub lenient-after : {w : ℕ} (cleanings : List (List (Beat w))) (terms : Terms) (config : Config) (link : Link)
    (ch : Channel) (x : Beat w) (t : Trace w) (e : End w) → IsWidth w → IsTyped x → IsKept config e
    → IsBeside x (slice_index_or cleanings link.0 []) → AreAllAlike terms cleanings t e.trace
    → AreAllPendingAlike terms t e.trace → ((client : ℕ) → IsAnswered (on_link client t))
    → AreAllPendingAlike terms (carried_after link x (offered_lenient terms config link ch x e).0 t)
    (offered_lenient terms config link ch x e).1.trace
    × ((client : ℕ) → IsAnswered (on_link client (carried_after link x
    (offered_lenient terms config link ch x e).0 t)))
lenient-after {w} cleanings terms config link ch x t e width typed kept apart alike pendings answered =
    go (is_misnamed terms link x) refl
  where
    y : Beat w
    y = plain terms x

    Goal : Type 0
    Goal = AreAllPendingAlike terms (carried_after link x (offered_plain terms config link ch y e).0 t)
        (offered_plain terms config link ch y e).1.trace
        × ((client : ℕ) → IsAnswered (on_link client (carried_after link x
        (offered_plain terms config link ch y e).0 t)))

    drop_or : (b busy : Bool) → is_drop terms config link ch y e ≡ b → is_reporting link e.trace ≡ busy
        → is_misnamed terms link x ≡ false → Goal
    drop_or true true is f right = rw (plain-waits terms config link ch y e is f) (pendings, answered)
    drop_or true false is f right = rw (plain-dropped terms config link ch y e is f)
        (drop-after cleanings terms config link ch x t e width (typed_plain terms x typed) kept apart right is f alike
        pendings answered)
    drop_or false busy is f right = rw (plain-kept terms config link ch y e is)
        (kept-after cleanings terms config link ch x t e width (typed_plain terms x typed) kept apart right alike pendings
        answered)

    go : (b : Bool) → is_misnamed terms link x ≡ b
        → AreAllPendingAlike terms (carried_after link x (offered_lenient terms config link ch x e).0 t)
        (offered_lenient terms config link ch x e).1.trace
        × ((client : ℕ) → IsAnswered (on_link client (carried_after link x
        (offered_lenient terms config link ch x e).0 t)))
    go true is = rw (offered-misnamed terms config link ch x e is) (pendings, answered)
    go false is = rw (offered-named terms config link ch x e is)
        (drop_or (is_drop terms config link ch y e) (is_reporting link e.trace) refl refl is)
