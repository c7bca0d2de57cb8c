-- Each beat that is offered leaves held, by what the link carried, what the manager records.
use Rattle.std.proofs.Common.{◌≡◌, ℕ, Bool, true, false, ◌&&◌, ◌==◌, List, [], ◌∷◌, Some, None, refl, ap}
use Rattle.std.proofs.Common.{sym, ◌∙◌, length, subst}
use Rattle.std.proofs.lemmas.Bool.{and_parts, eqb-true, not-false}
use Rattle.std.proofs.lemmas.List.{length-map}
use Rattle.std.specs.Prelude.{if◌then◌else◌, slice_index_or, unwrap_or}
use Rattle.tl_beat.specs.declared.beat.Beat.{Beat}
use Rattle.tl_beat.specs.declared.beat.BeatA.{BeatA}
use Rattle.tl_beat.specs.declared.beat.BeatC.{BeatC}
use Rattle.tl_beat.specs.declared.beat.Link.{Link}
use Rattle.tl_beat.specs.declared.channel.Channel.{Channel}
use Rattle.tl_beat.specs.statement.Opcode.{c_carries_data}
use Rattle.tl_beat.specs.statement.Width.{IsWidth}
use Rattle.tl_burst.specs.statement.Messages.{History, burst_length, grown}
unfoldable use Rattle.tl_burst.specs.statement.Messages.{unfinished}
use Rattle.tl_params.specs.declared.config.Config.{Config}
use Rattle.tl_params.specs.declared.perm.Perm.{Perm}
use Rattle.tl_rules.specs.statement.Conformance.{Trace}
unfoldable use Rattle.tl_rules.specs.statement.Conformance.{on_link}
use Rattle.tl_rules.specs.statement.History.{block_at, is_probe_ack}
unfoldable use Rattle.tl_rules.specs.statement.History.{held, request_of}
use Rattle.tl_rules.specs.statement.Legality.{c_has_param, c_has_source}
use Rattle.tl_rules.specs.statement.Liberties.{reports_none}
unfoldable use Rattle.tl_rules.specs.statement.Liberties.{held_under}
use Rattle.tl_manager.proofs.calls.Keeping.{kept-offered}
use Rattle.tl_manager.proofs.pending.LinkHistories.{other_beat, own_beat}
use Rattle.tl_manager.specs.code.Kept.{IsKept, IsTyped}
use Rattle.tl_manager.specs.statement.End.{End}
use Rattle.tl_manager.specs.statement.Holders.{recorded}
use Rattle.tl_manager.specs.statement.Offer.{Breaks, Judgement, Passes, Waits, judged, offered_as}
unfoldable use Rattle.tl_manager.specs.statement.Offer.{offered}
use Rattle.tl_partner.specs.declared.terms.Terms.{Terms}
use Rattle.tl_partner.specs.laws.Carried.{AreAlike, AreAllAlike, carried_after}
use Rattle.tl_partner.specs.statement.Dropping.{after_drop, block_of, is_drop, is_reporting, release_beat}
use Rattle.tl_partner.specs.statement.Granting.{granted}
use Rattle.tl_partner.specs.statement.Lenient.{offered_lenient, offered_plain, received}
use Rattle.tl_partner.specs.statement.Naming.{from_zero, is_misnamed, plain}
use Rattle.tl_partner.proofs.Afterward.{reports-drop, requests-drop}
use Rattle.tl_partner.proofs.Alike.{grown-map}
use Rattle.tl_partner.proofs.Carried.{AreAlikeBut, but-a, others-drop, own-but}
use Rattle.tl_partner.proofs.Carrying.{passed-alike, taken-alike}
use Rattle.tl_partner.proofs.Drops.{by_record, in_order}
use Rattle.tl_partner.proofs.Leniently.{offered-misnamed, offered-named, plain-dropped, plain-kept, plain-waits}
use Rattle.tl_partner.proofs.Apart.{IsBeside, typed_plain}
use Rattle.tl_partner.proofs.Passing.{bare_c, drop-parts, is_dropped, legal-parts, passes-drop}

-- ---- a ProbeAck that says so

but_as : {w : ℕ} (terms : Terms) (x y : BeatC w) (t e : History w)
    → is_probe_ack x.opcode ≡ true → reports_none x.param ≡ true → c_carries_data x.opcode ≡ false
    → unfinished Channel.C e ≡ [] → AreAlikeBut terms [] (block_at y.address) Perm.None t e
    → plain terms (Beat.C x) ≡ Beat.C y → y.opcode ≡ x.opcode → y.param ≡ x.param → y.address ≡ x.address
    → y.size ≡ x.size → AreAlike terms [] (Beat.C x ∷ t) (Beat.C y ∷ e)
unfolding unfinished request_of held held_under
but_as {w} terms x y t e ack none no-data idle-e a is opcode param address size =
    let long : burst_length (Beat.C x) ≡ burst_length (Beat.C y) = rw (opcode, size) refl in
    let five : x.param ≡ 5 = eqb-true x.param 5 none in
    let count : length (unfinished Channel.C t) ≡ 0 =
    sym (length-map (unfinished Channel.C t) (plain terms)) ∙ ap length (a.reports ∙ idle-e) in
    record {
      requests = a.requests;
      named = λ s. a.named s;
      reports = grown-map terms (Beat.C x) (Beat.C y) (unfinished Channel.C t) is long
          ∙ ap (grown (Beat.C y)) a.reports;
      answers = a.answers;
      held = λ j. rw (count, idle-e, opcode, param, address, no-data, ack, five)
          (go j (block_at x.address == j) refl);
    }
  where
    go : (j : ℕ) (b : Bool) → (block_at x.address == j) ≡ b
        → unwrap_or (if b then Some Perm.None else None) (held_under (granted terms) j t)
        ≡ unwrap_or (if b then Some Perm.None else None) (held j e)
    go j true at = refl
    go j false at = a.rest j (ap (λ n. block_at n == j) address ∙ at)

-- ---- on the link itself

own_a : {w : ℕ} {cleaning : List (Beat w)} (terms : Terms) (config : Config) (link : Link) (ch : Channel) (x : BeatA w) (t : History w) (e : End w)
    → IsWidth w → IsKept config e → is_drop terms config link ch (Beat.A x) e ≡ true
    → is_reporting link e.trace ≡ false → AreAlike terms cleaning t (on_link link.0 e.trace)
    → AreAlike terms cleaning (Beat.A x ∷ t) (Beat.A x ∷ on_link link.0 (after_drop config link (block_at x.address) e).trace)
own_a {w} terms config link ch x t e width kept is free a =
    let parts = drop-parts terms config link ch (Beat.A x) e is in
    let dropped = is_dropped terms config link ch (Beat.A x) e kept is in
    let facts = by_record config link ch (Beat.A x) e parts.1 in
    let begun = (in_order config.profile (Beat.A x) (on_link link.0 e.trace) facts.order).0 in
    but-a terms x t (on_link link.0 (after_drop config link (block_at x.address) e).trace)
    (and_parts terms.drops _ is).0 parts.0
    (rw (requests-drop config link (block_at x.address) e kept dropped free) begun)
    (own-but terms config link (block_at x.address) t e width kept dropped free a)

own_c : {w : ℕ} (terms : Terms) (config : Config) (link : Link) (ch : Channel) (x y : BeatC w) (t : History w)
    (e : End w) → IsWidth w → IsKept config e
    → is_drop terms config link ch (Beat.C y) e ≡ true → is_reporting link e.trace ≡ false
    → AreAlike terms [] t (on_link link.0 e.trace)
    → plain terms (Beat.C x) ≡ Beat.C y → y.opcode ≡ x.opcode → y.param ≡ x.param → y.address ≡ x.address
    → y.size ≡ x.size
    → AreAlike terms [] (Beat.C x ∷ t) (Beat.C y ∷ on_link link.0 (after_drop config link (block_at y.address) e).trace)
own_c {w} terms config link ch x y t e width kept is free a same opcode param address size =
    let parts = drop-parts terms config link ch (Beat.C y) e is in
    let dropped = is_dropped terms config link ch (Beat.C y) e kept is in
    let facts = by_record config link ch (Beat.C y) e parts.1 in
    let says = and_parts (is_probe_ack y.opcode) (reports_none y.param) parts.0 in
    let legal = legal-parts facts.level ch (Beat.C y) facts.lawful in
    let fields = and_parts (c_has_param y.opcode y.param) (c_has_source y.opcode y.source)
    (not-false (c_has_param y.opcode y.param && c_has_source y.opcode y.source) legal.0) in
    but_as terms x y t (on_link link.0 (after_drop config link (block_at y.address) e).trace)
    (rw opcode at says.0) (rw param at says.1)
    (rw opcode at (bare_c y.opcode y.param says.0 says.1 fields.0))
    (reports-drop config link (block_at y.address) e kept dropped free)
    (own-but terms config link (block_at y.address) t e width kept dropped free a) same opcode param address size

own_at : {w : ℕ} (terms : Terms) (config : Config) (link : Link) (ch : Channel) (x : BeatC w) (t : History w)
    (e : End w) → IsWidth w → IsKept config e → is_drop terms config link ch (plain terms (Beat.C x)) e ≡ true
    → is_reporting link e.trace ≡ false → AreAlike terms [] t (on_link link.0 e.trace)
    → AreAlike terms [] (Beat.C x ∷ t)
    (plain terms (Beat.C x) ∷ on_link link.0 (after_drop config link (block_of (plain terms (Beat.C x))) e).trace)
own_at {w} terms config link ch x t e width kept is free a = go (terms.ids && is_probe_ack x.opcode) refl is
  where
    go : (b : Bool) → (terms.ids && is_probe_ack x.opcode) ≡ b
        → is_drop terms config link ch (if b then Beat.C (from_zero x) else Beat.C x) e ≡ true
        → AreAlike terms [] (Beat.C x ∷ t) ((if b then Beat.C (from_zero x) else Beat.C x) ∷ on_link link.0
        (after_drop config link (block_of (if b then Beat.C (from_zero x) else Beat.C x)) e).trace)
    go true b-is f = own_c terms config link ch x (from_zero x) t e width kept f free a (rw b-is refl) refl refl
        refl refl
    go false b-is f = own_c terms config link ch x x t e width kept f free a (rw b-is refl) refl refl refl refl

own : {w : ℕ} {cleaning : List (Beat w)} (terms : Terms) (config : Config) (link : Link) (ch : Channel) (x : Beat w)
    (t : History w) (e : End w) → IsWidth w → IsKept config e → is_drop terms config link ch (plain terms x) e ≡ true
    → is_reporting link e.trace ≡ false → IsBeside x cleaning → AreAlike terms cleaning t (on_link link.0 e.trace)
    → AreAlike terms cleaning (x ∷ t)
    (plain terms x ∷ on_link link.0 (after_drop config link (block_of (plain terms x)) e).trace)
own terms config link ch (Beat.A x) t e width kept is free apart a = own_a terms config link ch x t e width kept is free
    a
own terms config link ch (Beat.B x) t e width kept is free apart a =
    absurd (let no-such = (drop-parts terms config link ch (Beat.B x) e is).0 in cc)
own {w} {cleaning} terms config link ch (Beat.C x) t e width kept is free apart a =
    subst (λ (c : List (Beat w)). AreAlike terms c (Beat.C x ∷ t)
    (plain terms (Beat.C x) ∷ on_link link.0 (after_drop config link (block_of (plain terms (Beat.C x))) e).trace))
    (sym apart)
    (own_at terms config link ch x t e width kept is free
    (subst (λ (c : List (Beat w)). AreAlike terms c t (on_link link.0 e.trace)) apart a))
own terms config link ch (Beat.D x) t e width kept is free apart a =
    absurd (let no-such = (drop-parts terms config link ch (Beat.D x) e is).0 in cc)
own terms config link ch (Beat.E x) t e width kept is free apart a =
    absurd (let no-such = (drop-parts terms config link ch (Beat.E x) e is).0 in cc)

pub dropped-alike : {w : ℕ} (cleanings : List (List (Beat w))) (terms : Terms) (config : Config) (link : Link)
    (ch : Channel) (x : Beat w) (t : Trace w) (e : End w) → IsWidth w → IsKept config e
    → is_drop terms config link ch (plain terms x) e ≡ true → is_reporting link e.trace ≡ false
    → IsBeside x (slice_index_or cleanings link.0 []) → AreAllAlike terms cleanings t e.trace
    → AreAllAlike terms cleanings ((link, x) ∷ t)
    ((link, plain terms x) ∷ (after_drop config link (block_of (plain terms x)) e).trace)
dropped-alike {w} cleanings terms config link ch x t e width kept is free apart carried =
    λ client. go client (link.0 == client) refl
  where
    k : ℕ
    k = block_of (plain terms x)

    go : (client : ℕ) (b : Bool) → (link.0 == client) ≡ b
        → AreAlike terms (slice_index_or cleanings client []) (on_link client ((link, x) ∷ t))
        (on_link client ((link, plain terms x) ∷ (after_drop config link k e).trace))
    go client true at =
        rw (own_beat client link x t at, own_beat client link (plain terms x) (after_drop config link k e).trace at)
        (subst (λ (n : ℕ). AreAlike terms (slice_index_or cleanings n []) (x ∷ on_link n t) (plain terms x ∷ on_link n
        (after_drop config link k e).trace)) (eqb-true link.0 client at)
        (own terms config link ch x (on_link link.0 t) e width kept is free apart (carried link.0)))
    go client false at =
        rw (
          other_beat client link x t at,
          other_beat client link (plain terms x) (after_drop config link k e).trace at,
          others-drop config link k e client kept (is_dropped terms config link ch (plain terms x) e kept is) free at,
        ) (carried client)

-- ---- any beat

-- one that the manager is offered as it came
offered-alike : {w : ℕ} (cleanings : List (List (Beat w))) (terms : Terms) (config : Config) (link : Link)
    (ch : Channel) (x : Beat w) (t : Trace w) (e : End w) → IsWidth w → IsTyped (plain terms x) → IsKept config e
    → IsBeside x (slice_index_or cleanings link.0 []) → AreAllAlike terms cleanings t e.trace
    → AreAllAlike terms cleanings (carried_after link x (received terms (offered config link ch (plain terms x) e)).0 t)
    (offered config link ch (plain terms x) e).1.trace
unfolding offered
offered-alike {w} cleanings terms config link ch x t e width typed kept apart carried =
    go (judged config link ch (plain terms x) e) refl
  where
    go : (j : Judgement) → judged config link ch (plain terms x) e ≡ j
        → AreAllAlike terms cleanings (carried_after link x (received terms (offered_as j config link (plain terms x) e)).0 t)
        (offered_as j config link (plain terms x) e).1.trace
    go (Breaks r) is = carried
    go Waits is = carried
    go Passes is = rw is at (passed-alike cleanings terms config link ch x (plain terms x) t e width typed kept is
        (taken-alike cleanings terms config link ch x t e typed is apart carried))

after-drop-alike : {w : ℕ} (cleanings : List (List (Beat w))) (terms : Terms) (config : Config) (link : Link)
    (ch : Channel) (x : Beat w) (t : Trace w) (e : End w) → IsWidth w → IsTyped (plain terms x) → IsKept config e
    → is_drop terms config link ch (plain terms x) e ≡ true → is_reporting link e.trace ≡ false
    → IsBeside x (slice_index_or cleanings link.0 []) → AreAllAlike terms cleanings t e.trace
    → AreAllAlike terms cleanings (carried_after link x (received terms
    (offered config link ch (plain terms x) (after_drop config link (block_of (plain terms x)) e))).0 t)
    (offered config link ch (plain terms x) (after_drop config link (block_of (plain terms x)) e)).1.trace
unfolding offered
after-drop-alike {w} cleanings terms config link ch x t e width typed kept is free apart carried =
    let k = block_of (plain terms x) in
    let parts = drop-parts terms config link ch (plain terms x) e is in
    let passes = passes-drop config link ch (plain terms x) e width kept parts.0 parts.1 free in
    let after = kept-offered config link Channel.C (release_beat k (recorded link.0 k e.trace)) e width tt kept in
    rw passes (rw passes at (passed-alike cleanings terms config link ch x (plain terms x) t (after_drop config link k e) width
    typed after passes (dropped-alike cleanings terms config link ch x t e width kept is free apart carried)))

pub carried-lenient : {w : ℕ} (cleanings : List (List (Beat w))) (terms : Terms) (config : Config) (link : Link)
    (ch : Channel) (x : Beat w) (t : Trace w) (e : End w) → IsWidth w → IsTyped x → IsKept config e
    → IsBeside x (slice_index_or cleanings link.0 []) → AreAllAlike terms cleanings t e.trace
    → AreAllAlike terms cleanings (carried_after link x (offered_lenient terms config link ch x e).0 t)
    (offered_lenient terms config link ch x e).1.trace
carried-lenient {w} cleanings terms config link ch x t e width typed kept apart carried =
    go (is_misnamed terms link x) refl
  where
    Goal : Type 0
    Goal = AreAllAlike terms cleanings (carried_after link x (offered_plain terms config link ch (plain terms x) e).0 t)
        (offered_plain terms config link ch (plain terms x) e).1.trace

    busy_or : (b : Bool) → is_reporting link e.trace ≡ b → is_drop terms config link ch (plain terms x) e ≡ true → Goal
    busy_or true busy is = rw (plain-waits terms config link ch (plain terms x) e is busy) carried
    busy_or false free is = rw (plain-dropped terms config link ch (plain terms x) e is free)
        (after-drop-alike cleanings terms config link ch x t e width (typed_plain terms x typed) kept is free apart carried)

    drop_or : (b : Bool) → is_drop terms config link ch (plain terms x) e ≡ b → Goal
    drop_or true is = busy_or (is_reporting link e.trace) refl is
    drop_or false is = rw (plain-kept terms config link ch (plain terms x) e is)
        (offered-alike cleanings terms config link ch x t e width (typed_plain terms x typed) kept apart carried)

    go : (b : Bool) → is_misnamed terms link x ≡ b
        → AreAllAlike terms cleanings (carried_after link x (offered_lenient terms config link ch x e).0 t)
        (offered_lenient terms config link ch x e).1.trace
    go true is = rw (offered-misnamed terms config link ch x e is) carried
    go false is = rw (offered-named terms config link ch x e is)
        (drop_or (is_drop terms config link ch (plain terms x) e) refl)
