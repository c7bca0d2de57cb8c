-- A cleaning that has begun still starts from what is recorded, after any beat that isn't of it.
use Rattle.std.proofs.Common.{◌≡◌, ℕ, Bool, true, false, ◌&&◌, ◌==◌, List, [], ◌∷◌, None, refl, ap, subst, ◌∙◌}
use Rattle.std.proofs.lemmas.Bool.{and_parts, eq-eqb, eqb-true}
use Rattle.std.specs.Prelude.{if◌then◌else◌, slice_index_or}
use Rattle.tl_beat.specs.declared.beat.Beat.{Beat}
use Rattle.tl_beat.specs.declared.beat.BeatC.{BeatC}
use Rattle.tl_beat.specs.declared.beat.Link.{Link}
use Rattle.tl_beat.specs.declared.channel.Channel.{Channel}
use Rattle.tl_beat.specs.statement.Width.{IsWidth}
use Rattle.tl_burst.specs.statement.Messages.{History}
unfoldable use Rattle.tl_burst.specs.statement.Messages.{unfinished}
use Rattle.tl_params.specs.declared.config.Config.{Config}
use Rattle.tl_params.specs.declared.key.Key.TheVariants.{AcquireOf}
use Rattle.tl_rules.proofs.Sent.{pending-quiet}
use Rattle.tl_rules.specs.statement.Conformance.{Trace, on_link}
use Rattle.tl_rules.specs.statement.History.{block_at, is_acquire, pending}
use Rattle.tl_rules.specs.statement.Liberties.{grows_from_none, releases_from}
use Rattle.tl_manager.proofs.calls.Keeping.{kept-offered}
use Rattle.tl_manager.proofs.judging.Judged.{passed}
use Rattle.tl_manager.proofs.pending.Afterwards.{unfinished-offered}
use Rattle.tl_manager.proofs.pending.LinkHistories.{other_beat, own_beat, pending-opened}
use Rattle.tl_manager.proofs.services.Serving.{not_swapped}
use Rattle.tl_manager.specs.code.Kept.{IsKept, IsTyped}
use Rattle.tl_manager.specs.laws.Record.{reported_by}
use Rattle.tl_manager.specs.statement.End.{End}
use Rattle.tl_manager.specs.statement.Holders.{recorded}
use Rattle.tl_manager.specs.statement.Offer.{Breaks, Judgement, Passes, Waits, is_from_client, judged, offered_as}
unfoldable use Rattle.tl_manager.specs.statement.Offer.{offered}
use Rattle.tl_partner.specs.declared.terms.Terms.{Terms}
use Rattle.tl_partner.specs.laws.Carried.{AreAllUnderway, IsUnderway, IsUnderwayIfAny}
use Rattle.tl_partner.specs.statement.Dropping.{after_drop, block_of, is_drop, is_reporting, release_beat, says_none}
use Rattle.tl_partner.specs.statement.Granting.{granted}
use Rattle.tl_partner.specs.statement.Lenient.{offered_lenient, offered_plain}
use Rattle.tl_partner.specs.statement.Naming.{is_misnamed, plain}
use Rattle.tl_partner.specs.statement.Partner.{cleans}
use Rattle.tl_partner.proofs.Apart.{IsBeside, beside_plain, typed_plain}
use Rattle.tl_partner.proofs.Afterward.{pending-drop, reports-drop}
use Rattle.tl_partner.proofs.Carried.{others-drop}
use Rattle.tl_partner.proofs.Drops.{IsDropped}
use Rattle.tl_partner.proofs.Handings.{still}
use Rattle.tl_partner.proofs.Leniently.{offered-misnamed, offered-named, plain-dropped, plain-kept, plain-waits}
use Rattle.tl_partner.proofs.Passing.{drop-parts, is_dropped}
use Rattle.tl_partner.proofs.Said.{recorded-drop}

-- ---- a beat that is taken

turned : (b : Bool) (m n : ℕ) → (b && (m == n)) ≡ false → (b && (n == m)) ≡ false
turned true m n e = not_swapped m n e
turned false m n e = refl

unopened : (b : Bool) → (if b && false then true else false) ≡ false
unopened true = refl
unopened false = refl

free-own : {w : ℕ} (y : Beat w) (z : BeatC w) (burst : List (Beat w)) (h : History w) → is_from_client y ≡ true
    → IsBeside y (Beat.C z ∷ burst) → pending (AcquireOf (block_at z.address)) h ≡ false
    → pending (AcquireOf (block_at z.address)) (y ∷ h) ≡ false
free-own (Beat.A x) z burst h theirs apart free =
    pending-opened (AcquireOf (block_at z.address)) (Beat.A x) h refl
    ∙ rw (turned (is_acquire x.opcode) (block_at z.address) (block_at x.address) apart, free) (unopened _)
free-own (Beat.B x) z burst h theirs apart free = absurd cc
free-own (Beat.C x) z burst h theirs apart free = absurd cc
free-own (Beat.D x) z burst h theirs apart free = absurd cc
free-own (Beat.E x) z burst h theirs apart free =
    pending-quiet (AcquireOf (block_at z.address)) (Beat.E x) h refl refl ∙ free

alone-own : {w : ℕ} (y : Beat w) (z : BeatC w) (burst : List (Beat w)) (h : History w) → is_from_client y ≡ true
    → IsBeside y (Beat.C z ∷ burst) → unfinished Channel.C h ≡ [] → unfinished Channel.C (y ∷ h) ≡ []
unfolding unfinished
alone-own (Beat.A x) z burst h theirs apart alone = alone
alone-own (Beat.B x) z burst h theirs apart alone = absurd cc
alone-own (Beat.C x) z burst h theirs apart alone = absurd cc
alone-own (Beat.D x) z burst h theirs apart alone = absurd cc
alone-own (Beat.E x) z burst h theirs apart alone = alone

unsaid : {w : ℕ} (link : Link) (y : Beat w) (z : BeatC w) (burst : List (Beat w)) (t : Trace w) (client k : ℕ)
    → ((link.0 == client) ≡ true → IsBeside y (Beat.C z ∷ burst)) → reported_by (link, y) t client k ≡ None
unsaid link (Beat.A x) z burst t client k apart = refl
unsaid link (Beat.B x) z burst t client k apart = refl
unsaid {w} link (Beat.C x) z burst t client k apart = go (link.0 == client) refl
  where
    go : (b : Bool) → (link.0 == client) ≡ b → reported_by (link, Beat.C x) t client k ≡ None
    go true at = absurd (let no = apart at in cc)
    go false at = rw at refl
unsaid link (Beat.D x) z burst t client k apart = refl
unsaid link (Beat.E x) z burst t client k apart = refl

underway-taken : {w : ℕ} (terms : Terms) (config : Config) (link : Link) (ch : Channel) (y : Beat w) (e : End w)
    (client : ℕ) (z : BeatC w) (burst : List (Beat w)) → IsWidth w → IsTyped y → IsKept config e
    → judged config link ch y e ≡ Passes → ((link.0 == client) ≡ true → IsBeside y (Beat.C z ∷ burst))
    → IsUnderway terms z (on_link client e.trace)
    → IsUnderway terms z (on_link client (offered config link ch y e).1.trace)
unfolding offered
underway-taken {w} terms config link ch y e client z burst width typed kept passes apart is =
    let theirs = (passed config link ch y e typed passes).theirs in
    let stays = still config link ch y e client (block_at z.address) width typed kept passes
    (free (link.0 == client) refl theirs) (unsaid link y z burst e.trace client (block_at z.address) apart) in
    let reports = unfinished-offered config link ch y e client Channel.C width typed kept refl in
    record {
      cleans = is.cleans;
      alone = reports ∙ rw passes (alone (link.0 == client) refl theirs);
      free = stays.0;
      starts = ap (releases_from (granted terms) z.param) stays.1 ∙ is.starts;
    }
  where
    free : (b : Bool) → (link.0 == client) ≡ b → is_from_client y ≡ true
        → pending (AcquireOf (block_at z.address)) (on_link client ((link, y) ∷ e.trace)) ≡ false
    free true at theirs = ap (pending (AcquireOf (block_at z.address))) (own_beat client link y e.trace at)
        ∙ free-own y z burst (on_link client e.trace) theirs (apart at) is.free
    free false at theirs = ap (pending (AcquireOf (block_at z.address))) (other_beat client link y e.trace at) ∙ is.free

    alone : (b : Bool) → (link.0 == client) ≡ b → is_from_client y ≡ true
        → unfinished Channel.C (if b then y ∷ on_link client e.trace else on_link client e.trace) ≡ []
    alone true at theirs = alone-own y z burst (on_link client e.trace) theirs (apart at) is.alone
    alone false at theirs = is.alone

-- ---- any beat that the manager is offered

beside-at : {w : ℕ} (cleanings : List (List (Beat w))) (link : Link) (client : ℕ) (y : Beat w)
    → IsBeside y (slice_index_or cleanings link.0 []) → (link.0 == client) ≡ true
    → IsBeside y (slice_index_or cleanings client [])
beside-at {w} cleanings link client y apart at =
    subst (λ (n : ℕ). IsBeside y (slice_index_or cleanings n [])) (eqb-true link.0 client at) apart

underway-offered : {w : ℕ} (terms : Terms) (config : Config) (cleanings : List (List (Beat w))) (link : Link)
    (ch : Channel) (y : Beat w) (e : End w) → IsWidth w → IsTyped y → IsKept config e
    → IsBeside y (slice_index_or cleanings link.0 []) → AreAllUnderway terms cleanings e.trace
    → AreAllUnderway terms cleanings (offered config link ch y e).1.trace
unfolding offered
underway-offered {w} terms config cleanings link ch y e width typed kept apart all =
    go (judged config link ch y e) refl
  where
    one : (client : ℕ) (cleaning : List (Beat w)) → judged config link ch y e ≡ Passes
        → ((link.0 == client) ≡ true → IsBeside y cleaning)
        → IsUnderwayIfAny terms cleaning (on_link client e.trace)
        → IsUnderwayIfAny terms cleaning (on_link client (offered config link ch y e).1.trace)
    one client [] passes beside is = tt
    one client (Beat.C z ∷ burst) passes beside is =
        underway-taken terms config link ch y e client z burst width typed kept passes beside is
    one client v passes beside is = absurd is

    go : (j : Judgement) → judged config link ch y e ≡ j
        → AreAllUnderway terms cleanings (offered_as j config link y e).1.trace
    go (Breaks r) is = all
    go Waits is = all
    go Passes is =
        let taken : AreAllUnderway terms cleanings (offered config link ch y e).1.trace = λ client.
        one client (slice_index_or cleanings client []) is (beside-at cleanings link client y apart) (all client) in
        rw is at taken

-- ---- what was dropped

underway-drop : {w : ℕ} (terms : Terms) (config : Config) (cleanings : List (List (Beat w))) (link : Link) (k : ℕ)
    (e : End w) → IsWidth w → IsKept config e → IsDropped config link k e → is_reporting link e.trace ≡ false
    → cleans k (slice_index_or cleanings link.0 []) ≡ false → AreAllUnderway terms cleanings e.trace
    → AreAllUnderway terms cleanings (after_drop config link k e).trace
underway-drop {w} terms config cleanings link k e width kept is free apart all =
    λ client. go client (link.0 == client) refl
  where
    own : (cleaning : List (Beat w)) → cleans k cleaning ≡ false
        → IsUnderwayIfAny terms cleaning (on_link link.0 e.trace)
        → IsUnderwayIfAny terms cleaning (on_link link.0 (after_drop config link k e).trace)
    own [] other u = tt
    own (Beat.C z ∷ burst) other u = record {
      cleans = u.cleans;
      alone = reports-drop config link k e kept is free;
      free = pending-drop config link k e (AcquireOf (block_at z.address)) width kept is free (λ y t r. (refl, refl))
          (λ y t a g. (refl, rw g refl)) ∙ u.free;
      starts = ap (releases_from (granted terms) z.param)
          (recorded-drop config link k e link.0 (block_at z.address) width kept is free
          ∙ rw (eq-eqb link.0 link.0 refl, not_swapped (block_at z.address) k other) refl) ∙ u.starts;
    }
    own v other u = absurd u

    go : (client : ℕ) (b : Bool) → (link.0 == client) ≡ b
        → IsUnderwayIfAny terms (slice_index_or cleanings client [])
        (on_link client (after_drop config link k e).trace)
    go client true at =
        subst (λ (n : ℕ). IsUnderwayIfAny terms (slice_index_or cleanings n [])
        (on_link n (after_drop config link k e).trace)) (eqb-true link.0 client at)
        (own (slice_index_or cleanings link.0 []) apart (all link.0))
    go client false at = rw (others-drop config link k e client kept is free at) (all client)

-- a beat that says that nothing is held is of another block
other_block : {w : ℕ} (terms : Terms) (x : Beat w) (cleaning : List (Beat w)) → says_none (plain terms x) ≡ true
    → IsBeside x cleaning → cleans (block_of (plain terms x)) cleaning ≡ false
other_block terms (Beat.A x) cleaning says apart =
    rw (and_parts (is_acquire x.opcode) (grows_from_none x.param) says).0 at apart
other_block terms (Beat.B x) cleaning says apart = absurd cc
other_block terms (Beat.C x) cleaning says apart = ap (cleans (block_of (plain terms (Beat.C x)))) apart
other_block terms (Beat.D x) cleaning says apart = absurd cc
other_block terms (Beat.E x) cleaning says apart = absurd cc

-- ---- any beat of a client that takes liberties

pub underway-lenient : {w : ℕ} (terms : Terms) (config : Config) (cleanings : List (List (Beat w))) (link : Link)
    (ch : Channel) (x : Beat w) (e : End w) → IsWidth w → IsTyped x → IsKept config e
    → IsBeside x (slice_index_or cleanings link.0 []) → AreAllUnderway terms cleanings e.trace
    → AreAllUnderway terms cleanings (offered_lenient terms config link ch x e).1.trace
underway-lenient {w} terms config cleanings link ch x e width typed kept apart all = go (is_misnamed terms link x) refl
  where
    y : Beat w
    y = plain terms x

    typed_y : IsTyped y
    typed_y = typed_plain terms x typed

    beside : IsBeside y (slice_index_or cleanings link.0 [])
    beside = beside_plain terms x (slice_index_or cleanings link.0 []) apart

    Goal : Type 0
    Goal = AreAllUnderway terms cleanings (offered_plain terms config link ch y e).1.trace

    free_or : is_drop terms config link ch y e ≡ true → is_reporting link e.trace ≡ false → Goal
    free_or is free =
        let k = block_of y in
        let dropped = is_dropped terms config link ch y e kept is in
        let after = kept-offered config link Channel.C (release_beat k (recorded link.0 k e.trace)) e width tt kept in
        rw (plain-dropped terms config link ch y e is free)
        (underway-offered terms config cleanings link ch y (after_drop config link k e) width typed_y after beside
        (underway-drop terms config cleanings link k e width kept dropped free
        (other_block terms x (slice_index_or cleanings link.0 []) (drop-parts terms config link ch y e is).0 apart) all))

    busy_or : (b : Bool) → is_reporting link e.trace ≡ b → is_drop terms config link ch y e ≡ true → Goal
    busy_or true busy is = rw (plain-waits terms config link ch y e is busy) all
    busy_or false free is = free_or is free

    drop_or : (b : Bool) → is_drop terms config link ch y e ≡ b → Goal
    drop_or true is = busy_or (is_reporting link e.trace) refl is
    drop_or false is = rw (plain-kept terms config link ch y e is)
        (underway-offered terms config cleanings link ch y e width typed_y kept beside all)

    go : (b : Bool) → is_misnamed terms link x ≡ b
        → AreAllUnderway terms cleanings (offered_lenient terms config link ch x e).1.trace
    go true is = rw (offered-misnamed terms config link ch x e is) all
    go false is = rw (offered-named terms config link ch x e is) (drop_or (is_drop terms config link ch y e) refl)
