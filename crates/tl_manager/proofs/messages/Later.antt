-- A beat that goes on with a message that breaks no rule by itself breaks none.
use Rattle.tl_manager.proofs.Imports.{Beat, BeatA, BeatC, Channel, Config, Level, on_link, illegal, same_control}
use Rattle.tl_manager.proofs.Imports.{a_control, a_own, illegal_a, both_none, Each, IsSound, End, level_of, IsLinkState}
use Rattle.tl_manager.proofs.Imports.{LinkState, is_from_client, is_outside}
use Rattle.std.proofs.Common.{◌≡◌, ℕ, Bool, true, false, List, [], ◌∷◌, None, Some, refl, sym, ◌∙◌, subst}
use Rattle.std.{specs.Bool.OnTrue, proofs.lemmas.Bool.not-false}
use Rattle.tl_beat.specs.declared.beat.Beat.TheVariants.{A, C, D, E}
use Rattle.tl_burst.{specs.statement.Part.is_middle, specs.statement.Part.part_of, proofs.Begun.GoesOn}
use Rattle.tl_burst.{proofs.Begun.middle-goes_on, proofs.ControlFields.control_a, proofs.ControlFields.control_c}
use Rattle.tl_rules.{proofs.Verdicts.illegal_c, specs.code.Control.c_control, specs.code.Control.c_own}
use Rattle.tl_rules.{specs.statement.Legality.a_has_mask}
use Rattle.tl_manager.{specs.code.BurstFor.burst_for, proofs.messages.Sound.sound_on_link}
use Rattle.tl_manager.{proofs.words_of_clients.Masks.each_unfinished}
use Rattle.tl_manager.specs.code.Lawful.{IsLawful, IsLawfulSoFar, IsFit}

-- ---- a beat that goes on with its message

later_a : {w : ℕ} (l : Level) (x y : BeatA w) → illegal l Channel.A (A y) ≡ None
    → same_control (A x) (A y) ≡ true → x.corrupt ≡ false
    → a_has_mask w x.opcode x.size x.address x.mask ≡ true → illegal l Channel.A (A x) ≡ None
later_a {w} l x y legal same clean mask =
    let k = control_a x y same in
    let before = (both_none (a_control w l y.opcode y.param y.size y.address)
    (a_own w y.opcode y.size y.address y.mask y.corrupt) (sym (illegal_a l y) ∙ legal)).0 in
    let control : a_control w l x.opcode x.param x.size x.address ≡ None = rw (k.0, k.1, k.2, k.4) before in
    illegal_a l x ∙ rw (control, mask, clean) refl

later_c : {w : ℕ} (l : Level) (x y : BeatC w) → illegal l Channel.C (C y) ≡ None
    → same_control (C x) (C y) ≡ true → x.corrupt ≡ false → illegal l Channel.C (C x) ≡ None
later_c {w} l x y legal same clean =
    let k = control_c x y same in
    let before = (both_none (c_control l y.opcode y.param y.size y.source y.address) (c_own y.opcode y.corrupt)
    (sym (illegal_c l y) ∙ legal)).0 in
    let control : c_control l x.opcode x.param x.size x.source x.address ≡ None =
    rw (k.0, k.1, k.2, k.3, k.4) before in
    illegal_c l x ∙ rw (control, clean) refl

next_a : {w : ℕ} (l : Level) (x : BeatA w) (burst : List (Beat w)) → GoesOn (A x) burst → IsLawful l burst
    → x.corrupt ≡ false → a_has_mask w x.opcode x.size x.address x.mask ≡ true → illegal l Channel.A (A x) ≡ None
next_a l x [] goes lawful clean mask = let e = goes.begun_before in absurd cc
next_a l x (A y ∷ burst) goes lawful clean mask =
    later_a l x y lawful (not-false (same_control (A x) (A y)) goes.continues) clean mask
next_a l x (y ∷ burst) goes lawful clean mask = let e = goes.continues in absurd cc

next_c : {w : ℕ} (l : Level) (x : BeatC w) (burst : List (Beat w)) → GoesOn (C x) burst → IsLawful l burst
    → x.corrupt ≡ false → illegal l Channel.C (C x) ≡ None
next_c l x [] goes lawful clean = let e = goes.begun_before in absurd cc
next_c l x (C y ∷ burst) goes lawful clean =
    later_c l x y lawful (not-false (same_control (C x) (C y)) goes.continues) clean
next_c l x (y ∷ burst) goes lawful clean = let e = goes.continues in absurd cc

next : {w : ℕ} (link_state : LinkState w) (ch : Channel) (x : Beat w) → IsFit ch x
    → GoesOn x (burst_for link_state.requests link_state.reports x) → IsLawfulSoFar link_state
    → illegal link_state.level ch x ≡ None
next link_state Channel.A (A x) fit goes lawful =
    next_a link_state.level x link_state.requests goes lawful.0 fit.0 fit.1
next link_state Channel.C (C x) fit goes lawful = next_c link_state.level x link_state.reports goes lawful.1 fit
next link_state ch x fit goes lawful = absurd fit

-- what is known of a beat in the middle of its message
pub lawful-middle : {w : ℕ} (link_state : LinkState w) (ch : Channel) (x : Beat w) (b : Bool) → IsFit ch x
    → OnTrue b (is_middle (part_of x (burst_for link_state.requests link_state.reports x)) ≡ true)
    → OnTrue b (IsLawfulSoFar link_state → illegal link_state.level ch x ≡ None)
lawful-middle link_state ch x true fit middle = λ lawful.
    next link_state ch x fit (middle-goes_on x (burst_for link_state.requests link_state.reports x) middle) lawful
lawful-middle link_state ch x false fit middle = tt

-- it is of a block of the map, as those before it are
pub inside-middle : {w : ℕ} (blocks : ℕ) (x : Beat w) (burst : List (Beat w)) → is_from_client x ≡ true
    → GoesOn x burst → Each (λ y. is_outside blocks y ≡ false) burst → is_outside blocks x ≡ false
inside-middle blocks (D x) burst theirs goes each = absurd cc
inside-middle blocks (E x) burst theirs goes each = refl
inside-middle blocks x [] theirs goes each = let e = goes.begun_before in absurd cc
inside-middle blocks (A x) (A y ∷ burst) theirs goes each =
    let k = control_a x y (not-false (same_control (A x) (A y)) goes.continues) in rw (k.4) each.0
inside-middle blocks (C x) (C y ∷ burst) theirs goes each =
    let k = control_c x y (not-false (same_control (C x) (C y)) goes.continues) in rw (k.4) each.0
inside-middle blocks x (y ∷ burst) theirs goes each = let e = goes.continues in absurd cc

-- ---- the messages of a link at the manager's end

newest-lawful : {w : ℕ} (config : Config) (l : Level) (client : ℕ) (burst : List (Beat w))
    → level_of config client ≡ Some l → Each (λ y. IsSound config (record { 0 = client }, y)) burst → IsLawful l burst
newest-lawful config l client [] level each = tt
newest-lawful config l client (x ∷ burst) level each = rw level at each.0.lawful

pub lawful-so_far : {w : ℕ} (config : Config) (link_state : LinkState w) (client : ℕ) (e : End w)
    → Each (IsSound config) e.trace → IsLinkState config link_state client e → IsLawfulSoFar link_state
lawful-so_far {w} config link_state client e sound is =
    let P = λ (y : Beat w). IsSound config (record { 0 = client }, y) in
    let of_link = sound_on_link config client e.trace sound in
    let requests = subst (λ (b : List (Beat w)). Each P b) (sym is.carried.requests)
    (each_unfinished P Channel.A (on_link client e.trace) of_link) in
    let reports = subst (λ (b : List (Beat w)). Each P b) (sym is.carried.reports)
    (each_unfinished P Channel.C (on_link client e.trace) of_link) in (
      newest-lawful config link_state.level client link_state.requests is.level requests,
      newest-lawful config link_state.level client link_state.reports is.level reports,
    )
