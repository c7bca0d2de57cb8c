-- A beat that goes on with its message, and doesn't complete it, passes, and nothing is handed out for it.
use Rattle.tl_manager.proofs.Imports.{IsWidth, Beat, Link, Channel, Config, Perm, is_outside, is_spoiled, on_link}
use Rattle.tl_manager.proofs.Imports.{broken_in_order, ends, illegal, Trace, IsTyped, Knows, reaction, End, Sent}
use Rattle.tl_manager.proofs.Imports.{Passes, is_from_client, must_wait, judged, taken, offered_as, offered}
use Rattle.tl_manager.proofs.Imports.{IsLinkState, IsBlockState, ManagerState, LinkState, BlockState, with_handed, Each}
use Rattle.tl_manager.proofs.Imports.{IsSound, channel_of, unfinished}
use Rattle.std.proofs.Common.{◌≡◌, ℕ, Bool, true, false, List, [], ◌∷◌, length, Some, None, refl, sym, ap, ◌∙◌, subst}
use Rattle.std.{specs.Bool.OnTrue, specs.Bool.OnFalse, specs.Prelude.slice_get, specs.Prelude.slice_set}
use Rattle.tl_beat.specs.declared.beat.Beat.TheVariants.{A, B, C, D, E}
use Rattle.tl_burst.specs.statement.Part.{is_middle, part_of}
use Rattle.tl_burst.proofs.Begun.{GoesOn, middle-goes_on}
use Rattle.tl_manager.specs.code.BurstFor.{burst_for, burst_more, burst_with}
use Rattle.tl_manager.{specs.code.Knows.IsManager, specs.code.Lawful.IsLawfulSoFar, specs.statement.Offer.unlawful}
use Rattle.tl_manager.{proofs.blocks.Completed.done-part, proofs.calls.Carrying.last-is}
use Rattle.tl_manager.{proofs.calls.Carrying.knows-taken, proofs.calls.Offered.manager-after}
use Rattle.tl_manager.{proofs.judging.Judged.judged-passes, proofs.judging.Judged.passed}
use Rattle.tl_manager.{proofs.judging.Judging.burst-is, proofs.judging.Judging.level-open}
use Rattle.tl_manager.{proofs.messages.Later.inside-middle, proofs.messages.Later.lawful-so_far}
use Rattle.tl_manager.{proofs.messages.Sound.sound_on_link, proofs.words_of_clients.Lists.each_weaker}
use Rattle.tl_manager.{proofs.words_of_clients.Masks.each_unfinished}

free : {w : ℕ} (config : Config) (link : Link) (x : Beat w) (t : Trace w) → ends x (on_link link.0 t) ≡ false
    → must_wait config link x t ≡ false
free config link (A x) t more = rw more refl
free config link v t more = refl

-- what a link says of the beat
pub record IsMiddle {w : ℕ} (ch : Channel) (link_state : LinkState w) (x : Beat w) : Type 0 where
  pub theirs : is_from_client x ≡ true
  pub live : link_state.closed ≡ false
  pub lawful : illegal link_state.level ch x ≡ None
  pub clean : is_spoiled x ≡ false
  pub goes : GoesOn x (burst_for link_state.requests link_state.reports x)

passes-middle : {w : ℕ} (config : Config) (link : Link) (ch : Channel) (link_state : LinkState w) (x : Beat w)
    (e : End w) → Each (IsSound config) e.trace → IsLinkState config link_state link.0 e
    → IsMiddle ch link_state x → judged config link ch x e ≡ Passes
passes-middle {w} config link ch link_state x e sound is middle =
    let P = λ (y : Beat w). IsSound config (record { 0 = link.0 }, y) in
    let here = subst (λ (b : List (Beat w)). GoesOn x b)
    (burst-is link_state link.0 x e.trace middle.theirs is.carried) middle.goes in
    let lawful : unlawful link_state.level ch x ≡ None = rw (middle.theirs) middle.lawful in
    let order : broken_in_order config.profile x (on_link link.0 e.trace) ≡ None =
    rw (here.begun_before, here.continues) refl in
    let inside = inside-middle config.blocks x (unfinished (channel_of x) (on_link link.0 e.trace)) middle.theirs here
    (each_weaker P (λ y. is_outside config.blocks y ≡ false) (unfinished (channel_of x) (on_link link.0 e.trace))
    (λ y ok. ok.inside) (each_unfinished P (channel_of x) (on_link link.0 e.trace)
    (sound_on_link config link.0 e.trace sound))) in
    judged-passes config link_state.level link ch x e (level-open config link link_state e is middle.live) lawful order
    (free config link x e.trace here.leaves_more) inside middle.clean

requests-more : {w : ℕ} (x : Beat w) (requests reports : List (Beat w)) → GoesOn x (burst_for requests reports x)
    → burst_more Channel.A x requests ≡ burst_with Channel.A x requests
requests-more (A x) requests reports goes = rw (goes.leaves_more) refl
requests-more v requests reports goes = refl

reports-more : {w : ℕ} (x : Beat w) (requests reports : List (Beat w)) → GoesOn x (burst_for requests reports x)
    → burst_more Channel.C x reports ≡ burst_with Channel.C x reports
reports-more (C x) requests reports goes = rw (goes.leaves_more) refl
reports-more v requests reports goes = refl

-- what becomes of the end by such a beat
abbrev pub Follows : {w : ℕ} {M : Type 0} → (M → ℕ → ℕ → Perm) → ManagerState w M → ManagerState w M → Config → Link
    → Channel → Beat w → End w → Type 0
Follows perm_of old new config link ch x e =
    (judged config link ch x e ≡ Passes) × ([] ≡ (reaction config link x e).handed)
    × Knows perm_of new config (taken link x (reaction config link x e) e)

pub follows-middle : {w : ℕ} {M : Type 0} (perm_of : M → ℕ → ℕ → Perm) (old new : ManagerState w M) (config : Config)
    (link : Link) (ch : Channel) (before after : LinkState w) (x : Beat w) (e : End w) → IsWidth w → IsTyped x
    → IsMiddle ch before x → new.link_states.items ≡ slice_set old.link_states.items link.0 after
    → slice_get old.link_states.items link.0 ≡ Some before
    → after.level ≡ before.level → after.closed ≡ before.closed
    → after.requests ≡ burst_more Channel.A x before.requests
    → after.reports ≡ burst_more Channel.C x before.reports → new.block_state ≡ old.block_state
    → Knows perm_of old config e → Follows perm_of old new config link ch x e
follows-middle {w} {M} perm_of old new config link ch before after x e width typed middle link_states found level
    closed requests reports same k =
    let here = k.link_states link.0 before found in
    let passes = passes-middle config link ch before x e k.kept.sound here middle in
    let ok = passed config link ch x e typed passes in
    let part = last-is config link before x e false ok here (sym middle.goes.leaves_more) in
    let done = done-part perm_of config old.block_state link x e ok.theirs part k.block_state in (
      passes,
      done.0,
      knows-taken perm_of old new config link before after x e width ok link_states found level closed
          (requests ∙ requests-more x before.requests before.reports middle.goes)
          (reports ∙ reports-more x before.requests before.reports middle.goes)
          (ap (λ (b : BlockState w M). length b.blocks.bytes.items) same)
          (subst (λ (b : BlockState w M). IsBlockState perm_of config b
          (with_handed (reaction config link x e).handed ((link, x) ∷ e.trace)) (reaction config link x e).memory)
          (sym same) done.1) k,
    )

-- where a beat was taken so, of any end that was known
abbrev pub FollowsAny : {w : ℕ} {M : Type 0} → (M → ℕ → ℕ → Perm) → ManagerState w M → ManagerState w M → Link → Channel
    → Beat w → Type 0
FollowsAny {w} perm_of old new link ch x = (config : Config) (e : End w) → Knows perm_of old config e
    → Follows perm_of old new config link ch x e

pub follows-any : {w : ℕ} {M : Type 0} (perm_of : M → ℕ → ℕ → Perm) (old new : ManagerState w M) (link : Link)
    (ch : Channel) (before after : LinkState w) (x : Beat w) (b : Bool) → IsWidth w
    → OnTrue b (is_from_client x ≡ true) → OnTrue b (IsTyped x)
    → OnTrue b (before.closed ≡ false) → OnTrue b (IsLawfulSoFar before → illegal before.level ch x ≡ None)
    → OnTrue b (is_spoiled x ≡ false)
    → OnTrue b (is_middle (part_of x (burst_for before.requests before.reports x)) ≡ true)
    → OnTrue b (after.requests ≡ burst_more Channel.A x before.requests)
    → OnTrue b (after.reports ≡ burst_more Channel.C x before.reports)
    → after.level ≡ before.level → after.closed ≡ before.closed
    → new.link_states.items ≡ slice_set old.link_states.items link.0 after
    → slice_get old.link_states.items link.0 ≡ Some before → new.block_state ≡ old.block_state
    → OnTrue b (FollowsAny perm_of old new link ch x)
follows-any perm_of old new link ch before after x true width theirs typed live lawful clean middle requests
    reports level closed link_states found same = λ config e k.
    let middle_is : IsMiddle ch before x = record {
      theirs = theirs;
      live = live;
      lawful = lawful (lawful-so_far config before link.0 e k.kept.sound (k.link_states link.0 before found));
      clean = clean;
      goes = middle-goes_on x (burst_for before.requests before.reports x) middle;
    } in
    follows-middle perm_of old new config link ch before after x e width typed middle_is link_states found level closed
    requests reports same k
follows-any perm_of old new link ch before after x false width theirs typed live lawful clean middle requests
    reports level closed link_states found same = tt

-- ---- the answer

offered-middle : {w : ℕ} (config : Config) (link : Link) (ch : Channel) (x : Beat w) (e : End w)
    → judged config link ch x e ≡ Passes
    → offered config link ch x e ≡ (Sent (reaction config link x e).handed, taken link x (reaction config link x e) e)
unfolding offered
offered-middle config link ch x e passes = ap (λ j. offered_as j config link x e) passes

pub answer-middle : {w : ℕ} {M : Type 0} (perm_of : M → ℕ → ℕ → Perm) (old new : ManagerState w M) (link : Link)
    (ch : Channel) (x : Beat w) (b : Bool) → OnTrue b (FollowsAny perm_of old new link ch x)
    → OnTrue b ((config : Config) (e : End w) → Knows perm_of old config e
    → Sent [] ≡ (offered config link ch x e).0)
answer-middle perm_of old new link ch x true follows = λ config e k.
    let here = follows config e k in
    rw (offered-middle config link ch x e here.0) (ap Sent here.1)
answer-middle perm_of old new link ch x false follows = tt

pub after-middle : {w : ℕ} {M : Type 0} (perm_of : M → ℕ → ℕ → Perm) (old new : ManagerState w M) (link : Link)
    (ch : Channel) (x : Beat w) (b : Bool) → OnTrue b (FollowsAny perm_of old new link ch x)
    → OnTrue b ((config : Config) (e : End w) → Knows perm_of old config e
    → Knows perm_of new config (offered config link ch x e).1)
after-middle perm_of old new link ch x true follows = λ config e k.
    let here = follows config e k in
    rw (offered-middle config link ch x e here.0) here.2
after-middle perm_of old new link ch x false follows = tt

pub manager-middle : {w : ℕ} {M : Type 0} (perm_of : M → ℕ → ℕ → Perm) (blocks_of clients_of : M → ℕ)
    (old new : ManagerState w M) (link : Link) (ch : Channel) (x : Beat w) (b : Bool)
    → OnTrue b (FollowsAny perm_of old new link ch x) → OnFalse b (new ≡ old) → new.block_state ≡ old.block_state
    → IsManager perm_of blocks_of clients_of old → IsManager perm_of blocks_of clients_of new
manager-middle {w} {M} perm_of blocks_of clients_of old new link ch x true follows unchanged same known =
    manager-after perm_of blocks_of clients_of old new _ known (follows known.config known.end known.knows).2
    (ap (λ (s : BlockState w M). blocks_of s.directory) same)
    (ap (λ (s : BlockState w M). clients_of s.directory) same)
manager-middle {w} {M} perm_of blocks_of clients_of old new link ch x false follows unchanged same known =
    subst (λ (s : ManagerState w M). IsManager perm_of blocks_of clients_of s) (sym unchanged) known
