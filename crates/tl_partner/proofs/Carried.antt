-- What the links carried, and the manager's histories, after any beat that is offered.
use Rattle.std.proofs.Common.{◌≡◌, ℕ, Bool, true, false, ◌&&◌, ◌==◌, List, ◌∷◌, ◌++◌, Some, None, refl, ap, sym}
use Rattle.std.proofs.Common.{◌∙◌, map}
use Rattle.std.proofs.lemmas.Bool.{and_parts, eq-eqb, eqb-true}
use Rattle.std.specs.Prelude.{if◌then◌else◌, unwrap_or}
use Rattle.tl_beat.specs.declared.beat.Beat.{Beat}
use Rattle.tl_beat.specs.declared.beat.BeatA.{BeatA}
use Rattle.tl_beat.specs.declared.beat.Link.{Link}
use Rattle.tl_beat.specs.declared.channel.Channel.{Channel}
use Rattle.tl_beat.specs.statement.Width.{IsWidth}
use Rattle.tl_burst.specs.statement.Burst.{beats_of}
use Rattle.tl_burst.specs.statement.Messages.{History}
unfoldable use Rattle.tl_burst.specs.statement.Messages.{unfinished}
use Rattle.tl_params.specs.declared.config.Config.{Config}
use Rattle.tl_params.specs.declared.perm.Perm.{Perm}
use Rattle.tl_rules.proofs.Sent.{request_of-other}
use Rattle.tl_rules.specs.statement.Conformance.{on_link}
use Rattle.tl_rules.specs.statement.History.{begins, block_at, is_acquire}
unfoldable use Rattle.tl_rules.specs.statement.History.{held, request_of}
use Rattle.tl_rules.specs.statement.Liberties.{grows_from_none}
unfoldable use Rattle.tl_rules.specs.statement.Liberties.{held_under}
use Rattle.tl_manager.proofs.calls.Keeping.{kept-offered}
use Rattle.tl_manager.proofs.pending.Handed.{other_link}
use Rattle.tl_manager.proofs.pending.LinkHistories.{other_beat}
use Rattle.tl_manager.proofs.pending.Probing.{request_of-c}
use Rattle.tl_manager.specs.code.Kept.{IsKept}
use Rattle.tl_manager.specs.statement.End.{End}
use Rattle.tl_manager.specs.statement.Handing.{release_ack}
use Rattle.tl_manager.specs.statement.Holders.{recorded}
use Rattle.tl_partner.specs.declared.terms.Terms.{Terms}
use Rattle.tl_partner.specs.laws.Carried.{AreAlike}
use Rattle.tl_partner.specs.statement.Dropping.{after_drop, is_reporting, release_beat, release_of}
use Rattle.tl_partner.specs.statement.Granting.{granted}
use Rattle.tl_partner.specs.statement.Naming.{plain}
use Rattle.tl_partner.proofs.Afterward.{heard, history-drop, reports-drop, requests-drop, said, trace-drop}
use Rattle.tl_partner.proofs.Drops.{IsDropped}
use Rattle.tl_partner.proofs.Passing.{bare_a}
use Rattle.tl_partner.proofs.Said.{empty, idle, recorded-drop}

-- ---- after what was dropped is said, and before the beat is taken that says so

-- alike but for this block, of which the manager records this
pub record AreAlikeBut {w : ℕ} (terms : Terms) (cleaning : List (Beat w)) (k : ℕ) (p : Perm) (t e : History w)
    : Type 0 where
  pub requests : unfinished Channel.A t ≡ unfinished Channel.A e
  pub named : (s : ℕ) → request_of s t ≡ request_of s e
  pub reports : map (plain terms) (unfinished Channel.C t) ≡ cleaning ++ unfinished Channel.C e
  pub answers : unfinished Channel.D t ≡ unfinished Channel.D e
  pub rest : (j : ℕ) → (k == j) ≡ false → held_under (granted terms) j t ≡ held j e
  pub now : held k e ≡ p

named-drop : {w : ℕ} (config : Config) (link : Link) (k : ℕ) (e : End w) (s : ℕ) → IsKept config e
    → IsDropped config link k e → is_reporting link e.trace ≡ false
    → request_of s (on_link link.0 (after_drop config link k e).trace) ≡ request_of s (on_link link.0 e.trace)
named-drop {w} config link k e s kept is free =
    ap (request_of s) (history-drop config link k e kept is free)
    ∙ request_of-other s (release_ack {w = w} 0) (heard link k e) (beats_of (release_ack {w = w} 0)) refl
    ∙ request_of-c s (release_of k (recorded link.0 k e.trace)) (on_link link.0 e.trace)

-- of the link itself
pub own-but : {w : ℕ} {cleaning : List (Beat w)} (terms : Terms) (config : Config) (link : Link) (k : ℕ) (t : History w) (e : End w) → IsWidth w
    → IsKept config e → IsDropped config link k e → is_reporting link e.trace ≡ false
    → AreAlike terms cleaning t (on_link link.0 e.trace)
    → AreAlikeBut terms cleaning k Perm.None t (on_link link.0 (after_drop config link k e).trace)
own-but {w} {cleaning} terms config link k t e width kept is free a =
    let after = kept-offered config link Channel.C (release_beat k (recorded link.0 k e.trace)) e width tt kept in
    record {
      requests = a.requests ∙ sym (requests-drop config link k e kept is free);
      named = λ s. a.named s ∙ sym (named-drop config link k e s kept is free);
      reports = a.reports
          ∙ ap (λ (c : List (Beat w)). cleaning ++ c) (idle link e free ∙ sym (reports-drop config link k e kept is free));
      answers = a.answers ∙ (kept.whole link.0).1 ∙ sym ((after.whole link.0).1);
      rest = λ j other. a.held j ∙ sym (recorded-drop config link k e link.0 j width kept is free
          ∙ rw (eq-eqb link.0 link.0 refl, other) refl);
      now = recorded-drop config link k e link.0 k width kept is free
          ∙ rw (eq-eqb link.0 link.0 refl, eq-eqb k k refl) refl;
    }

-- of the other links
pub others-drop : {w : ℕ} (config : Config) (link : Link) (k : ℕ) (e : End w) (client : ℕ) → IsKept config e
    → IsDropped config link k e → is_reporting link e.trace ≡ false → (link.0 == client) ≡ false
    → on_link client (after_drop config link k e).trace ≡ on_link client e.trace
others-drop config link k e client kept is free other =
    ap (on_link client) (trace-drop config link k e kept is free)
    ∙ other_link client link (release_ack 0) (said link k e) other
    ∙ other_beat client link (release_beat k (recorded link.0 k e.trace)) e.trace other

-- ---- the beat that says so

pub but-a : {w : ℕ} {cleaning : List (Beat w)} (terms : Terms) (x : BeatA w) (t e : History w) → terms.drops ≡ true
    → (is_acquire x.opcode && grows_from_none x.param) ≡ true → begins (Beat.A x) e ≡ true
    → AreAlikeBut terms cleaning (block_at x.address) Perm.None t e
    → AreAlike terms cleaning (Beat.A x ∷ t) (Beat.A x ∷ e)
unfolding unfinished request_of held held_under
but-a {w} terms x t e drops says begun a =
    let idle-e = empty (unfinished Channel.A e) begun in
    let parts = and_parts (is_acquire x.opcode) (grows_from_none x.param) says in
    record {
      requests = rw a.requests refl;
      named = λ s. rw (a.requests, a.named s) refl;
      reports = a.reports;
      answers = a.answers;
      held = λ j. rw (a.requests, idle-e, bare_a x.opcode parts.0, drops, parts.0, parts.1)
          (go j (block_at x.address == j) refl);
    }
  where
    go : (j : ℕ) (b : Bool) → (block_at x.address == j) ≡ b
        → unwrap_or (if b then Some Perm.None else None) (held_under (granted terms) j t) ≡ held j e
    go j true at = sym (ap (λ n. held n e) (sym (eqb-true (block_at x.address) j at)) ∙ a.now)
    go j false at = a.rest j at
