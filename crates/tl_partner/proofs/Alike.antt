-- What one more beat leaves alike of what a link carried and of the manager's history.
use Rattle.std.proofs.Common.{◌≡◌, ℕ, Bool, true, false, ◌&&◌, ◌==◌, ◌+◌, List, [], ◌∷◌}
use Rattle.std.proofs.Common.{Some, None, refl, ap, sym, ◌∙◌, length, map}
use Rattle.std.proofs.lemmas.Bool.{eqb-true}
use Rattle.std.proofs.lemmas.List.{length-map}
use Rattle.std.specs.Prelude.{if◌then◌else◌, unwrap_or}
use Rattle.tl_beat.specs.declared.beat.Beat.{Beat}
use Rattle.tl_beat.specs.declared.beat.BeatA.{BeatA}
use Rattle.tl_beat.specs.declared.beat.BeatB.{BeatB}
use Rattle.tl_beat.specs.declared.beat.BeatC.{BeatC}
use Rattle.tl_beat.specs.declared.beat.BeatD.{BeatD}
use Rattle.tl_beat.specs.declared.beat.BeatE.{BeatE}
use Rattle.tl_beat.specs.declared.channel.Channel.{Channel}
use Rattle.tl_burst.specs.statement.Messages.{History, burst_length, grown}
unfoldable use Rattle.tl_burst.specs.statement.Messages.{unfinished}
use Rattle.tl_params.specs.declared.perm.Perm.{Perm}
use Rattle.tl_rules.specs.statement.History.{begins, block_at, ends, is_acquire, is_probe_ack}
unfoldable use Rattle.tl_rules.specs.statement.History.{held, request_of}
use Rattle.tl_rules.specs.statement.Liberties.{grows_from_none}
unfoldable use Rattle.tl_rules.specs.statement.Liberties.{held_under}
use Rattle.tl_partner.specs.declared.terms.Terms.{Terms}
use Rattle.tl_partner.specs.laws.Carried.{AreAlike}
use Rattle.tl_partner.specs.statement.Naming.{from_zero, plain}

-- ---- channels B and E

pub keeps : (b : Bool) (p : Perm) → (if b then unwrap_or None p else p) ≡ p
keeps true p = refl
keeps false p = refl

pub alike-b : {w : ℕ} {cleaning : List (Beat w)} (terms : Terms) (x y : BeatB w) (t e : History w) → AreAlike terms cleaning t e
    → AreAlike terms cleaning (Beat.B x ∷ t) (Beat.B y ∷ e)
unfolding unfinished request_of held held_under
alike-b terms x y t e a = record {
  requests = a.requests;
  named = λ s. a.named s;
  reports = a.reports;
  answers = a.answers;
  held = λ k. keeps (ends (Beat.B x) t) _ ∙ a.held k ∙ sym (keeps (ends (Beat.B y) e) _);
}

pub alike-e : {w : ℕ} {cleaning : List (Beat w)} (terms : Terms) (x : BeatE) (t e : History w) → AreAlike terms cleaning t e
    → AreAlike terms cleaning (Beat.E x ∷ t) (Beat.E x ∷ e)
unfolding unfinished request_of held held_under
alike-e {w} terms x t e a = record {
  requests = a.requests;
  named = λ s. a.named s;
  reports = a.reports;
  answers = a.answers;
  held = λ k. keeps (ends {w = w} (Beat.E x) t) _ ∙ a.held k ∙ sym (keeps (ends {w = w} (Beat.E x) e) _);
}

-- ---- channel A

-- what an Acquire says from nothing held
says_a : (c here last : Bool) (p q : Perm) → p ≡ q → (c ≡ true → here ≡ true → q ≡ Perm.None)
    → (if last then unwrap_or (if c then (if here then Some Perm.None else None) else None) p else p) ≡ q
says_a true true true p q e f = sym (f refl refl)
says_a true false true p q e f = e
says_a false here true p q e f = e
says_a c here false p q e f = e

pub alike-a : {w : ℕ} {cleaning : List (Beat w)} (terms : Terms) (x : BeatA w) (t e : History w) → AreAlike terms cleaning t e
    → ((begins (Beat.A x) e && (is_acquire x.opcode && grows_from_none x.param)) ≡ true
    → held (block_at x.address) e ≡ Perm.None)
    → AreAlike terms cleaning (Beat.A x ∷ t) (Beat.A x ∷ e)
unfolding unfinished request_of held held_under
alike-a {w} terms x t e a none = record {
  requests = rw a.requests refl;
  named = λ s. rw (a.requests, a.named s) refl;
  reports = a.reports;
  answers = a.answers;
  held = λ k. rw a.requests (says_a
      (terms.drops && (begins (Beat.A x) e && (is_acquire x.opcode && grows_from_none x.param)))
      (block_at x.address == k) (ends (Beat.A x) e) _ _ (a.held k) (λ c here. ap (λ n. held n e)
      (sym (eqb-true (block_at x.address) k here)) ∙ none (second terms.drops _ c)))
      ∙ sym (keeps (ends (Beat.A x) e) _);
}
  where
    second : (b c : Bool) → (b && c) ≡ true → c ≡ true
    second true c f = f
    second false c f = absurd cc

-- ---- channel C

pub grown-map : {w : ℕ} (terms : Terms) (x y : Beat w) (burst : List (Beat w)) → plain terms x ≡ y
    → burst_length x ≡ burst_length y → map (plain terms) (grown x burst) ≡ grown y (map (plain terms) burst)
grown-map terms x y burst is long = rw (length-map burst (plain terms), ← long)
    (go (length burst + 1 == burst_length x))
  where
    go : (b : Bool) → map (plain terms) (if b then [] else x ∷ burst)
        ≡ (if b then [] else y ∷ map (plain terms) burst)
    go true = refl
    go false = ap (λ z. z ∷ map (plain terms) burst) is

-- the beat in the manager's history has the fields that count
pub alike_as : {w : ℕ} (terms : Terms) (x y : BeatC w) (t e : History w) → AreAlike terms [] t e
    → plain terms (Beat.C x) ≡ Beat.C y → y.opcode ≡ x.opcode → y.param ≡ x.param → y.address ≡ x.address
    → y.size ≡ x.size → AreAlike terms [] (Beat.C x ∷ t) (Beat.C y ∷ e)
unfolding unfinished request_of held held_under
alike_as {w} terms x y t e a is opcode param address size =
    let long : burst_length (Beat.C x) ≡ burst_length (Beat.C y) = rw (opcode, size) refl in
    let last : ends (Beat.C x) t ≡ ends (Beat.C y) e =
    rw (← a.reports, length-map (unfinished Channel.C t) (plain terms), long) refl in
    record {
      requests = a.requests;
      named = λ s. a.named s;
      reports = grown-map terms (Beat.C x) (Beat.C y) (unfinished Channel.C t) is long
          ∙ ap (grown (Beat.C y)) a.reports;
      answers = a.answers;
      held = λ k. rw (last, a.held k, opcode, param, address) refl;
    }

pub alike-c : {w : ℕ} (terms : Terms) (x : BeatC w) (t e : History w) → AreAlike terms [] t e
    → AreAlike terms [] (Beat.C x ∷ t) (plain terms (Beat.C x) ∷ e)
alike-c {w} terms x t e a = go (terms.ids && is_probe_ack x.opcode) refl
  where
    go : (b : Bool) → (terms.ids && is_probe_ack x.opcode) ≡ b
        → AreAlike terms [] (Beat.C x ∷ t) (plain terms (Beat.C x) ∷ e)
    go true is = rw is (alike_as terms x (from_zero x) t e a (rw is refl) refl refl refl refl)
    go false is = rw is (alike_as terms x x t e a (rw is refl) refl refl refl refl)

-- ---- channel D

pub alike-d : {w : ℕ} {cleaning : List (Beat w)} (terms : Terms) (x : BeatD w) (t e : History w) → AreAlike terms cleaning t e
    → AreAlike terms cleaning (Beat.D x ∷ t) (Beat.D x ∷ e)
unfolding unfinished request_of held held_under
alike-d {w} terms x t e a = record {
  requests = a.requests;
  named = λ s. a.named s;
  reports = a.reports;
  answers = rw a.answers refl;
  held = λ k. rw (a.answers, a.named x.source, a.held k) refl;
}
