-- What is kept of a link, with one more beat of any link.
use Rattle.tl_memory.proofs.Imports.{IsWidth, Beat, BeatD, Link, on, unfinished, Level, base_of, Trace, IsLegal}
use Rattle.tl_memory.proofs.Imports.{on_link, begins, block_at, Access, KnowsGrant, Expected, LinkState}
use Rattle.tl_memory.proofs.Imports.{ExpectsResponse, Expects, is_to, AreLegal, KnowsLink}
use Rattle.std.proofs.Common.{◌≡◌, ℕ, Bool, true, false, ◌+◌, ◌*◌, ◌≤◌, List, [], ◌∷◌, length, Option, Some, None, refl}
use Rattle.std.proofs.Common.{sym, subst}
use Rattle.std.specs.Box.{box_value}
use Rattle.std.specs.Prelude.{option_map}
use Rattle.std.proofs.lemmas.Bool.{eq-eqb}
use Rattle.tl_beat.specs.declared.channel.Channel.{Channel}
use Rattle.tl_bytes.specs.statement.Bytes.{grants_truly, reads_truly}
use Rattle.tl_memory.{specs.code.Allowed.IsAllowed, specs.statement.Expecting.KnowsExpected}
use Rattle.tl_memory.{specs.statement.Links.KnowsMessages, proofs.lawful.OpenAccesses.other-link}
use Rattle.tl_memory.{proofs.lawful.OpenAccesses.own-link}
use Rattle.tl_memory.proofs.messages.Expecting.{expected-off, expected-on, expects-begun, expects-later}

-- ---- whether a beat is allowed

pub allowed-none : {w : ℕ} (o : Option Expected) (k : ℕ) (x : BeatD w) → o ≡ None → IsAllowed o k x true
allowed-none {w} o k x none = subst (λ q. IsAllowed q k x true) (sym none) anything
  where
    anything : IsAllowed {w = w} None k x true
    anything = record {
      anything = λ e. refl;
      granted = λ n asked t e room. absurd e;
      read = λ n access t e room. absurd e;
    }

pub allowed-some : {w : ℕ} (o : Option Expected) (e : Expected) (k : ℕ) (x : BeatD w) (b : Bool) → o ≡ Some e
    → ((n block : ℕ) (t : Trace w) → e.address ≡ 64 * block → e.size ≡ 6 → KnowsGrant e.bytes n block t → w * k + w ≤ 64
    → b ≡ grants_truly n block k x t) → ((n block : ℕ) (access : Access w) (t : Trace w)
    → Expects (Some e) n block (Some access) t → is_to block access ≡ true
    → base_of w access.request.address + w * k + w ≤ 64 → b ≡ reads_truly n (Some access) k x t) → IsAllowed o k x b
allowed-some {w} o e k x b is granted read = subst (λ q. IsAllowed q k x b) (sym is) some
  where
    some : IsAllowed {w = w} (Some e) k x b
    some = record {
      anything = λ none. absurd (let no : Some e ≡ None = none in cc);
      granted = λ n asked t known room. granted n asked.block t known.0 known.1 known.2 room;
      read = λ n access t known room. read n (block_at access.request.address) access t known
          (eq-eqb (block_at access.request.address) (block_at access.request.address) refl) room;
    }

-- ---- one more beat

pub link-first : {w : ℕ} (s : LinkState) (n link : ℕ) → KnowsMessages {w = w} s.messages []
    → KnowsLink {w = w} s n link []
unfolding on_link unfinished
link-first s n link messages = record {
  messages_are = messages;
  expected_is = λ y older is. absurd cc;
}

-- of another link
pub link-elsewhere : {w : ℕ} (levels : List Level) (is : IsWidth w) (s : LinkState) (n c : ℕ) (x : Link × Beat w)
    (t : Trace w) → AreLegal levels t → IsLegal levels x t → (x.0.0 ≡ c → ⊥) → KnowsLink s n c t
    → KnowsLink s n c (x ∷ t)
link-elsewhere levels is s n c x t legal fine other k = record {
  messages_are = subst (λ h. KnowsMessages s.messages h) (sym (other-link c x t other)) k.messages_are;
  expected_is = expected-off levels is c n x t legal fine (option_map box_value s.expected) k.expected_is
      (λ own. absurd (other own));
}

module _ {w : ℕ} (levels : List Level) (width : IsWidth w) (old new : LinkState) (n : ℕ) (link : Link) (x : Beat w)
    (t : Trace w)
    (k : KnowsLink old n link.0 t) (legal : AreLegal levels t) (fine : IsLegal levels (link, x) t)
    (messages : KnowsMessages new.messages (x ∷ on_link link.0 t)) where
  known : KnowsExpected (option_map box_value new.expected) n link.0 ((link, x) ∷ t) → KnowsLink new n link.0 ((link, x) ∷ t)
  known e = record {
    messages_are = subst (λ h. KnowsMessages new.messages h) (sym (own-link link.0 (link, x) t refl)) messages;
    expected_is = e;
  }

  -- of another channel
  pub link-other : ((y : BeatD w) → x ≡ Beat.D y → ⊥) → new.expected ≡ old.expected
      → KnowsLink new n link.0 ((link, x) ∷ t)
  link-other other same = known (subst (λ e. KnowsExpected (option_map box_value e) n link.0 ((link, x) ∷ t)) (sym same)
      (expected-off levels width link.0 n (link, x) t legal fine (option_map box_value old.expected) k.expected_is (λ own. off x other)))
    where
      off : (b : Beat w) → ((y : BeatD w) → b ≡ Beat.D y → ⊥) → on Channel.D b ≡ false
      off (Beat.D y) other = absurd (other y refl)
      off v other = refl

  -- the first of a response
  pub link-begins : (y : BeatD w) (begun : Option Expected) → x ≡ Beat.D y → option_map box_value new.expected ≡ begun
      → length (unfinished Channel.D (on_link link.0 t)) ≡ 0
      → (begins (Beat.D y) (on_link link.0 t) ≡ true → ExpectsResponse begun n link.0 y.opcode y.source t t)
      → KnowsLink new n link.0 ((link, x) ∷ t)
  link-begins y begun is same none first = known
      (subst (λ v. KnowsExpected (option_map box_value new.expected) n link.0 ((link, v) ∷ t)) (sym is)
      (subst (λ e. KnowsExpected e n link.0 ((link, Beat.D y) ∷ t)) (sym same)
      (expected-on levels link n y t legal fine_d width begun
      (expects-begun levels link n y t legal fine_d begun first none))))
    where
      fine_d : IsLegal levels (link, Beat.D y) t
      fine_d = subst (λ v. IsLegal levels (link, v) t) is fine

  -- and a later one
  pub link-goes_on : (y : BeatD w) → x ≡ Beat.D y → new.expected ≡ old.expected
      → (length (unfinished Channel.D (on_link link.0 t)) ≡ 0 → ⊥) → KnowsLink new n link.0 ((link, x) ∷ t)
  link-goes_on y is same some = known
      (subst (λ v. KnowsExpected (option_map box_value new.expected) n link.0 ((link, v) ∷ t)) (sym is)
      (subst (λ e. KnowsExpected (option_map box_value e) n link.0 ((link, Beat.D y) ∷ t)) (sym same)
      (expected-on levels link n y t legal fine_d width (option_map box_value old.expected)
      (expects-later levels link n y t legal fine_d (option_map box_value old.expected) k.expected_is some))))
    where
      fine_d : IsLegal levels (link, Beat.D y) t
      fine_d = subst (λ v. IsLegal levels (link, v) t) is fine
