-- The stores that are told, and the words of an event.
use Rattle.std.proofs.Common.{◌≡◌, ◌∙◌, ◌+◌, ◌<◌, ◌≤◌, ℕ, zero, suc, ◌++◌, ◌∷◌, [], refl, ap₂, arith, List, append_assoc, sym, cond}
use Rattle.std.proofs.Common.{◌*◌, ◌^◌, ◌%◌, codes, length, replicate}
use Rattle.std.proofs.lemmas.List.{append-nil}
use Rattle.std.specs.Prelude.{Option, None, Result, Ok, Err, OnOk, is_ok, ⊤}
use Rattle.tl_events.specs.declared.commit.Commit.{Commit}
use Rattle.tl_events.specs.declared.commit.Commit.TheVariants as commit
use Rattle.tl_events.specs.statement.CommitLine.{IsCommit}
use Rattle.tl_commit_story.specs.code.Stored.{last_in}
use Rattle.tl_commit_words.specs.statement.CommitWords.{piece_in}
use Rattle.tl_commit_story.specs.statement.Cached.{Stored}
use Rattle.tl_beat.specs.declared.beat.Link.{Link}
use Rattle.tl_commits.specs.statement.Events.{Events}
use Rattle.tl_lines.specs.declared.fault.Fault.{Fault}
use Rattle.tl_events.specs.declared.commit.Event.{Event}
use Rattle.tl_commit_story.specs.statement.Words.{event_text, sentence_of}
use Rattle.tl_commit_story.specs.statement.Grounds.{front_of, number_or, store_words, stored_words, stores_from}

-- a commit that a line spells has at most 8 bytes
pub small-piece : (x : Commit) → IsCommit x → (piece_in x).size ≤ 3
small-piece (commit.Store piece value) is = is.0.small
small-piece (commit.Load piece value) is = is.0.small
small-piece (commit.Begin piece) is = is.small

-- stores that are the same at each place are told the same
pub stores-same : (f g : ℕ → Option Stored) (place count n : ℕ) → ((p : ℕ) → p < place + count → f p ≡ g p)
    → stores_from f place count n ≡ stores_from g place count n
unfolding stores_from
stores-same f g place zero n same = refl
stores-same f g place (suc count) n same =
    rw (same place (omega arith)) (ap₂ (λ (a b : List ℕ). a ++ b) refl
    (stores-same f g (place + 1) count (number_or n (g place)) (λ p lt. same p (omega (arith, lt)))))

-- no byte was stored
pub none-kept : (n place : ℕ) → last_in (replicate n None) place ≡ None
none-kept zero place = refl
none-kept (suc n) zero = refl
none-kept (suc n) (suc place) = none-kept n place

-- ---- one store after the other

module _ (last : ℕ → Option Stored) (place told left : ℕ) (was total : List ℕ) where
  pub store-told : (next n : ℕ) (is : List ℕ) → left ≡ suc n → was ++ stores_from last place left told ≡ total
      → is ≡ was ++ store_words told (last place) → next ≡ number_or told (last place)
      → is ++ stores_from last (place + 1) n next ≡ total
  unfolding stores_from
  store-told next n is some all says follows =
      rw (says, follows) (append_assoc was (store_words told (last place))
      (stores_from last (place + 1) n (number_or told (last place))) ∙ (rw some at all))

  pub all-told : left ≡ 0 → was ++ stores_from last place left told ≡ total → was ≡ total
  unfolding stores_from
  all-told none all = sym (append-nil was) ∙ (rw none at all)

-- ---- words that are appended

pub appended : {E : Type 0} (r : Result ⊤ E) (mid is other total : List ℕ) → is ≡ cond (is_ok r) (mid ++ other) mid
    → mid ++ other ≡ total → OnOk r (is ≡ total)
appended (Ok u) mid is other total says so = says ∙ so
appended (Err e) mid is other total says so = tt

pub stored-after : (was mid stores : List ℕ) → mid ≡ was ++ codes "  the last stores to these bytes:\n"
    → 1 ≤ length stores → mid ++ stores ≡ was ++ stored_words stores
stored-after was mid [] says some = absurd (omega arith)
stored-after was mid (b ∷ stores) says some =
    rw says (append_assoc was (codes "  the last stores to these bytes:\n") (b ∷ stores))

-- the sentence and the event, before the grounds
pub front-told : {w : ℕ} (fault : Fault) (number : ℕ) (link : Link) (x : Event w) (e : Events w)
    (was one two three is grounds : List ℕ) → number ≡ length e + 2 → was ≡ [] → one ≡ was ++ codes "  "
    → two ≡ one ++ sentence_of fault → three ≡ two ++ event_text number link x → is ≡ three ++ grounds
    → is ≡ front_of fault link x e ++ grounds
front-told fault number link x e was one two three is grounds at none first second third last =
    rw (last, third, second, first, none, at) refl
