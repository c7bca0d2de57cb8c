-- What is on a channel, the next to be taken first: for each message a key, which names what it is of.
use Rattle.tl_manager.specs.laws.Pending.{one_if}
use Rattle.std.specs.Prelude.{ℕ, Bool, true, false, List, [], ◌∷◌, ◌==◌, ◌&&◌, ◌+◌, ◌≡◌, if◌then◌else◌, ⊤}

-- accesses and their answers go by the source, all others by the block
pub data Kind : Type 0 where
  Request : Kind
  Acquire : Kind
  Probe : Kind
  ProbeAck : Kind
  Release : Kind
  Answer : Kind
  Grant : Kind
  ReleaseAck : Kind
  GrantAck : Kind

pub record Packet : Type 0 where
  pub kind : Kind
  pub number : ℕ

abbrev pub same_kind : Kind → Kind → Bool
same_kind Request Request = true
same_kind Acquire Acquire = true
same_kind Probe Probe = true
same_kind ProbeAck ProbeAck = true
same_kind Release Release = true
same_kind Answer Answer = true
same_kind Grant Grant = true
same_kind ReleaseAck ReleaseAck = true
same_kind GrantAck GrantAck = true
same_kind _ _ = false

-- the token is this one
abbrev pub is : Kind → ℕ → Packet → Bool
is k n x = same_kind x.kind k && (n == x.number)

-- how often it stands there
unfoldable pub count : Kind → ℕ → List Packet → ℕ
count k n [] = 0
count k n (x ∷ xs) = one_if (is k n x) + count k n xs

-- the tokens of this kind that stand there are those that pass the test, each once
abbrev pub Holds : Kind → List Packet → (ℕ → Bool) → Type 0
Holds k xs test = (n : ℕ) → count k n xs ≡ one_if (test n)

-- no ProbeAck of a block stands behind a Release of it
unfoldable pub IsOrdered : ℕ → List Packet → Type 0
IsOrdered b [] = ⊤
IsOrdered b (x ∷ xs) = (is Release b x ≡ true → count ProbeAck b xs ≡ 0) × IsOrdered b xs

-- with another value at one place
abbrev pub set : {X : Type 0} → ℕ → X → (ℕ → X) → ℕ → X
set k x f n = if n == k then x else f n

-- the same at one place of two numbers
abbrev pub set_at : {X : Type 0} → ℕ → ℕ → X → (ℕ → ℕ → X) → ℕ → ℕ → X
set_at c k x f = set c (set k x (f c)) f
