-- One of the possible values of a byte is v: it stays so with a beat after which a link that held the block holds it
-- still.
use Rattle.std.proofs.Common.{◌≡◌, ℕ, Bool, true, false, not, List, ◌∷◌, inl, length, refl}
use Rattle.std.specs.Prelude.{if◌then◌else◌, nat_lt, Option, Some, None, find}
use Rattle.std.proofs.lemmas.Bool.{not-false}
use Rattle.tl_beat.specs.declared.beat.Beat.{Beat}
use Rattle.tl_beat.specs.declared.beat.Link.{Link}
use Rattle.tl_beat.specs.declared.channel.Channel.{Channel}
unfoldable use Rattle.tl_burst.specs.statement.Messages.{unfinished}
use Rattle.tl_params.specs.declared.perm.Perm.{Perm}
use Rattle.tl_rules.specs.statement.Conformance.{Trace}
unfoldable use Rattle.tl_rules.specs.statement.Conformance.{on_link}
use Rattle.tl_rules.specs.statement.History.{block_at}
use Rattle.tl_bytes.specs.declared.telling.Telling.{Telling}
use Rattle.tl_bytes.specs.statement.Bytes.{Access, access_writes, after_answer, after_beat, after_settling, after_write}
use Rattle.tl_bytes.specs.statement.Bytes.{could_be, is_denied, is_of, is_settled, same_value, told_as, told_too}
use Rattle.tl_bytes.specs.statement.Bytes.{value_left}
unfoldable use Rattle.tl_bytes.specs.statement.Bytes.{last_told, last_window, pending_accesses}
use Rattle.tl_bytes.specs.statement.Early.{ends_request}
unfoldable use Rattle.tl_bytes.specs.statement.Free.{is_free}
use Rattle.tl_bytes.proofs.Finding.{Among, among-or, found-among}
use Rattle.tl_one_memory.proofs.Covered.{could_be-same}

-- one of these possible values is v, or any
abbrev pub MayBe : ℕ → List Telling → Type 0
MayBe v values = Among (λ (e : Telling). could_be v e.value ≡ true) values

pub told-so : (v : ℕ) (values : List Telling) → MayBe v values → told_as v values ≡ true
told-so v values is = found-among (λ (e : Telling). could_be v e.value ≡ true) (λ (e : Telling). could_be v e.value)
    values
    (λ e could. could) is

told-too : (v : ℕ) (now : Telling) (before : List Telling) → MayBe v before → MayBe v (told_too now before)
told-too v now before is = among-or (λ (e : Telling). could_be v e.value ≡ true)
    (λ (e : Telling). not (same_value e.value now.value)) now before
    (λ e could same. could_be-same v e.value now.value could (not-false (same_value e.value now.value) same)) is

module _ {w : ℕ} (n address v link : ℕ) (t : Trace w) (held : is_free n Perm.Trunk (block_at address) t ≡ false) where
  after-write : (access : Access w) (denied : Bool) (now : Telling) (before : List Telling) → MayBe v before
      → MayBe v (after_write n (block_at address) access denied now t before)
  after-write access denied now before is =
      rw held (go (nat_lt (last_window n (block_at address) t) (last_told (block_at address) t)))
    where
      go : (b : Bool) → MayBe v (if b then before else told_too now before)
      go true = is
      go false = told-too v now before is

  after-answer : (o : Option (Access w)) (answer : List (Beat w)) (before : List Telling) → MayBe v before
      → MayBe v (after_answer n address o answer t before)
  after-answer None answer before is = is
  after-answer (Some access) answer before is = go (access_writes address access)
    where
      go : (b : Bool) → MayBe v (if b then after_write n (block_at address) access (is_denied answer) (record {
        value = value_left access.request.opcode access answer address;
        moment = length t;
      }) t before else before)
      go true = after-write access (is_denied answer) _ before is
      go false = is

  pub after-beat : (x : Beat w) (before : List Telling) → MayBe v before
      → MayBe v (after_beat n address link x t before)
  after-beat (Beat.A x) before is = is
  after-beat (Beat.B x) before is = is
  after-beat (Beat.C x) before is = is
  after-beat (Beat.E x) before is = is
  after-beat (Beat.D x) before is = go (ends_request x (on_link link t))
    where
      go : (b : Bool) → MayBe v (if b then after_answer n address (find (is_of link x.source) (pending_accesses t))
          (Beat.D x ∷ unfinished Channel.D (on_link link t)) t before else before)
      go true = after-answer _ _ before is
      go false = is

pub after-settling : {w : ℕ} (address v : ℕ) (x : Link × Beat w) (t : Trace w) (before : List Telling) → MayBe v before
    → MayBe v (after_settling address x t before)
after-settling address v x t before is = go (is_settled address x t)
  where
    go : (b : Bool) → MayBe v (if b then told_too (record { value = None; moment = length t }) before else before)
    go true = inl refl
    go false = is
