-- A Load or a Store hands out nothing and starts nothing, and a Load changes nothing.
use Rattle.tl_client.proofs.Imports.{Perm, Busy, Load, Store, Reply, asked, busy, load, store, EndConfig, Endpoint}
use Rattle.tl_client.proofs.Imports.{held_at}
use Rattle.std.proofs.Common.{◌≡◌, ℕ, Bool, true, false, Option, Some, None, refl}
use Rattle.std.specs.Prelude.{is_some}
use Rattle.tl_burst.specs.declared.message.Message.{Message}
use Rattle.tl_rules.specs.statement.History.{block_at}
use Rattle.tl_params.specs.declared.perm.Perm.TheVariants as perm
use Rattle.tl_client.specs.declared.reply.Reply.TheVariants as reply
use Rattle.tl_client.specs.statement.Answer.{handed}
use Rattle.tl_client.specs.statement.Ask.{Asked, asked_given}

abbrev pub is_started : Reply → Bool
is_started (reply.Started source) = true
is_started _ = false

-- nothing is handed out, and nothing starts
pub record IsSilent {w : ℕ} (x : Asked w) : Type 0 where
  pub message : x.message ≡ None
  pub reply : is_started x.reply ≡ false

-- nor does anything change
abbrev pub Leaves : {w : ℕ} → Endpoint w → Asked w → Type 0
Leaves e x = IsSilent x × (x.after ≡ e)

pub load-silent : {w : ℕ} (terms : EndConfig) (address size : ℕ) (e : Endpoint w)
    → Leaves e (asked terms (Load address size) e)
unfolding asked
load-silent {w} terms address size e = given (busy terms (Load address size) e)
  where
    held : (p : Perm) → Leaves e (load address size p e)
    held perm.None = (record { message = refl; reply = refl }, refl)
    held perm.Branch = (record { message = refl; reply = refl }, refl)
    held perm.Trunk = (record { message = refl; reply = refl }, refl)

    given : (b : Option Busy) → Leaves e (asked_given b terms (Load address size) e)
    given (Some b) = (record { message = refl; reply = refl }, refl)
    given None = held (held_at e (block_at address))

pub store-silent : {w : ℕ} (terms : EndConfig) (address size value : ℕ) (e : Endpoint w)
    → IsSilent (asked terms (Store address size value) e)
unfolding asked
store-silent terms address size value e = given (busy terms (Store address size value) e)
  where
    held : (p : Perm) → IsSilent (store address size value p e)
    held perm.None = record { message = refl; reply = refl }
    held perm.Branch = record { message = refl; reply = refl }
    held perm.Trunk = record { message = refl; reply = refl }

    given : (b : Option Busy) → IsSilent (asked_given b terms (Store address size value) e)
    given (Some b) = record { message = refl; reply = refl }
    given None = held (held_at e (block_at address))

-- the message of a reply with which one is handed out
pub handed-there : {w : ℕ} (r : Reply) (m : Message w) → is_some (handed r m) ≡ true → handed r m ≡ Some m
handed-there (reply.Started source) m there = refl
handed-there (reply.Value number) m there = absurd cc
handed-there reply.Stored m there = absurd cc
handed-there reply.Miss m there = absurd cc
handed-there (reply.Busy why) m there = absurd cc
