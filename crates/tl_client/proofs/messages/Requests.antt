-- What is handed out and what is open afterwards.
use Rattle.tl_client.proofs.Imports.{Message, MessageA, Reply, start_with}
use Rattle.std.proofs.Common.{◌≡◌, ℕ, ◌≤◌, Option, Some, ap}
use Rattle.std.proofs.Math.Bridge.{le_prop}
use Rattle.tl_burst.specs.declared.message.Message.TheVariants as message
use Rattle.tl_client.specs.declared.reply.Reply.TheVariants as reply

abbrev pub with_small : {w : ℕ} (m : MessageA w) (s : ℕ) → m.size ≤ 6 → MessageA w
with_small m s small = record {
  opcode = m.opcode;
  param = m.param;
  size = m.size;
  source = s;
  address =
      m.address;
  payload = m.payload;
  mask = m.mask;
  corrupt = m.corrupt;
  small = small;
}

abbrev pub answer : {w : ℕ} → ℕ → MessageA w → Reply × Option (Message w)
answer s m = (reply.Started s, Some (message.A m))

pub started_with : {w : ℕ} (m : MessageA w) (s : ℕ) (free : Option ℕ) (small : m.size ≤ 6) → Some s ≡ free
    → answer s (with_small m s small) ≡ start_with free m
started_with m s free small is =
    rw (← is) (ap (λ (h : m.size ≤ 6). answer s (with_small m s h)) (le_prop small m.small))
