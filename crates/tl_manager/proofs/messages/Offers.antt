-- Beats and messages by their fields, and what a manager answers to a list of beats.
use Rattle.tl_manager.proofs.Imports.{Beat, Link, Channel, OpA, OpC, OpD, a_carries_data, c_carries_data, Message}
use Rattle.tl_manager.proofs.Imports.{channel_of, Config, Level, Profile, End, fresh, Sent, offered}
use Rattle.std.{proofs.Common.◌≡◌, proofs.Common.refl, proofs.Common.lit≤, proofs.lemmas.Bool.leb-true}
use Rattle.std.specs.Prelude.{ℕ, true, false, List, [], ◌∷◌, ◌-◌, ◌^◌, map, nat_le, replicate, Some, None}
use Rattle.tl_beat.specs.declared.beat.Beat.TheVariants.{A, C, D, E}
use Rattle.tl_beat.specs.declared.opcode.OpB.{OpB}
use Rattle.tl_manager.specs.statement.Offer.{Reception}

-- a manager of this many blocks and trackers, whose links have these levels
abbrev pub with_links : Profile → ℕ → ℕ → List Level → Config
with_links p blocks trackers levels = record {
  blocks = blocks;
  trackers = trackers;
  clients = record { items = map (λ l. record { level = l; sources = 1 }) levels };
  profile = p;
}

abbrev pub link_of : ℕ → Link
link_of n = record { 0 = n }

-- a beat that is offered on a channel of a link
pub record Offer (w : ℕ) : Type 0 where
  pub link : ℕ
  pub channel : Channel
  pub beat : Beat w

abbrev pub on_channel : {w : ℕ} → ℕ → Channel → Beat w → Offer w
on_channel link ch x = record { link = link; channel = ch; beat = x }

-- the same on the beat's own channel
abbrev pub on : {w : ℕ} → ℕ → Beat w → Offer w
on link x = on_channel link (channel_of x) x

abbrev pub with_first : {w : ℕ} → Reception w → List (Reception w) × End w → List (Reception w) × End w
with_first answer later = (answer ∷ later.0, later.1)

abbrev pub and_then : {w : ℕ} → Reception w × End w → (End w → List (Reception w) × End w) → List (Reception w) × End w
and_then first later = with_first first.0 (later first.1)

-- the answers to these beats, offered one after another, and the end afterwards
abbrev pub offer_all : {w : ℕ} → Config → List (Offer w) → End w → List (Reception w) × End w
offer_all config [] e = ([], e)
offer_all config (x ∷ xs) e = and_then (offered config (link_of x.link) x.channel x.beat e) (offer_all config xs)

-- the answers of a manager that has taken nothing yet
abbrev pub answers_to : {w : ℕ} → Config → List (Offer w) → List (Reception w)
answers_to config offers = (offer_all config offers fresh).0

-- ---- beats

abbrev pub request : {w : ℕ} (opcode : OpA) → false ≡ a_carries_data opcode → ℕ → ℕ → ℕ → ℕ → ℕ → Beat w
request opcode carries param size source address mask =
    A (record {
      opcode = opcode;
      param = param;
      size = size;
      source = source;
      address = address;
      mask = mask;
      lanes =
          None;
      corrupt = false;
      carries = carries;
    })

abbrev pub request_of_data : {w : ℕ} (opcode : OpA) → true ≡ a_carries_data opcode → ℕ → ℕ → ℕ → ℕ → List ℕ → Beat w
request_of_data opcode carries param size address mask lanes =
    A (record {
      opcode = opcode;
      param = param;
      size = size;
      source = 0;
      address = address;
      mask = mask;
      lanes =
          Some lanes;
      corrupt = false;
      carries = carries;
    })

abbrev pub get : {w : ℕ} → ℕ → ℕ → ℕ → Beat w
get {w} source size address = request OpA.Get refl 0 size source address (2 ^ w - 1)

abbrev pub acquire : {w : ℕ} → ℕ → ℕ → Beat w
acquire {w} grow address = request OpA.AcquireBlock refl grow 6 0 address (2 ^ w - 1)

abbrev pub acquire_whole : {w : ℕ} → ℕ → ℕ → Beat w
acquire_whole {w} grow address = request OpA.AcquirePerm refl grow 6 0 address (2 ^ w - 1)

-- a beat of a Put of a block of ones
abbrev pub put_block : ℕ → Beat 8
put_block source = A (record {
  opcode = OpA.PutFullData;
  param = 0;
  size = 6;
  source = source;
  address = 0;
  mask =
      255;
  lanes = Some (replicate 8 255);
  corrupt = false;
  carries = refl;
})

-- a Put of 8 bytes whose beat is corrupt
abbrev pub corrupted : ℕ → Beat 8
corrupted address = A (record {
  opcode = OpA.PutFullData;
  param = 0;
  size = 3;
  source = 0;
  address = address;
  mask =
      255;
  lanes = Some (replicate 8 0);
  corrupt = true;
  carries = refl;
})

abbrev pub access_ack : Beat 8
access_ack = D (record {
  opcode = OpD.AccessAck;
  param = 0;
  size = 0;
  source = 0;
  sink = 0;
  denied = false;
  lanes =
      None;
  corrupt = false;
  carries = refl;
})

abbrev pub report : {w : ℕ} (opcode : OpC) → false ≡ c_carries_data opcode → ℕ → ℕ → Beat w
report opcode carries param address =
    C (record {
      opcode = opcode;
      param = param;
      size = 6;
      source = 0;
      address = address;
      lanes = None;
      corrupt =
          false;
      carries = carries;
    })

abbrev pub report_with : {w : ℕ} (opcode : OpC) → true ≡ c_carries_data opcode → ℕ → ℕ → List ℕ → Beat w
report_with opcode carries param address lanes =
    C (record {
      opcode = opcode;
      param = param;
      size = 6;
      source = 0;
      address = address;
      lanes = Some lanes;
      corrupt =
          false;
      carries = carries;
    })

abbrev pub grant_ack : {w : ℕ} → ℕ → Beat w
grant_ack sink = E (record { sink = sink })

-- ---- messages handed out

abbrev pub to : {w : ℕ} → ℕ → Message w → Link × Message w
to link m = (link_of link, m)

-- what one message is answered with
abbrev pub said : {w : ℕ} → ℕ → Message w → Reception w
said link m = Sent (to link m ∷ [])

abbrev pub on_d : {w : ℕ} → OpD → ℕ → ℕ → ℕ → List ℕ → Message w
on_d opcode param source sink payload =
    Message.D (record {
      opcode = opcode;
      param = param;
      size = 6;
      source = source;
      sink = sink;
      denied =
          false;
      payload = payload;
      corrupt = 0;
      small = lit≤ tt;
    })

abbrev pub zeros : List ℕ
zeros = replicate 64 0

-- a block of zeros but for its first byte
abbrev pub block_from : ℕ → List ℕ
block_from byte = byte ∷ replicate 63 0

-- the answer to an access of this size
abbrev pub answer : {w : ℕ} → OpD → (size : ℕ) → nat_le size 6 ≡ true → List ℕ → Message w
answer opcode size fits payload =
    Message.D (record {
      opcode = opcode;
      param = 0;
      size = size;
      source = 0;
      sink = 0;
      denied = false;
      payload =
          payload;
      corrupt = 0;
      small = leb-true size 6 fits;
    })

abbrev pub grant_data : {w : ℕ} → ℕ → ℕ → List ℕ → Message w
grant_data cap sink payload = on_d OpD.GrantData cap 0 sink payload

abbrev pub grant : {w : ℕ} → ℕ → ℕ → Message w
grant cap sink = on_d OpD.Grant cap 0 sink zeros

abbrev pub release_ack : {w : ℕ} → Message w
release_ack = on_d OpD.ReleaseAck 0 0 0 zeros

-- a Probe of block 0
abbrev pub probe : {w : ℕ} → ℕ → Message w
probe {w} cap = Message.B (record {
  opcode = OpB.ProbeBlock;
  param = cap;
  size = 6;
  source = 0;
  address = 0;
  payload =
      zeros;
  mask = 2 ^ w - 1;
  corrupt = 0;
  small = lit≤ tt;
})
