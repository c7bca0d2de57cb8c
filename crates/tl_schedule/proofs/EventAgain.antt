-- What a line says is read.
use Rattle.tl_schedule.proofs.Imports.{digits, lane_digits, Channel, Asked, Said, Get, Load, Store, Acquire, Whole}
use Rattle.tl_schedule.proofs.Imports.{Release, Access, Deliver, Fits, said_fields, ask_at}
use Rattle.std.proofs.Common.{◌≡◌, ℕ, zero, suc, ◌+◌, ◌*◌, ◌/◌, ◌%◌, ◌^◌, ◌≤◌, Bool, true, false, cond, List, [], ◌∷◌}
use Rattle.std.proofs.Common.{length, refl, arith, inl, inr}
use Rattle.std.specs.Prelude.{nat_lt, Some}
use Rattle.tl_burst.proofs.Lanes.{block_size}
use Rattle.tl_beat.{specs.statement.Line.letter, specs.statement.Width.IsWidth, proofs.Pieces.NoSpace}
use Rattle.tl_beat.{proofs.Pieces.NoSpaces, proofs.SpelledLines.NoSpace-append}
use Rattle.tl_beat.proofs.SpelledDigits.{digit_char-no_space, length-digits, length-lane_digits}
use Rattle.tl_params.{specs.declared.param.Arithmetic.Arithmetic, specs.declared.param.Grow.Grow}
use Rattle.tl_params.{specs.declared.param.Intent.Intent, specs.declared.param.Logical.Logical}
use Rattle.tl_params.{specs.declared.param.Prune.Prune}
use Rattle.tl_params.specs.statement.Names.{arithmetic_name, grow_name, intent_name, logical_name, prune_name}
use Rattle.tl_schedule.specs.statement.EventLine.{Put, Part, Arith, Logic, Hint, AskedFits, asked_fields, asked_name}
use Rattle.tl_schedule.specs.statement.EventLine.{mask_digits}
use Rattle.tl_schedule.specs.code.NameReading.{arithmetic_in, grow_in, intent_in, logical_in, prune_in}
use Rattle.tl_schedule.proofs.AccessBytes.{smaller_power}
use Rattle.tl_schedule.proofs.SpelledFields.{number_again, size_again, bytes_again, channel_again}

-- ---- names

grow_again : (g : Grow) → grow_in (grow_name g) ≡ Some g
grow_again Grow.NtoB = refl
grow_again v = refl

prune_again : (p : Prune) → prune_in (prune_name p) ≡ Some p
prune_again Prune.TtoB = refl
prune_again v = refl

arithmetic_again : (o : Arithmetic) → arithmetic_in (arithmetic_name o) ≡ Some o
arithmetic_again Arithmetic.Min = refl
arithmetic_again v = refl

logical_again : (o : Logical) → logical_in (logical_name o) ≡ Some o
logical_again Logical.Xor = refl
logical_again v = refl

intent_again : (i : Intent) → intent_in (intent_name i) ≡ Some i
intent_again Intent.PrefetchRead = refl
intent_again Intent.PrefetchWrite = refl

-- ---- the fields of what is said are read

pub ask_again : (w : ℕ) (said : Said) → Fits w said → ask_at w (said_fields w said) ≡ Some said
ask_again w (Load client size address) fits =
    rw (number_again 2 client fits.0, size_again 3 size (omega arith) fits.1, number_again 8 address fits.2) refl
ask_again w (Store client size address value) fits =
    rw (
      number_again 2 client fits.0,
      size_again 3 size (omega arith) fits.1,
      number_again 8 address fits.2,
      number_again (2 * 2 ^ size) value fits.3,
    ) refl
ask_again w (Acquire client block g) fits = rw (number_again 2 client fits.0, number_again 3 block fits.1, grow_again g)
    refl
ask_again w (Whole client block bytes) fits =
    rw (number_again 2 client fits.0, number_again 3 block fits.1, bytes_again 64 bytes fits.2) refl
ask_again w (Release client block p) fits =
    rw (number_again 2 client fits.0, number_again 3 block fits.1, prune_again p) refl
ask_again w (Access client size address Get) fits =
    rw (number_again 2 client fits.0, size_again 6 size (omega arith) fits.1, number_again 8 address fits.2) refl
ask_again w (Access client size address (Put bytes)) fits =
    rw (
      number_again 2 client fits.0,
      size_again 6 size (omega arith) fits.1,
      number_again 8 address fits.2,
      bytes_again (2 ^ size) bytes fits.3,
    ) refl
ask_again w (Access client size address (Part mask bytes)) fits =
    rw (
      number_again 2 client fits.0,
      size_again 6 size (omega arith) fits.1,
      number_again 8 address fits.2,
      number_again (mask_digits w size) mask fits.3.0,
      bytes_again (2 ^ size) bytes fits.3.1,
    ) refl
ask_again w (Access client size address (Arith o bytes)) fits =
    rw (
      number_again 2 client fits.0,
      size_again 6 size (omega arith) fits.1,
      number_again 8 address fits.2,
      arithmetic_again o,
      bytes_again (2 ^ size) bytes fits.3,
    ) refl
ask_again w (Access client size address (Logic o bytes)) fits =
    rw (
      number_again 2 client fits.0,
      size_again 6 size (omega arith) fits.1,
      number_again 8 address fits.2,
      logical_again o,
      bytes_again (2 ^ size) bytes fits.3,
    ) refl
ask_again w (Access client size address (Hint i)) fits =
    rw (
      number_again 2 client fits.0,
      size_again 6 size (omega arith) fits.1,
      number_again 8 address fits.2,
      intent_again i,
    ) refl
ask_again w (Deliver link c) fits = rw (number_again 2 link fits, channel_again c) refl

-- ---- no field has a space

no_space-digits : (w n : ℕ) → NoSpace (digits w n)
unfolding digits
no_space-digits zero n = tt
no_space-digits (suc w) n = (digit_char-no_space (n / 2 ^ (4 * w) % 16) (omega arith), no_space-digits w n)

no_space-bytes : (bytes : List ℕ) → NoSpace (lane_digits bytes)
unfolding lane_digits
no_space-bytes [] = tt
no_space-bytes (x ∷ xs) = NoSpace-append (lane_digits xs) (digits 2 x) (no_space-bytes xs) (no_space-digits 2 x)

-- a name is short, and has no space
record IsName (p : List ℕ) : Type 0 where
  no_space : NoSpace p
  short : length p ≤ 13

grow_is : (g : Grow) → IsName (grow_name g)
grow_is Grow.NtoB = record { no_space = (refl, (refl, (refl, (refl, tt)))); short = omega arith }
grow_is v = record { no_space = (refl, (refl, (refl, (refl, tt)))); short = omega arith }

prune_is : (p : Prune) → IsName (prune_name p)
prune_is Prune.TtoB = record { no_space = (refl, (refl, (refl, (refl, tt)))); short = omega arith }
prune_is v = record { no_space = (refl, (refl, (refl, (refl, tt)))); short = omega arith }

arithmetic_is : (o : Arithmetic) → IsName (arithmetic_name o)
arithmetic_is Arithmetic.MinU = record { no_space = (refl, (refl, (refl, (refl, tt)))); short = omega arith }
arithmetic_is Arithmetic.MaxU = record { no_space = (refl, (refl, (refl, (refl, tt)))); short = omega arith }
arithmetic_is v = record { no_space = (refl, (refl, (refl, tt))); short = omega arith }

logical_is : (o : Logical) → IsName (logical_name o)
logical_is Logical.Or = record { no_space = (refl, (refl, tt)); short = omega arith }
logical_is Logical.Swap = record { no_space = (refl, (refl, (refl, (refl, tt)))); short = omega arith }
logical_is v = record { no_space = (refl, (refl, (refl, tt))); short = omega arith }

intent_is : (i : Intent) → IsName (intent_name i)
intent_is Intent.PrefetchRead =
    record {
      no_space = (
        refl,
        (refl, (refl, (refl, (refl, (refl, (refl, (refl, (refl, (refl, (refl, (refl, tt))))))))))),
      );
      short = omega arith;
    }
intent_is Intent.PrefetchWrite =
    record {
      no_space = (
        refl,
        (refl, (refl, (refl, (refl, (refl, (refl, (refl, (refl, (refl, (refl, (refl, (refl, tt)))))))))))),
      );
      short =
          omega arith;
    }

letter_is : (c : Channel) → IsName (letter c)
letter_is Channel.A = record { no_space = (refl, tt); short = omega arith }
letter_is v = record { no_space = (refl, tt); short = omega arith }

asked_is : (x : Asked) → IsName (asked_name x)
asked_is Get = record { no_space = (refl, (refl, (refl, tt))); short = omega arith }
asked_is (Put bytes) = record { no_space = (refl, (refl, (refl, tt))); short = omega arith }
asked_is (Part mask bytes) = record { no_space = (refl, (refl, (refl, (refl, tt)))); short = omega arith }
asked_is (Hint i) = record { no_space = (refl, (refl, (refl, (refl, (refl, (refl, tt)))))); short = omega arith }
asked_is v = record { no_space = (refl, (refl, (refl, (refl, (refl, tt))))); short = omega arith }

asked-no_spaces : (w size : ℕ) (x : Asked) → NoSpaces (asked_fields w size x)
asked-no_spaces w size Get = tt
asked-no_spaces w size (Put bytes) = (no_space-bytes bytes, tt)
asked-no_spaces w size (Part mask bytes) = (no_space-digits (mask_digits w size) mask, (no_space-bytes bytes, tt))
asked-no_spaces w size (Arith o bytes) = ((arithmetic_is o).no_space, (no_space-bytes bytes, tt))
asked-no_spaces w size (Logic o bytes) = ((logical_is o).no_space, (no_space-bytes bytes, tt))
asked-no_spaces w size (Hint i) = ((intent_is i).no_space, tt)

pub said-no_spaces : (w : ℕ) (said : Said) → NoSpaces (said_fields w said)
said-no_spaces w (Load client size address) = (
  no_space-digits 2 client,
  ((refl, (refl, (refl, (refl, tt)))), (no_space-digits 1 size, (no_space-digits 8 address, tt))),
)
said-no_spaces w (Store client size address value) = (
  no_space-digits 2 client,
  (
    (refl, (refl, (refl, (refl, (refl, tt))))),
    (no_space-digits 1 size, (no_space-digits 8 address, (no_space-digits (2 * 2 ^ size) value, tt))),
  ),
)
said-no_spaces w (Acquire client block g) = (
  no_space-digits 2 client,
  (
    (refl, (refl, (refl, (refl, (refl, (refl, (refl, tt))))))),
    (no_space-digits 3 block, ((grow_is g).no_space, tt)),
  ),
)
said-no_spaces w (Whole client block bytes) = (
  no_space-digits 2 client,
  ((refl, (refl, (refl, (refl, (refl, tt))))), (no_space-digits 3 block, (no_space-bytes bytes, tt))),
)
said-no_spaces w (Release client block p) = (
  no_space-digits 2 client,
  (
    (refl, (refl, (refl, (refl, (refl, (refl, (refl, tt))))))),
    (no_space-digits 3 block, ((prune_is p).no_space, tt)),
  ),
)
said-no_spaces w (Access client size address x) = (
  no_space-digits 2 client,
  ((asked_is x).no_space, (no_space-digits 1 size, (no_space-digits 8 address, asked-no_spaces w size x))),
)
said-no_spaces w (Deliver link c) =
    (no_space-digits 2 link, ((refl, (refl, (refl, (refl, (refl, (refl, (refl, tt))))))), ((letter_is c).no_space, tt)))

-- ---- a line is short

-- the bytes of fields, and one more for each
abbrev pub total : List (List ℕ) → ℕ
total [] = 0
total (f ∷ fs) = length f + 1 + total fs

four_short : (bytes : ℕ) (b : Bool) → bytes ≤ 64 → 4 / 4 * cond b (bytes / 4) 1 ≤ 16
four_short bytes true le = omega arith
four_short bytes false le = omega arith

eight_short : (bytes : ℕ) (b : Bool) → bytes ≤ 64 → 8 / 4 * cond b (bytes / 8) 1 ≤ 16
eight_short bytes true le = omega arith
eight_short bytes false le = omega arith

sixteen_short : (bytes : ℕ) (b : Bool) → bytes ≤ 64 → 16 / 4 * cond b (bytes / 16) 1 ≤ 16
sixteen_short bytes true le = omega arith
sixteen_short bytes false le = omega arith

mask-short : (w size : ℕ) → IsWidth w → size ≤ 6 → mask_digits w size ≤ 16
mask-short w size (inl e) small = rw e (four_short (2 ^ size) (nat_lt 4 (2 ^ size)) (block_size size small))
mask-short w size (inr (inl e)) small = rw e (eight_short (2 ^ size) (nat_lt 8 (2 ^ size)) (block_size size small))
mask-short w size (inr (inr e)) small = rw e (sixteen_short (2 ^ size) (nat_lt 16 (2 ^ size)) (block_size size small))

data-short : (size : ℕ) (bytes : List ℕ) → size ≤ 6 → length bytes ≡ 2 ^ size → length (lane_digits bytes) ≤ 128
data-short size bytes small all = omega (arith, length-lane_digits bytes, block_size size small)

asked-short : (w size : ℕ) (x : Asked) → IsWidth w → size ≤ 6 → AskedFits w size x → total (asked_fields w size x) ≤ 146
asked-short w size Get width small fits = omega arith
asked-short w size (Put bytes) width small fits = omega (arith, data-short size bytes small fits.0)
asked-short w size (Part mask bytes) width small fits =
    omega (
      arith,
      length-digits (mask_digits w size) mask,
      mask-short w size width small,
      data-short size bytes small fits.1.0,
    )
asked-short w size (Arith o bytes) width small fits =
    omega (arith, (arithmetic_is o).short, data-short size bytes small fits.0)
asked-short w size (Logic o bytes) width small fits =
    omega (arith, (logical_is o).short, data-short size bytes small fits.0)
asked-short w size (Hint i) width small fits = omega (arith, (intent_is i).short)

pub said-short : (w : ℕ) (said : Said) → IsWidth w → Fits w said → total (said_fields w said) ≤ 255
said-short w (Load client size address) width fits =
    omega (arith, length-digits 2 client, length-digits 1 size, length-digits 8 address)
said-short w (Store client size address value) width fits =
    omega (
      arith,
      length-digits 2 client,
      length-digits 1 size,
      length-digits 8 address,
      length-digits (2 * 2 ^ size) value,
      smaller_power size fits.1,
    )
said-short w (Acquire client block g) width fits =
    omega (arith, length-digits 2 client, length-digits 3 block, (grow_is g).short)
said-short w (Whole client block bytes) width fits =
    omega (arith, length-digits 2 client, length-digits 3 block, length-lane_digits bytes, fits.2.0)
said-short w (Release client block p) width fits =
    omega (arith, length-digits 2 client, length-digits 3 block, (prune_is p).short)
said-short w (Access client size address x) width fits =
    omega (
      arith,
      length-digits 2 client,
      (asked_is x).short,
      length-digits 1 size,
      length-digits 8 address,
      asked-short w size x width fits.1 fits.3,
    )
said-short w (Deliver link c) width fits = omega (arith, length-digits 2 link, (letter_is c).short)

pub said-some : (w : ℕ) (said : Said) → 2 ≤ length (said_fields w said)
said-some w (Load client size address) = omega arith
said-some w v = omega arith
