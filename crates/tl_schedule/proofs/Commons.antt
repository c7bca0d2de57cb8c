-- What is read at its places was said so.
use Rattle.tl_schedule.proofs.Imports.{Channel, channel_named, spaced, Fits, event_of, number_in, size_in}
use Rattle.std.proofs.Common.{◌≡◌, ℕ, ◌-◌, ◌<◌, ◌≤◌, true, List, [], ◌∷◌, ◌++◌, length, take, drop, refl, sym, ap, ◌∙◌}
use Rattle.std.proofs.Common.{arith}
use Rattle.std.{proofs.lemmas.List.take_rest, specs.Io.BufRead.ends_with_byte}
use Rattle.std.specs.Prelude.{codes, IfSome, None, Option, Some, slice_index}
use Rattle.tl_beat.{specs.declared.beat.Link.Link, proofs.ReadFields.letter-named}
use Rattle.tl_schedule.{specs.declared.common.Common.Common, proofs.SpelledFields.number_taken}
use Rattle.tl_schedule.{proofs.SpelledFields.size_taken, proofs.WholeLines.line-whole}
use Rattle.tl_schedule.specs.statement.CommonLine.{SpellsCommon, common_event}
use Rattle.tl_schedule.specs.code.CommonReading.{HasFields, SpellsBody, common_said}

pub load_fields : (client size address : List ℕ) (n s a : ℕ) → number_in 0 2 client ≡ Some n → size_in 3 size ≡ Some s
    → number_in 0 8 address ≡ Some a → HasFields (client ∷ codes "load" ∷ size ∷ address ∷ []) (Common.Load n a s)
load_fields client size address n s a e f g w =
    let of_client = number_taken 2 n client e in
    let of_size = size_taken 3 s size f in
    let of_address = number_taken 8 a address g in
    (rw (of_client.text, of_size.text, of_address.text) refl, (of_client.room, of_size.small, of_address.room))

three : size_in 3 (codes "3") ≡ Some 3
unfolding number_in
three = refl

pub store_fields : (client address value : List ℕ) (n a v : ℕ) → number_in 0 2 client ≡ Some n
    → number_in 0 8 address ≡ Some a → number_in 0 16 value ≡ Some v
    → HasFields (client ∷ codes "store" ∷ codes "3" ∷ address ∷ value ∷ []) (Common.Store n a 3 v)
store_fields client address value n a v e g h w =
    let of_client = number_taken 2 n client e in
    let of_size = size_taken 3 3 (codes "3") three in
    let of_address = number_taken 8 a address g in
    let of_value = number_taken 16 v value h in (
      rw (of_client.text, of_size.text, of_address.text, of_value.text) refl,
      (of_client.room, of_size.small, of_address.room, of_value.room),
    )

pub deliver_fields : (link letter : List ℕ) (l : Link) (channel : Channel) → number_in 0 2 link ≡ Some l.0
    → channel_named letter ≡ Some channel → HasFields (link ∷ codes "deliver" ∷ letter ∷ []) (Common.Deliver l channel)
deliver_fields link letter l channel e f w =
    let of_link = number_taken 2 l.0 link e in
    let of_letter = letter-named letter channel f in
    (rw (of_link.text, of_letter) refl, of_link.room)

-- ---- the fields at their places

pub deliver_body : (xs : List ℕ) → 12 ≤ length xs → length xs < 13 → slice_index xs 2 ≡ 32 → slice_index xs 3 ≡ 100
    → slice_index xs 4 ≡ 101 → slice_index xs 5 ≡ 108 → slice_index xs 6 ≡ 105 → slice_index xs 7 ≡ 118
    → slice_index xs 8 ≡ 101 → slice_index xs 9 ≡ 114 → slice_index xs 10 ≡ 32
    → xs ≡ spaced ((slice_index xs 0 ∷ slice_index xs 1 ∷ []) ∷ codes "deliver" ∷ (slice_index xs 11 ∷ []) ∷ [])
unfolding spaced
deliver_body (x0 ∷ x1 ∷ x2 ∷ x3 ∷ x4 ∷ x5 ∷ x6 ∷ x7 ∷ x8 ∷ x9 ∷ x10 ∷ x11 ∷ []) long short e2 e3 e4 e5 e6 e7 e8 e9 e10 =
    rw (e2, e3, e4, e5, e6, e7, e8, e9, e10) refl
deliver_body xs long short e2 e3 e4 e5 e6 e7 e8 e9 e10 = absurd (omega arith)

pub load_body : (xs : List ℕ) → 10 ≤ length xs → slice_index xs 2 ≡ 32 → slice_index xs 3 ≡ 108 → slice_index xs 4 ≡ 111
    → slice_index xs 5 ≡ 97 → slice_index xs 6 ≡ 100 → slice_index xs 7 ≡ 32 → slice_index xs 9 ≡ 32
    → xs ≡ spaced ((slice_index xs 0 ∷ slice_index xs 1 ∷ []) ∷ codes "load" ∷ (slice_index xs 8 ∷ []) ∷ take
    (length xs - 10) (drop 10 xs) ∷ [])
unfolding spaced
load_body (x0 ∷ x1 ∷ x2 ∷ x3 ∷ x4 ∷ x5 ∷ x6 ∷ x7 ∷ x8 ∷ x9 ∷ rest) long e2 e3 e4 e5 e6 e7 e9 =
    let xs = x0 ∷ x1 ∷ x2 ∷ x3 ∷ x4 ∷ x5 ∷ x6 ∷ x7 ∷ x8 ∷ x9 ∷ rest in
    rw (take_rest xs 10, e2, e3, e4, e5, e6, e7, e9) refl
load_body xs long e2 e3 e4 e5 e6 e7 e9 = absurd (omega arith)

pub store_body : (xs address value : List ℕ) → 11 ≤ length xs → slice_index xs 2 ≡ 32 → slice_index xs 3 ≡ 115
    → slice_index xs 4 ≡ 116 → slice_index xs 5 ≡ 111 → slice_index xs 6 ≡ 114 → slice_index xs 7 ≡ 101
    → slice_index xs 8 ≡ 32 → slice_index xs 9 ≡ 51 → slice_index xs 10 ≡ 32
    → take (length xs - 11) (drop 11 xs) ≡ address ++ 32 ∷ value
    → xs ≡ spaced ((slice_index xs 0 ∷ slice_index xs 1 ∷ []) ∷ codes "store" ∷ codes "3" ∷ address ∷ value ∷ [])
unfolding spaced
store_body (x0 ∷ x1 ∷ x2 ∷ x3 ∷ x4 ∷ x5 ∷ x6 ∷ x7 ∷ x8 ∷ x9 ∷ x10 ∷ rest) address value long e2 e3 e4 e5 e6 e7 e8 e9 e10
    parts =
    let xs = x0 ∷ x1 ∷ x2 ∷ x3 ∷ x4 ∷ x5 ∷ x6 ∷ x7 ∷ x8 ∷ x9 ∷ x10 ∷ rest in
    let behind : rest ≡ address ++ 32 ∷ value = sym (take_rest xs 11) ∙ parts in
    rw (e2, e3, e4, e5, e6, e7, e8, e9, e10, behind) refl
store_body xs address value long e2 e3 e4 e5 e6 e7 e8 e9 e10 parts = absurd (omega arith)

-- a line of these fields says it
means : {w : ℕ} (c : Common) (fits : Fits w (common_said c)) → event_of (common_said c) fits ≡ common_event c
means (Common.Load client address size) fits = refl
means v fits = refl

fields_spell : (line : List ℕ) (fields : List (List ℕ)) (c : Common) → line ≡ spaced fields ++ 10 ∷ []
    → HasFields fields c → SpellsCommon line c
fields_spell line fields c is_line has w = record {
  said = common_said c;
  fits = (has w).1;
  is_line = is_line ∙ ap (λ (x : List (List ℕ)). spaced x ++ 10 ∷ []) (has w).0;
  means = means c (has w).1;
}

pub body_spells : (o : Option Common) (body : List ℕ) (fields : List (List ℕ)) → body ≡ spaced fields
    → IfSome o (HasFields fields) → IfSome o (SpellsBody body)
body_spells None body fields same has = tt
body_spells (Some c) body fields same has =
    fields_spell (body ++ 10 ∷ []) fields c (ap (λ (x : List ℕ). x ++ 10 ∷ []) same) has

pub line_spells : (o : Option Common) (line : List ℕ) → ends_with_byte 10 line ≡ true
    → IfSome o (SpellsBody (take (length line - 1) line)) → IfSome o (SpellsCommon line)
line_spells None line ends spells = tt
line_spells (Some c) line ends spells = rw (line-whole line ends) spells
