-- The Get that is read at its places was said so.
use Rattle.tl_schedule.proofs.Imports.{pieces, spaced, said_fields, ask_at, number_in, size_in}
use Rattle.std.proofs.Common.{◌≡◌, ℕ, ◌-◌, ◌≤◌, List, [], ◌∷◌, length, take, drop, refl, ap, ◌∙◌, arith}
use Rattle.std.proofs.lemmas.List.{take_rest}
use Rattle.std.specs.Prelude.{codes, IfSome, Option, Some, slice_index}
use Rattle.tl_beat.proofs.Pieces.{pieces-spaced}
use Rattle.tl_schedule.specs.declared.get.GetLine.{GetLine}
use Rattle.tl_schedule.specs.code.GetReading.{SpellsGet, get_said}
use Rattle.tl_schedule.proofs.EventAgain.{ask_again, said-no_spaces, said-some}
use Rattle.tl_schedule.proofs.SpelledFields.{number_taken, size_taken}

pub get_fields : (client size address : List ℕ) (get : GetLine) → number_in 0 2 client ≡ Some get.client
    → size_in 6 size ≡ Some get.size → number_in 0 8 address ≡ Some get.address
    → SpellsGet (spaced (client ∷ codes "get" ∷ size ∷ address ∷ [])) get
get_fields client size address get e f g w =
    let of_client = number_taken 2 get.client client e in
    let of_size = size_taken 6 get.size size f in
    let of_address = number_taken 8 get.address address g in
    (rw (of_client.text, of_size.text, of_address.text) refl, (of_client.room, of_size.small, of_address.room, tt))

pub get_body : (xs : List ℕ) → 9 ≤ length xs → slice_index xs 2 ≡ 32 → slice_index xs 3 ≡ 103
    → slice_index xs 4 ≡ 101 → slice_index xs 5 ≡ 116 → slice_index xs 6 ≡ 32 → slice_index xs 8 ≡ 32
    → xs ≡ spaced ((slice_index xs 0 ∷ slice_index xs 1 ∷ []) ∷ codes "get" ∷ (slice_index xs 7 ∷ [])
    ∷ take (length xs - 9) (drop 9 xs) ∷ [])
unfolding spaced
get_body (x0 ∷ x1 ∷ x2 ∷ x3 ∷ x4 ∷ x5 ∷ x6 ∷ x7 ∷ x8 ∷ rest) long e2 e3 e4 e5 e6 e8 =
    let xs = x0 ∷ x1 ∷ x2 ∷ x3 ∷ x4 ∷ x5 ∷ x6 ∷ x7 ∷ x8 ∷ rest in
    rw (take_rest xs 9, e2, e3, e4, e5, e6, e8) refl
get_body xs long e2 e3 e4 e5 e6 e8 = absurd (omega arith)

pub get_spelled : (o : Option GetLine) (body text : List ℕ) → body ≡ text → IfSome o (SpellsGet text)
    → IfSome o (SpellsGet body)
get_spelled o body text same spells = rw same spells

-- it is what reading from the left says
pub get_asked : (w : ℕ) (body : List ℕ) (get : GetLine) → SpellsGet body get
    → ask_at w (pieces body) ≡ Some (get_said get)
get_asked w body get spells =
    let said = get_said get in
    let cut : pieces body ≡ said_fields w said = ap pieces (spells w).0
    ∙ pieces-spaced (said_fields w said) (omega (arith, said-some w said)) (said-no_spaces w said) in
    ap (ask_at w) cut ∙ ask_again w said (spells w).1
