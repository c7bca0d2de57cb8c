-- The fields of a beat line stand at their places.
use Rattle.std.proofs.Common.{◌≡◌, ℕ, ◌+◌, ◌-◌, ◌/◌, List, [], ◌∷◌, ◌++◌, length, take}
use Rattle.std.proofs.Common.{drop, refl, ap, ◌∙◌, arith, append_assoc, length-append, codes, inl, inr}
use Rattle.std.specs.Prelude.{slice_range, Option, Bool, true, false}
use Rattle.std.proofs.lemmas.List.{length-drop, take_all}
use Rattle.std.proofs.Math.Seq.{drop-append-add, take-append_seam}
use Rattle.tl_beat.specs.statement.Digits.{digits, bit_text}
use Rattle.tl_beat.specs.statement.Line.{spaced}
use Rattle.tl_beat.specs.statement.Width.{IsWidth}
use Rattle.tl_explain.specs.declared.columns.TheConstants.{FIRST_FIELD, BEHIND_ADDRESS}
use Rattle.tl_explain.specs.declared.columns.TheConstants.{BEHIND_DENIED}
use Rattle.tl_explain.specs.code.Cuts.{address_text, head_text, param_part, part, sink_text, size_and_source, tail_text}
use Rattle.tl_explain.specs.code.Cuts.{request_text, release_text, response_text, acknowledgement_text}
use Rattle.tl_explain.specs.statement.Text.{param_text}

to_end : (k : ℕ) (line : List ℕ) → slice_range line k (length line) ≡ drop k line
to_end k line = take_all (length line - k) (drop k line) (omega (arith, length-drop k line))

-- data, corrupt and the line feed
tail_of_three : (d : List ℕ) (a b : ℕ)
    → tail_text (d ++ a ∷ b ∷ 10 ∷ []) ≡ codes " data=" ++ (d ++ (codes " corrupt=" ++ b ∷ 10 ∷ []))
unfolding tail_text
tail_of_three d a b =
    let front : length (d ++ a ∷ b ∷ 10 ∷ []) - 3 ≡ length d = omega (arith, length-append d (a ∷ b ∷ 10 ∷ [])) in
    let back : length (d ++ a ∷ b ∷ 10 ∷ []) - 2 ≡ length d + 1 = omega (arith, length-append d (a ∷ b ∷ 10 ∷ [])) in
    rw (front, back, take-append_seam d (a ∷ b ∷ 10 ∷ []), drop-append-add d (a ∷ b ∷ 10 ∷ []) 1) refl

tail_is : (d : List ℕ) (bit : Bool) → tail_text ((d ++ 32 ∷ bit_text bit) ++ 10 ∷ []) ≡ codes
    " data=" ++ (d ++ (codes " corrupt=" ++ (bit_text bit ++ 10 ∷ [])))
tail_is d false = ap tail_text (append_assoc d (32 ∷ 48 ∷ []) (10 ∷ [])) ∙ tail_of_three d 32 48
tail_is d true = ap tail_text (append_assoc d (32 ∷ 49 ∷ []) (10 ∷ [])) ∙ tail_of_three d 32 49

-- parts in a row, from the left and from the right
four_parts : (a b c d rest : List ℕ) → (((a ++ b) ++ c) ++ d) ++ rest ≡ a ++ (b ++ (c ++ (d ++ rest)))
four_parts a b c d rest = simp append_assoc

head_then : (line name : List ℕ) (param : Option (List ℕ)) (rest : List ℕ)
    → (head_text line name ++ param_part line param) ++ rest ≡ take FIRST_FIELD line
    ++ (name ++ (32 ∷ (param_part line param ++ rest)))
unfolding head_text
head_then line name param rest = four_parts (take FIRST_FIELD line) name (32 ∷ []) (param_part line param) rest

request_then : (m : ℕ) (line name : List ℕ) (param : Option (List ℕ))
    → request_text m line (head_text line name) param ≡ take FIRST_FIELD line
    ++ (name ++ (32 ∷ (param_part line param ++ (address_text line
    ++ (codes " mask=" ++ (part line BEHIND_ADDRESS m ++ tail_text (drop (BEHIND_ADDRESS + m + 1) line)))))))
unfolding request_text
request_then m line name param =
    four_parts (head_text line name ++ param_part line param) (address_text line) (codes " mask=")
    (part line BEHIND_ADDRESS m)
    (tail_text (slice_range line (BEHIND_ADDRESS + m + 1) (length line)))
    ∙ head_then line name param _ ∙ rw (to_end (BEHIND_ADDRESS + m + 1) line) refl

-- the beat line and the readable line of channel A or B, by their fields
abbrev pub request_line : ℕ → ℕ → ℕ → ℕ → ℕ → ℕ → ℕ → ℕ → ℕ → List ℕ → Bool → List ℕ
request_line m letter link opcode param size source address mask d corrupt =
    spaced (digits 2 link ∷ (letter ∷ []) ∷ digits 1 opcode ∷ digits 1 param ∷ digits 1 size ∷ digits 2 source ∷ digits
    8 address ∷ digits m mask ∷ d ∷ bit_text corrupt ∷ []) ++ 10 ∷ []

abbrev request_words : ℕ → ℕ → ℕ → List ℕ → Option (List ℕ) → ℕ → ℕ → ℕ → ℕ → ℕ → List ℕ → Bool → List ℕ
request_words m letter link name known param size source address mask d corrupt =
    spaced (digits 2 link ∷ (letter ∷ []) ∷ name ∷ param_text known param ∷ (codes "size=" ++ digits 1 size)
    ∷ (codes "source=" ++ digits 2 source) ∷ (codes "address=" ++ digits 8 address)
    ∷ (codes "mask=" ++ digits m mask) ∷ (codes "data=" ++ d) ∷ (codes "corrupt=" ++ bit_text corrupt) ∷ []) ++ 10 ∷ []

abbrev RequestIs : ℕ → Type 0
RequestIs m = (letter link opcode : ℕ) (name : List ℕ) (known : Option (List ℕ)) (param size source address mask : ℕ)
    (d : List ℕ) (corrupt : Bool)
    → request_text m (request_line m letter link opcode param size source address mask d corrupt)
    (head_text (request_line m letter link opcode param size source address mask d corrupt) name) known
    ≡ request_words m letter link name known param size source address mask d corrupt

request_one : RequestIs 1
unfolding digits spaced size_and_source address_text
request_one letter link opcode name known param size source address mask d corrupt =
    request_then 1 (request_line 1 letter link opcode param size source address mask d corrupt) name known
    ∙ rw (tail_is d corrupt, append_assoc name, append_assoc (param_text known param), append_assoc d) refl

request_two : RequestIs 2
unfolding digits spaced size_and_source address_text
request_two letter link opcode name known param size source address mask d corrupt =
    request_then 2 (request_line 2 letter link opcode param size source address mask d corrupt) name known
    ∙ rw (tail_is d corrupt, append_assoc name, append_assoc (param_text known param), append_assoc d) refl

request_four : RequestIs 4
unfolding digits spaced size_and_source address_text
request_four letter link opcode name known param size source address mask d corrupt =
    request_then 4 (request_line 4 letter link opcode param size source address mask d corrupt) name known
    ∙ rw (tail_is d corrupt, append_assoc name, append_assoc (param_text known param), append_assoc d) refl

pub request_is : (w : ℕ) → IsWidth w → RequestIs (w / 4)
request_is w (inl four) = rw four request_one
request_is w (inr (inl eight)) = rw eight request_two
request_is w (inr (inr sixteen)) = rw sixteen request_four

-- the same of channel C
release_then : (line name : List ℕ) (param : Option (List ℕ))
    → release_text line (head_text line name) param ≡ take FIRST_FIELD line
    ++ (name ++ (32 ∷ (param_part line param ++ (address_text line ++ tail_text (drop BEHIND_ADDRESS line)))))
unfolding release_text
release_then line name param = append_assoc (head_text line name ++ param_part line param) _ _
    ∙ head_then line name param _ ∙ rw (to_end BEHIND_ADDRESS line) refl

pub release_is : (link opcode : ℕ) (name : List ℕ) (known : Option (List ℕ)) (param size source address : ℕ)
    (d : List ℕ) (corrupt : Bool)
    → (line : List ℕ)
    → line ≡ spaced (digits 2 link ∷ (67 ∷ []) ∷ digits 1 opcode ∷ digits 1 param ∷ digits 1 size ∷ digits 2
    source ∷ digits 8 address ∷ d ∷ bit_text corrupt ∷ []) ++ 10 ∷ []
    → release_text line (head_text line name) known
    ≡ spaced (digits 2 link ∷ (67 ∷ []) ∷ name ∷ param_text known param ∷ (codes "size=" ++ digits 1 size)
    ∷ (codes "source=" ++ digits 2 source) ∷ (codes "address=" ++ digits 8 address)
    ∷ (codes "data=" ++ d) ∷ (codes "corrupt=" ++ bit_text corrupt) ∷ []) ++ 10 ∷ []
unfolding digits spaced size_and_source address_text
release_is link opcode name known param size source address d corrupt line is = rw is
    (release_then (spaced (digits 2 link ∷ (67 ∷ []) ∷ digits 1 opcode ∷ digits 1 param ∷ digits 1 size ∷ digits 2
    source ∷ digits 8 address ∷ d ∷ bit_text corrupt ∷ []) ++ 10 ∷ []) name known
    ∙ rw (tail_is d corrupt, append_assoc name, append_assoc (param_text known param), append_assoc d) refl)

-- of channel D
response_then : (line name : List ℕ) (param : Option (List ℕ))
    → response_text line (head_text line name) param ≡ take FIRST_FIELD line
    ++ (name ++ (32 ∷ (param_part line param ++ (sink_text line ++ tail_text (drop BEHIND_DENIED line)))))
unfolding response_text
response_then line name param = append_assoc (head_text line name ++ param_part line param) _ _
    ∙ head_then line name param _ ∙ rw (to_end BEHIND_DENIED line) refl

pub response_is : (link opcode : ℕ) (name : List ℕ) (known : Option (List ℕ)) (param size source sink : ℕ)
    (denied : Bool) (d : List ℕ) (corrupt : Bool)
    → (line : List ℕ)
    → line ≡ spaced (digits 2 link ∷ (68 ∷ []) ∷ digits 1 opcode ∷ digits 1 param ∷ digits 1 size ∷ digits 2
    source ∷ digits 2 sink ∷ bit_text denied
    ∷ d ∷ bit_text corrupt ∷ []) ++ 10 ∷ []
    → response_text line (head_text line name) known
    ≡ spaced (digits 2 link ∷ (68 ∷ []) ∷ name ∷ param_text known param ∷ (codes "size=" ++ digits 1 size)
    ∷ (codes "source=" ++ digits 2 source) ∷ (codes "sink=" ++ digits 2 sink)
    ∷ (codes "denied=" ++ bit_text denied) ∷ (codes "data=" ++ d) ∷ (codes "corrupt=" ++ bit_text corrupt) ∷ []) ++ 10
    ∷ []
unfolding digits spaced size_and_source sink_text
response_is link opcode name known param size source sink false d corrupt line is = rw is
    (response_then (spaced (digits 2 link ∷ (68 ∷ []) ∷ digits 1 opcode ∷ digits 1 param ∷ digits 1 size ∷ digits 2
    source ∷ digits 2 sink ∷ (48 ∷ []) ∷ d
    ∷ bit_text corrupt ∷ []) ++ 10 ∷ []) name known
    ∙ rw (tail_is d corrupt, append_assoc name, append_assoc (param_text known param), append_assoc d) refl)
response_is link opcode name known param size source sink true d corrupt line is = rw is
    (response_then (spaced (digits 2 link ∷ (68 ∷ []) ∷ digits 1 opcode ∷ digits 1 param ∷ digits 1 size ∷ digits 2
    source ∷ digits 2 sink ∷ (49 ∷ []) ∷ d
    ∷ bit_text corrupt ∷ []) ++ 10 ∷ []) name known
    ∙ rw (tail_is d corrupt, append_assoc name, append_assoc (param_text known param), append_assoc d) refl)

-- and of channel E
pub acknowledgement_is : (link sink : ℕ)
    → acknowledgement_text (spaced (digits 2 link ∷ (69 ∷ []) ∷ digits 2 sink ∷ []) ++ 10 ∷ [])
    ≡ spaced (digits 2 link ∷ (69 ∷ []) ∷ codes "GrantAck" ∷ (codes "sink=" ++ digits 2 sink) ∷ []) ++ 10 ∷ []
unfolding acknowledgement_text digits spaced
acknowledgement_is link sink = refl
