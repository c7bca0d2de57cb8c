-- A wide line that is read from left to right, with its letter at its place, has the spaces of its channel.
use Rattle.std.proofs.Common.{◌≡◌, ℕ, ◌+◌, ◌/◌, ◌<◌, false, List, drop, refl, sym, ap, ◌∙◌, arith}
use Rattle.std.specs.List.{after_first}
use Rattle.std.specs.Prelude.{Result, Ok, Err, Some, ◌==◌, slice_index, IfOk}
use Rattle.tl_beat.proofs.ReadFields.{ok_is, ok_step}
use Rattle.tl_beat.proofs.WellSpelled.{field-spaces, bit_field-spaces, tail-spaces, IsFront, letter-front, more-front}
use Rattle.tl_beat.proofs.WellSpelled.{end-nothing, digits-begin, no-spaces}
use Rattle.tl_beat.specs.code.FromLeft.{digits_at, field_at, tail_at, at_end, bit_field_at, letter_in, spaces_in}
use Rattle.tl_wide.specs.code.FromLeft.{head_at, line_a_at, line_b_at, line_c_at, line_d_at, line_e_at, body_at}
use Rattle.tl_beat.specs.declared.beat.Link.{Link}
use Rattle.tl_wide.specs.declared.beat.WideBeat.{WideBeat}
use Rattle.tl_beat.specs.declared.fault.LineFault.{LineFault}
use Rattle.tl_wide.specs.declared.read.line.Head.{Head}

head-front : (c : ℕ) (bytes rest : List ℕ) (head : Head) → 0 < c → (c == 32) ≡ false → slice_index bytes 3 ≡ c
    → slice_index bytes 4 ≡ 32 → head_at bytes ≡ Ok (head, rest) → IsFront c 6 bytes rest
unfolding head_at
head-front c bytes rest head some apart h3 h4 e =
    ok_step (field_at 2 bytes) _ (head, rest) _ e (λ link k1 e1.
    ok_step (field_at 1 (drop 2 link.1)) _ (head, rest) _ e1 (λ opcode k2 e2.
    ok_step (field_at 1 opcode.1) _ (head, rest) _ e2 (λ param k3 e3.
    ok_step (field_at 1 param.1) _ (head, rest) _ e3 (λ size k4 e4.
    ok_step (field_at 4 size.1) _ (head, rest) _ e4 (λ source k5 e5.
    let front = letter-front c link.0 bytes link.1 some apart h3 h4 k1 in
    let same : source.1 ≡ rest = ap (λ (x : Head × List ℕ). x.1) (ok_is e5) in
    let s2 = field-spaces 1 opcode.0 (drop 2 link.1) opcode.1 k2 in
    let s3 = field-spaces 1 param.0 opcode.1 param.1 k3 in
    let s4 = field-spaces 1 size.0 param.1 size.1 k4 in
    let s5 = field-spaces 4 source.0 size.1 source.1 k5 in
    let count : spaces_in (drop 2 link.1) ≡ spaces_in source.1 + 4 = omega (arith, s2, s3, s4, s5) in
    more-front c 2 4 bytes (drop 2 link.1) rest front (rw (← same) count))))))

-- ---- whole lines

-- the line has its letter and this many spaces
abbrev Has : ℕ → ℕ → List ℕ → Type 0
Has c n bytes = (letter_in (after_first (λ b. b == 32) bytes) ≡ Some c) × (spaces_in bytes ≡ n)

line_a-has : {w : ℕ} (bytes : List ℕ) (x : Link × WideBeat w) → slice_index bytes 3 ≡ 65 → slice_index bytes 4 ≡ 32
    → line_a_at bytes ≡ Ok x → Has 65 9 bytes
unfolding line_a_at
line_a-has {w} bytes x h3 h4 e =
    ok_step (head_at bytes) _ x _ e (λ head k1 e1.
    ok_step (field_at 16 head.1) _ x _ e1 (λ address k2 e2.
    ok_step (field_at (w / 4) address.1) _ x _ e2 (λ mask k3 e3.
    ok_step (tail_at w mask.1) _ x _ e3 (λ tail k4 e4.
    let front = head-front 65 bytes head.1 head.0 (omega arith) refl h3 h4 k1 in
    let s2 = field-spaces 16 address.0 head.1 address.1 k2 in
    let s3 = field-spaces (w / 4) mask.0 address.1 mask.1 k3 in
    let s4 = tail-spaces w mask.1 tail k4 in
    (front.named, omega (arith, front.spaces, s2, s3, s4))))))

line_b-has : {w : ℕ} (bytes : List ℕ) (x : Link × WideBeat w) → slice_index bytes 3 ≡ 66 → slice_index bytes 4 ≡ 32
    → line_b_at bytes ≡ Ok x → Has 66 9 bytes
unfolding line_b_at
line_b-has {w} bytes x h3 h4 e =
    ok_step (head_at bytes) _ x _ e (λ head k1 e1.
    ok_step (field_at 16 head.1) _ x _ e1 (λ address k2 e2.
    ok_step (field_at (w / 4) address.1) _ x _ e2 (λ mask k3 e3.
    ok_step (tail_at w mask.1) _ x _ e3 (λ tail k4 e4.
    let front = head-front 66 bytes head.1 head.0 (omega arith) refl h3 h4 k1 in
    let s2 = field-spaces 16 address.0 head.1 address.1 k2 in
    let s3 = field-spaces (w / 4) mask.0 address.1 mask.1 k3 in
    let s4 = tail-spaces w mask.1 tail k4 in
    (front.named, omega (arith, front.spaces, s2, s3, s4))))))

line_c-has : {w : ℕ} (bytes : List ℕ) (x : Link × WideBeat w) → slice_index bytes 3 ≡ 67 → slice_index bytes 4 ≡ 32
    → line_c_at bytes ≡ Ok x → Has 67 8 bytes
unfolding line_c_at
line_c-has {w} bytes x h3 h4 e =
    ok_step (head_at bytes) _ x _ e (λ head k1 e1.
    ok_step (field_at 16 head.1) _ x _ e1 (λ address k2 e2.
    ok_step (tail_at w address.1) _ x _ e2 (λ tail k3 e3.
    let front = head-front 67 bytes head.1 head.0 (omega arith) refl h3 h4 k1 in
    let s2 = field-spaces 16 address.0 head.1 address.1 k2 in
    let s3 = tail-spaces w address.1 tail k3 in
    (front.named, omega (arith, front.spaces, s2, s3)))))

line_d-has : {w : ℕ} (bytes : List ℕ) (x : Link × WideBeat w) → slice_index bytes 3 ≡ 68 → slice_index bytes 4 ≡ 32
    → line_d_at bytes ≡ Ok x → Has 68 9 bytes
unfolding line_d_at
line_d-has {w} bytes x h3 h4 e =
    ok_step (head_at bytes) _ x _ e (λ head k1 e1.
    ok_step (field_at 4 head.1) _ x _ e1 (λ sink k2 e2.
    ok_step (bit_field_at sink.1) _ x _ e2 (λ denied k3 e3.
    ok_step (tail_at w denied.1) _ x _ e3 (λ tail k4 e4.
    let front = head-front 68 bytes head.1 head.0 (omega arith) refl h3 h4 k1 in
    let s2 = field-spaces 4 sink.0 head.1 sink.1 k2 in
    let s3 = bit_field-spaces denied.0 sink.1 denied.1 k3 in
    let s4 = tail-spaces w denied.1 tail k4 in
    (front.named, omega (arith, front.spaces, s2, s3, s4))))))

line_e-has : {w : ℕ} (bytes : List ℕ) (x : Link × WideBeat w) → slice_index bytes 3 ≡ 69 → slice_index bytes 4 ≡ 32
    → line_e_at bytes ≡ Ok x → Has 69 2 bytes
unfolding line_e_at
line_e-has {w} bytes x h3 h4 e =
    ok_step (field_at 2 bytes) _ x _ e (λ link k1 e1.
    ok_step (digits_at 0 4 (drop 2 link.1)) _ x _ e1 (λ sink k2 e2.
    ok_step (at_end sink) _ x _ e2 (λ last k3 e3.
    let front = letter-front 69 link.0 bytes link.1 (omega arith) refl h3 h4 k1 in
    let t = digits-begin 4 0 sink.0 (drop 2 link.1) sink.1 k2 in
    let none : spaces_in (drop 2 link.1) ≡ 0 = ap spaces_in t.is ∙ no-spaces t.piece sink.1 t.none ∙ ap spaces_in
    (end-nothing last sink k3) in
    (front.named, omega (arith, front.spaces, none)))))

-- what was read of a line that has them is what the line is read as
read-so : {w : ℕ} (bytes : List ℕ) (r line : Result (Link × WideBeat w) LineFault) → r ≡ line
    → ((x : Link × WideBeat w) → line ≡ Ok x → body_at bytes ≡ line) → IfOk r (λ read. body_at bytes ≡ Ok read)
read-so bytes (Ok x) line same body = body x (sym same) ∙ sym same
read-so bytes (Err fault) line same body = tt

pub body-a : {w : ℕ} (bytes : List ℕ) (r : Result (Link × WideBeat w) LineFault)
    → slice_index bytes 3 ≡ 65 → slice_index bytes 4 ≡ 32
    → r ≡ line_a_at bytes → IfOk r (λ read. body_at bytes ≡ Ok read)
body-a bytes r h3 h4 same = read-so bytes r _ same (λ x e. let has = line_a-has bytes x h3 h4 e in
    rw (has.1, has.0) refl)

pub body-b : {w : ℕ} (bytes : List ℕ) (r : Result (Link × WideBeat w) LineFault)
    → slice_index bytes 3 ≡ 66 → slice_index bytes 4 ≡ 32
    → r ≡ line_b_at bytes → IfOk r (λ read. body_at bytes ≡ Ok read)
body-b bytes r h3 h4 same = read-so bytes r _ same (λ x e. let has = line_b-has bytes x h3 h4 e in
    rw (has.1, has.0) refl)

pub body-c : {w : ℕ} (bytes : List ℕ) (r : Result (Link × WideBeat w) LineFault)
    → slice_index bytes 3 ≡ 67 → slice_index bytes 4 ≡ 32
    → r ≡ line_c_at bytes → IfOk r (λ read. body_at bytes ≡ Ok read)
body-c bytes r h3 h4 same = read-so bytes r _ same (λ x e. let has = line_c-has bytes x h3 h4 e in
    rw (has.1, has.0) refl)

pub body-d : {w : ℕ} (bytes : List ℕ) (r : Result (Link × WideBeat w) LineFault)
    → slice_index bytes 3 ≡ 68 → slice_index bytes 4 ≡ 32
    → r ≡ line_d_at bytes → IfOk r (λ read. body_at bytes ≡ Ok read)
body-d bytes r h3 h4 same = read-so bytes r _ same (λ x e. let has = line_d-has bytes x h3 h4 e in
    rw (has.1, has.0) refl)

pub body-e : {w : ℕ} (bytes : List ℕ) (r : Result (Link × WideBeat w) LineFault)
    → slice_index bytes 3 ≡ 69 → slice_index bytes 4 ≡ 32
    → r ≡ line_e_at bytes → IfOk r (λ read. body_at bytes ≡ Ok read)
body-e bytes r h3 h4 same = read-so bytes r _ same (λ x e. let has = line_e-has bytes x h3 h4 e in
    rw (has.1, has.0) refl)
