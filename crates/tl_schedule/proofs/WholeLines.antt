-- Whole lines of events: what is read is said by the line, and what the line says is read.
use Rattle.tl_schedule.proofs.Imports.{pieces, spaced, Said, event_of, said_fields, ask_at}
use Rattle.std.proofs.Common.{◌≡◌, ℕ, suc, ◌-◌, ◌<◌, ◌≤◌, Bool, true, false, cond, List, [], ◌∷◌, ◌++◌, length, get_or}
use Rattle.std.proofs.Common.{take, drop, refl, sym, ap, ap₂, ◌∙◌, arith, length-append}
use Rattle.std.{proofs.Math.Seq.drop-cons, proofs.lemmas.List.drop_all, proofs.lemmas.List.take-append-drop}
use Rattle.std.{proofs.lemmas.Slice.Eq.bytes_eq-Decides, specs.Io.BufRead.ends_with_byte}
use Rattle.std.proofs.lemmas.Bool.{eqb-true, le-ltb, ltb-true, and_parts}
use Rattle.std.specs.Prelude.{not, ◌==◌, ◌||◌, nat_lt, bytes_eq, codes, IfErr, IfOk, Option, Some, None, option_map}
use Rattle.std.specs.Prelude.{Result, Ok, Err, ok_or}
use Rattle.tl_beat.{specs.statement.Width.IsWidth, proofs.Pieces.pieces-spaced, proofs.Pieces.spaced-pieces}
use Rattle.tl_beat.proofs.SpelledLines.{ends_with_byte-line, without_last-line, length-spaced}
use Rattle.tl_coherence.specs.declared.event.Event.{Event}
use Rattle.tl_schedule.{specs.declared.line.EventFault.EventFault, specs.declared.line.Line.Line}
use Rattle.tl_schedule.{proofs.EventMeant.meant-event, proofs.EventTaken.ask_taken, proofs.SpelledFields.map_taken}
use Rattle.tl_schedule.specs.declared.line.EventFault.TheVariants.{F1, F8}
use Rattle.tl_schedule.specs.statement.EventLine.{SpellsEvent, SpellsLine, drain_line, event_fault}
use Rattle.tl_schedule.specs.code.EventReading.{event_at, line_at, meant, meant_by}
use Rattle.tl_schedule.proofs.EventAgain.{ask_again, said-no_spaces, said-short, said-some}

-- ---- a line and its line feed

pub line-whole : (line : List ℕ) → ends_with_byte 10 line ≡ true → line ≡ take (length line - 1) line ++ 10 ∷ []
line-whole line e =
    let both = and_parts (nat_lt 0 (length line)) (get_or line (length line - 1) 0 == 10) e in
    let some : 0 < length line = ltb-true 0 (length line) both.0 in
    let last : get_or line (length line - 1) 0 ≡ 10 = eqb-true (get_or line (length line - 1) 0) 10 both.1 in
    let rest : drop (length line - 1) line ≡ 10 ∷ [] = drop-cons line (length line - 1) 0 (omega arith)
    ∙ ap₂ (λ (x : ℕ) (xs : List ℕ). x ∷ xs) last (drop_all (suc (length line - 1)) line (omega arith)) in
    sym (take-append-drop (length line - 1) line) ∙ ap (λ (xs : List ℕ). take (length line - 1) line ++ xs) rest

event_at-line : (w : ℕ) (body : List ℕ) → length body ≤ 255 → event_at {w = w} (body ++ 10 ∷ []) ≡ ok_or (line_at body)
    F8
event_at-line w body short =
    let fits : nat_lt 256 (length (body ++ 10 ∷ [])) ≡ false =
    le-ltb 256 (length (body ++ 10 ∷ [])) (omega (arith, length-append body (10 ∷ []))) in
    rw (fits, ends_with_byte-line body, without_last-line body) refl

-- ---- what is read is said by the line

abbrev event_line_of : {w : ℕ} → Event w → Line w
event_line_of e = Line.Event e

some_line : {w : ℕ} {x y : Line w} → Some x ≡ Some y → x ≡ y
some_line e = cc

meant_said : {w : ℕ} (line body : List ℕ) (e : Event w) → line ≡ body ++ 10 ∷ []
    → meant_by (ask_at w (pieces body)) ≡ Some e → SpellsEvent line e
meant_said {w} line body e whole f = go (ask_at w (pieces body)) refl f
  where
    go : (o : Option Said) → ask_at w (pieces body) ≡ o → meant_by o ≡ Some e → SpellsEvent line e
    go None is g = absurd cc
    go (Some said) is g =
        let s = ask_taken w (pieces body) said is in
        let body_is : body ≡ spaced (said_fields w said) = sym (spaced-pieces body) ∙ ap spaced s.text in
        let same : Some (event_of said s.fits) ≡ Some e = sym (meant-event said s.fits) ∙ g in
        record {
          said = said;
          fits = s.fits;
          is_line = whole ∙ ap (λ (x : List ℕ). x ++ 10 ∷ []) body_is;
          means = same_event same;
        }
      where
        same_event : {x y : Event w} → Some x ≡ Some y → x ≡ y
        same_event h = cc

line_taken : {w : ℕ} (line body : List ℕ) (read : Line w) → line ≡ body ++ 10 ∷ [] → line_at body ≡ Some read
    → SpellsLine line read
line_taken {w} line body read whole e = go (bytes_eq body (codes "drain")) refl e
  where
    go : (b : Bool) → bytes_eq body (codes "drain") ≡ b
        → cond b (Some Line.Drain) (option_map event_line_of (meant_by (ask_at w (pieces body)))) ≡ Some read
        → SpellsLine line read
    go true is f =
        let text : body ≡ codes "drain" = (bytes_eq-Decides body (codes "drain")).0 is in
        let same : Line.Drain ≡ read = some_line f in
        rw (← same) (whole ∙ ap (λ (x : List ℕ). x ++ 10 ∷ []) text)
    go false is f =
        let (event, found, same) = map_taken event_line_of (meant_by (ask_at w (pieces body))) read f in
        rw (← same) (meant_said line body event whole found)

ok_or-ok : {w : ℕ} (o : Option (Line w)) (read : Line w) → ok_or o F8 ≡ Ok read → o ≡ Some read
ok_or-ok None read e = absurd cc
ok_or-ok (Some x) read e = cc

event_taken : {w : ℕ} (line : List ℕ) (read : Line w) → event_at line ≡ Ok read → SpellsLine line read
event_taken {w} line read e = go (nat_lt 256 (length line)) (ends_with_byte 10 line) refl e
  where
    go : (long ended : Bool) → ends_with_byte 10 line ≡ ended
        → cond (long || not ended) (Err F1) (ok_or (line_at (take (length line - 1) line)) F8) ≡ Ok read
        → SpellsLine line read
    go false true is f = line_taken line (take (length line - 1) line) read (line-whole line is)
        (ok_or-ok (line_at (take (length line - 1) line)) read f)
    go v u is f = absurd cc

pub read_said : {w : ℕ} (r : Result (Line w) EventFault) (line : List ℕ) → r ≡ event_at line → IfOk r (SpellsLine line)
read_said (Err fault) line e = tt
read_said (Ok read) line e = event_taken line read (sym e)

-- ---- what the line says is read

one_piece : length (pieces (codes "drain")) ≡ 1
unfolding pieces
one_piece = refl

not_drain : (w : ℕ) (said : Said) (body : List ℕ) (b : Bool) → pieces body ≡ said_fields w said
    → bytes_eq body (codes "drain") ≡ b → b ≡ false
not_drain w said body true fields is =
    let text : body ≡ codes "drain" = (bytes_eq-Decides body (codes "drain")).0 is in
    let same : length (said_fields w said) ≡ 1 = sym (ap length fields) ∙ ap (λ (x : List ℕ). length (pieces x))
    text ∙ one_piece in
    absurd (omega (arith, same, said-some w said))
not_drain w said body false fields is = refl

line_again : {w : ℕ} (said : Said) (body : List ℕ) (e : Event w) → pieces body ≡ said_fields w said
    → ask_at w (said_fields w said) ≡ Some said → meant {w = w} said ≡ Some e → line_at body ≡ Some (Line.Event e)
line_again {w} said body e fields asked means =
    rw (not_drain w said body (bytes_eq body (codes "drain")) fields refl, fields, asked, means) refl

event_again : {w : ℕ} (line : List ℕ) (e : Event w) → IsWidth w → SpellsEvent line e → event_at line ≡ Ok (Line.Event e)
event_again {w} line e width s =
    let fields = said_fields w s.said in
    let body = spaced fields in
    let short : length body ≤ 255 = omega (arith, length-spaced fields, said-short w s.said width s.fits) in
    let cut : pieces body ≡ fields = pieces-spaced fields (omega (arith, said-some w s.said)) (said-no_spaces w s.said)
    in
    let read = line_again s.said body e cut (ask_again w s.said s.fits)
    (meant-event s.said s.fits ∙ ap (λ (x : Event w). Some x) s.means) in
    ap event_at s.is_line ∙ event_at-line w body short ∙ ap (λ o. ok_or o F8) read

drain_again : {w : ℕ} → event_at {w = w} drain_line ≡ Ok Line.Drain
drain_again = refl

pub said_read : {w : ℕ} (r : Result (Line w) EventFault) (line : List ℕ) → IsWidth w → r ≡ event_at line
    → (read : Line w) → SpellsLine line read → r ≡ Ok read
said_read r line width e (Line.Event event) s = e ∙ event_again line event width s
said_read r line width e Line.Drain s = e ∙ ap event_at s ∙ drain_again

-- ---- the fault of a line that says nothing

fault_is : {w : ℕ} (long : Bool) (o : Option (Line w)) (fault : EventFault)
    → Err fault ≡ cond long (Err F1) (ok_or o F8) → fault ≡ cond long F1 F8
fault_is false (Some read) fault e = absurd cc
fault_is v u fault e = cc

pub read_fault : {w : ℕ} (r : Result (Line w) EventFault) (line : List ℕ) → r ≡ event_at line
    → IfErr r (λ f. f ≡ event_fault line)
read_fault (Ok read) line e = tt
read_fault {w} (Err fault) line e = fault_is {w = w} (nat_lt 256 (length line) || not (ends_with_byte 10 line))
    (line_at (take (length line - 1) line)) fault e
