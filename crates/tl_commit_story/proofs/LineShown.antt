-- The front of a line shows the fault of the line, and the line is shown by it.
use Rattle.std.proofs.Common.{◌≡◌, ◌≢◌, ◌∙◌, ◌+◌, ◌-◌, ◌<◌, ◌≤◌, ℕ, Bool, true, false, List, [], ◌∷◌, ◌++◌, refl, ap, sym, arith}
use Rattle.std.proofs.Common.{drop, get_or, leb, leb-false, leb-true, length, lt-ltb, take}
use Rattle.std.proofs.lemmas.List.{drop_more, get_or_past, length-take-le, take-append-drop, take-take, take_all}
use Rattle.std.specs.Io.BufRead.{ends_with_byte}
use Rattle.tl_events.specs.statement.EventLine.{event_fault}
use Rattle.tl_explain.specs.statement.Shown.{Shows, line_text, shown_of}

-- ---- a line of an input

pub stands-at : (n : ℕ) (lines : List (List ℕ)) → n < length lines
    → lines ≡ take n lines ++ get_or lines n [] ∷ drop (n + 1) lines
stands-at n lines lt =
    sym (take-append-drop n lines) ∙ ap (λ (l : List (List ℕ)). take n lines ++ l) (drop_more lines n [] lt)

pub line-there : (n : ℕ) (lines : List (List ℕ)) → get_or lines n [] ≢ [] → n < length lines
line-there n lines some = go (leb (length lines) n) refl
  where
    go : (q : Bool) → leb (length lines) n ≡ q → n < length lines
    go true past = absurd (some (get_or_past lines n [] (leb-true (length lines) n past)))
    go false within = leb-false (length lines) n within

-- ---- its front

pub fault-of-front : (w : ℕ) (line : List ℕ) → event_fault w (take 257 line) ≡ event_fault w line
fault-of-front w line = go (leb (length line) 257) refl
  where
    go : (q : Bool) → leb (length line) 257 ≡ q → event_fault w (take 257 line) ≡ event_fault w line
    go true short = rw (take_all 257 line (leb-true (length line) 257 short)) refl
    go false long =
        let many : 257 < length line = leb-false (length line) 257 long in
        rw (length-take-le 257 line (omega (arith, many)), lt-ltb 256 (length line) (omega (arith, many))) refl

cut : (line : List ℕ) → 257 ≤ length line → shown_of line ≡ take 256 line
cut line long = go (ends_with_byte 10 line) refl
  where
    go : (q : Bool) → ends_with_byte 10 line ≡ q → shown_of line ≡ take 256 line
    go true lf = rw lf (take-take 256 (length line - 1) line (omega (arith, long)))
    go false lf = rw lf refl

shown-of-front : (line : List ℕ) → shown_of (take 257 line) ≡ shown_of line
shown-of-front line = go (leb (length line) 257) refl
  where
    go : (q : Bool) → leb (length line) 257 ≡ q → shown_of (take 257 line) ≡ shown_of line
    go true short = ap shown_of (take_all 257 line (leb-true (length line) 257 short))
    go false long =
        let many : 257 < length line = leb-false (length line) 257 long in
        let all : length (take 257 line) ≡ 257 = length-take-le 257 line (omega (arith, many)) in
        cut (take 257 line) (omega (arith, all)) ∙ take-take 256 257 line (omega arith)
        ∙ sym (cut line (omega (arith, many)))

text-of-front : (line : List ℕ) (from to : ℕ) → line_text (take 257 line) from to ≡ line_text line from to
unfolding line_text
text-of-front line from to = rw (shown-of-front line) refl

pub shows-front : (line old new : List ℕ) → Shows (take 257 line) old new → Shows line old new
shows-front line old new (from, to, words, is) =
    (from, to, words, is ∙ ap (λ (text : List ℕ). old ++ (text ++ words)) (text-of-front line from to))
