-- For whom a block is free beside a link that held nothing of it.
use Rattle.std.proofs.Common.{◌≡◌, ℕ, zero, suc, Bool, true, false, ◌&&◌, ◌<◌, ◌≤◌, ◌∷◌, refl, sym, ap, ◌∙◌, arith}
use Rattle.std.proofs.Common.{inl, inr}
use Rattle.std.specs.Prelude.{Option, Some, None, unwrap_or}
use Rattle.std.proofs.lemmas.Bool.{and_parts, cases_eq}
use Rattle.tl_beat.specs.declared.beat.Beat.{Beat}
use Rattle.tl_beat.specs.declared.beat.Link.{Link}
use Rattle.tl_bytes.specs.statement.Free.{is_free, may_hold}
use Rattle.tl_monitor.proofs.OnLink.{other_link, own_link}
use Rattle.tl_params.specs.declared.perm.Perm.{Perm}
use Rattle.tl_params.specs.declared.perm.Perm.TheVariants as perm
use Rattle.tl_rules.specs.statement.Conformance.{Trace, on_link}
use Rattle.tl_rules.specs.statement.Windows.{leaves}

-- a beat of a link behind them leaves what these links do of a block
free_above : {w : ℕ} (n : ℕ) (given : Perm) (block : ℕ) (x : Link × Beat w) (t : Trace w) → n ≤ x.0.0
    → is_free n given block (x ∷ t) ≡ is_free n given block t
unfolding is_free
free_above zero given block x t above = refl
free_above (suc n) given block x t above =
    rw (
      free_above n given block x t (omega (arith, above)),
      other_link n x t (λ e. absurd (omega (arith, above, e))),
    ) refl

nothing_leaves : (given : Perm) → leaves given perm.None ≡ true
nothing_leaves perm.None = refl
nothing_leaves perm.Branch = refl
nothing_leaves perm.Trunk = refl

-- who leaves a block to one who writes it holds nothing
pub left_whole : (p : Perm) → leaves perm.Trunk p ≡ true → p ≡ perm.None
left_whole perm.None e = refl
left_whole perm.Branch e = absurd cc
left_whole perm.Trunk e = absurd cc

-- where what is held leaves it, what a Grant gives does or doesn't by itself
pub coming_leaves : (given : Perm) (o : Option Perm) (held : Perm) → leaves given held ≡ true
    → leaves given (unwrap_or o perm.None) ≡ leaves given (unwrap_or o held)
coming_leaves given None held e = nothing_leaves given ∙ sym e
coming_leaves given (Some p) held e = refl

-- each link leaves a block that is free
pub free_leaves : {w : ℕ} (m n : ℕ) (given : Perm) (block : ℕ) (t : Trace w) → is_free m given block t ≡ true → n < m
    → leaves given (may_hold block (on_link n t)) ≡ true
unfolding is_free
free_leaves zero n given block t free lt = absurd (omega (arith, lt))
free_leaves (suc m) n given block t free lt = elim (cases_eq n m) [
  | inl last ↦ ap (λ k. leaves given (may_hold block (on_link k t))) last ∙ both.1
  | inr other ↦ free_leaves m n given block t both.0 (omega (arith, lt, other))
]
  where
    both : (is_free m given block t ≡ true) × (leaves given (may_hold block (on_link m t)) ≡ true)
    both = and_parts (is_free m given block t) (leaves given (may_hold block (on_link m t))) free

and_true : (a : Bool) → (a && true) ≡ a
and_true true = refl
and_true false = refl

other_way : (a b c : Bool) → ((a && b) && c) ≡ ((a && c) && b)
other_way true true c = sym (and_true c)
other_way true false true = refl
other_way true false false = refl
other_way false b c = refl

-- with the beat the block is as free as it was where its link leaves it
pub free_beside : {w : ℕ} (n : ℕ) (given : Perm) (block : ℕ) (x : Link × Beat w) (t : Trace w) → x.0.0 < n
    → may_hold block (on_link x.0.0 t) ≡ perm.None
    → (is_free n given block t && leaves given (may_hold block (x.1 ∷ on_link x.0.0 t))) ≡ is_free n given block (x ∷ t)
unfolding is_free
free_beside zero given block x t lt none = absurd (omega (arith, lt))
free_beside (suc n) given block x t lt none = elim (cases_eq x.0.0 n) [
  | inl own ↦
      let before : leaves given (may_hold block (on_link n t)) ≡ true =
      ap (λ m. leaves given (may_hold block (on_link m t))) (sym own) ∙ ap (leaves given) none ∙ nothing_leaves given in
      let now : on_link n (x ∷ t) ≡ x.1 ∷ on_link x.0.0 t =
      own_link n x t own ∙ ap (λ m. x.1 ∷ on_link m t) (sym own) in
      rw (before, now, free_above n given block x t (omega (arith, own)), and_true (is_free n given block t)) refl
  | inr other ↦
      other_way (is_free n given block t) (leaves given (may_hold block (on_link n t)))
      (leaves given (may_hold block (x.1 ∷ on_link x.0.0 t)))
      ∙ rw (other_link n x t other) (ap (λ f. f && leaves given (may_hold block (on_link n t)))
      (free_beside n given block x t (omega (arith, lt, other)) none))
]
