-- Beats that aren't of a link's cleaning.
use Rattle.std.proofs.Common.{◌≡◌, ℕ, Bool, true, false, ◌&&◌, List, [], not}
use Rattle.std.proofs.lemmas.Bool.{not-false, or_parts}
use Rattle.std.specs.Prelude.{if◌then◌else◌}
use Rattle.tl_beat.specs.declared.beat.Beat.{Beat}
use Rattle.tl_burst.specs.statement.Part.{is_empty}
use Rattle.tl_rules.specs.statement.History.{is_probe_ack}
use Rattle.tl_manager.specs.code.Kept.{IsTyped}
use Rattle.tl_partner.specs.declared.terms.Terms.{Terms}
use Rattle.tl_partner.specs.statement.Cleaning.{is_cleaning, is_of_cleaning}
use Rattle.tl_partner.specs.statement.Granting.{granted}
use Rattle.tl_partner.specs.statement.Naming.{from_zero, plain}
use Rattle.tl_partner.specs.statement.Partner.{asks_for_cleaned}
use Rattle.tl_partner.proofs.Said.{empty}

-- the beat isn't of the cleaning, nor an Acquire of its block
abbrev pub IsBeside : {w : ℕ} → Beat w → List (Beat w) → Type 0
IsBeside (Beat.C x) cleaning = cleaning ≡ []
IsBeside x cleaning = asks_for_cleaned x cleaning ≡ false

pub beside : {w : ℕ} (terms : Terms) (x : Beat w) (cleaning : List (Beat w))
    → is_of_cleaning (granted terms) x cleaning ≡ false → asks_for_cleaned x cleaning ≡ false → IsBeside x cleaning
beside terms (Beat.A x) cleaning other free = free
beside terms (Beat.B x) cleaning other free = free
beside terms (Beat.C x) cleaning other free =
    empty cleaning (not-false (is_empty cleaning)
    (or_parts (not (is_empty cleaning)) (is_cleaning (granted terms) (Beat.C x)) other).0)
beside terms (Beat.D x) cleaning other free = free
beside terms (Beat.E x) cleaning other free = free

pub beside_plain : {w : ℕ} (terms : Terms) (x : Beat w) (cleaning : List (Beat w)) → IsBeside x cleaning
    → IsBeside (plain terms x) cleaning
beside_plain terms (Beat.A x) cleaning apart = apart
beside_plain terms (Beat.B x) cleaning apart = apart
beside_plain {w} terms (Beat.C x) cleaning apart = go (terms.ids && is_probe_ack x.opcode)
  where
    go : (b : Bool) → IsBeside (if b then Beat.C (from_zero x) else Beat.C x) cleaning
    go true = apart
    go false = apart
beside_plain terms (Beat.D x) cleaning apart = apart
beside_plain terms (Beat.E x) cleaning apart = apart

pub typed_plain : {w : ℕ} (terms : Terms) (x : Beat w) → IsTyped x → IsTyped (plain terms x)
typed_plain terms (Beat.A x) typed = typed
typed_plain terms (Beat.B x) typed = tt
typed_plain {w} terms (Beat.C x) typed = go (terms.ids && is_probe_ack x.opcode)
  where
    go : (b : Bool) → IsTyped {w = w} (if b then Beat.C (from_zero x) else Beat.C x)
    go true = tt
    go false = tt
typed_plain terms (Beat.D x) typed = tt
typed_plain terms (Beat.E x) typed = tt
