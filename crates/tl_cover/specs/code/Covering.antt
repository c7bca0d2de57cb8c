-- What a covering has of a trace.
use Rattle.std.specs.Prelude.{ℕ, Bool, ◌<◌, ◌≡◌, ◌+◌, ◌&&◌, List, []}
use Rattle.std.specs.Prelude.{◌∷◌, length, map, if◌then◌else◌, slice_index_or, Option}
use Rattle.std.specs.Prelude.{◌++◌, drop, is_some, take}
use Rattle.std.specs.Prelude.{Some, None, unwrap_or}
use Rattle.tl_beat.specs.declared.beat.Beat.{Beat}
use Rattle.tl_burst.specs.statement.Messages.{History}
use Rattle.tl_cover.specs.code.Groups.{Fits}
use Rattle.tl_cover.specs.code.Past.{AreApart, KnowsPast, asked_next, found}
use Rattle.tl_cover.specs.declared.past.LinkPast.{LinkPast}
use Rattle.tl_cover.specs.declared.row.Row.{Row}
use Rattle.tl_cover.specs.declared.scene.Scene.{Scene}
use Rattle.tl_cover.specs.declared.situation.Situation.{Situation}
use Rattle.tl_cover.specs.declared.stretch.TheConstants.{OF_BINS}
use Rattle.tl_cover.specs.statement.Covered.{table}
use Rattle.tl_cover.specs.statement.Scene.{probe_at, scene}
use Rattle.tl_cover.specs.statement.Situations.{meets}
use Rattle.tl_params.specs.declared.liberties.Liberties.{Liberties}
use Rattle.tl_rules.specs.statement.Conformance.{Trace, on_link}
use Rattle.tl_params.specs.declared.key.Key.TheVariants.{ProbeOf}
use Rattle.tl_rules.specs.statement.History.{begins, closes, ends, opens}

-- ---- rows

abbrev pub unseen : Situation → Row
unseen s = record { situation = s; count = 0; first = None }

-- a row whose situation has come in this line too
abbrev pub noted : ℕ → Row → Row
noted line r = record { situation = r.situation; count = r.count + 1; first = Some (unwrap_or r.first line) }

abbrev pub noted_if : Bool → ℕ → Row → Row
noted_if b line r = if b then noted line r else r

-- a row with a beat of this line, of whose message this is known where it begins one
abbrev pub row_with : {w : ℕ} → ℕ → Beat w → Option Scene → Row → Row
row_with line x None r = r
row_with line x (Some s) r = noted_if (meets r.situation x s) line r

-- the rows up to this place with a message that begins with this beat in this line; the others without it
abbrev pub noted_to : {w : ℕ} → ℕ → Beat w → Scene → ℕ → List Row → List Row
noted_to line x s i rows = map (row_with line x (Some s)) (take i rows) ++ drop i rows

-- what is known of the message that begins with a beat, where it begins one
abbrev pub opening_of : {w : ℕ} → Liberties → ℕ → ℕ → Beat w → Trace w → Option Scene
opening_of l n i x t = if begins x (on_link i t) then Some (scene l n i x t) else None

-- ---- links

-- What is kept of link i is what it has carried in t, the trace of n links.
pub record KnowsLink {w : ℕ} (l : Liberties) (n : ℕ) (p : LinkPast) (i : ℕ) (t : Trace w) : Type 0 where
  pub past : KnowsPast p (on_link i t)
  pub probes_are : (k : ℕ) → found k p.probes.items ≡ probe_at i k t
  pub apart : AreApart p.probes.items
  pub rows_are : p.rows.items ≡ table l n i t

-- What is kept of a link after a beat in this line: with the facts about the message that it begins, if it begins one,
-- and whether it ends one.
pub record Taken {w : ℕ} (old new : LinkPast) (line : ℕ) (opening : Option Scene) (last : Bool) (x : Beat w) : Type 0
  where
    pub past : (h : History w) → KnowsPast old h → is_some opening ≡ begins x h → last ≡ ends x h
        → KnowsPast new (x ∷ h)
    pub probes : (k : ℕ) (h : History w) → found k new.probes.items
        ≡ asked_next x line (is_some opening && opens (ProbeOf k) x h) (last && closes (ProbeOf k) x h)
        (found k old.probes.items)
    pub apart : AreApart old.probes.items → AreApart new.probes.items
    pub rows : Fits 0 OF_BINS old.rows.items → new.rows.items ≡ map (row_with line x opening) old.rows.items
    pub level : new.level ≡ old.level

-- what is kept of each link is what it has carried
abbrev pub KnowPasts : {w : ℕ} → Liberties → ℕ → List LinkPast → Trace w → Type 0
KnowPasts l n pasts t = (i : ℕ) (d : LinkPast) → i < length pasts → KnowsLink l n (slice_index_or pasts i d) i t

-- what is kept of a link is that it has carried nothing
abbrev pub IsUnused : LinkPast → Type 0
IsUnused p = (w : ℕ) (l : Liberties) (n i : ℕ) → KnowsLink {w = w} l n p i []

-- the same of each link
abbrev pub AreUnused : List LinkPast → Type 0
AreUnused pasts = (i : ℕ) (d : LinkPast) → i < length pasts → IsUnused (slice_index_or pasts i d)
