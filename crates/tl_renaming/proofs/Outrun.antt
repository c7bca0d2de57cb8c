-- Accesses whose answers outran their requests, after a renamed trace.
use Rattle.tl_renaming.proofs.Imports.{Beat, A, B, C, D, E, Channel, History, unfinished, renamed}
use Rattle.tl_renaming.proofs.Imports.{ends, renamed_address, renamed_history}
use Rattle.tl_renaming.proofs.{Answered.ends-request-kept, Answered.outruns-kept, Choices.filter-kept, Choices.find-kept}
use Rattle.tl_renaming.{proofs.Bursts.ends-kept, proofs.Bursts.unfinished-kept, proofs.Numbers.same-test}
use Rattle.tl_renaming.{proofs.Places.reaches-kept, proofs.Traces.link-kept}
use Rattle.tl_renaming.specs.statement.Renamed.{AreFaithful, Renamings, of_link, renamed_on_link, renamed_trace}
use Rattle.std.proofs.Common.{◌≡◌, ℕ, Bool, true, false, not, ◌&&◌, ◌+◌, ◌%◌, ◌^◌, ◌≤◌, List, [], ◌∷◌, map, refl, ap}
use Rattle.std.proofs.Common.{◌∙◌}
use Rattle.std.proofs.Math.Path.{ap₂}
use Rattle.std.specs.Prelude.{All, find, if◌then◌else◌, is_some, None, Option, Some}
use Rattle.std.specs.Prelude.{option_map, ◌==◌, ⊤}
use Rattle.std.proofs.lemmas.Bool.{eqb-true}
use Rattle.std.proofs.lemmas.List.Elements.{All-filter, All-head, All-tail}
use Rattle.tl_beat.specs.declared.beat.Link.{Link}
use Rattle.tl_burst.specs.statement.Burst.{reaches}
use Rattle.tl_bytes.specs.statement.Bytes.{is_settled}
use Rattle.tl_bytes.specs.statement.Early.{Outrun, ends_request, if_answered, is_outrun, is_outrun_of, outrun_by}
use Rattle.tl_bytes.specs.statement.Early.{outrun_with, outruns, reaches_byte, settled_by, without, without_settled}
unfoldable use Rattle.tl_bytes.specs.statement.Early.{outrun_accesses}
use Rattle.tl_params.specs.declared.liberties.Liberties.{Liberties}
use Rattle.tl_renaming.proofs.Choices.{both-chosen, one-found}
use Rattle.tl_rules.specs.statement.Conformance.{Trace, on_link}

-- what such an access becomes
abbrev pub renamed_outrun : Renamings → Outrun → Outrun
renamed_outrun r x = record x {
  source = r.sources x.link x.source;
  address = renamed_address (of_link r x.link) x.address;
}

-- it lies in one block
abbrev pub IsRoomy : Outrun → Type 0
IsRoomy x = x.address % 64 + 2 ^ x.size ≤ 64

abbrev pub IsRoomyIfAny : Option Outrun → Type 0
IsRoomyIfAny None = ⊤
IsRoomyIfAny (Some x) = IsRoomy x

pub found-roomy : (p : Outrun → Bool) (xs : List Outrun) → All IsRoomy xs → IsRoomyIfAny (find p xs)
found-roomy p [] roomy = tt
found-roomy p (x ∷ xs) roomy =
    go (p x) (All-head IsRoomy x xs roomy) (found-roomy p xs (All-tail IsRoomy x xs roomy))
  where
    go : (b : Bool) → IsRoomy x → IsRoomyIfAny (find p xs) → IsRoomyIfAny (if b then Some x else find p xs)
    go true one rest = one
    go false one rest = rest

-- so does the one that is settled
pub settled-roomy : {w : ℕ} (link : ℕ) (x : Beat w) (t : History w) (before : List Outrun) → All IsRoomy before
    → IsRoomyIfAny (settled_by link x t before)
settled-roomy link (A x) t before roomy =
    go (ends (A x) t) (find (is_outrun_of link x.source) before)
    (found-roomy (is_outrun_of link x.source) before roomy)
  where
    go : (b : Bool) (o : Option Outrun) → IsRoomyIfAny o → IsRoomyIfAny (if b then if_answered o else None)
    go false o is = tt
    go true None is = tt
    go true (Some y) is = answered y.answered
      where
        answered : (b : Bool) → IsRoomyIfAny (if b then Some y else None)
        answered true = is
        answered false = tt
settled-roomy link (D x) t before roomy =
    go (ends_request x t) (found-roomy (is_outrun_of link x.source) before roomy)
  where
    go : (b : Bool) → IsRoomyIfAny (find (is_outrun_of link x.source) before)
        → IsRoomyIfAny (if b then find (is_outrun_of link x.source) before else None)
    go true is = is
    go false is = tt
settled-roomy link (B x) t before roomy = tt
settled-roomy link (C x) t before roomy = tt
settled-roomy link (E x) t before roomy = tt

-- and what is left without it
pub left-roomy : (o : Option Outrun) (before : List Outrun) → All IsRoomy before
    → All IsRoomy (without_settled o before)
left-roomy None before roomy = roomy
left-roomy (Some x) before roomy =
    All-filter (λ access. not (is_outrun_of x.link x.source access)) IsRoomy before roomy

module _ (l : Liberties) (r : Renamings) (faithful : AreFaithful l r) where
  -- ---- whose access it is

  is-outrun-of-kept : (link s : ℕ) (x : Outrun)
      → is_outrun_of link (r.sources link s) (renamed_outrun r x) ≡ is_outrun_of link s x
  is-outrun-of-kept link s x = go (x.link == link) refl
    where
      go : (b : Bool) → (x.link == link) ≡ b
          → ((x.link == link) && (r.sources x.link x.source == r.sources link s))
          ≡ ((x.link == link) && (x.source == s))
      go true e = rw e (ap (λ i. r.sources i x.source == r.sources link s) (eqb-true x.link link e)
          ∙ same-test (r.sources link) (faithful link).sources_apart x.source s)
      go false e = rw e refl

  found-kept : (link s : ℕ) (before : List Outrun)
      → find (is_outrun_of link (r.sources link s)) (map (renamed_outrun r) before)
      ≡ option_map (renamed_outrun r) (find (is_outrun_of link s) before)
  found-kept link s before =
      find-kept (renamed_outrun r) (is_outrun_of link s) (is_outrun_of link (r.sources link s))
      (is-outrun-of-kept link s) before

  without-kept : (link s : ℕ) (before : List Outrun)
      → without link (r.sources link s) (map (renamed_outrun r) before)
      ≡ map (renamed_outrun r) (without link s before)
  without-kept link s before =
      filter-kept (renamed_outrun r) (λ x. not (is_outrun_of link s x))
      (λ x. not (is_outrun_of link (r.sources link s) x)) (λ x. ap not (is-outrun-of-kept link s x)) before

  -- ---- with one more beat

  begun-kept : {w : ℕ} (link : ℕ) (burst : List (Beat w)) (answered : Bool) (before : List Outrun)
      → outrun_by link (map (renamed (of_link r link)) burst) answered (map (renamed_outrun r) before)
      ≡ map (renamed_outrun r) (outrun_by link burst answered before)
  begun-kept link [] answered before = refl
  begun-kept link (A x ∷ older) answered before = refl
  begun-kept link (B x ∷ older) answered before = refl
  begun-kept link (C x ∷ older) answered before = refl
  begun-kept link (D x ∷ older) answered before = refl
  begun-kept link (E x ∷ older) answered before = refl

  answered-kept : (o : Option Outrun)
      → if_answered (option_map (renamed_outrun r) o) ≡ option_map (renamed_outrun r) (if_answered o)
  answered-kept None = refl
  answered-kept (Some x) = go x.answered
    where
      go : (b : Bool) → (if b then Some (renamed_outrun r x) else None)
          ≡ option_map (renamed_outrun r) (if b then Some x else None)
      go true = refl
      go false = refl

  -- a renamed access, if it is wanted
  if-wanted : (b : Bool) (o : Option Outrun)
      → (if b then option_map (renamed_outrun r) o else None) ≡ option_map (renamed_outrun r) (if b then o else None)
  if-wanted true o = refl
  if-wanted false o = refl

  settled-kept : {w : ℕ} (link : ℕ) (x : Beat w) (t : History w) (before : List Outrun)
      → settled_by link (renamed (of_link r link) x) (renamed_history (of_link r link) t)
      (map (renamed_outrun r) before) ≡ option_map (renamed_outrun r) (settled_by link x t before)
  settled-kept link (A x) t before =
      rw (
        ends-kept (of_link r link) (A x) t,
        found-kept link x.source before,
        answered-kept (find (is_outrun_of link x.source) before),
      ) (if-wanted (ends (A x) t) (if_answered (find (is_outrun_of link x.source) before)))
  settled-kept link (D x) t before =
      rw (ends-request-kept l (of_link r link) (faithful link) x t, found-kept link x.source before)
      (if-wanted (ends_request x t) (find (is_outrun_of link x.source) before))
  settled-kept link (B x) t before = refl
  settled-kept link (C x) t before = refl
  settled-kept link (E x) t before = refl

  left-kept : (o : Option Outrun) (before : List Outrun)
      → without_settled (option_map (renamed_outrun r) o) (map (renamed_outrun r) before)
      ≡ map (renamed_outrun r) (without_settled o before)
  left-kept None before = refl
  left-kept (Some x) before = without-kept x.link x.source before

  -- those that are left with a beat
  unsettled-kept : {w : ℕ} (link : ℕ) (x : Beat w) (t : History w) (before : List Outrun)
      → without_settled (settled_by link (renamed (of_link r link) x) (renamed_history (of_link r link) t)
      (map (renamed_outrun r) before)) (map (renamed_outrun r) before)
      ≡ map (renamed_outrun r) (without_settled (settled_by link x t before) before)
  unsettled-kept link x t before =
      ap (λ o. without_settled o (map (renamed_outrun r) before)) (settled-kept link x t before)
      ∙ left-kept (settled_by link x t before) before

  step-kept : {w : ℕ} (link : ℕ) (x : Beat w) (t : History w) (before : List Outrun)
      → outrun_with link (renamed (of_link r link) x) (renamed_history (of_link r link) t)
      (map (renamed_outrun r) before) ≡ map (renamed_outrun r) (outrun_with link x t before)
  step-kept link (D x) t before =
      both-chosen (outruns-kept l (of_link r link) (faithful link) x t) begun (unsettled-kept link (D x) t before)
      ∙ go (outruns x t)
    where
      now : List Outrun
      now = outrun_by link (unfinished Channel.A t) (ends (D x) t) (without link x.source before)

      begun : outrun_by link (unfinished Channel.A (renamed_history (of_link r link) t))
          (ends (renamed (of_link r link) (D x)) (renamed_history (of_link r link) t))
          (without link (r.sources link x.source) (map (renamed_outrun r) before)) ≡ map (renamed_outrun r) now
      begun =
          rw (
            unfinished-kept (of_link r link) Channel.A t,
            ends-kept (of_link r link) (D x) t,
            without-kept link x.source before,
          ) (begun-kept link (unfinished Channel.A t) (ends (D x) t) (without link x.source before))

      go : (b : Bool)
          → (if b then map (renamed_outrun r) now
          else map (renamed_outrun r) (without_settled (settled_by link (D x) t before) before))
          ≡ map (renamed_outrun r) (if b then now else without_settled (settled_by link (D x) t before) before)
      go true = refl
      go false = refl
  step-kept link (A x) t before = unsettled-kept link (A x) t before
  step-kept link (B x) t before = refl
  step-kept link (C x) t before = refl
  step-kept link (E x) t before = refl

  pub outrun-kept : {w : ℕ} (t : Trace w)
      → outrun_accesses (renamed_trace r t) ≡ map (renamed_outrun r) (outrun_accesses t)
  unfolding outrun_accesses
  outrun-kept [] = refl
  outrun-kept (x ∷ t) =
      rw (outrun-kept t, link-kept r x.0.0 t) (step-kept x.0.0 x.1 (on_link x.0.0 t) (outrun_accesses t))

  -- whether there is one with this source
  pub has-outrun-kept : (link s : ℕ) (before : List Outrun)
      → is_some (find (is_outrun_of link (r.sources link s)) (map (renamed_outrun r) before))
      ≡ is_some (find (is_outrun_of link s) before)
  has-outrun-kept link s before =
      ap is_some (found-kept link s before) ∙ some (find (is_outrun_of link s) before)
    where
      some : (o : Option Outrun) → is_some (option_map (renamed_outrun r) o) ≡ is_some o
      some None = refl
      some (Some x) = refl

  -- ---- the byte at an address

  abbrev moved_by : ℕ → ℕ
  moved_by address = renamed_address (of_link r 0) address

  reach-kept : (x : Outrun) (address : ℕ) → IsRoomy x
      → reaches (renamed_address (of_link r x.link) x.address) x.size (moved_by address) ≡ reaches x.address x.size address
  reach-kept x address roomy = reaches-kept r.block (faithful 0).blocks_apart x.address x.size address roomy

  pub any-outrun-kept : (address : ℕ) (xs : List Outrun) → All IsRoomy xs
      → is_outrun (moved_by address) (map (renamed_outrun r) xs) ≡ is_outrun address xs
  any-outrun-kept address [] roomy = refl
  any-outrun-kept address (x ∷ xs) roomy =
      one-found (reaches (renamed_address (of_link r x.link) x.address) x.size (moved_by address))
      (reaches x.address x.size address) (renamed_outrun r x) x
      (find (λ a. reaches a.address a.size (moved_by address)) (map (renamed_outrun r) xs))
      (find (λ a. reaches a.address a.size address) xs)
      (reach-kept x address (All-head IsRoomy x xs roomy))
      (any-outrun-kept address xs (All-tail IsRoomy x xs roomy))

  reaches-if-any : (address : ℕ) (o : Option Outrun) → IsRoomyIfAny o
      → reaches_byte (moved_by address) (option_map (renamed_outrun r) o) ≡ reaches_byte address o
  reaches-if-any address None roomy = refl
  reaches-if-any address (Some x) roomy = reach-kept x address roomy

  pub settled-now-kept : {w : ℕ} (address : ℕ) (x : Link × Beat w) (t : Trace w) → All IsRoomy (outrun_accesses t)
      → is_settled (moved_by address) (renamed_on_link r x) (renamed_trace r t) ≡ is_settled address x t
  settled-now-kept address x t roomy =
      ap₂ (λ h o. reaches_byte (moved_by address) (settled_by x.0.0 (renamed (of_link r x.0.0) x.1) h o))
      (link-kept r x.0.0 t) (outrun-kept t)
      ∙ ap (reaches_byte (moved_by address)) (settled-kept x.0.0 x.1 (on_link x.0.0 t) (outrun_accesses t))
      ∙ reaches-if-any address (settled_by x.0.0 x.1 (on_link x.0.0 t) (outrun_accesses t))
      (settled-roomy x.0.0 x.1 (on_link x.0.0 t) (outrun_accesses t) roomy)
