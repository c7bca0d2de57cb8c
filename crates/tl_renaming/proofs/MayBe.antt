-- What the bytes of memory may be, after a renamed trace.
use Rattle.tl_renaming.proofs.Imports.{Beat, A, B, C, D, E, Channel, unfinished, block_at}
use Rattle.tl_renaming.proofs.Imports.{renamed, renamed_address, renamed_d}
use Rattle.tl_renaming.proofs.Accesses.{accesses-kept, is-of-kept, not-of-kept, renamed_access}
use Rattle.tl_renaming.proofs.Answered.{ends-request-kept, telling-kept}
use Rattle.tl_renaming.proofs.Outrun.{IsRoomy, any-outrun-kept, outrun-kept, settled-now-kept}
use Rattle.tl_renaming.proofs.Addresses.{block-of, low-bits}
use Rattle.tl_renaming.proofs.Bursts.{unfinished-kept}
use Rattle.tl_renaming.proofs.Carried.{carried-byte-kept, denied-kept}
use Rattle.tl_renaming.proofs.Choices.{both-chosen, both-hold, filter-kept, find-kept, one-found}
use Rattle.tl_renaming.proofs.Free.{free-kept, window-kept}
use Rattle.tl_renaming.proofs.Tellings.{began-kept, last-told-kept, last-window-kept, tells-kept, windows-kept}
use Rattle.tl_renaming.proofs.Traces.{beats-kept, link-kept}
use Rattle.tl_renaming.proofs.Values.{Fits, left-kept, pending-value-kept, writes-kept}
use Rattle.tl_renaming.specs.statement.Renamed.{AreFaithful, Renamings, of_link, renamed_on_link, renamed_trace}
use Rattle.std.proofs.Common.{◌≡◌, ℕ, suc, Bool, true, false, not, ◌&&◌, ◌||◌, ◌%◌, List, [], ◌∷◌, length, map, refl}
use Rattle.std.proofs.Common.{ap, ◌∙◌}
use Rattle.std.proofs.Math.Path.{ap₂}
use Rattle.std.specs.Prelude.{All, filter, find, if◌then◌else◌, nat_le, nat_lt, Option, Some, None, option_map, ⊤}
use Rattle.std.proofs.lemmas.List.Elements.{All-filter, All-head, All-tail}
use Rattle.tl_beat.{specs.declared.beat.Link.Link, specs.statement.Width.IsWidth}
use Rattle.tl_bytes.specs.declared.telling.Telling.{Telling}
use Rattle.tl_bytes.specs.statement.Bytes.{Access, access_writes, after_answer, after_beat, after_settling, after_write}
use Rattle.tl_bytes.specs.statement.Bytes.{carried_byte, could_be, is_denied, is_of, may_be, may_grant, may_read}
use Rattle.tl_bytes.specs.statement.Bytes.{may_write, pending_accesses, pending_value, tells, told_as, told_too}
use Rattle.tl_bytes.specs.statement.Bytes.{value_left, windows_since, written_as}
use Rattle.tl_bytes.specs.statement.Early.{ends_request, is_outrun, outrun_accesses, telling_beats}
use Rattle.tl_params.specs.declared.perm.Perm.TheVariants as perm
use Rattle.tl_params.specs.declared.liberties.Liberties.{Liberties}
use Rattle.tl_rules.specs.statement.{Conformance.Trace, Conformance.on_link, Windows.needs}
use Rattle.tl_bytes.specs.statement.Shown.{is_window}

-- the pending accesses lie in one block each, and so do those whose answers outran their requests
pub record AreInBlocks {w : ℕ} (t : Trace w) : Type 0 where
  pub pending_fit : All Fits (pending_accesses t)
  pub outrun_fit : All IsRoomy (outrun_accesses t)

-- so it is after each beginning of the trace
abbrev pub AreFitting : {w : ℕ} → Trace w → Type 0
AreFitting {w} [] = AreInBlocks {w = w} []
AreFitting (x ∷ t) = AreInBlocks (x ∷ t) × AreFitting t

in-blocks : {w : ℕ} (t : Trace w) → AreFitting t → AreInBlocks t
in-blocks [] fits = fits
in-blocks (x ∷ t) fits = fits.0

pub fit-now : {w : ℕ} (t : Trace w) → AreFitting t → All Fits (pending_accesses t)
fit-now t fits = (in-blocks t fits).pending_fit

roomy-now : {w : ℕ} (t : Trace w) → AreFitting t → All IsRoomy (outrun_accesses t)
roomy-now t fits = (in-blocks t fits).outrun_fit

-- an access that is found among such
abbrev pub FitsIfAny : {w : ℕ} → Option (Access w) → Type 0
FitsIfAny None = ⊤
FitsIfAny (Some x) = Fits x

pub found-fits : {w : ℕ} (p : Access w → Bool) (xs : List (Access w)) → All Fits xs → FitsIfAny (find p xs)
found-fits p [] fits = tt
found-fits {w} p (x ∷ xs) fits = go (p x) (All-head Fits x xs fits) (found-fits p xs (All-tail Fits x xs fits))
  where
    go : (b : Bool) → Fits x → FitsIfAny (find p xs) → FitsIfAny (if b then Some x else find p xs)
    go true one rest = one
    go false one rest = rest

module _ {w : ℕ} (l : Liberties) (r : Renamings) (faithful : AreFaithful l r) (width : IsWidth w) (n : ℕ) where
  abbrev moved_by : ℕ → ℕ
  moved_by address = renamed_address (of_link r 0) address

  -- ---- after a write

  write-kept : (block : ℕ) (access : Access w) (denied : Bool) (now : Telling) (t : Trace w) (before : List Telling)
      → after_write n (r.block block) (renamed_access r access) denied now (renamed_trace r t) before
      ≡ after_write n block access denied now t before
  write-kept block access denied now t before =
      rw (
        free-kept l r faithful n perm.Trunk block t,
        windows-kept l r faithful n block access.asked t,
        began-kept l r faithful n block access.asked t,
        last-window-kept l r faithful n block t,
        last-told-kept l r faithful n block t,
      ) refl

  answer-kept : (link address : ℕ) (o : Option (Access w)) (answer : List (Beat w)) (t : Trace w)
      (before : List Telling) → FitsIfAny o
      → after_answer n (moved_by address) (option_map (renamed_access r) o) (map (renamed (of_link r link)) answer)
      (renamed_trace r t) before ≡ after_answer n address o answer t before
  answer-kept link address None answer t before fits = refl
  answer-kept link address (Some access) answer t before fits =
      rw (writes-kept l r faithful width access address fits) (go (access_writes address access) refl)
    where
      value : access_writes address access ≡ true
          → value_left access.request.opcode (renamed_access r access) (map (renamed (of_link r link)) answer)
          (moved_by address) ≡ value_left access.request.opcode access answer address
      value written = left-kept l r faithful width link access answer address fits written

      telling : access_writes address access ≡ true
          → after_write n (block_at (moved_by address)) (renamed_access r access)
          (is_denied (map (renamed (of_link r link)) answer)) (record {
            value = value_left access.request.opcode (renamed_access r access) (map (renamed (of_link r link)) answer)
                (moved_by address);
            moment = length (renamed_trace r t);
          }) (renamed_trace r t) before
          ≡ after_write n (block_at address) access (is_denied answer)
          (record { value = value_left access.request.opcode access answer address; moment = length t }) t before
      telling written =
          ap (λ b. after_write n b (renamed_access r access) (is_denied (map (renamed (of_link r link)) answer)) (record {
            value = value_left access.request.opcode (renamed_access r access) (map (renamed (of_link r link)) answer)
                (moved_by address);
            moment = length (renamed_trace r t);
          }) (renamed_trace r t) before) (block-of r.block address)
          ∙ write-kept (block_at address) access (is_denied (map (renamed (of_link r link)) answer)) (record {
            value = value_left access.request.opcode (renamed_access r access) (map (renamed (of_link r link)) answer)
                (moved_by address);
            moment = length (renamed_trace r t);
          }) t before
          ∙ ap (λ b. after_write n (block_at address) access b (record {
            value = value_left access.request.opcode (renamed_access r access) (map (renamed (of_link r link)) answer)
                (moved_by address);
            moment = length (renamed_trace r t);
          }) t before) (denied-kept (of_link r link) answer)
          ∙ ap₂ (λ v m. after_write n (block_at address) access (is_denied answer)
          (record { value = v; moment = m }) t before) (value written) (beats-kept r t)

      go : (b : Bool) → access_writes address access ≡ b
          → (if b then after_write n (block_at (moved_by address)) (renamed_access r access)
          (is_denied (map (renamed (of_link r link)) answer)) (record {
            value = value_left access.request.opcode (renamed_access r access) (map (renamed (of_link r link)) answer)
                (moved_by address);
            moment = length (renamed_trace r t);
          }) (renamed_trace r t) before else before)
          ≡ (if b then after_write n (block_at address) access (is_denied answer)
          (record { value = value_left access.request.opcode access answer address; moment = length t }) t before
          else before)
      go true e = telling e
      go false e = refl

  -- the access that a response of a link answers
  pub answered-kept : (link source : ℕ) (t : Trace w)
      → find (is_of link (r.sources link source)) (pending_accesses (renamed_trace r t))
      ≡ option_map (renamed_access r) (find (is_of link source) (pending_accesses t))
  answered-kept link source t =
      ap (find (is_of link (r.sources link source))) (accesses-kept l r faithful t)
      ∙ find-kept (renamed_access r) (is_of link source) (is_of link (r.sources link source))
      (is-of-kept l r faithful link source) (pending_accesses t)

  pub burst-kept : (ch : Channel) (link : ℕ) (t : Trace w) → unfinished ch (on_link link (renamed_trace r t))
      ≡ map (renamed (of_link r link)) (unfinished ch (on_link link t))
  burst-kept ch link t = ap (unfinished ch) (link-kept r link t) ∙ unfinished-kept (of_link r link) ch (on_link link t)

  beat-kept : (link address : ℕ) (x : Beat w) (t : Trace w) (before : List Telling) → All Fits (pending_accesses t)
      → after_beat n (moved_by address) link (renamed (of_link r link) x) (renamed_trace r t) before
      ≡ after_beat n address link x t before
  beat-kept link address (D x) t before fits =
      both-chosen (ap (ends_request (renamed_d (of_link r link) x)) (link-kept r link t)
      ∙ ends-request-kept l (of_link r link) (faithful link) x (on_link link t))
      (ap₂ (λ o burst. after_answer n (moved_by address) o (D (renamed_d (of_link r link) x) ∷ burst)
      (renamed_trace r t) before) (answered-kept link x.source t) (burst-kept Channel.D link t)
      ∙ answer-kept link address (find (is_of link x.source) (pending_accesses t))
      (D x ∷ unfinished Channel.D (on_link link t)) t before
      (found-fits (is_of link x.source) (pending_accesses t) fits)) refl
  beat-kept link address (A x) t before fits = refl
  beat-kept link address (B x) t before fits = refl
  beat-kept link address (C x) t before fits = refl
  beat-kept link address (E x) t before fits = refl

  -- ---- what a byte may be

  tells-now : (address : ℕ) (x : Link × Beat w) (t : Trace w)
      → tells (block_at (moved_by address)) (renamed (of_link r x.0.0) x.1) (on_link x.0.0 (renamed_trace r t))
      ≡ tells (block_at address) x.1 (on_link x.0.0 t)
  tells-now address x t =
      ap₂ (λ b h. tells b (renamed (of_link r x.0.0) x.1) h) (block-of r.block address) (link-kept r x.0.0 t)
      ∙ tells-kept l (of_link r x.0.0) (faithful x.0.0) (block_at address) x.1 (on_link x.0.0 t)

  value-now : (address : ℕ) (x : Link × Beat w) (t : Trace w)
      → carried_byte (telling_beats (renamed (of_link r x.0.0) x.1) (on_link x.0.0 (renamed_trace r t)))
      (moved_by address % 64)
      ≡ carried_byte (telling_beats x.1 (on_link x.0.0 t)) (address % 64)
  value-now address x t =
      ap₂ (λ h place. carried_byte (telling_beats (renamed (of_link r x.0.0) x.1) h) place) (link-kept r x.0.0 t)
      (low-bits r.block address)
      ∙ ap (λ burst. carried_byte burst (address % 64))
      (telling-kept l (of_link r x.0.0) (faithful x.0.0) x.1 (on_link x.0.0 t))
      ∙ carried-byte-kept (of_link r x.0.0) (telling_beats x.1 (on_link x.0.0 t)) (address % 64)

  -- with an access that is settled
  settling-kept : (address : ℕ) (x : Link × Beat w) (t : Trace w) (before : List Telling) → AreFitting t
      → after_settling (moved_by address) (renamed_on_link r x) (renamed_trace r t) before
      ≡ after_settling address x t before
  settling-kept address x t before fits =
      both-chosen (settled-now-kept l r faithful address x t (roomy-now t fits))
      (ap (λ m. told_too (record { value = None; moment = m }) before) (beats-kept r t)) refl

  pub may-be-kept : (address : ℕ) (t : Trace w) → AreFitting t
      → may_be n (moved_by address) (renamed_trace r t) ≡ may_be n address t
  unfolding may_be
  may-be-kept address [] fits = refl
  may-be-kept address (x ∷ t) fits =
      both-chosen (tells-now address x t)
      (ap₂ (λ v m. record { value = v; moment = m } ∷ []) (value-now address x t) (beats-kept r t))
      (ap (after_settling (moved_by address) (renamed_on_link r x) (renamed_trace r t))
      (ap (after_beat n (moved_by address) x.0.0 (renamed (of_link r x.0.0) x.1) (renamed_trace r t))
      (may-be-kept address t fits.1)
      ∙ beat-kept x.0.0 address x.1 t (may_be n address t) (fit-now t fits.1))
      ∙ settling-kept address x t (after_beat n address x.0.0 x.1 t (may_be n address t)) fits.1)

  -- ---- what may be granted, and read

  writes-so-kept : (address v : ℕ) (x : Access w) → Fits x
      → (access_writes (moved_by address) (renamed_access r x)
      && could_be v (pending_value x.request.opcode (renamed_access r x) (moved_by address)))
      ≡ (access_writes address x && could_be v (pending_value x.request.opcode x address))
  writes-so-kept address v x fits =
      both-hold (access_writes (moved_by address) (renamed_access r x)) (access_writes address x)
      (could_be v (pending_value x.request.opcode (renamed_access r x) (moved_by address)))
      (could_be v (pending_value x.request.opcode x address))
      (writes-kept l r faithful width x address fits)
      (λ written. ap (could_be v) (pending-value-kept l r faithful width x address fits written))

  written-as-kept : (address v : ℕ) (xs : List (Access w)) → All Fits xs
      → written_as (moved_by address) v (map (renamed_access r) xs) ≡ written_as address v xs
  written-as-kept address v [] fits = refl
  written-as-kept address v (x ∷ xs) fits =
      one-found (access_writes (moved_by address) (renamed_access r x)
      && could_be v (pending_value x.request.opcode (renamed_access r x) (moved_by address)))
      (access_writes address x && could_be v (pending_value x.request.opcode x address)) (renamed_access r x) x
      (find (λ a. access_writes (moved_by address) a
      && could_be v (pending_value a.request.opcode a (moved_by address))) (map (renamed_access r) xs))
      (find (λ a. access_writes address a && could_be v (pending_value a.request.opcode a address)) xs)
      (writes-so-kept address v x (All-head Fits x xs fits))
      (written-as-kept address v xs (All-tail Fits x xs fits))

  told-kept : (address v : ℕ) (t : Trace w) → AreFitting t
      → told_as v (may_be n (moved_by address) (renamed_trace r t)) ≡ told_as v (may_be n address t)
  told-kept address v t fits = ap (told_as v) (may-be-kept address t fits)

  -- those of the pending accesses that pass a test
  passing-kept : (address v : ℕ) (t : Trace w) (test others : Access w → Bool)
      → ((x : Access w) → others (renamed_access r x) ≡ test x) → AreFitting t
      → may_write (moved_by address) v (filter others (pending_accesses (renamed_trace r t)))
      (outrun_accesses (renamed_trace r t))
      ≡ may_write address v (filter test (pending_accesses t)) (outrun_accesses t)
  passing-kept address v t test others same fits =
      ap₂ (λ a b. a || b)
      (ap (λ xs. written_as (moved_by address) v (filter others xs)) (accesses-kept l r faithful t)
      ∙ ap (written_as (moved_by address) v) (filter-kept (renamed_access r) test others same (pending_accesses t))
      ∙ written-as-kept address v (filter test (pending_accesses t))
      (All-filter test Fits (pending_accesses t) (fit-now t fits)))
      (ap (is_outrun (moved_by address)) (outrun-kept l r faithful t)
      ∙ any-outrun-kept l r faithful address (outrun_accesses t) (roomy-now t fits))

  pub may-grant-kept : (address v : ℕ) (t : Trace w) → AreFitting t
      → may_grant n (renamed_trace r t) (moved_by address) v ≡ may_grant n t address v
  may-grant-kept address v t fits =
      ap₂ (λ a b. a || b) (told-kept address v t fits)
      (passing-kept address v t (λ x. nat_lt 0 (windows_since n (block_at address) x.asked t))
      (λ x. nat_lt 0 (windows_since n (block_at (moved_by address)) x.asked (renamed_trace r t)))
      (λ x. ap (nat_lt 0) (ap (λ b. windows_since n b x.asked (renamed_trace r t)) (block-of r.block address)
      ∙ windows-kept l r faithful n (block_at address) x.asked t)) fits)

  pub may-read-kept : (access : Access w) (address v : ℕ) (t : Trace w) → AreFitting t
      → may_read n (renamed_access r access) (renamed_trace r t) (moved_by address) v ≡ may_read n access t address v
  unfolding may_read
  may-read-kept access address v [] fits = refl
  may-read-kept access address v (x ∷ t) fits =
      ap₂ (λ a b. a && b) (ap (λ m. nat_le access.asked (suc m)) (beats-kept r t))
      (ap₂ (λ a b. a || b) (ap₂ (λ a b. a && b)
      (ap (λ b. is_window n (needs access.request.opcode) b (renamed_on_link r x) (renamed_trace r t))
      (block-of r.block address)
      ∙ window-kept l r faithful n (needs access.request.opcode) (block_at address) x t)
      (ap₂ (λ a b. a || b) (told-kept address v (x ∷ t) fits)
      (passing-kept address v (x ∷ t) (λ other. not (is_of access.link access.request.source other))
      (λ other. not (is_of access.link (r.sources access.link access.request.source) other))
      (not-of-kept l r faithful access.link access.request.source) fits)))
      (may-read-kept access address v t fits.1))
