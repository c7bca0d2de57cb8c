-- What a beat makes of the possible values of bytes, whatever these were.
use Rattle.tl_memory.proofs.Imports.{Beat, BeatA, BeatD, Link, Trace, on_link, Access, ends, ends_request, is_of, tells}
use Rattle.tl_memory.proofs.Imports.{History, is_grant, pending_accesses, unfinished, IsElsewhere, is_release_ack}
use Rattle.tl_memory.proofs.Imports.{IsResponse, Request, is_access}
use Rattle.std.proofs.Common.{◌≡◌, ℕ, Bool, true, false, not, ◌&&◌, ◌+◌, ◌*◌, ◌<◌, List, ◌∷◌, length, refl, sym, ap}
use Rattle.std.proofs.Common.{◌∙◌}
use Rattle.std.specs.Prelude.{find, if◌then◌else◌, None, Option, Some}
use Rattle.tl_beat.specs.declared.channel.Channel.{Channel}
use Rattle.tl_bytes.proofs.Told.{by-standing}
use Rattle.tl_bytes.specs.code.Tellings.{by_standing, is_written, value_at}
use Rattle.tl_bytes.specs.declared.standing.Standing.{Standing}
use Rattle.tl_bytes.specs.declared.telling.Telling.{Telling}
use Rattle.tl_bytes.specs.declared.write.Write.{Write}
use Rattle.tl_bytes.specs.statement.Bytes.{access_writes, is_perm_only, is_settled, told_too, value_left}
use Rattle.tl_bytes.specs.statement.Early.{is_outrun_of, outruns, reaches_byte, settled_by}
unfoldable use Rattle.tl_bytes.specs.statement.Early.{outrun_accesses}
use Rattle.tl_bytes.specs.statement.Known.{IsWrite, NoneSettled, standing_of}
use Rattle.tl_memory.specs.code.{Elsewhere.KeepsByte, Taking.IsSettlement}
use Rattle.tl_memory.specs.declared.byte_change.ByteChange.{ByteChange}
use Rattle.tl_memory.specs.declared.early.OutrunAccess.{OutrunAccess}
use Rattle.tl_memory.specs.statement.ByteChanges.{grants_unread, IsByteChange, KeepsValues}
use Rattle.tl_rules.specs.code.Tables.{kept_request}
use Rattle.tl_memory.proofs.{states.BlockAnswers.none-found, states.BlockAnswers.settles-bare}
use Rattle.tl_memory.proofs.{states.BlockAnswers.asked-first, states.Bearing.grants-none}
use Rattle.tl_memory.proofs.{states.BlockAnswers.settles-coming, lawful.OutrunNames.outruns-parts}
use Rattle.tl_memory.proofs.{lawful.Responses.access-untold}
use Rattle.tl_memory.proofs.{states.Elsewhere.beat-keeps, states.Found.in_block, states.Settling.is-settling}

-- ---- none

-- a beat that completes no answer that writes them and settles no access leaves them
pub values-kept : {w : ℕ} (n block : ℕ) (x : Link × Beat w) (t : Trace w)
    → ((p : ℕ) → p < 64 → KeepsByte (64 * block + p) x.0.0 x.1 t)
    → ((p : ℕ) → p < 64 → is_settled (64 * block + p) x t ≡ false) → KeepsValues n block x t
values-kept n block x t keeps unsettled p lt before =
    rw (unsettled p lt) (beat-keeps n (64 * block + p) x.0.0 x.1 t before (keeps p lt))

-- if it sets none either, it changes none
pub same-bytes : {w : ℕ} (n block : ℕ) (x : Link × Beat w) (t : Trace w) → tells block x.1 (on_link x.0.0 t) ≡ false
    → ((p : ℕ) → p < 64 → KeepsByte (64 * block + p) x.0.0 x.1 t)
    → ((p : ℕ) → p < 64 → is_settled (64 * block + p) x t ≡ false) → IsByteChange ByteChange.Same n block x t
same-bytes n block x t quiet keeps unsettled = (quiet, values-kept n block x t keeps unsettled)

pub same-elsewhere : {w : ℕ} (n block : ℕ) (x : Link × Beat w) (t : Trace w) → IsElsewhere block x t
    → IsByteChange ByteChange.Same n block x t
same-elsewhere n block x t is = same-bytes n block x t is.quiet is.keeps is.unsettled

-- so does a beat of a request that settles none
pub same-request : {w : ℕ} (n block : ℕ) (link : Link) (y : BeatA w) (t : Trace w)
    → settled_by link.0 (Beat.A y) (on_link link.0 t) (outrun_accesses t) ≡ None
    → IsByteChange ByteChange.Same n block (link, Beat.A y) t
same-request n block link y t none =
    same-bytes n block (link, Beat.A y) t refl (λ p lt. tt) (λ p lt. ap (reaches_byte (64 * block + p)) none)

-- which it doesn't where the answer of none of its source outran it
pub settles-no_request : {w : ℕ} (link : Link) (y : BeatA w) (t : Trace w)
    → find (is_outrun_of link.0 y.source) (outrun_accesses t) ≡ None
    → settled_by link.0 (Beat.A y) (on_link link.0 t) (outrun_accesses t) ≡ None
settles-no_request link y t none = rw none (go (ends (Beat.A y) (on_link link.0 t)))
  where
    go : {X : Type 0} (b : Bool) → ◌≡◌ {A = Option X} (if b then None else None) None
    go true = refl
    go false = refl

-- ---- an access that is complete

-- one that was settled
pub settled-change : {w : ℕ} (n block : ℕ) (kept : OutrunAccess) (x : Link × Beat w) (t : Trace w)
    → IsSettlement kept block x t → IsByteChange (ByteChange.Written kept.write Standing.Anywhere) n block x t
settled-change n block kept x t s =
    let settling = is-settling kept block x t s in (
      s.quiet,
      λ p lt before. rw (s.answers_none n (64 * block + p) before) (sym (where_settled (is_written kept.write p)
          (is_settled (64 * block + p) x t) (value_at kept.write p) (length t) before (settling p lt).0 (settling p lt).1)),
    )
  where
    where_settled : (b s : Bool) (v : Option ℕ) (m : ℕ) (before : List Telling) → b ≡ s → (b ≡ true → v ≡ None)
        → (if b then told_too (record { value = v; moment = m }) before else before)
        ≡ (if s then told_too (record { value = None; moment = m }) before else before)
    where_settled true s v m before same e =
        rw (← same) (ap (λ z. told_too (record { value = z; moment = m }) before) (e refl))
    where_settled false s v m before same e = rw (← same) refl

-- one that was answered
pub answered-change : {w : ℕ} (n block : ℕ) (write : Write) (s : Standing) (link : Link) (y : BeatD w)
    (access : Access w) (t : Trace w)
    → tells block (Beat.D y) (on_link link.0 t) ≡ false → ends_request y (on_link link.0 t) ≡ true
    → find (is_of link.0 y.source) (pending_accesses t) ≡ Some access → NoneSettled block (link, Beat.D y) t
    → s ≡ standing_of n block access y.denied t
    → IsWrite write block access (Beat.D y ∷ unfinished Channel.D (on_link link.0 t))
    → IsByteChange (ByteChange.Written write s) n block (link, Beat.D y) t
answered-change n block write s link y access t quiet over found none stands is = (
  quiet,
  λ p lt before. rw (none p lt, over, found, in_block block p lt) (ap (λ l. if access_writes (64 * block + p) access
      then l else before) (by-standing n block access y.denied (record {
        value = value_left access.request.opcode access (Beat.D y ∷ unfinished Channel.D (on_link link.0 t)) (64 * block + p);
        moment = length t;
      }) t before) ∙ sym (where_written (is_written write p) (access_writes (64 * block + p) access) (value_at write p)
      (value_left access.request.opcode access (Beat.D y ∷ unfinished Channel.D (on_link link.0 t)) (64 * block + p))
      s (standing_of n block access y.denied t) (length t) before (is p lt).0 (is p lt).1 stands)),
)
  where
    where_written : (b c : Bool) (u v : Option ℕ) (s r : Standing) (m : ℕ) (before : List Telling) → b ≡ c
        → (b ≡ true → u ≡ v) → s ≡ r
        → (if b then by_standing s (record { value = u; moment = m }) before else before)
        ≡ (if c then by_standing r (record { value = v; moment = m }) before else before)
    where_written true c u v s r m before same e stands =
        rw (← same, stands) (ap (λ z. by_standing r (record { value = z; moment = m }) before) (e refl))
    where_written false c u v s r m before same e stands = rw (← same) refl

-- with a beat that answers an access before its request is complete
pub same-outrun : {w : ℕ} (n block : ℕ) (link : Link) (y : BeatD w) (asked : Request) (t : Trace w)
    → IsResponse link.0 y asked t → outruns y (on_link link.0 t) ≡ true
    → IsByteChange ByteChange.Same n block (link, Beat.D y) t
same-outrun n block link y asked t is outrun =
    let c = is.coming outrun in
    let parts = outruns-parts y (on_link link.0 t) outrun in
    let over : ends_request y (on_link link.0 t) ≡ false =
    never (not (is_release_ack y.opcode)) (ends (Beat.D y) (on_link link.0 t)) _ parts.1 in
    same-bytes n block (link, Beat.D y) t (access-untold block y asked (on_link link.0 t) is.answers_it c.accesses parts.0)
    (λ p lt e. absurd (let no : true ≡ false = sym e ∙ over in cc))
    (λ p lt. ap (reaches_byte (64 * block + p)) (settles-coming link.0 y (on_link link.0 t) (outrun_accesses t) outrun))
  where
    never : (a b c : Bool) → c ≡ true → ((a && b) && not c) ≡ false
    never true true c e = rw e refl
    never true false c e = refl
    never false b c e = refl

-- ---- a Grant that answers an AcquirePerm

-- a ReleaseAck is of none
pub unread-none : {w : ℕ} (y : BeatD w) (past : History w) → is_release_ack y.opcode ≡ true
    → false ≡ grants_unread (Beat.D y) past
unread-none y past ack = rw (grants-none y.opcode ack) refl

-- a Grant is of one, by its request
pub unread-is : {w : ℕ} (y : BeatD w) (past : History w) (asked : Request) (unread : Bool)
    → kept_request y.source past ≡ Some asked → is_grant y.opcode ≡ true → unread ≡ is_perm_only asked.opcode
    → unread ≡ grants_unread (Beat.D y) past
unread-is y past asked unread kept given is =
    let first = asked-first y.source past asked kept in
    is ∙ rw (given, first.1) (ap is_perm_only (sym first.3))

-- ---- messages that set bytes complete no access

-- a Grant
pub grant-keeps : {w : ℕ} (n block : ℕ) (link : Link) (y : BeatD w) (asked : Request) (t : Trace w)
    → IsResponse link.0 y asked t → is_access asked.opcode ≡ false → KeepsValues n block (link, Beat.D y) t
grant-keeps n block link y asked t is bare =
    values-kept n block (link, Beat.D y) t
    (λ p lt over. rw (none-found link.0 y.source asked (pending_accesses t) is.are_asked bare) tt)
    (λ p lt. ap (reaches_byte (64 * block + p)) (settles-bare link y asked t is bare))

-- a ReleaseAck
pub ack-keeps : {w : ℕ} (n block : ℕ) (link : Link) (y : BeatD w) (t : Trace w) → is_release_ack y.opcode ≡ true
    → KeepsValues n block (link, Beat.D y) t
ack-keeps n block link y t ack =
    let none : settled_by link.0 (Beat.D y) (on_link link.0 t) (outrun_accesses t) ≡ None = rw ack refl in
    let never : ends_request y (on_link link.0 t) ≡ false = rw ack refl in
    values-kept n block (link, Beat.D y) t (λ p lt over. absurd (let no : true ≡ false = sym over ∙ never in cc))
    (λ p lt. ap (reaches_byte (64 * block + p)) none)
