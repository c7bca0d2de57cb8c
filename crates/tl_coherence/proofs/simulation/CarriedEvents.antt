-- The channels carry the messages of the tokens after a client is asked.
-- The channels carry the messages of the tokens after the manager or a client takes a message of channels A to C.
-- The channels carry the messages of the tokens after the last report, for which a service ends.
use Rattle.std.proofs.Common.{◌≡◌, ℕ, Bool, true, false, ◌&&◌, ◌==◌, if◌then◌else◌, List, ◌∷◌, Option, Some, None, refl}
use Rattle.std.proofs.Common.{sym, ◌∙◌, ap, arith, ◌⊎◌, inl, inr, ne_eqb, eqb-true}
use Rattle.tl_coherence.proofs
use proofs.Imports.{cases_eq, Channel, IsWidth, Message, Cap, Grow, Prune, Report, IsInvariant, is_asked, is_replied}
use proofs.Imports.{Acquire, Answer, Grant, Kind, Packet, Probe, ProbeAck, Release, ReleaseAck, Request, set, set_at}
use proofs.Imports.{NoAcquire, NoRelease, ProbeSent, Asked, Block, Free, SourceFree, State, Waits, access_answered}
use proofs.Imports.{access_asked, acquire_asked, acquire_granted, acquiring_block, answered_link, block_stored}
use proofs.Imports.{ended_block, granted_at_once, granted_block, granted_link, let_block, let_link, packet, packets_on}
use proofs.Imports.{performed_block, popped_link, probe_taken, probed_block, probed_link, release_asked, release_taken}
use proofs.Imports.{releasing_block, report_answers, report_grants, report_taken, stored_block, with_a, with_c, shown}
use proofs.Imports.{ChannelRelation, AreMoved, IsMoved, Move, Stays, AccessMessages, message_of, block_message, System}
use proofs.Imports.{channel_of_message, same_channel}
use Rattle.tl_coherence.specs.protocol.Protocol.{Link}
use proofs.protocol.{GrantedAll.granted_moves, RequestsKept.answer_moves, Granted.once_moves}
use proofs.protocol.BothParts.{alike-ended, alike-granted, alike-acquiring, alike-releasing, alike-bytes}
use proofs.protocol.BothParts.{alike-granted_at_once, alike-probed, alike-reported, alike-let}
use proofs.protocol.Reported.{ended_move, ended_moved, report_moves, let_moves}
use proofs.protocol.Asked.{access_moves, acquire_moves, release_moves, probe_moves}
use proofs.queues.{Channels.Fits, Channels.pushes_at, Channels.IsShown, Channels.IsHanded, Channels.carried-event}
use proofs.queues.{Channels.queued-handed, Channels.moved-at, Channels.fits-handed, Channels.fits-at, Steps.pushes_of}
use proofs.queues.{FirstToken.carries, FirstToken.showing-block, Tokens.same_number, Tokens.set-same, Moves.moves_at}

-- ---- one message that is handed out

-- on this channel
abbrev pub only_on : {w : ℕ} → Channel → Message w → Channel → Option (Message w)
only_on ch m at = if same_channel at ch then Some m else None

pub fits_pushed : {w : ℕ} (pop : Bool) (m : Message w) (chm at : Channel) (move : Move) (render : Kind → ℕ → Message w)
    → channel_of_message m ≡ chm
    → Fits pop (only_on chm m at) move render → Fits pop (pushes_of (Some m) at) move render
fits_pushed pop m chm at move render chan h = rw chan h

-- a token that comes to channel c of a block that changes stands for its message
pub new_there : {w : ℕ} (k : Kind) (c n : ℕ) (new : Block (List ℕ)) (block : ℕ → Block (List ℕ)) (m : Message w)
    → block_message k c n new ≡ m → block_message k c n (set n new block n) ≡ m
new_there k c n new block m e = ap (block_message k c n) (set-same n new block) ∙ e

-- ---- a client is asked

pub access_asked-carried : {w : ℕ} {caching : ℕ → Bool} (c source : ℕ) (m : Message w) (mail : AccessMessages w)
    {s : State (List ℕ)} {sys sys' : System w} → IsWidth w → IsInvariant caching s
    → IsInvariant caching (access_asked c source s) → s.uses c source ≡ SourceFree → channel_of_message m ≡ Channel.A
    → IsHanded (pushes_at c (pushes_of (Some m))) sys sys' → ChannelRelation mail s sys
    → ChannelRelation (record { request = set_at c source m mail.request; answer = mail.answer })
    (access_asked c source s) sys'
access_asked-carried {w} {caching} c source m mail {s} {sys} {sys'} width inv inv' closed chan handed h =
    let moved : AreMoved (access_moves source) (s.link c) (with_a (packet Request source) (s.link c)) =
    elim [ Channel.A ↦ refl | _ ↦ refl ] in
    carried-event {caching = caching} {n = 0} {moves = (moves_at c (access_moves source))} {mail = mail} {mail' = mail'}
    {s = s} {s' = s'} sys sys' width (record {
      before = inv;
      after = inv';
      moved = moved-at c (access_moves source) _ s.link moved;
      blocks = λ i ne. refl;
      same = λ d k t e f. refl;
      requests = λ d i e f. requests d i e (cases_eq d c) (cases_eq i source);
      answers = λ d i e f. refl;
    })
    (queued-handed (moves_at c (access_moves source)) mail' s' handed
    (fits-handed c (pushes_of (Some m)) (access_moves source) (λ d k i. message_of mail' s' d (packet k i))
    (λ at. fits_pushed false m _ at _ (λ k i. message_of mail' s' c (packet k i)) chan (fits at)))) h
  where
    mail' : AccessMessages w
    mail' = record { request = set_at c source m mail.request; answer = mail.answer }

    s' : State (List ℕ)
    s' = access_asked c source s

    requests : (d i : ℕ) → is_asked (s.uses d i) ≡ true → (d ≡ c) ⊎ (d ≡ c → ⊥) → (i ≡ source) ⊎ (i ≡ source → ⊥)
        → set_at c source m mail.request d i ≡ mail.request d i
    requests d i e (inl same) (inl also) = absurd (let f : is_asked (s.uses c source) ≡ true = rw (same, also) at e in
        let g : false ≡ true = rw closed at f in cc)
    requests d i e (inl same) (inr other) = rw (same, same_number c, ne_eqb i source other) refl
    requests d i e (inr other) j = rw (ne_eqb d c other) refl

    fits : (at : Channel) → Fits false (only_on Channel.A m at) (access_moves source at)
        (λ k i. message_of mail' s' c (packet k i))
    fits Channel.A = cc (set-same c (set source m (mail.request c)) mail.request, set-same source m (mail.request c))
    fits at = tt

pub acquire_asked-carried : {w : ℕ} {caching : ℕ → Bool} (c n source : ℕ) (whole : Bool) (g : Grow) (bytes : List ℕ)
    (m : Message w) (mail : AccessMessages w) {s : State (List ℕ)} {sys sys' : System w} → IsWidth w
    → IsInvariant caching s → IsInvariant caching (acquire_asked c n source whole g bytes s)
    → ((s.block n).pair c).acquiring ≡ NoAcquire → channel_of_message m ≡ Channel.A
    → block_message Acquire c n (acquiring_block c source whole g bytes (s.block n)) ≡ m
    → IsHanded (pushes_at c (pushes_of (Some m))) sys sys' → ChannelRelation mail s sys
    → ChannelRelation mail (acquire_asked c n source whole g bytes s) sys'
acquire_asked-carried c n source whole g bytes m mail {s} {sys} {sys'} width inv inv' calm chan is handed h =
    let new : Block (List ℕ) = acquiring_block c source whole g bytes (s.block n) in
    let s' : State (List ℕ) = acquire_asked c n source whole g bytes s in
    let fits : (at : Channel) → Fits false (only_on Channel.A m at) (acquire_moves n at) (λ k i. message_of mail s' c
    (packet k i)) = elim [ Channel.A ↦ new_there _ c n new s.block m is | at ↦ tt ] in
    carried-event sys sys' width (showing-block n new (moves_at c (acquire_moves n)) mail mail inv inv'
    (moved-at c (acquire_moves n) (with_a (packet Acquire n) (s.link c)) s.link (elim [ Channel.A ↦ refl | _ ↦ refl ]))
    (λ i. refl) (λ d. alike-acquiring c source whole g bytes (inv.blocks n) calm d) (λ d i e f. refl) (λ d i e f. refl))
    (queued-handed (moves_at c (acquire_moves n)) mail s' handed
    (fits-handed c (pushes_of (Some m)) (acquire_moves n) (λ d k i. message_of mail s' d (packet k i))
    (λ at. fits_pushed false m _ at _ (λ k i. message_of mail s' c (packet k i)) chan (fits at)))) h

pub release_asked-carried : {w : ℕ} {caching : ℕ → Bool} (c n source : ℕ) (r : Prune) (m : Message w)
    (mail : AccessMessages w) {s : State (List ℕ)} {sys sys' : System w} → IsWidth w → IsInvariant caching s
    → IsInvariant caching (release_asked c n source r s) → ((s.block n).pair c).letting ≡ NoRelease
    → channel_of_message m ≡ Channel.C → block_message Release c n (releasing_block c source r (s.block n)) ≡ m
    → IsHanded (pushes_at c (pushes_of (Some m))) sys sys' → ChannelRelation mail s sys
    → ChannelRelation mail (release_asked c n source r s) sys'
release_asked-carried c n source r m mail {s} {sys} {sys'} width inv inv' kept chan is handed h =
    let new : Block (List ℕ) = releasing_block c source r (s.block n) in
    let s' : State (List ℕ) = release_asked c n source r s in
    let fits : (at : Channel) → Fits false (only_on Channel.C m at) (release_moves n at) (λ k i. message_of mail s' c
    (packet k i)) = elim [ Channel.C ↦ new_there _ c n new s.block m is | at ↦ tt ] in
    carried-event sys sys' width (showing-block n new (moves_at c (release_moves n)) mail mail inv inv'
    (moved-at c (release_moves n) (with_c (packet Release n) (s.link c)) s.link (elim [ Channel.A ↦ refl | _ ↦ refl ]))
    (λ i. refl) (λ d. alike-releasing c source r _ kept d) (λ d i e f. refl) (λ d i e f. refl))
    (queued-handed (moves_at c (release_moves n)) mail s' handed
    (fits-handed c (pushes_of (Some m)) (release_moves n) (λ d k i. message_of mail s' d (packet k i))
    (λ at. fits_pushed false m _ at _ (λ k i. message_of mail s' c (packet k i)) chan (fits at)))) h

-- nothing is handed out
abbrev still_moves : ℕ → Channel → Move
still_moves d ch = Stays

no_push : {w : ℕ} (b : Bool) (render : Kind → ℕ → Message w) → Fits false (if b then None else None) Stays render
no_push b render = grind arith

pub nothing_asked-carried : {w : ℕ} {caching : ℕ → Bool} (c : ℕ) (mail : AccessMessages w) {s : State (List ℕ)}
    {sys sys' : System w} → IsWidth w → IsInvariant caching s → IsHanded (pushes_at c (pushes_of None)) sys sys'
    → ChannelRelation mail s sys → ChannelRelation mail s sys'
nothing_asked-carried {caching} c mail {s} {sys} {sys'} width inv handed h = carried-event {caching = caching} {n = 0}
    {moves = still_moves} {mail = mail} {mail' = mail} {s = s} {s' = s} sys sys' width (record {
      before = inv;
      after = inv;
      moved = λ d ch. refl;
      blocks = λ i ne. refl;
      same = λ d k t e f. refl;
      requests = λ d i e f. refl;
      answers = λ d i e f. refl;
    })
    (queued-handed still_moves mail s handed (λ d at. no_push (d == c) (λ k i. message_of mail s d (packet k i)))) h

pub block_stored-carried : {w : ℕ} {caching : ℕ → Bool} (c n : ℕ) (bytes : List ℕ) (mail : AccessMessages w)
    {s : State (List ℕ)} {sys sys' : System w} → IsWidth w
    → IsInvariant caching s → IsInvariant caching (block_stored c n bytes s)
    → ((k : Kind) (d : ℕ) → carries k d (s.block n) ≡ false) → IsHanded (pushes_at c (pushes_of None)) sys sys'
    → ChannelRelation mail s sys → ChannelRelation mail (block_stored c n bytes s) sys'
block_stored-carried c n bytes mail {s} {sys} {sys'} width inv inv' none handed h =
    let new : Block (List ℕ) = stored_block c bytes (s.block n) in
    carried-event sys sys' width (showing-block n new still_moves mail mail inv inv' (λ d ch. refl) (λ i. refl)
    (alike-bytes (s.block n) new refl refl refl refl refl (λ k d. inl (none k d))) (λ d i e f. refl) (λ d i e f. refl))
    (queued-handed still_moves mail (block_stored c n bytes s) handed (λ d at. no_push (d == c)
    (λ k i. message_of mail (block_stored c n bytes s) d (packet k i)))) h

-- ---- a request is taken

pub access_answered-shown : {w : ℕ} {caching : ℕ → Bool} (c n source : ℕ) (f : List ℕ → List ℕ) (rest : List Packet)
    (m : Message w) (mail : AccessMessages w) {s : State (List ℕ)} → IsInvariant caching s
    → IsInvariant caching (access_answered c n source f rest s) → (s.link c).a ≡ packet Request source ∷ rest
    → s.uses c source ≡ Asked
    → ((k : Kind) (d : ℕ) → (carries k d (s.block n) ≡ false) ⊎ (f (s.block n).truth ≡ (s.block n).truth))
    → channel_of_message m ≡ Channel.D → IsShown caching n c Channel.A (pushes_at c (pushes_of (Some m))) mail
    (record { request = mail.request; answer = set_at c source m mail.answer }) s (access_answered c n source f rest s)
access_answered-shown {w} {caching} c n source f rest m mail {s} inv inv' first used bytes chan =
    let new : Block (List ℕ) = performed_block f (s.block n) in
    record {
      moves = (moves_at c (answer_moves source));
      showing = showing-block n new (moves_at c (answer_moves source)) mail mail' inv inv'
          (moved-at c (answer_moves source) (answered_link (packet Answer source) rest (s.link c)) s.link (elim
          [ Channel.A ↦ first | _ ↦ refl ])) (λ i. refl) (alike-bytes (s.block n) new refl refl refl refl refl bytes)
          (λ d i e g. refl) (λ d i e g. answers d i e (cases_eq d c) (cases_eq i source));
      fits = fits-at c Channel.A (pushes_of (Some m)) (answer_moves source)
          (λ d k i. message_of mail' s' d (packet k i)) (λ at. fits_pushed (same_channel at Channel.A) m _ at
          _ (λ k i. message_of mail' s' c (packet k i)) chan (fits at));
    }
  where
    mail' : AccessMessages w
    mail' = record { request = mail.request; answer = set_at c source m mail.answer }

    s' : State (List ℕ)
    s' = access_answered c n source f rest s

    answers : (d i : ℕ) → is_replied (s.uses d i) ≡ true → (d ≡ c) ⊎ (d ≡ c → ⊥) → (i ≡ source) ⊎ (i ≡ source → ⊥)
        → set_at c source m mail.answer d i ≡ mail.answer d i
    answers d i e (inl same) (inl also) = absurd (let g : is_replied (s.uses c source) ≡ true = rw (same, also) at e in
        let no : false ≡ true = rw used at g in cc)
    answers d i e (inl same) (inr other) = rw (same, same_number c, ne_eqb i source other) refl
    answers d i e (inr other) j = rw (ne_eqb d c other) refl

    fits : (at : Channel) → Fits (same_channel at Channel.A) (only_on Channel.D m at) (answer_moves source at)
        (λ k i. message_of mail' s' c (packet k i))
    fits Channel.D = cc (set-same c (set source m (mail.answer c)) mail.answer, set-same source m (mail.answer c))
    fits at = tt

pub acquire_granted-shown : {w : ℕ} {caching : ℕ → Bool} (r n tracker : ℕ) (d : Bool) (k : Cap) (rest : List Packet)
    (m : Message w) (mail : AccessMessages w) {s : State (List ℕ)} → IsInvariant caching s
    → IsInvariant caching (acquire_granted r n tracker d k rest s) → (s.link r).a ≡ packet Acquire n ∷ rest
    → (s.block n).service ≡ Free → channel_of_message m ≡ Channel.D
    → block_message Grant r n (granted_at_once r tracker d k (s.block n)) ≡ m
    → IsShown caching n r Channel.A (pushes_at r (pushes_of (Some m))) mail mail s
    (acquire_granted r n tracker d k rest s)
acquire_granted-shown r n tracker d k rest m mail {s} inv inv' first free chan is =
    let new : Block (List ℕ) = granted_at_once r tracker d k (s.block n) in
    let s' : State (List ℕ) = acquire_granted r n tracker d k rest s in
    let fits : (at : Channel) → Fits (same_channel at Channel.A) (only_on Channel.D m at) (once_moves n at)
    (λ j l. message_of mail s' r (packet j l)) = elim [ Channel.D ↦ new_there Grant r n new s.block m is | at ↦ tt ] in
    record {
      moves = (moves_at r (once_moves n));
      showing = showing-block n new (moves_at r (once_moves n)) mail mail inv inv' (moved-at r (once_moves n)
          (answered_link (packet Grant n) rest (s.link r)) s.link (elim [ Channel.A ↦ first | _ ↦ refl ])) (λ i. refl)
          (alike-granted_at_once r tracker d k (s.block n) free) (λ i j e f. refl) (λ i j e f. refl);
      fits = fits-at r Channel.A (pushes_of (Some m)) (once_moves n) (λ i j l. message_of mail s' i (packet j l)) (λ at.
          fits_pushed (same_channel at Channel.A) m _ at _ (λ j l. message_of mail s' r (packet j l)) chan (fits at));
    }

-- ---- a Probe is taken

pub probe_taken-shown : {w : ℕ} {caching : ℕ → Bool} (c n : ℕ) (k : Cap) (rest : List Packet) (m : Message w)
    (mail : AccessMessages w) {s : State (List ℕ)}
    → IsInvariant caching s → IsInvariant caching (probe_taken c n k rest s) → (s.link c).b ≡ packet Probe n ∷ rest
    → ((s.block n).pair c).probing ≡ ProbeSent k
    → channel_of_message m ≡ Channel.C → block_message ProbeAck c n (probed_block c k (s.block n)) ≡ m
    → IsShown caching n c Channel.B (pushes_at c (pushes_of (Some m))) mail mail s (probe_taken c n k rest s)
probe_taken-shown c n k rest m mail {s} inv inv' first sent chan is =
    let new : Block (List ℕ) = probed_block c k (s.block n) in
    let s' : State (List ℕ) = probe_taken c n k rest s in
    let fits : (at : Channel) → Fits (same_channel at Channel.B) (only_on Channel.C m at) (probe_moves n at)
    (λ j l. message_of mail s' c (packet j l)) = elim [ Channel.C ↦ new_there _ c n new s.block m is | at ↦ tt ] in
    record {
      moves = (moves_at c (probe_moves n));
      showing = showing-block n new (moves_at c (probe_moves n)) mail mail inv inv'
          (moved-at c (probe_moves n) (probed_link n rest (s.link c)) s.link (elim [ Channel.B ↦ first | _ ↦ refl ]))
          (λ i. refl) (alike-probed c k (s.block n) sent) (λ i j e f. refl) (λ i j e f. refl);
      fits = fits-at c Channel.B (pushes_of (Some m)) (probe_moves n) (λ i j l. message_of mail s' i (packet j l))
          (λ at. fits_pushed (same_channel at Channel.B) m _ at _
          (λ j l. message_of mail s' c (packet j l)) chan (fits at));
    }

-- ---- a report is taken

pub report_taken-shown : {w : ℕ} {caching : ℕ → Bool} (c n : ℕ) (r : Report) (rest : List Packet)
    (mail : AccessMessages w) {s : State (List ℕ)} → IsInvariant caching s
    → IsInvariant caching (report_taken c n r rest s) → (s.link c).c ≡ packet ProbeAck n ∷ rest
    → IsShown caching n c Channel.C (λ d at. None) mail mail s (report_taken c n r rest s)
report_taken-shown c n r rest mail {s} inv inv' first = record {
  moves = (moves_at c (report_moves n));
  showing = showing-block n _ (moves_at c (report_moves n)) mail mail inv inv'
      (moved-at c (report_moves n) (record (s.link c) { c = rest }) s.link (elim [ Channel.C ↦ first | _ ↦ refl ]))
      (λ i. refl) (alike-reported c r (s.block n)) (λ i j e f. refl) (λ i j e f. refl);
  fits = λ d at. fits d at (d == c);
}
  where
    fits : (d : ℕ) (at : Channel) (b : Bool)
        → Fits (b && same_channel at Channel.C) None (if b then report_moves n at else Stays)
        (λ j l. message_of mail (report_taken c n r rest s) d (packet j l))
    fits d at false = tt
    fits d Channel.A true = tt
    fits d Channel.B true = tt
    fits d Channel.C true = tt
    fits d Channel.D true = tt
    fits d Channel.E true = tt

-- ---- a Release is taken

pub release_taken-shown : {w : ℕ} {caching : ℕ → Bool} (c n : ℕ) (r : Prune) (rest : List Packet) (m : Message w)
    (mail : AccessMessages w) {s : State (List ℕ)} → IsInvariant caching s
    → IsInvariant caching (release_taken c n r rest s) → (s.link c).c ≡ packet Release n ∷ rest
    → channel_of_message m ≡ Channel.D → block_message ReleaseAck c n (let_block c r (s.block n)) ≡ m
    → IsShown caching n c Channel.C (pushes_at c (pushes_of (Some m))) mail mail s (release_taken c n r rest s)
release_taken-shown c n r rest m mail {s} inv inv' first chan is =
    let new : Block (List ℕ) = let_block c r (s.block n) in
    let s' : State (List ℕ) = release_taken c n r rest s in
    let fits : (at : Channel) → Fits (same_channel at Channel.C) (only_on Channel.D m at) (let_moves n at)
    (λ j l. message_of mail s' c (packet j l)) = elim [ Channel.D ↦ new_there _ c n new s.block m is | at ↦ tt ] in
    record {
      moves = (moves_at c (let_moves n));
      showing = showing-block n new (moves_at c (let_moves n)) mail mail inv inv'
          (moved-at c (let_moves n) (let_link n rest (s.link c)) s.link (elim [ Channel.C ↦ first | _ ↦ refl ]))
          (λ i. refl) (alike-let c r (s.block n)) (λ i j e f. refl) (λ i j e f. refl);
      fits = fits-at c Channel.C (pushes_of (Some m)) (let_moves n) (λ i j l. message_of mail s' i (packet j l)) (λ at.
          fits_pushed (same_channel at Channel.C) m _ at _ (λ j l. message_of mail s' c (packet j l)) chan (fits at));
    }

-- ---- the last report, for which an access is answered

ended_fits : {w : ℕ} (x y : Bool) (n source : ℕ) (m : Message w) (at : Channel) (render : Kind → ℕ → Message w)
    → (y ≡ true → render Answer source ≡ m) → Fits (x && same_channel at Channel.C)
    (if y then only_on Channel.D m at else None) (ended_move x y n source at) render
ended_fits x y n source m at render e = grind arith

-- the first token of c's channel C, wherever it is looked for
first_of_c : (c d : ℕ) (t : Packet) (rest : List Packet) (link : ℕ → Link) → (link c).c ≡ t ∷ rest → (d == c) ≡ true
    → (link d).c ≡ t ∷ rest
first_of_c c d t rest link first e = rw (eqb-true d c e) first

popped_is : (c d : ℕ) (rest : List Packet) (link : ℕ → Link)
    → popped_link c rest link d ≡ (if d == c then record (link d) { c = rest } else link d)
popped_is c d rest link = grind (arith, cases_eq)

pub report_answers-shown : {w : ℕ} {caching : ℕ → Bool} (c q n source : ℕ) (r : Report) (k : Cap) (f : List ℕ → List ℕ)
    (rest : List Packet) (m : Message w) (mail : AccessMessages w) {s : State (List ℕ)} → IsInvariant caching s
    → IsInvariant caching (report_answers c q n source r f rest s) → (s.link c).c ≡ packet ProbeAck n ∷ rest
    → (s.block n).service ≡ Waits q false source k → is_replied (s.uses q source) ≡ false
    → ((j : Kind) (i : ℕ) → shown j i (s.block n) ≡ true → shown j i (ended_block c r f (s.block n)) ≡ true
    → (carries j i (s.block n) ≡ false) ⊎ (f (s.block n).truth ≡ (s.block n).truth)) → channel_of_message m ≡ Channel.D
    → IsShown caching n c Channel.C (pushes_at q (pushes_of (Some m))) mail
    (record { request = mail.request; answer = set_at q source m mail.answer }) s
    (report_answers c q n source r f rest s)
report_answers-shown {w} {caching} c q n source r k f rest m mail {s} inv inv' first waits used bytes chan =
    let mail' : AccessMessages w = record { request = mail.request; answer = set_at q source m mail.answer } in
    let s' : State (List ℕ) = report_answers c q n source r f rest s in
    let moves : ℕ → Channel → Move = λ d. ended_move (d == c) (d == q) n source in
    let moved : (d : ℕ) (ch : Channel) → IsMoved (moves d ch) (packets_on ch (s.link d)) (packets_on ch (s'.link d)) =
    λ d ch. rw (popped_is c d rest s.link) (ended_moved (d == c) (d == q) ch n source (s.link d) rest
    (first_of_c c d (packet ProbeAck n) rest s.link first)) in
    let answer_is : (d : ℕ) → (d == q) ≡ true → set_at q source m mail.answer d source ≡ m =
    λ d e. rw (e, same_number source) refl in
    let fits : (d : ℕ) (at : Channel) → Fits ((d == c) && same_channel at Channel.C) (pushes_at q (pushes_of (Some m)) d
    at) (moves d at) (λ j l. message_of mail' s' d (packet j l)) = λ d at. rw chan (ended_fits (d == c)
    (d == q) n source m at (λ j l. message_of mail' s' d (packet j l)) (answer_is d)) in
    record {
      moves = moves;
      showing = showing-block n _ moves mail mail' inv inv' (λ d ch. moved d ch) (λ i. refl) (alike-ended c q source r k
          f (s.block n) waits bytes) (λ d i e g. refl) (λ d i e g. answers d i e (cases_eq d q) (cases_eq i source));
      fits = λ d at. fits d at;
    }
  where
    answers : (d i : ℕ) → is_replied (s.uses d i) ≡ true → (d ≡ q) ⊎ (d ≡ q → ⊥) → (i ≡ source) ⊎ (i ≡ source → ⊥)
        → set_at q source m mail.answer d i ≡ mail.answer d i
    answers d i e (inl same) (inl also) = absurd (let g : is_replied (s.uses q source) ≡ true = rw (same, also) at e in
        let no : false ≡ true = sym used ∙ g in cc)
    answers d i e (inl same) (inr other) = rw (same, same_number q, ne_eqb i source other) refl
    answers d i e (inr other) j = rw (ne_eqb d q other) refl

-- ---- the last report, for which an Acquire is granted

granted_moved : (n c q d : ℕ) (ch : Channel) (rest : List Packet) (link : ℕ → Link) → (c ≡ q → ⊥)
    → (link c).c ≡ packet ProbeAck n ∷ rest
    → IsMoved (granted_moves n c q d ch) (packets_on ch (link d)) (packets_on ch (granted_link c q n rest link d))
granted_moved n c q d ch rest link apart first = grind arith

granted_fits : {w : ℕ} (n : ℕ) (m : Message w) (at : Channel) (c q d : ℕ) (render : Kind → ℕ → Message w)
    → ((d == q) ≡ true → render Grant n ≡ m) → Fits ((d == c) && same_channel at Channel.C)
    (if d == q then only_on Channel.D m at else None) (granted_moves n c q d at) render
granted_fits {w} n m at c q d render e = grind arith

pub report_grants-shown : {w : ℕ} {caching : ℕ → Bool} (c q n source : ℕ) (r : Report) (d : Bool) (k gift : Cap)
    (rest : List Packet) (m : Message w) (mail : AccessMessages w) {s : State (List ℕ)} → IsInvariant caching s
    → IsInvariant caching (report_grants c q n r d gift rest s) → (s.link c).c ≡ packet ProbeAck n ∷ rest
    → (s.block n).service ≡ Waits q true source k → (c ≡ q → ⊥) → channel_of_message m ≡ Channel.D
    → block_message Grant q n (granted_block c q r d gift (s.block n)) ≡ m
    → IsShown caching n c Channel.C (pushes_at q (pushes_of (Some m))) mail mail s (report_grants c q n r d gift rest s)
report_grants-shown {w} {caching} c q n source r d k gift rest m mail {s} inv inv' first waits apart chan is =
    let new : Block (List ℕ) = granted_block c q r d gift (s.block n) in
    let s' : State (List ℕ) = report_grants c q n r d gift rest s in
    let moves : ℕ → Channel → Move = λ i. granted_moves n c q i in
    let grant_is : (i : ℕ) → (i == q) ≡ true → block_message {w = w} Grant i n (set n new s.block n) ≡ m =
    λ i e. elim (cases_eq i q) [
      | inl same ↦ rw same (ap (block_message Grant q n) (set-same n new s.block) ∙ is)
      | inr other ↦ absurd (let f : false ≡ true = sym (ne_eqb i q other) ∙ e in cc)
    ] in
    let fits : (i : ℕ) (at : Channel) → Fits ((i == c) && same_channel at Channel.C)
    (pushes_at q (pushes_of (Some m)) i at) (moves i at) (λ j l. message_of mail s' i (packet j l)) =
    λ i at. rw chan (granted_fits n m at c q i (λ j l. message_of mail s' i (packet j l)) (grant_is i)) in
    record {
      moves = moves;
      showing = showing-block n new moves mail mail inv inv'
          (λ i ch. granted_moved n c q i ch rest s.link apart first) (λ i. refl)
          (alike-granted c q source r true d k gift (s.block n) waits apart) (λ i j e f. refl) (λ i j e f. refl);
      fits = λ i at. fits i at;
    }
