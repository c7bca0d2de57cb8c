-- What is kept of a link's messages, with one more beat.
use Rattle.tl_memory.proofs.Imports.{Beat, BeatA, BeatC, BeatD, IsWidth, History, channel_of, grown, unfinished}
use Rattle.tl_memory.proofs.Imports.{is_small, Level, AreTyped, IsTyped, all_liberties, broken_after_under}
use Rattle.tl_memory.proofs.Imports.{is_legal_under}
use Rattle.std.proofs.Common.{◌≡◌, ℕ, Bool, true, false, List, [], ◌∷◌, ◌&&◌, Option, None, length, sym, ap, ◌∙◌, subst}
use Rattle.std.proofs.Common.{◌<◌, arith}
use Rattle.std.specs.Prelude.{if◌then◌else◌}
use Rattle.tl_beat.specs.declared.channel.Channel.{Channel}
use Rattle.tl_beat.specs.declared.beat.{BeatB.BeatB, BeatE.BeatE}
use Rattle.tl_burst.specs.statement.Part.{completes}
use Rattle.tl_rules.specs.statement.History.{block_at, is_release_ack}
use Rattle.tl_rules.specs.statement.Liberties.{broken_in_order_under}
use Rattle.tl_forgiving.proofs.Lawful.{AreLawful, lawful-beat, lawful-history}
use Rattle.tl_memory.specs.code.Early.{acknowledged, asking_after, granting_after, overtaken, released, releasing_after}
use Rattle.tl_memory.specs.code.Elsewhere.{IsConcerned}
use Rattle.tl_memory.specs.declared.early.{Asking.Asking, Granting.Granting, Releasing.Releasing}
use Rattle.tl_memory.proofs.messages.GrantingBeats.{granting-a, granting-b, granting-c, granting-d, granting-e}
use Rattle.tl_memory.proofs.messages.EarlyMessages.{asking-grown}
use Rattle.tl_memory.proofs.messages.ReleasingBeats.{releasing-a, releasing-b, releasing-c, releasing-d, releasing-e}
use Rattle.tl_memory.{specs.declared.link.LinkMessages.LinkMessages}
use Rattle.tl_memory.{specs.declared.message.CarriedMessage.CarriedMessage, specs.statement.Known.HasRoom}
use Rattle.tl_memory.{specs.statement.Known.KnowsMessage, specs.statement.Links.KnowsMessages}
use Rattle.tl_memory.{proofs.messages.Masks.positive}
use Rattle.tl_memory.specs.statement.Links.{KnowsGranting, KnowsReleasing}
use Rattle.tl_memory.proofs.messages.Masks.{few}
use Rattle.tl_memory.proofs.lawful.Unfinished.{has-room, room, small-beat}

-- no beat was carried
pub none-carried : {w : ℕ} (m : LinkMessages) → KnowsMessage {w = w} m.a [] → KnowsMessage {w = w} m.c []
    → KnowsMessage {w = w} m.d [] → m.asking ≡ None → m.releasing ≡ None → m.granting ≡ None → KnowsMessages {w = w} m []
unfolding unfinished
none-carried {w} m a c d asking releasing granting = record {
  asking_is = asking;
  releasing_is = subst (λ o. KnowsReleasing {w = w} o []) (sym releasing) (λ y older e. absurd (nothing y older e));
  granting_is = subst (λ o. KnowsGranting {w = w} o []) (sym granting) (λ y older e. absurd (nothing_d y older e));
  a_is = a;
  c_is = c;
  d_is = d;
  typed = tt;
}
  where
    nothing : (y : BeatC w) (older : List (Beat w)) → [] ≡ Beat.C y ∷ older → ⊥
    nothing y older e = cc

    nothing_d : (y : BeatD w) (older : List (Beat w)) → [] ≡ Beat.D y ∷ older → ⊥
    nothing_d y older e = cc

-- the beats of a message before one that breaks no rule are few
pub few-burst : {w : ℕ} (l : Level) (x : Beat w) (t : History w) → IsWidth w → is_legal_under all_liberties l t ≡ true
    → broken_after_under all_liberties l x t ≡ None → length (unfinished (channel_of x) t) < 64
few-burst {w} l x t is legal fine =
    let left = room l x t is legal fine in
    let short = few w (length (unfinished (channel_of x) t)) is left in
    omega (arith, short)

-- this is what a message is with a beat that has room in it
abbrev pub IsAfter : {w : ℕ} → CarriedMessage → CarriedMessage → Beat w → Type 0
IsAfter {w} old new x = (burst : List (Beat w)) → KnowsMessage old burst → HasRoom x burst
    → KnowsMessage new (grown x burst)

typed-grown : {w : ℕ} (x : Beat w) (burst : List (Beat w)) → IsTyped x → AreTyped burst → AreTyped (grown x burst)
typed-grown x burst typed before = go (completes x burst)
  where
    go : (b : Bool) → AreTyped (if b then [] else x ∷ burst)
    go true = tt
    go false = (typed, before)

module _ {w : ℕ} (m : LinkMessages) (new : CarriedMessage) (l : Level) (t : History w) (is : IsWidth w)
    (k : KnowsMessages m t) (legal : is_legal_under all_liberties l t ≡ true) where
  lawful : AreLawful all_liberties l t
  lawful = lawful-history all_liberties l t legal

  ordered : (x : Beat w) → broken_after_under all_liberties l x t ≡ None → broken_in_order_under all_liberties x t ≡ None
  ordered x fine = (lawful-beat all_liberties l x t fine).ordered

  pub messages-a : (y : BeatA w) (last : Bool) → last ≡ completes (Beat.A y) (unfinished Channel.A t) → IsTyped (Beat.A y)
      → broken_after_under all_liberties l (Beat.A y) t ≡ None → IsAfter m.a new (Beat.A y)
      → KnowsMessages (record {
        a = new;
        c = m.c;
        d = m.d;
        asking = asking_after y last;
        releasing = m.releasing;
        granting = m.granting;
      }) (Beat.A y ∷ t)
  unfolding unfinished
  messages-a y last whole typed fine after = record {
    asking_is = rw whole (asking-grown y (unfinished Channel.A t));
    releasing_is = releasing-a m.releasing y t k.releasing_is;
    granting_is = granting-a all_liberties m.granting y t (ordered (Beat.A y) fine) k.granting_is;
    a_is = after (unfinished Channel.A t) k.a_is (has-room l (Beat.A y) t is typed legal fine);
    c_is = k.c_is;
    d_is = k.d_is;
    typed = typed-grown (Beat.A y) (unfinished Channel.A t) typed k.typed;
  }

  pub messages-c : (y : BeatC w) (last : Bool) → last ≡ completes (Beat.C y) (unfinished Channel.C t)
      → broken_after_under all_liberties l (Beat.C y) t ≡ None → IsAfter m.c new (Beat.C y)
      → KnowsMessages (record {
        a = m.a;
        c = new;
        d = m.d;
        asking = m.asking;
        releasing = releasing_after m.releasing y last;
        granting = if last then overtaken m.granting (block_at y.address) else m.granting;
      }) (Beat.C y ∷ t)
  unfolding unfinished
  messages-c y last whole fine after = record {
    asking_is = k.asking_is;
    releasing_is = rw whole (releasing-c all_liberties l t lawful m.releasing y (ordered (Beat.C y) fine) k.releasing_is);
    granting_is = rw whole (granting-c m.granting y t k.granting_is);
    a_is = k.a_is;
    c_is = after (unfinished Channel.C t) k.c_is (room l (Beat.C y) t is legal fine, positive w);
    d_is = k.d_is;
    typed = k.typed;
  }

  -- the same, where these are the unfinished Release and Grant
  pub with-report : (y : BeatC w) (last : Bool) (releasing : Option Releasing) (granting : Option Granting)
      → last ≡ completes (Beat.C y) (unfinished Channel.C t) → releasing ≡ releasing_after m.releasing y last
      → granting ≡ (if last then overtaken m.granting (block_at y.address) else m.granting)
      → broken_after_under all_liberties l (Beat.C y) t ≡ None → IsAfter m.c new (Beat.C y)
      → KnowsMessages (record {
        a = m.a;
        c = new;
        d = m.d;
        asking = m.asking;
        releasing = releasing;
        granting = granting;
      }) (Beat.C y ∷ t)
  with-report y last releasing granting whole one two fine after =
      rw (one, two) (messages-c y last whole fine after)

  pub messages-d : (y : BeatD w) (last : Bool) (block : Option ℕ) (releasing : Option Releasing)
      → last ≡ completes (Beat.D y) (unfinished Channel.D t)
      → releasing ≡ (if last && is_release_ack y.opcode then released m.releasing y.source else m.releasing)
      → broken_after_under all_liberties l (Beat.D y) t ≡ None → IsConcerned block (Beat.D y) t
      → IsAfter m.d new (Beat.D y)
      → KnowsMessages (record {
        a = m.a;
        c = m.c;
        d = new;
        asking = m.asking;
        releasing = releasing;
        granting = granting_after m.granting y block last;
      }) (Beat.D y ∷ t)
  unfolding unfinished
  messages-d y last block releasing whole released_is fine concerned after = record {
    asking_is = k.asking_is;
    releasing_is = rw (released_is, whole) (releasing-d all_liberties l t lawful m.releasing y (ordered (Beat.D y) fine)
        k.releasing_is);
    granting_is = rw whole (granting-d all_liberties y t (ordered (Beat.D y) fine) m.granting block concerned
        k.granting_is);
    a_is = k.a_is;
    c_is = k.c_is;
    d_is = after (unfinished Channel.D t) k.d_is (room l (Beat.D y) t is legal fine, positive w);
    typed = k.typed;
  }

  -- the same, where these are the unfinished Release and Grant
  pub with-response : (y : BeatD w) (last : Bool) (block : Option ℕ) (releasing : Option Releasing)
      (granting : Option Granting) → last ≡ completes (Beat.D y) (unfinished Channel.D t)
      → releasing ≡ (if last && is_release_ack y.opcode then released m.releasing y.source else m.releasing)
      → granting ≡ granting_after m.granting y block last
      → broken_after_under all_liberties l (Beat.D y) t ≡ None → IsConcerned block (Beat.D y) t
      → IsAfter m.d new (Beat.D y)
      → KnowsMessages (record {
        a = m.a;
        c = m.c;
        d = new;
        asking = m.asking;
        releasing = releasing;
        granting = granting;
      }) (Beat.D y ∷ t)
  with-response y last block releasing granting whole one two fine concerned after =
      rw two (messages-d y last block releasing whole one fine concerned after)

  -- the same of any beat, by its channel
  pub with-request : (x : Beat w) (y : BeatA w) (last : Bool) (asking : Option Asking) → x ≡ Beat.A y
      → (KnowsMessage m.a (unfinished Channel.A t) → length (unfinished Channel.A t) < 64
      → last ≡ completes x (unfinished Channel.A t)) → asking ≡ asking_after y last → IsTyped (Beat.A y)
      → broken_after_under all_liberties l x t ≡ None → IsAfter m.a new x
      → KnowsMessages (record {
        a = new;
        c = m.c;
        d = m.d;
        asking = asking;
        releasing = m.releasing;
        granting = m.granting;
      }) (x ∷ t)
  with-request x y last asking is_a whole one typed fine after =
      subst (λ v. KnowsMessages (record {
        a = new;
        c = m.c;
        d = m.d;
        asking = asking;
        releasing = m.releasing;
        granting = m.granting;
      }) (v ∷ t)) (sym is_a) (rw one (messages-a y last
      (whole k.a_is (few_a (subst (λ v. broken_after_under all_liberties l v t ≡ None) is_a fine))
      ∙ ap (λ v. completes v (unfinished Channel.A t)) is_a) typed
      (subst (λ v. broken_after_under all_liberties l v t ≡ None) is_a fine)
      (subst (λ v. IsAfter m.a new v) is_a after)))
    where
      few_a : broken_after_under all_liberties l (Beat.A y) t ≡ None → length (unfinished Channel.A t) < 64
      few_a e = few-burst l (Beat.A y) t is legal e

-- a GrantAck
pub with-ack : {w : ℕ} (m : LinkMessages) (l : Level) (t : History w) → KnowsMessages m t
    → is_legal_under all_liberties l t ≡ true → (x : Beat w) (y : BeatE) (granting : Option Granting) → x ≡ Beat.E y
    → granting ≡ acknowledged m.granting y.sink → broken_after_under all_liberties l x t ≡ None
    → KnowsMessages (record {
      a = m.a;
      c = m.c;
      d = m.d;
      asking = m.asking;
      releasing = m.releasing;
      granting = granting;
    }) (x ∷ t)
unfolding unfinished
with-ack {w} m l t k legal x y granting is_e one fine =
    subst (λ v. KnowsMessages (record {
      a = m.a;
      c = m.c;
      d = m.d;
      asking = m.asking;
      releasing = m.releasing;
      granting = granting;
    }) (v ∷ t)) (sym is_e) (rw one (record {
      asking_is = k.asking_is;
      releasing_is = releasing-e m.releasing y t k.releasing_is;
      granting_is = granting-e m.granting y t k.granting_is;
      a_is = k.a_is;
      c_is = k.c_is;
      d_is = k.d_is;
      typed = k.typed;
    }))

-- a beat of channel B brings nothing
pub with-probe : {w : ℕ} (m : LinkMessages) (x : Beat w) (y : BeatB w) (t : History w) → x ≡ Beat.B y → KnowsMessages m t
    → KnowsMessages m (x ∷ t)
unfolding unfinished
with-probe {w} m x y t is_b k = subst (λ v. KnowsMessages m (v ∷ t)) (sym is_b) (record {
  asking_is = k.asking_is;
  releasing_is = releasing-b m.releasing y t k.releasing_is;
  granting_is = granting-b m.granting y t k.granting_is;
  a_is = k.a_is;
  c_is = k.c_is;
  d_is = k.d_is;
  typed = k.typed;
})

-- a beat that breaks no rule is of a size that a message may have
pub large-breaks : {w : ℕ} {X : Type 0} (l : Level) (x : Beat w) (t : History w) → IsWidth w
    → is_legal_under all_liberties l t ≡ true → broken_after_under all_liberties l x t ≡ None → is_small x ≡ false → X
large-breaks l x t is legal fine large = absurd (let no : true ≡ false =
    sym (small-beat l x t is legal fine) ∙ large in cc)
