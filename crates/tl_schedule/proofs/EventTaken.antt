-- What was read of an event's line was said by it.
use Rattle.tl_schedule.proofs.Imports.{digits, lane_digits, channel_named, Asked, Said, Get, Load, Store, Acquire}
use Rattle.tl_schedule.proofs.Imports.{Whole, Release, Access, Deliver, Fits, said_fields, ask_at, bytes_in, front}
use Rattle.tl_schedule.proofs.Imports.{last, number_in, size_in}
use Rattle.std.proofs.Common.{◌≡◌, ℕ, ◌*◌, ◌^◌, List, [], ◌∷◌, refl, sym, ap, ap₂, ◌∙◌}
use Rattle.std.specs.Prelude.{codes, Some}
use Rattle.tl_params.specs.statement.Names.{arithmetic_name, grow_name, intent_name, logical_name, prune_name}
use Rattle.tl_schedule.{specs.declared.name.Word.Word, proofs.Options.bind_some}
use Rattle.tl_schedule.specs.statement.EventLine.{Put, Part, Arith, Logic, Hint, AskedFits, HasRoom, asked_fields}
use Rattle.tl_schedule.specs.statement.EventLine.{asked_name, mask_digits}
use Rattle.tl_schedule.specs.code.EventReading.{get_at, put_at, part_at, arith_at, logic_at, hint_at, asked_at, load_at}
use Rattle.tl_schedule.specs.code.EventReading.{store_at, acquire_at, whole_at, release_at, access_at, deliver_at}
use Rattle.tl_schedule.specs.code.EventReading.{said_at}
use Rattle.tl_schedule.specs.code.NameReading.{arithmetic_in, arithmetics, grow_in, grows, intent_in, intents}
use Rattle.tl_schedule.specs.code.NameReading.{logical_in, logicals, prune_in, prunes, word_in, word_name, words}
use Rattle.tl_schedule.proofs.SpelledFields.{number_taken, size_taken, bytes_taken, name_taken, front_taken, end_taken}
use Rattle.tl_schedule.proofs.SpelledFields.{last_taken, map_taken}
use Rattle.tl_beat.proofs.ReadFields.{letter-named}

-- ---- fields in a row

one_field : (fields rest : List (List ℕ)) (p text : List ℕ) → fields ≡ p ∷ rest → rest ≡ [] → p ≡ text
    → fields ≡ text ∷ []
one_field fields rest p text a none b = rw (a, none, b) refl

two_fields : (fields r s : List (List ℕ)) (p q a b : List ℕ) → fields ≡ p ∷ r → r ≡ q ∷ s → s ≡ [] → p ≡ a → q ≡ b
    → fields ≡ a ∷ b ∷ []
two_fields fields r s p q a b e f none g h = rw (e, f, none, g, h) refl

three_fields : (fields r s t : List (List ℕ)) (p q u a b c : List ℕ) → fields ≡ p ∷ r → r ≡ q ∷ s → s ≡ u ∷ t → t ≡ []
    → p ≡ a → q ≡ b → u ≡ c → fields ≡ a ∷ b ∷ c ∷ []
three_fields fields r s t p q u a b c e f g none h i j = rw (e, f, g, none, h, i, j) refl

-- two fields, and what stands behind them
two_before : (fields r s rest : List (List ℕ)) (p q a b : List ℕ) → fields ≡ p ∷ r → r ≡ q ∷ s → s ≡ rest → p ≡ a
    → q ≡ b → fields ≡ a ∷ b ∷ rest
two_before fields r s rest p q a b e f g h i = rw (e, f, g, h, i) refl

-- ---- accesses

-- the fields behind the address are those of what is asked
record IsAsked (w : ℕ) (k : Word) (size : ℕ) (fields : List (List ℕ)) (asked : Asked) : Type 0 where
  name : asked_name asked ≡ word_name k
  text : fields ≡ asked_fields w size asked
  fits : AskedFits w size asked

same_asked : (w : ℕ) (k : Word) (size : ℕ) (fields : List (List ℕ)) (found asked : Asked) → found ≡ asked
    → IsAsked w k size fields found → IsAsked w k size fields asked
same_asked w k size fields found asked e h = rw (← e) h

get_taken : (w size : ℕ) (fields : List (List ℕ)) (asked : Asked) → get_at fields ≡ Some asked
    → IsAsked w Word.Get size fields asked
get_taken w size fields asked e =
    let (none, same) = end_taken fields Get asked e in
    same_asked w Word.Get size fields Get asked same (record { name = refl; text = none; fits = tt })

put_taken : (w size : ℕ) (fields : List (List ℕ)) (asked : Asked) → put_at size fields ≡ Some asked
    → IsAsked w Word.Put size fields asked
put_taken w size fields asked e =
    let (bytes, is, same) = map_taken _ (last (bytes_in (2 ^ size)) fields) asked e in
    let found = last_taken (bytes_in (2 ^ size)) fields bytes is in
    let read = bytes_taken (2 ^ size) found.field bytes found.says in
    same_asked w Word.Put size fields (Put bytes) asked same
    (record {
      name = refl;
      text = one_field fields [] found.field (lane_digits bytes) found.same refl read.text;
      fits = read.are_bytes;
    })

part_taken : (w size : ℕ) (fields : List (List ℕ)) (asked : Asked) → part_at w size fields ≡ Some asked
    → IsAsked w Word.Part size fields asked
part_taken w size fields asked e =
    let (m, is_m, more) = bind_some (front (number_in 0 (mask_digits w size)) fields) _ asked e in
    let (bytes, is, same) = map_taken _ (last (bytes_in (2 ^ size)) m.1) asked more in
    let first = front_taken (number_in 0 (mask_digits w size)) fields m.0 m.1 is_m in
    let found = last_taken (bytes_in (2 ^ size)) m.1 bytes is in
    let mask = number_taken (mask_digits w size) m.0 first.field first.says in
    let read = bytes_taken (2 ^ size) found.field bytes found.says in
    same_asked w Word.Part size fields (Part m.0 bytes) asked same (record {
      name = refl;
      text = two_fields fields m.1 [] first.field found.field _ _ first.same found.same refl mask.text read.text;
      fits = (mask.room, read.are_bytes);
    })

arith_taken : (w size : ℕ) (fields : List (List ℕ)) (asked : Asked) → arith_at size fields ≡ Some asked
    → IsAsked w Word.Arith size fields asked
arith_taken w size fields asked e =
    let (o, is_o, more) = bind_some (front arithmetic_in fields) _ asked e in
    let (bytes, is, same) = map_taken _ (last (bytes_in (2 ^ size)) o.1) asked more in
    let first = front_taken arithmetic_in fields o.0 o.1 is_o in
    let found = last_taken (bytes_in (2 ^ size)) o.1 bytes is in
    let read = bytes_taken (2 ^ size) found.field bytes found.says in
    same_asked w Word.Arith size fields (Arith o.0 bytes) asked same (record {
      name = refl;
      text = two_fields fields o.1 [] first.field found.field _ _ first.same found.same refl
          (name_taken arithmetic_name arithmetics first.field o.0 first.says) read.text;
      fits = read.are_bytes;
    })

logic_taken : (w size : ℕ) (fields : List (List ℕ)) (asked : Asked) → logic_at size fields ≡ Some asked
    → IsAsked w Word.Logic size fields asked
logic_taken w size fields asked e =
    let (o, is_o, more) = bind_some (front logical_in fields) _ asked e in
    let (bytes, is, same) = map_taken _ (last (bytes_in (2 ^ size)) o.1) asked more in
    let first = front_taken logical_in fields o.0 o.1 is_o in
    let found = last_taken (bytes_in (2 ^ size)) o.1 bytes is in
    let read = bytes_taken (2 ^ size) found.field bytes found.says in
    same_asked w Word.Logic size fields (Logic o.0 bytes) asked same (record {
      name = refl;
      text = two_fields fields o.1 [] first.field found.field _ _ first.same found.same refl
          (name_taken logical_name logicals first.field o.0 first.says) read.text;
      fits = read.are_bytes;
    })

hint_taken : (w size : ℕ) (fields : List (List ℕ)) (asked : Asked) → hint_at fields ≡ Some asked
    → IsAsked w Word.Hint size fields asked
hint_taken w size fields asked e =
    let (i, is_i, more) = bind_some (front intent_in fields) _ asked e in
    let (none, same) = end_taken i.1 (Hint i.0) asked more in
    let first = front_taken intent_in fields i.0 i.1 is_i in
    same_asked w Word.Hint size fields (Hint i.0) asked same (record {
      name = refl;
      text = one_field fields i.1 first.field _ first.same none
          (name_taken intent_name intents first.field i.0 first.says);
      fits = tt;
    })

asked_taken : (w : ℕ) (k : Word) (size : ℕ) (fields : List (List ℕ)) (asked : Asked)
    → asked_at w k size fields ≡ Some asked → IsAsked w k size fields asked
asked_taken w Word.Get size fields asked e = get_taken w size fields asked e
asked_taken w Word.Put size fields asked e = put_taken w size fields asked e
asked_taken w Word.Part size fields asked e = part_taken w size fields asked e
asked_taken w Word.Arith size fields asked e = arith_taken w size fields asked e
asked_taken w Word.Logic size fields asked e = logic_taken w size fields asked e
asked_taken w Word.Hint size fields asked e = hint_taken w size fields asked e
asked_taken w v size fields asked e = absurd cc

-- ---- what is said

-- the fields behind a client and a word are those of what is said
record IsSaid (w : ℕ) (k : Word) (client : ℕ) (fields : List (List ℕ)) (said : Said) : Type 0 where
  text : digits 2 client ∷ word_name k ∷ fields ≡ said_fields w said
  fits : Fits w said

same_said : (w : ℕ) (k : Word) (client : ℕ) (fields : List (List ℕ)) (found said : Said) → found ≡ said
    → IsSaid w k client fields found → IsSaid w k client fields said
same_said w k client fields found said e h = rw (← e) h

module _ (w client : ℕ) (fields : List (List ℕ)) (said : Said) (room : HasRoom 2 client) where
  load_taken : load_at client fields ≡ Some said → IsSaid w Word.Load client fields said
  load_taken e =
      let (s, is_s, e1) = bind_some (front (size_in 3) fields) _ said e in
      let (a, is_a, e2) = bind_some (front (number_in 0 8) s.1) _ said e1 in
      let (none, same) = end_taken a.1 (Load client s.0 a.0) said e2 in
      let fs = front_taken (size_in 3) fields s.0 s.1 is_s in
      let fa = front_taken (number_in 0 8) s.1 a.0 a.1 is_a in
      let size = size_taken 3 s.0 fs.field fs.says in
      let address = number_taken 8 a.0 fa.field fa.says in
      let text = two_fields fields s.1 a.1 fs.field fa.field (digits 1 s.0) (digits 8 a.0) fs.same fa.same none
      size.text address.text in
      same_said w Word.Load client fields (Load client s.0 a.0) said same (record {
        text = ap (λ (x : List (List ℕ)). digits 2 client ∷ codes "load" ∷ x) text;
        fits = (room, size.small, address.room);
      })

  store_taken : store_at client fields ≡ Some said → IsSaid w Word.Store client fields said
  store_taken e =
      let (s, is_s, e1) = bind_some (front (size_in 3) fields) _ said e in
      let (a, is_a, e2) = bind_some (front (number_in 0 8) s.1) _ said e1 in
      let (v, is_v, e3) = bind_some (front (number_in 0 (2 * 2 ^ s.0)) a.1) _ said e2 in
      let (none, same) = end_taken v.1 (Store client s.0 a.0 v.0) said e3 in
      let fs = front_taken (size_in 3) fields s.0 s.1 is_s in
      let fa = front_taken (number_in 0 8) s.1 a.0 a.1 is_a in
      let fv = front_taken (number_in 0 (2 * 2 ^ s.0)) a.1 v.0 v.1 is_v in
      let size = size_taken 3 s.0 fs.field fs.says in
      let address = number_taken 8 a.0 fa.field fa.says in
      let value = number_taken (2 * 2 ^ s.0) v.0 fv.field fv.says in
      let text = three_fields fields s.1 a.1 v.1 fs.field fa.field fv.field (digits 1 s.0) (digits 8 a.0)
      (digits (2 * 2 ^ s.0) v.0) fs.same fa.same fv.same none size.text address.text value.text in
      same_said w Word.Store client fields (Store client s.0 a.0 v.0) said same (record {
        text = ap (λ (x : List (List ℕ)). digits 2 client ∷ codes "store" ∷ x) text;
        fits = (room, size.small, address.room, value.room);
      })

  acquire_taken : acquire_at client fields ≡ Some said → IsSaid w Word.Acquire client fields said
  acquire_taken e =
      let (b, is_b, e1) = bind_some (front (number_in 0 3) fields) _ said e in
      let (g, is_g, e2) = bind_some (front grow_in b.1) _ said e1 in
      let (none, same) = end_taken g.1 (Acquire client b.0 g.0) said e2 in
      let fb = front_taken (number_in 0 3) fields b.0 b.1 is_b in
      let fg = front_taken grow_in b.1 g.0 g.1 is_g in
      let block = number_taken 3 b.0 fb.field fb.says in
      let text = two_fields fields b.1 g.1 fb.field fg.field (digits 3 b.0) (grow_name g.0) fb.same fg.same none
      block.text (name_taken grow_name grows fg.field g.0 fg.says) in
      same_said w Word.Acquire client fields (Acquire client b.0 g.0) said same (record {
        text = ap (λ (x : List (List ℕ)). digits 2 client ∷ codes "acquire" ∷ x) text;
        fits = (room, block.room);
      })

  whole_taken : whole_at client fields ≡ Some said → IsSaid w Word.Whole client fields said
  whole_taken e =
      let (b, is_b, e1) = bind_some (front (number_in 0 3) fields) _ said e in
      let (bytes, is, same) = map_taken _ (last (bytes_in 64) b.1) said e1 in
      let fb = front_taken (number_in 0 3) fields b.0 b.1 is_b in
      let found = last_taken (bytes_in 64) b.1 bytes is in
      let block = number_taken 3 b.0 fb.field fb.says in
      let read = bytes_taken 64 found.field bytes found.says in
      let text = two_fields fields b.1 [] fb.field found.field (digits 3 b.0) (lane_digits bytes) fb.same found.same
      refl block.text read.text in
      same_said w Word.Whole client fields (Whole client b.0 bytes) said same (record {
        text = ap (λ (x : List (List ℕ)). digits 2 client ∷ codes "whole" ∷ x) text;
        fits = (room, block.room, read.are_bytes);
      })

  release_taken : release_at client fields ≡ Some said → IsSaid w Word.Release client fields said
  release_taken e =
      let (b, is_b, e1) = bind_some (front (number_in 0 3) fields) _ said e in
      let (p, is_p, e2) = bind_some (front prune_in b.1) _ said e1 in
      let (none, same) = end_taken p.1 (Release client b.0 p.0) said e2 in
      let fb = front_taken (number_in 0 3) fields b.0 b.1 is_b in
      let fp = front_taken prune_in b.1 p.0 p.1 is_p in
      let block = number_taken 3 b.0 fb.field fb.says in
      let text = two_fields fields b.1 p.1 fb.field fp.field (digits 3 b.0) (prune_name p.0) fb.same fp.same none
      block.text (name_taken prune_name prunes fp.field p.0 fp.says) in
      same_said w Word.Release client fields (Release client b.0 p.0) said same (record {
        text = ap (λ (x : List (List ℕ)). digits 2 client ∷ codes "release" ∷ x) text;
        fits = (room, block.room);
      })

  deliver_taken : deliver_at client fields ≡ Some said → IsSaid w Word.Deliver client fields said
  deliver_taken e =
      let (c, is_c, e1) = bind_some (front channel_named fields) _ said e in
      let (none, same) = end_taken c.1 (Deliver client c.0) said e1 in
      let fc = front_taken channel_named fields c.0 c.1 is_c in
      let text = one_field fields c.1 fc.field _ fc.same none (letter-named fc.field c.0 fc.says) in
      same_said w Word.Deliver client fields (Deliver client c.0) said same (record {
        text = ap (λ (x : List (List ℕ)). digits 2 client ∷ codes "deliver" ∷ x) text;
        fits = room;
      })

  access_taken : (k : Word) → access_at w k client fields ≡ Some said → IsSaid w k client fields said
  access_taken k e =
      let (s, is_s, e1) = bind_some (front (size_in 6) fields) _ said e in
      let (a, is_a, e2) = bind_some (front (number_in 0 8) s.1) _ said e1 in
      let (x, is_x, same) = map_taken _ (asked_at w k s.0 a.1) said e2 in
      let fs = front_taken (size_in 6) fields s.0 s.1 is_s in
      let fa = front_taken (number_in 0 8) s.1 a.0 a.1 is_a in
      let size = size_taken 6 s.0 fs.field fs.says in
      let address = number_taken 8 a.0 fa.field fa.says in
      let asked = asked_taken w k s.0 a.1 x is_x in
      let text = two_before fields s.1 a.1 (asked_fields w s.0 x) fs.field fa.field (digits 1 s.0) (digits 8 a.0)
      fs.same fa.same asked.text size.text address.text in
      same_said w k client fields (Access client s.0 a.0 x) said same (record {
        text = ap₂ (λ (n : List ℕ) (y : List (List ℕ)). digits 2 client ∷ n ∷ y) (sym asked.name) text;
        fits = (room, size.small, address.room, asked.fits);
      })

  said_taken : (k : Word) → said_at w k client fields ≡ Some said → IsSaid w k client fields said
  said_taken Word.Load e = load_taken e
  said_taken Word.Store e = store_taken e
  said_taken Word.Acquire e = acquire_taken e
  said_taken Word.Whole e = whole_taken e
  said_taken Word.Release e = release_taken e
  said_taken Word.Get e = access_taken Word.Get e
  said_taken Word.Put e = access_taken Word.Put e
  said_taken Word.Part e = access_taken Word.Part e
  said_taken Word.Arith e = access_taken Word.Arith e
  said_taken Word.Logic e = access_taken Word.Logic e
  said_taken Word.Hint e = access_taken Word.Hint e
  said_taken Word.Deliver e = deliver_taken e

-- the fields of a line are those of what it says
pub record AreSaid (w : ℕ) (fields : List (List ℕ)) (said : Said) : Type 0 where
  pub text : fields ≡ said_fields w said
  pub fits : Fits w said

pub ask_taken : (w : ℕ) (fields : List (List ℕ)) (said : Said) → ask_at w fields ≡ Some said → AreSaid w fields said
ask_taken w fields said e =
    let (c, is_c, e1) = bind_some (front (number_in 0 2) fields) _ said e in
    let (k, is_k, e2) = bind_some (front word_in c.1) _ said e1 in
    let fc = front_taken (number_in 0 2) fields c.0 c.1 is_c in
    let fk = front_taken word_in c.1 k.0 k.1 is_k in
    let client = number_taken 2 c.0 fc.field fc.says in
    let s = said_taken w c.0 k.1 said client.room k.0 e2 in
    let text = two_before fields c.1 k.1 k.1 fc.field fk.field (digits 2 c.0) (word_name k.0) fc.same fk.same refl
    client.text (name_taken word_name words fk.field k.0 fk.says) in
    record { text = text ∙ s.text; fits = s.fits }
