-- Headers of schedules: what was spelled is read, and what was read was spelled so.
use Rattle.std.proofs.Common.{◌≡◌, ◌<◌, ◌≤◌, ℕ, zero, suc, List, [], ◌∷◌, ◌++◌, length, true, refl, ap, sym, ◌∙◌, arith}
use Rattle.std.proofs.Common.{append_assoc}
use Rattle.std.{proofs.lemmas.Bool.Decides.nat_tests, specs.Fmt.decimal, proofs.lemmas.Bool.and_parts}
use Rattle.std.specs.Prelude.{Bool, ◌&&◌, IfSome, Option, Some, None}
use Rattle.tl_params.{specs.declared.config.ClientConfig.ClientConfig, specs.declared.header.Version.Version}
use Rattle.tl_params.{specs.declared.level.Level.Level, specs.statement.Range.is_from_to, proofs.Options.some_pair}
use Rattle.tl_params.{proofs.UpTo.all-so, proofs.UpTo.up_to-end, proofs.UpTo.up_to-step}
use Rattle.tl_params.specs.statement.Config.{all_sources_fit, blocks_fit, trackers_fit, sources_fit}
use Rattle.tl_params.specs.statement.Header.{is_end, level_text, version_text}
use Rattle.tl_params.specs.code.HeaderReading.{after_word, level_at, onto, version_at}
use Rattle.tl_params.proofs.Headers.{after_taken, is_end-taken, level_again, level_taken, more_levels, version_again}
use Rattle.tl_params.proofs.Headers.{version_taken}
use Rattle.tl_schedule.{specs.declared.header.Schedule.Schedule, specs.code.Then.◌>>=◌, proofs.Options.bind_some}
use Rattle.tl_schedule.{proofs.Decimals.number_taken, proofs.Decimals.number_again}
use Rattle.tl_schedule.specs.statement.Schedule.{IsSchedule, SpellsSchedule, clients_text, schedule_word, schedule_line}
use Rattle.tl_schedule.specs.code.HeaderReading.{Named, byte_at, digit_at, number_at, client_of, client_at, clients_at}
use Rattle.tl_schedule.specs.code.HeaderReading.{some_clients, named_at, header_at, named_by, GivesSchedule}

-- ---- what was read was spelled so

byte_taken : (byte : ℕ) (bytes rest : List ℕ) → byte_at byte bytes ≡ Some rest → bytes ≡ byte ∷ rest
byte_taken byte [] rest e = absurd cc
byte_taken byte (c ∷ bytes) rest e = grind (arith, nat_tests)

-- a client stands at the front, behind a space
record IsClient (bytes rest : List ℕ) (client : ClientConfig) : Type 0 where
  is_text : bytes ≡ 32 ∷ (level_text client.level ++ 58 ∷ (decimal client.sources ++ rest))
  fits : sources_fit client ≡ true

abbrev made : Level → ℕ → ClientConfig
made level sources = record { level = level; sources = sources }

abbrev with_client : ClientConfig → List ℕ → ClientConfig × List ℕ
with_client client rest = (client, rest)

same_client : (bytes rest left : List ℕ) (client found : ClientConfig) → found ≡ client → left ≡ rest
    → IsClient bytes left found → IsClient bytes rest client
same_client bytes rest left client found p q h = rw (← p, ← q) h

client_taken : (bytes rest : List ℕ) (client : ClientConfig) → client_at bytes ≡ Some (with_client client rest)
    → IsClient bytes rest client
client_taken bytes rest client e =
    let (l, of_level, f) = bind_some (level_at bytes) (λ l. byte_at 58 l.1 >>= λ s. number_at 8 s >>= client_of l.0)
    (with_client client rest) e in
    let (s, of_colon, h) = bind_some (byte_at 58 l.1) (λ s. number_at 8 s >>= client_of l.0) (with_client client rest) f
    in
    let (n, of_sources, g) = bind_some (number_at 8 s) (client_of l.0) (with_client client rest) h in
    let (same, left) = some_pair (with_client (made l.0 n.0) n.1) (with_client client rest) g in
    let number = number_taken 8 n.0 s n.1 (omega arith) of_sources in
    let text : bytes ≡ 32 ∷ (level_text l.0 ++ 58 ∷ s) =
    level_taken bytes l.1 l.0 of_level ∙ ap (λ (x : List ℕ). 32 ∷ (level_text l.0 ++ x))
    (byte_taken 58 l.1 s of_colon) in
    same_client bytes rest n.1 client (made l.0 n.0) same left
    (record {
      is_text = text ∙ ap (λ (x : List ℕ). 32 ∷ (level_text l.0 ++ 58 ∷ x)) number.is_text;
      fits =
          number.fits;
    })

-- the bytes spell these clients and a line feed
record SpellsClients (bytes : List ℕ) (clients : List ClientConfig) : Type 0 where
  is_text : bytes ≡ clients_text clients ++ 10 ∷ []
  fits : all_sources_fit clients ≡ true

no_clients : (bytes : List ℕ) → is_end bytes ≡ true → SpellsClients bytes []
no_clients bytes end = record { is_text = is_end-taken bytes end; fits = refl }

both_true : (a b : Bool) → a ≡ true → b ≡ true → (a && b) ≡ true
both_true a b p q = rw (p, q) refl

one_client_more : (bytes rest : List ℕ) (client : ClientConfig) (clients : List ClientConfig)
    → client_at bytes ≡ Some (with_client client rest) → SpellsClients rest clients
    → SpellsClients bytes (client ∷ clients)
one_client_more bytes rest client clients is others =
    let first = client_taken bytes rest client is in
    record {
      is_text = first.is_text ∙ rw others.is_text (simp append_assoc);
      fits = both_true (sources_fit client) (all_sources_fit clients) first.fits others.fits;
    }

clients_taken : (n : ℕ) (bytes : List ℕ) (clients : List ClientConfig) → clients_at n bytes ≡ Some clients
    → SpellsClients bytes clients × (length clients ≤ n)
clients_taken n bytes clients e = all-so client_at SpellsClients no_clients one_client_more n bytes clients e

abbrev SpellsNamed : List ℕ → Named → Type 0
SpellsNamed line named = SpellsSchedule line named.version named.blocks named.trackers named.clients

abbrev name_all : Version → ℕ → ℕ → List ClientConfig → Named
name_all version blocks trackers clients = record {
  version = version;
  blocks = blocks;
  trackers = trackers;
  clients =
      clients;
}

record AreNamed (version : Version) (blocks trackers : ℕ) (clients : List ClientConfig) (named : Named) : Type 0 where
  some : 0 < length clients
  same : name_all version blocks trackers clients ≡ named

some_clients-taken : (version : Version) (blocks trackers : ℕ) (clients : List ClientConfig) (named : Named)
    → some_clients version blocks trackers clients ≡ Some named → AreNamed version blocks trackers clients named
some_clients-taken version blocks trackers [] named e = absurd cc
some_clients-taken version blocks trackers (client ∷ clients) named e = record { some = omega arith; same = cc }

whole_line : (line bytes a b c d e : List ℕ) (version : Version) (blocks trackers : ℕ) (clients : List ClientConfig)
    → line ≡ schedule_word ++ bytes → bytes ≡ version_text version ++ a → a ≡ 32 ∷ b → b ≡ decimal blocks ++ c
    → c ≡ 32 ∷ d → d ≡ decimal trackers ++ e → e ≡ clients_text clients ++ 10 ∷ []
    → line ≡ schedule_line version blocks trackers clients
whole_line line bytes a b c d e version blocks trackers clients p q r s t u v =
    rw (p, q, r, s, t, u, v) (simp append_assoc)

count_fits : (clients : List ClientConfig) → 0 < length clients → length clients ≤ 16
    → is_from_to 1 16 (length clients) ≡ true
count_fits clients some few = grind (arith, nat_tests)

same_named : (line : List ℕ) (found named : Named) → found ≡ named → SpellsNamed line found → SpellsNamed line named
same_named line found named e h = rw (← e) h

named_taken : (line bytes : List ℕ) (named : Named) → line ≡ schedule_word ++ bytes → named_at bytes ≡ Some named
    → SpellsNamed line named
named_taken line bytes named word e =
    let (v, is_v, e1) = bind_some (version_at bytes) _ named e in
    let (s, is_s, e2) = bind_some (byte_at 32 v.1) _ named e1 in
    let (b, is_b, e3) = bind_some (number_at 1024 s) _ named e2 in
    let (t, is_t, e4) = bind_some (byte_at 32 b.1) _ named e3 in
    let (n, is_n, e5) = bind_some (number_at 8 t) _ named e4 in
    let (cs, is_cs, e6) = bind_some (clients_at 16 n.1) _ named e5 in
    let found = some_clients-taken v.0 b.0 n.0 cs named e6 in
    let blocks = number_taken 1024 b.0 s b.1 (omega arith) is_b in
    let trackers = number_taken 8 n.0 t n.1 (omega arith) is_n in
    let clients = clients_taken 16 n.1 cs is_cs in
    same_named line (name_all v.0 b.0 n.0 cs) named found.same (record {
      is_line =
          whole_line line bytes v.1 s b.1 t n.1 v.0 b.0 n.0 cs word (version_taken bytes v.1 v.0 is_v)
          (byte_taken 32 v.1 s is_s) blocks.is_text
          (byte_taken 32 b.1 t is_t) trackers.is_text clients.0.is_text;
      blocks_fit = blocks.fits;
      trackers_fit = trackers.fits;
      clients_fit = count_fits cs found.some clients.1;
      sources_fit = clients.0.fits;
    })

header_taken : (line : List ℕ) (named : Named) → header_at line ≡ Some named → SpellsNamed line named
header_taken line named e =
    let (bytes, is, more) = bind_some (after_word schedule_word line) named_at named e in
    named_taken line bytes named (after_taken schedule_word line bytes is) more

-- ---- what was spelled is read

-- no digit stands before clients, or before the line feed behind them
no_digit : (clients : List ClientConfig) → digit_at (clients_text clients ++ 10 ∷ []) ≡ None
no_digit [] = refl
no_digit (client ∷ clients) = refl

clients_again : (n : ℕ) (clients : List ClientConfig) → length clients ≤ n → all_sources_fit clients ≡ true
    → clients_at n (clients_text clients ++ 10 ∷ []) ≡ Some clients
clients_again n [] few fits = up_to-end client_at n (10 ∷ []) refl
clients_again zero (client ∷ clients) few fits = absurd (omega arith)
clients_again (suc n) (client ∷ clients) few fits =
    let rest = clients_text clients ++ 10 ∷ [] in
    let (one, others) = and_parts (sources_fit client) (all_sources_fit clients) fits in
    let text : clients_text (client ∷ clients) ++ 10 ∷ []
    ≡ 32 ∷ (level_text client.level ++ 58 ∷ (decimal client.sources ++ rest)) = simp append_assoc in
    let number = number_again 8 client.sources rest (omega arith) one (no_digit clients) in
    let read : client_at (32 ∷ (level_text client.level ++ 58 ∷ (decimal client.sources ++ rest))) ≡ Some
    (with_client client rest) =
    rw (level_again client.level (58 ∷ (decimal client.sources ++ rest)), number) refl in
    ap (clients_at (suc n)) text ∙ up_to-step client_at (suc n) n _ rest client refl
    (more_levels client.level (58 ∷ (decimal client.sources ++ rest))) read
    ∙ ap (onto client) (clients_again n clients (omega arith) others)

count_parts : (clients : List ClientConfig) → is_from_to 1 16 (length clients) ≡ true → (0 < length clients)
    × (length clients ≤ 16)
count_parts clients e = (grind (arith, nat_tests), grind (arith, nat_tests))

named_again : (version : Version) (blocks trackers : ℕ) (clients : List ClientConfig) → blocks_fit blocks ≡ true
    → trackers_fit trackers ≡ true → is_from_to 1 16 (length clients) ≡ true → all_sources_fit clients ≡ true
    → named_at (version_text
    version ++ 32 ∷ (decimal blocks ++ 32 ∷ (decimal trackers ++ (clients_text clients ++ 10 ∷ [])))) ≡ Some
    (name_all version blocks trackers clients)
named_again version blocks trackers [] b t c s = absurd cc
named_again version blocks trackers (client ∷ clients) b t c s =
    let few = count_parts (client ∷ clients) c in
    rw (
      version_again version _,
      number_again 1024 blocks _ (omega arith) b refl,
      number_again 8 trackers _ (omega arith) t (no_digit (client ∷ clients)),
      clients_again 16 (client ∷ clients) few.1 s,
    ) refl

header_again : (line : List ℕ) (version : Version) (blocks trackers : ℕ) (clients : List ClientConfig)
    → SpellsSchedule line version blocks trackers clients
    → header_at line ≡ Some (name_all version blocks trackers clients)
header_again line version blocks trackers clients h =
    let text : schedule_line version blocks trackers clients ≡ schedule_word
    ++ (version_text version ++ 32 ∷ (decimal blocks ++ 32 ∷ (decimal trackers ++ (clients_text clients ++ 10 ∷ [])))) =
    simp append_assoc in
    ap header_at (h.is_line ∙ text) ∙ named_again version blocks trackers clients h.blocks_fit h.trackers_fit
    h.clients_fit h.sources_fit

-- ---- what the reader says

pub read_spelled : (r : Option Schedule) (line : List ℕ) → GivesSchedule r (header_at line)
    → IfSome r (λ s. SpellsSchedule line s.version s.config.blocks s.config.trackers s.config.clients.items)
read_spelled None line gives = tt
read_spelled (Some s) line gives = header_taken line (named_by s) gives.0

pub spelled_read : (r : Option Schedule) (line : List ℕ) → GivesSchedule r (header_at line)
    → (version : Version) (blocks trackers : ℕ) (clients : List ClientConfig)
    → SpellsSchedule line version blocks trackers clients → IsSchedule r version blocks trackers clients
spelled_read None line gives = λ version blocks trackers clients h. let e =
    header_again line version blocks trackers clients h in absurd cc
spelled_read (Some s) line gives = λ version blocks trackers clients h.
    let e : Some (named_by s) ≡ Some (name_all version blocks trackers clients) =
    sym gives.0 ∙ header_again line version blocks trackers clients h in
    let same : named_by s ≡ name_all version blocks trackers clients = cc in (
      ap (λ (x : Named). x.version) same,
      ap (λ (x : Named). x.blocks) same,
      ap (λ (x : Named). x.trackers) same,
      ap (λ (x : Named). x.clients) same,
    )
