-- A schedule's header ends in LF, and is short.
use Rattle.std.proofs.Common.{◌≡◌, ◌<◌, ◌≤◌, ℕ, ◌+◌, ◌*◌, ◌^◌, true, List, [], ◌∷◌, ◌++◌, length, ap, ◌∙◌, arith}
use Rattle.std.proofs.Common.{append_assoc, length-append, inl, inr}
use Rattle.std.specs.Prelude.{nat_le}
use Rattle.std.specs.Fmt.{decimal}
use Rattle.std.specs.Io.BufRead.{ends_with_byte}
use Rattle.std.proofs.lemmas.Bool.{and_parts, leb-true}
use Rattle.std.proofs.lemmas.Fmt.{length-decimal-le}
use Rattle.tl_params.specs.declared.config.ClientConfig.{ClientConfig}
use Rattle.tl_params.specs.declared.config.Config.{Config}
use Rattle.tl_params.specs.declared.header.Version.{Version}
use Rattle.tl_params.specs.statement.Config.{all_sources_fit, sources_fit}
use Rattle.tl_params.specs.statement.Header.{level_text, version_text}
use Rattle.tl_params.specs.statement.Range.{is_from_to}
use Rattle.tl_params.proofs.Headers.{level-short, version-short}
use Rattle.tl_schedule.specs.statement.Schedule.{clients_text, schedule_line, schedule_word}
use Rattle.tl_lines.specs.statement.Lines.{IsOpen}
use Rattle.tl_engine.specs.statement.Played.{HeadsSchedule}
use Rattle.tl_beat.proofs.SpelledLines.{ends_with_byte-line}

decimal-short : (limit k n : ℕ) → limit < 10 ^ k → limit < 2 ^ 64 → 0 < k → is_from_to 1 limit n ≡ true
    → length (decimal n) ≤ k
decimal-short limit k n few small some fits =
    let le : n ≤ limit = leb-true n limit (and_parts (nat_le 1 n) (nat_le n limit) fits).1 in
    length-decimal-le k n some (omega arith) (omega arith)

client-parts : (xs ys : List ℕ) → length (32 ∷ (xs ++ 58 ∷ ys)) ≡ length xs + length ys + 2
client-parts xs ys = omega (arith, length-append xs (58 ∷ ys))

clients-short : (clients : List ClientConfig) → all_sources_fit clients ≡ true
    → length (clients_text clients) ≤ 5 * length clients
clients-short [] fits = omega arith
clients-short (client ∷ clients) fits =
    let both = and_parts (sources_fit client) (all_sources_fit clients) fits in
    let digits : length (decimal client.sources) ≤ 1 = decimal-short 8 1 client.sources (omega arith) (omega arith)
    (omega arith) both.0 in
    let rest = clients-short clients both.1 in
    let name = level-short client.level in
    let tail = length-append (decimal client.sources) (clients_text clients) in
    let text : clients_text (client ∷ clients)
    ≡ 32 ∷ (level_text client.level ++ 58 ∷ (decimal client.sources ++ clients_text clients)) = simp append_assoc in
    let all : length (clients_text (client ∷ clients)) ≡ length (level_text client.level) + length
    (decimal client.sources ++ clients_text clients) + 2 =
    ap (λ (t : List ℕ). length t) text ∙ client-parts (level_text client.level)
    (decimal client.sources ++ clients_text clients) in
    omega (arith, digits, rest, name, tail, all)

-- what stands before the LF
abbrev front : Version → ℕ → ℕ → List ClientConfig → List ℕ
front version blocks trackers clients =
    schedule_word ++ (version_text version ++ 32 ∷ (decimal blocks ++ 32 ∷ (decimal trackers ++ clients_text clients)))

whole : (version : Version) (blocks trackers : ℕ) (clients : List ClientConfig)
    → schedule_line version blocks trackers clients ≡ front version blocks trackers clients ++ 10 ∷ []
whole version blocks trackers clients = simp append_assoc

-- so a line that is open spells none
pub header-unopened : (line : List ℕ) → IsOpen line → (version : Version) (config : Config)
    → ¬ HeadsSchedule line version config
header-unopened line (inl ends) version config h =
    let text : line ≡ front version config.blocks config.trackers config.clients.items ++ 10 ∷ [] =
    h.spelled.is_line ∙ whole version config.blocks config.trackers config.clients.items in
    let lf : ends_with_byte 10 line ≡ true =
    rw text (ends_with_byte-line (front version config.blocks config.trackers config.clients.items)) in
    absurd cc
header-unopened line (inr long) version config h =
    let blocks : length (decimal config.blocks) ≤ 4 = decimal-short 1024 4 config.blocks (omega arith) (omega arith)
    (omega arith) h.spelled.blocks_fit in
    let trackers : length (decimal config.trackers) ≤ 1 = decimal-short 8 1 config.trackers (omega arith) (omega arith)
    (omega arith) h.spelled.trackers_fit in
    let few : length config.clients.items ≤ 16 = leb-true (length config.clients.items) 16
    (and_parts (nat_le 1 (length config.clients.items)) (nat_le (length config.clients.items) 16)
    h.spelled.clients_fit).1 in
    let clients = clients-short config.clients.items h.spelled.sources_fit in
    let name = version-short version in
    let text = ap (λ (t : List ℕ). length t) (h.spelled.is_line ∙ whole version config.blocks config.trackers
    config.clients.items) in
    let one = length-append (decimal config.trackers) (clients_text config.clients.items) in
    let two = length-append (decimal config.blocks)
    (32 ∷ (decimal config.trackers ++ clients_text config.clients.items)) in
    let three = length-append (version_text version)
    (32 ∷ (decimal config.blocks ++ 32 ∷ (decimal config.trackers ++ clients_text config.clients.items))) in
    let four = length-append (front version config.blocks config.trackers config.clients.items) (10 ∷ []) in
    omega (arith, long, blocks, trackers, few, clients, name, text, one, two, three, four)
