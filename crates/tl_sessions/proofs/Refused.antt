-- Why no manager was opened.
use Rattle.std.proofs.Common.{◌≡◌, ℕ, true, List, [], ◌∷◌, length, inl, inr, refl, ap, ◌∙◌}
use Rattle.std.specs.Prelude.{◌&&◌, map, nat_le, nat_lt, None, Err}
use Rattle.std.proofs.lemmas.Bool.{and_parts}
use Rattle.std.proofs.lemmas.List.{length-map}
use Rattle.tl_params.specs.declared.config.Config.{Config}
use Rattle.tl_params.specs.statement.Config.{all_sources_fit, config_fault}
use Rattle.tl_partner.specs.declared.terms.Terms.{Terms}
use Rattle.tl_pictures.specs.declared.answer.Answer.{Answer}
use Rattle.tl_pictures.specs.declared.config.LinkConfig.{LinkConfig}
use Rattle.tl_pictures.specs.statement.Answer.{no_memory}
use Rattle.tl_pictures.specs.statement.Codes.{is_profile, is_width}
use Rattle.tl_pictures.specs.statement.Configured.{IsConfigOf, client_at, link_fits, links_fit}
use Rattle.tl_sessions.specs.statement.ManagerOpened.{MakesManager, may_open_manager}
use Rattle.tl_sessions.specs.statement.Opened.{IsRefusal}

-- what fits is refused for want of memory alone
refused-fitting : (Fits : Type 0) (answer : Answer) → IsRefusal Fits answer → Fits → answer ≡ no_memory
refused-fitting Fits answer (inl memory) fits = memory
refused-fitting Fits answer (inr bad) fits = absurd (bad.1 fits)

-- what may be opened breaks no limit
sources-fit : (links : List LinkConfig) → links_fit links ≡ true → all_sources_fit (map client_at links) ≡ true
sources-fit [] e = refl
sources-fit (link ∷ links) e =
    let both = and_parts (link_fits link) (links_fit links) e in
    let two = and_parts (nat_lt link.level 3 && nat_le 1 link.sources) (nat_le link.sources 8) both.0 in
    let one = and_parts (nat_lt link.level 3) (nat_le 1 link.sources) two.0 in
    rw (one.1, two.1) (sources-fit links both.1)

manager-fits : (links : List LinkConfig) (blocks trackers width profile : ℕ) (config : Config)
    → IsConfigOf links blocks trackers profile config → may_open_manager links blocks trackers width profile ≡ true
    → config_fault config ≡ None
manager-fits links blocks trackers width profile config is e =
    let n = length links in
    let nine = and_parts (nat_le 1 n && nat_le n 16 && links_fit links && nat_le 1 blocks && nat_le blocks 1024
    && nat_le 1 trackers && nat_le trackers 8 && is_width width) (is_profile profile) e in
    let eight = and_parts (nat_le 1 n && nat_le n 16 && links_fit links && nat_le 1 blocks && nat_le blocks 1024
    && nat_le 1 trackers && nat_le trackers 8) (is_width width) nine.0 in
    let seven = and_parts (nat_le 1 n && nat_le n 16 && links_fit links && nat_le 1 blocks && nat_le blocks 1024
    && nat_le 1 trackers) (nat_le trackers 8) eight.0 in
    let six = and_parts (nat_le 1 n && nat_le n 16 && links_fit links && nat_le 1 blocks && nat_le blocks 1024)
    (nat_le 1 trackers) seven.0 in
    let five = and_parts (nat_le 1 n && nat_le n 16 && links_fit links && nat_le 1 blocks) (nat_le blocks 1024) six.0 in
    let four = and_parts (nat_le 1 n && nat_le n 16 && links_fit links) (nat_le 1 blocks) five.0 in
    let three = and_parts (nat_le 1 n && nat_le n 16) (links_fit links) four.0 in
    let two = and_parts (nat_le 1 n) (nat_le n 16) three.0 in
    let count : length config.clients.items ≡ n = ap length is.3 ∙ length-map links client_at in
    let sources : all_sources_fit config.clients.items ≡ true = rw is.3 (sources-fit links three.1) in
    rw (count, is.0, is.1, two.0, two.1, four.1, five.1, six.1, seven.1, sources) refl

pub manager-refused : (w : ℕ) (links : List LinkConfig) (blocks trackers width profile : ℕ) (terms : Terms)
    (answer : Answer)
    → MakesManager {w = w} links blocks trackers profile terms (Err answer)
    → may_open_manager links blocks trackers width profile ≡ true → answer ≡ no_memory
manager-refused w links blocks trackers width profile terms answer (config, is, refused) e =
    refused-fitting (config_fault config ≡ None) answer refused
    (manager-fits links blocks trackers width profile config is e)
