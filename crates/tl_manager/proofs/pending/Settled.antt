-- Where no ProbeAck of a block is missing: on no link at all.
use Rattle.tl_manager.proofs.Imports.{Beat, History, Config, ProbeOf, Level, Trace, on_link, pending, is_missing}
use Rattle.tl_manager.proofs.Imports.{is_settled, Each, IsSound, illegal_at, level_of}
use Rattle.std.proofs.Common.{◌≡◌, ℕ, ◌≤◌, true, false, [], ◌∷◌, length, Option, Some, None, refl, ap, inl, inr}
use Rattle.std.{specs.Prelude.option_map, proofs.lemmas.Bool.cases_lt, proofs.lemmas.Option.slice_get_past}
use Rattle.tl_manager.{proofs.words_of_clients.Clients.nobody-where, proofs.messages.Sound.sound_on_link}

-- past the last link there is no beat
no_level : (config : Config) (c : ℕ) → length config.clients.items ≤ c → level_of config c ≡ None
no_level config c past = ap (option_map (λ client. client.level)) (slice_get_past config.clients.items c past)

pub silent-past : {w : ℕ} (config : Config) (t : Trace w) (c : ℕ) → Each (IsSound config) t
    → length config.clients.items ≤ c → on_link c t ≡ []
silent-past {w} config t c sound past = go (on_link c t) (sound_on_link config c t sound)
  where
    illegal : (o : Option Level) (x : Beat w) → o ≡ None → illegal_at o x ≡ None → ⊥
    illegal None x e f = cc
    illegal (Some l) x e f = cc

    go : (h : History w) → Each (λ x. IsSound config (record { 0 = c }, x)) h → h ≡ []
    go [] each = refl
    go (x ∷ h) each = absurd (illegal (level_of config c) x (no_level config c past) each.0.lawful)

pub settled-all : {w : ℕ} (config : Config) (block : ℕ) (t : Trace w) → Each (IsSound config) t
    → is_settled config block t ≡ true → (c : ℕ) → pending (ProbeOf block) (on_link c t) ≡ false
unfolding pending
settled-all config block t sound settled c = elim (cases_lt c (length config.clients.items)) [
  | inl lt ↦ (nobody-where config (λ client. is_missing client block t)).0 settled c lt
  | inr past ↦ ap (pending (ProbeOf block)) (silent-past config t c sound past)
]

pub all-settled : {w : ℕ} (config : Config) (block : ℕ) (t : Trace w)
    → ((c : ℕ) → pending (ProbeOf block) (on_link c t) ≡ false) → is_settled config block t ≡ true
all-settled config block t none = (nobody-where config (λ client. is_missing client block t)).1 (λ c lt. none c)
