-- What the directory's words say of the clients after a trace.
use Rattle.tl_manager.proofs.Imports.{Config, Cap, Perm, cap_code, Trace, held, capped, bit_if, recorded, has_copy}
use Rattle.tl_manager.proofs.Imports.{is_unheld, Each, IsSound}
use Rattle.std.proofs.Common.{◌≡◌, ℕ, ◌≤◌, ◌==◌, length, refl, ap, ◌∙◌}
use Rattle.std.specs.Int.{bit_at}
use Rattle.tl_params.specs.statement.Param.{cap_right}
use Rattle.tl_manager.{specs.code.Word.copy_bit, proofs.pending.Settled.silent-past}
use Rattle.tl_manager.{proofs.words_of_clients.Words.word-nobody}

-- past the last client nothing is recorded
pub recorded-past : {w : ℕ} (config : Config) (block c : ℕ) (t : Trace w) → Each (IsSound config) t
    → length config.clients.items ≤ c → recorded c block t ≡ Perm.None
unfolding held
recorded-past config block c t sound past = ap (held block) (silent-past config t c sound past)

pub copy-bit : (p : Perm) → copy_bit p ≡ bit_if (has_copy p)
copy-bit Perm.None = refl
copy-bit v = refl

-- whether a block is unheld is read off the word of its holders
pub unheld-word : {w : ℕ} (config : Config) (block word : ℕ) (perm_at : ℕ → Perm) (t : Trace w)
    → Each (IsSound config) t → ((c : ℕ) → bit_at word c ≡ copy_bit (perm_at c))
    → ((c : ℕ) → perm_at c ≡ recorded c block t) → (word == 0) ≡ is_unheld config block t
unheld-word config block word perm_at t sound bits records =
    word-nobody config word (λ c. has_copy (recorded c block t)) (record {
      bits = λ c. bits c ∙ copy-bit (perm_at c) ∙ ap (λ p. bit_if (has_copy p)) (records c);
      past = λ c past. ap has_copy (recorded-past config block c t sound past);
    })

pub cap-gives : (c : Cap) → capped (cap_code c) ≡ cap_right c
cap-gives Cap.ToT = refl
cap-gives v = refl
