-- As a world begins, it is matched by the protocol as that begins.
use Rattle.std.proofs.Common.{◌≡◌, ℕ, zero, suc, ◌*◌, ◌+◌, true, [], ◌∷◌, Bool, refl, sym, ap, arith, replicate}
use Rattle.tl_coherence.proofs
use proofs.Imports.{Channel, unfinished, Config, on_link, bytes_from, IsBlock, pending, held, kept-fresh, zeros}
use proofs.Imports.{services, IsInvariant, IsWell, Kind, count, Holds, ok, on, packets_on, shown, is_transfer}
use proofs.Imports.{first_state, first_abstract_state, IsCarried, messages_on, SimulationRelation, is_caching}
use proofs.Imports.{MonitorRelations, receiver, flow, one_memory_after, fresh}
use Rattle.std.proofs.lemmas.List.{get_or-replicate}
use Rattle.tl_client.proofs.pending.Accounted.{accounted-fresh}
use Rattle.tl_manager.proofs.calls.Keeping.{fresh-kept}
use Rattle.tl_coherence.specs.refinement.AbstractStep.{first_block, first_link}
use Rattle.tl_coherence.specs.protocol.Packet.{IsOrdered}

-- ---- the protocol

first-well : (caching : ℕ → Bool) → IsWell caching first_block
unfolding ok
first-well caching = record {
  phases = λ c. refl;
  awaited = tt;
  asked_cap = tt;
  own_source = tt;
  alone = λ c d trunk probed ne. refl;
  one_owner = λ c d trunk ne. refl;
  outside = λ c plain. refl;
  copies = λ c some. refl;
  memory = λ none. refl;
}

none-shown : (c : ℕ) (k : Kind) → is_transfer k ≡ true → Holds k (on k first_link) (λ n. shown k c first_block)
unfolding count
none-shown c k e = grind arith

none-there : (ch : Channel) (k : Kind) (n : ℕ) → count k n (packets_on ch first_link) ≡ 0
unfolding count
none-there ch k n = grind arith

first-invariant : (caching : ℕ → Bool) → IsInvariant caching first_state
unfolding count IsOrdered
first-invariant caching = record {
  blocks = λ n. first-well caching;
  transfers = none-shown;
  requests = λ c n. refl;
  answers = λ c n. refl;
  own_kinds = λ c ch k n off. none-there ch k n;
  ordered = λ c n. tt;
  named = record { acquires = λ c i n. refl; serves = λ c i n. refl; releases = λ c i n. refl; trackers = λ i n. refl };
}

-- ---- bytes

zeros-from : (x n : ℕ) → bytes_from (λ address. 0) x n ≡ replicate n 0
unfolding bytes_from
zeros-from x zero = refl
zeros-from x (suc n) = ap (λ bytes. 0 ∷ bytes) (zeros-from (x + 1) n)

zeros-block : (n : ℕ) → IsBlock (λ address. 0) n zeros
zeros-block n i lt = sym (get_or-replicate {A = ℕ} 64 i 0 0 lt)

-- ---- the whole

none-carried : (w c : ℕ) (ch : Channel) → IsCarried {w = w} (unfinished ch (receiver ch c fresh))
    (messages_on ch (first_abstract_state {w = w}).mail first_state c) []
unfolding unfinished on_link
none-carried w c Channel.A = (refl, refl)
none-carried w c ch = (refl, refl)

none-left : (w c : ℕ) (ch : Channel) → unfinished {w = w} ch [] ≡ unfinished ch (receiver ch c fresh)
unfolding unfinished on_link
none-left w c ch = grind arith

-- a whole of ends and channels that are fresh is that of the protocol's first state
pub fresh-matched : {w : ℕ} (config : Config) → SimulationRelation {w = w} config [] first_abstract_state.mail
    first_abstract_state.request first_state fresh
unfolding held pending unfinished on_link services one_memory_after
fresh-matched {w} config = record {
  invariant = first-invariant (is_caching config);
  sized = λ n. record { truth = refl; waiting = λ c storing. refl };
  strangers = λ c source none. refl;
  carried = none-carried w;
  sound = λ c ch k x lt. absurd (omega (arith, lt));
  typed = λ c ch k x lt. absurd (omega (arith, lt));
  sourced = λ c source. tt;
  answered = λ c source. tt;
  given = λ n. tt;
  known = λ c. record {
    held_is = λ n. refl;
    acquires = λ n. refl;
    releases = λ n. refl;
    probes = λ n. refl;
    opens = λ source. refl;
    rest_is = refl;
    sinks = λ sink. refl;
    grants = λ n. refl;
  };
  opened = λ c. record {
    requests = λ source. refl;
    releases = λ source. refl;
    released = λ source n some. absurd cc;
    sizes = λ source n some. absurd cc;
  };
  kept = λ c. kept-fresh w;
  accounted = λ c. accounted-fresh w;
  copies = λ c n some. absurd cc;
  waiting = λ c n storing. absurd cc;
  live = λ c. refl;
  managed = record {
    recorded_is = λ c n. refl;
    probes = λ c n. refl;
    acquires = λ c n. refl;
    serving_is = λ n. refl;
  };
  served = record {
    sources = λ c source. refl;
    sinks = λ c sink. refl;
    requests = λ n. tt;
    asked = λ n r source own k waits. absurd cc;
    probes = λ c n probed. absurd cc;
  };
  served_with = λ n. tt;
  acquired = λ n. tt;
  manager_kept = fresh-kept config;
  memory = λ n. zeros-from (64 * n) 64;
  all_live = refl;
  beside = record { memory = zeros-block; requests = λ c source. refl; releases = λ c source. refl };
}

-- and nothing was delivered
pub fresh-flowed : {w : ℕ} → MonitorRelations {w = w} [] first_abstract_state.mail first_state fresh
unfolding held pending unfinished on_link flow
fresh-flowed {w} c = record {
  rest_is = none-left w c;
  held_is = λ n. refl;
  requests = λ source. refl;
  asked_is = λ source some. absurd cc;
  acquires = λ n. refl;
  release_sources = λ source. refl;
  released = λ source n some more. absurd cc;
  sizes = λ source n some more. absurd cc;
  releases = λ n. refl;
  grants = λ n. refl;
  probes = λ n. refl;
  probed = λ n some. absurd cc;
  sunk = λ n some. absurd cc;
}
