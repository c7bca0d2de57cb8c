-- The store of a whole block leaves Trunk on its link.
use Rattle.tl_concord.proofs.Imports.{Beat, Config, Perm, on_link, held, Block, view, MonitorRelations}
use Rattle.tl_concord.proofs.Imports.{SimulationRelation, trace_of, IsGiven, Log, system_after, Requests}
use Rattle.tl_concord.proofs.Imports.{one_memory_after, trace-flows, flowed, matched-given}
use Rattle.std.proofs.Common.{◌≡◌, ℕ, Bool, true, false, List, ◌∷◌, Some, refl, sym, ◌∙◌, ap, subst}
use Rattle.std.specs.Prelude.{if◌then◌else◌, Option, option_map}
use Rattle.tl_beat.{specs.declared.beat.Link.Link, specs.declared.channel.Channel.Channel}
use Rattle.tl_client.{specs.declared.operation.Op.Op, specs.declared.verdict.Finish.Finish}
use Rattle.tl_coherence.specs.{declared.event.Event.TheVariants.Deliver, declared.event.Outcome.Outcome}
use Rattle.tl_coherence.specs.{protocol.Tokens.is_granting, statement.Coherent.started, statement.Headline.Continues}
use Rattle.tl_coherence.specs.{statement.Permissions.perm_le}
use Rattle.tl_coherence.specs.statement.Machine.{Allows, Ends, Machine, Open, pool_of}
use Rattle.tl_coherence.proofs.{bound.Settling.given-before, deliveries.Matching.shadow, links.FromInvariant.coherent}
use Rattle.tl_coherence.proofs.{links.FromInvariant.grants, queues.Facts.held_at_most, theorem.Soundness.one_memory}
use Rattle.tl_concord.specs.statement.WholeStores.{WholeStores}

-- who holds Trunk holds it by what was delivered too
trunk_too : (granting : Bool) (held recorded : Perm) → perm_le held recorded ≡ true → held ≡ Perm.Trunk
    → (if granting then held else recorded) ≡ Perm.Trunk
trunk_too true held recorded le trunk = trunk
trunk_too false Perm.Trunk Perm.Trunk le trunk = refl
trunk_too false v u le trunk = absurd cc

-- the end of such an operation is a Grant of Trunk
whole_ends : {w : ℕ} (opened : Option (Open w)) (o : Open w) (block : ℕ) (bytes : List ℕ) (x : Beat w) (f : Finish)
    → Ends opened x f → opened ≡ Some o → o.asked ≡ Op.AcquireWhole block bytes → f ≡ Finish.Granted Perm.Trunk
whole_ends opened o block bytes x f ends is asked = (rw (is, asked) at ends)

pub allowed_ends : {w : ℕ} (link : Link) (ch : Channel) (x : Beat w) (source : ℕ) (f : Finish) (m : Machine w)
    → Allows (Deliver link ch) (Outcome.Done x source f) m → Ends (m.opened link.0 (pool_of f) source) x f
allowed_ends link Channel.D x source f m allows = allows
allowed_ends link v x source f m allows = absurd allows

trunk-held : {w : ℕ} (config : Config) (log : Log w) (link : Link) (ch : Channel) (x : Beat w) (source : ℕ)
    → IsGiven config ((Deliver link ch, Outcome.Done x source (Finish.Granted Perm.Trunk)) ∷ log)
    → (o : Open w) (block : ℕ) (bytes : List ℕ) → (one_memory_after config log).opened link.0 Requests source ≡ Some o
    → o.asked ≡ Op.AcquireWhole block bytes
    → held block (on_link link.0
    (trace_of ((Deliver link ch, Outcome.Done x source (Finish.Granted Perm.Trunk)) ∷ log))) ≡ Perm.Trunk
trunk-held {w} config log link ch x source given o block bytes opened asked =
    ap (held block) (trace-flows c after) ∙ (values c).held_is block
    ∙ trunk_too (is_granting (view b.service c)) (b.pair c).held (b.pair c).recorded
    (held_at_most (b.pair c) (view b.service c) ((is.invariant.blocks block).phases c)) own
  where
    c : ℕ
    c = link.0

    after : Log w
    after = (Deliver link ch, Outcome.Done x source (Finish.Granted Perm.Trunk)) ∷ log

    is : SimulationRelation config after (shadow config after).mail (shadow config after).request
        (shadow config after).state (system_after config after)
    is = matched-given config after given

    values : MonitorRelations after (shadow config after).mail (shadow config after).state (system_after config after)
    values = flowed config after given.width given.typed given.is_log

    b : Block (List ℕ)
    b = (shadow config after).state.block block

    was_started : started c Requests source log ≡ Some (Op.AcquireWhole block bytes)
    was_started = sym ((coherent config log (given-before config
        (Deliver link ch, Outcome.Done x source (Finish.Granted Perm.Trunk)) log given)).opened c Requests source)
        ∙ ap (option_map (λ i. i.asked)) opened ∙ ap (λ (i : Op w). Some i) asked

    own : (b.pair c).held ≡ Perm.Trunk
    own = sym ((is.known c).held_is block)
        ∙ grants config log link ch x source Perm.Trunk (Op.AcquireWhole block bytes) given was_started

pub whole_stores : {w : ℕ} → WholeStores w
whole_stores {w} config log link ch x source f given o block bytes opened asked =
    subst (λ (g : Finish). IsGiven config ((Deliver link ch, Outcome.Done x source g) ∷ log)
    → (one_memory_after config log).opened link.0 (pool_of g) source ≡ Some o
    → held block (on_link link.0 (trace_of ((Deliver link ch, Outcome.Done x source g) ∷ log))) ≡ Perm.Trunk)
    (sym granted)
    (λ given' opened'. trunk-held config log link ch x source given' o block bytes opened' asked) given opened
  where
    continues : Continues config (Deliver link ch, Outcome.Done x source f) log
    continues = (one_memory config log (given-before config (Deliver link ch, Outcome.Done x source f) log given)).1
        (Deliver link ch, Outcome.Done x source f) tt given.is_log

    granted : f ≡ Finish.Granted Perm.Trunk
    granted = whole_ends ((one_memory_after config log).opened link.0 (pool_of f) source) o block bytes x f
        (allowed_ends link ch x source f (one_memory_after config log) continues.2.1) opened asked
