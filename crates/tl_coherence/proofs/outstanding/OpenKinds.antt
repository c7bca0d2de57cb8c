-- What is open after the first token of a channel is taken: an answer ends a request, a Grant turns one into a
-- GrantAck, a GrantAck ends it, a ReleaseAck ends a Release, and all else leaves what is open.
-- What is open after a client is asked: an operation that starts opens a request or a Release, with a source that was
-- free.
use Rattle.std.proofs.Common.{◌≡◌, ℕ, suc, ◌+◌, ◌<◌, Bool, true, false, ◌==◌, if◌then◌else◌, List, [], ◌∷◌, Some, None}
use Rattle.std.proofs.Common.{refl, sym, ◌∙◌, ap, arith, length, length-append}
use Rattle.tl_coherence.proofs
use proofs.Imports.{Message, Config, ReleaseSource, RequestSource, Cap, Grow, Prune, Report, Perm, block_at, pending}
use proofs.Imports.{NotBusy, asked-cases, least_free-some, Busy, Op, Reply, done, free_release, free_request}
use proofs.Imports.{source_or_0, store, EndConfig, Endpoint, held_at, one_if, is_let, is_used, Ask, Outcome, Acquire}
use proofs.Imports.{Answer, Grant, GrantAck, Kind, Packet, Release, ReleaseAck, Request, set, Acquires, Asked, Block}
use proofs.Imports.{GrantSent, InService, Replied, SourceFree, State, access_answered, access_asked, access_served}
use proofs.Imports.{acquire_asked, acquire_granted, acquire_served, answer_taken, answered_link, ended_link}
use proofs.Imports.{grant_ack_taken, grant_taken, granted_link, is_probed, let_link, on, packet, popped_link}
use proofs.Imports.{probe_taken, probed_link, release_ack_taken, release_asked, release_taken, report_answers}
use proofs.Imports.{report_grants, report_taken, served_link, taken_link, with_a, with_c, with_probe, AbstractState}
use proofs.Imports.{asked, kind_taken, taken_by_client, SimulationRelation, is_caching, starts_release, starts_request}
use proofs.Imports.{Log, System, terms_at}
use Rattle.tl_coherence.specs.protocol.Protocol.{Link}
use Rattle.tl_coherence.specs.refinement.AbstractStep as follow
use Rattle.tl_client.specs.statement.Ask.{load}
use Rattle.tl_client.specs.statement.Ask as ask
use proofs.client.ClientDelivered.{askable}
use proofs.protocol.{FollowKept.IsAskable, Capacities.AreBounded, BothParts.first-request}
use proofs.protocol.Served.{marked-set, acks-same, clients_in, sources_in, IsBalance, requests-split, set_at-part}
use proofs.protocol.Served.{acks-set, balance-same}
use proofs.protocol.HeadOfD.{answer-due, grant-due, ack-due, true-taken}
use proofs.queues.Tokens.{set-part}
use proofs.rank.RankParts.{serving-use}

-- ---- links whose channel E stays

pub served_e : {X : Type 0} (r : ℕ) (own : Bool) (n : ℕ) (k : Cap) (rest : List Packet) (b : Block X) (link : ℕ → Link)
    (d : ℕ) → (served_link r own n k rest b link d).e ≡ (link d).e
served_e {X} r own n k rest b link d = go (is_probed r own k (b.pair d).recorded d) (d == r)
  where
    go : (x y : Bool) → (with_probe n x (if y then record (link d) { a = rest } else link d)).e ≡ (link d).e
    go x y = grind arith

pub set_e : (c : ℕ) (l : Link) (link : ℕ → Link) → l.e ≡ (link c).e → (d : ℕ) → (set c l link d).e ≡ (link d).e
set_e c l link same d = set-part (λ x. x.e) c l link same d

popped_e : (c : ℕ) (rest : List Packet) (link : ℕ → Link) (d : ℕ) → (popped_link c rest link d).e ≡ (link d).e
popped_e c rest link d = set_e c (record (link c) { c = rest }) link refl d

pub ended_e : (c q : ℕ) (x : Packet) (rest : List Packet) (link : ℕ → Link) (d : ℕ)
    → (ended_link c q x rest link d).e ≡ (link d).e
ended_e c q x rest link d = grind arith

pub granted_e : (c q n : ℕ) (rest : List Packet) (link : ℕ → Link) (d : ℕ)
    → (granted_link c q n rest link d).e ≡ (link d).e
granted_e c q n rest link d = grind (arith, set_e, popped_e)

-- ---- events that leave what is open

module _ {X : Type 0} (config : Config) (s : State X) where
  unchanged : IsBalance config s s false false false false
  unchanged = record { requests = refl; releases = refl }

  access-answered : (c n source : ℕ) (f : X → X) (rest : List Packet) → s.uses c source ≡ Asked
      → IsBalance config s (access_answered c n source f rest s) false false false false
  access-answered c n source f rest used = balance-same config s _ (set_at-part is_used c source Replied s.uses (sym
      (ap is_used used))) (λ d i. refl) (set_e c (answered_link (packet Answer source) rest (s.link c)) s.link refl)

  access-served : (c n source tracker : ℕ) (k : Cap) (rest : List Packet) → s.uses c source ≡ Asked
      → IsBalance config s (access_served c n source tracker k rest s) false false false false
  access-served c n source tracker k rest used = balance-same config s _ (set_at-part is_used c source (InService n)
      s.uses (sym (ap is_used used))) (λ d i. refl) (served_e c false n k rest (s.block n) s.link)

  acquire-granted : (c n tracker : ℕ) (d : Bool) (k : Cap) (rest : List Packet)
      → IsBalance config s (acquire_granted c n tracker d k rest s) false false false false
  acquire-granted c n tracker d k rest = balance-same config s _ (λ i j. refl)
      (λ i j. refl) (set_e c (answered_link (packet Grant n) rest (s.link c)) s.link refl)

  acquire-served : (c n source tracker : ℕ) (k : Cap) (rest : List Packet)
      → IsBalance config s (acquire_served c n source tracker k rest s) false false false false
  acquire-served c n source tracker k rest = balance-same config s _
      (λ i j. refl) (λ i j. refl) (served_e c true n k rest (s.block n) s.link)

  probe-taken : (c n : ℕ) (k : Cap) (rest : List Packet) → IsBalance config s (probe_taken c n k rest s) false false
      false false
  probe-taken c n k rest = balance-same config s _ (λ i j. refl) (λ i j. refl)
      (set_e c (probed_link n rest (s.link c)) s.link refl)

  report-taken : (c n : ℕ) (r : Report) (rest : List Packet) → IsBalance config s (report_taken c n r rest s) false
      false false false
  report-taken c n r rest = balance-same config s _ (λ i j. refl) (λ i j. refl) (popped_e c rest s.link)

  report-answers : (c q n source : ℕ) (r : Report) (f : X → X) (rest : List Packet) → s.uses q source ≡ InService n
      → IsBalance config s (report_answers c q n source r f rest s) false false false false
  report-answers c q n source r f rest used = balance-same config s _ (set_at-part is_used q source Replied s.uses
      (sym (ap is_used used))) (λ d i. refl) (ended_e c q (packet Answer source) rest s.link)

  report-grants : (c q n : ℕ) (r : Report) (d : Bool) (k : Cap) (rest : List Packet)
      → IsBalance config s (report_grants c q n r d k rest s) false false false false
  report-grants c q n r d k rest = balance-same config s _ (λ i j. refl) (λ i j. refl) (granted_e c q n rest s.link)

  release-taken : (c n : ℕ) (r : Prune) (rest : List Packet) → IsBalance config s (release_taken c n r rest s) false
      false false false
  release-taken c n r rest = balance-same config s _ (λ i j. refl) (λ i j. refl)
      (set_e c (let_link n rest (s.link c)) s.link refl)

  -- ---- events that end something

  answer-taken : (c source : ℕ) (rest : List Packet) → c < clients_in config → source < sources_in config c
      → s.uses c source ≡ Replied → IsBalance config s (answer_taken c source rest s) false true false false
  answer-taken c source rest few lt used = record {
    requests = omega (
      arith,
      marked-set is_used _ (sources_in config) c source SourceFree s.uses few lt,
      ap (λ x. one_if (is_used x)) used,
      acks-same (clients_in config) (answer_taken c source rest s).link s.link
          (set_e c (record (s.link c) { d = rest }) s.link refl),
      requests-split config s,
      requests-split config (answer_taken c source rest s),
    );
    releases = refl;
  }

  grant-taken : (c n : ℕ) (whole d : Bool) (k : Cap) (rest : List Packet) → c < clients_in config
      → (s.block n).source c < sources_in config c → s.uses c ((s.block n).source c) ≡ Acquires n
      → IsBalance config s (grant_taken c n whole d k rest s) false false false false
  grant-taken c n whole d k rest few lt used = record {
    requests = omega (
      arith,
      marked-set is_used _ (sources_in config) c _ SourceFree s.uses few lt,
      ap (λ x. one_if (is_used x)) used,
      acks-set _ c (taken_link n rest (s.link c)) s.link few,
      length-append (s.link c).e (packet GrantAck n ∷ []),
      requests-split config s,
      requests-split config (grant_taken c n whole d k rest s),
    );
    releases = refl;
  }

  release-ack-taken : (c n : ℕ) (rest : List Packet) → c < clients_in config
      → (s.block n).release_source c < sources_in config c → s.lets c ((s.block n).release_source c) ≡ Some n
      → IsBalance config s (release_ack_taken c n rest s) false false false true
  release-ack-taken c n rest few lt used =
      let l = marked-set is_let _ (sources_in config) c _ None s.lets few lt in
      let a = acks-same (clients_in config) (release_ack_taken c n rest s).link s.link
      (set_e c (record (s.link c) { d = rest }) s.link refl) in
      record {
        requests = omega (arith, a, requests-split config s, requests-split config (release_ack_taken c n rest s));
        releases = omega (arith, l, ap (λ x. one_if (is_let x)) used);
      }

  grant-ack-taken : (c n : ℕ) (rest : List Packet) → c < clients_in config → (s.link c).e ≡ packet GrantAck n ∷ rest
      → IsBalance config s (grant_ack_taken c n rest s) false true false false
  grant-ack-taken c n rest few first =
      let a = acks-set _ c (record (s.link c) { e = rest }) s.link few in
      let more : length (s.link c).e ≡ suc (length rest) = ap length first in
      record {
        requests = omega (arith, a, more, requests-split config s, requests-split config (grant_ack_taken c n rest s));
        releases = refl;
      }

-- ---- all kinds

-- a message of this kind ends a request: its answer, or the GrantAck
abbrev pub is_ending : Kind → Bool
is_ending Answer = true
is_ending GrantAck = true
is_ending _ = false

-- and this a Release
abbrev pub is_letting_go : Kind → Bool
is_letting_go ReleaseAck = true
is_letting_go _ = false

-- a message of another kind ends nothing
still-kind : {w : ℕ} {config : Config} {log : Log w} (tracker c : ℕ) (k : Kind) (i : ℕ) (rest : List Packet)
    (h : AbstractState w) {sys : System w} → SimulationRelation config log h.mail h.request h.state sys
    → c < clients_in config → AreBounded c (sources_in config c) config.trackers h.state
    → on k (h.state.link c) ≡ packet k i ∷ rest → is_ending k ≡ false → is_letting_go k ≡ false
    → IsBalance config h.state (kind_taken config tracker c k i rest h).state false false false false
still-kind {w} {config} tracker c k i rest h is few own first ends lets = true-taken config tracker c rest h
    (λ j n. (on j (h.state.link c) ≡ packet j n ∷ rest) × (is_ending j ≡ false) × (is_letting_go j ≡ false))
    (λ x. IsBalance config h.state x.state false false false false) k i (record {
      nothing = λ j n known idle. unchanged config h.state;
      access_answered = λ source m o known from caps none. access-answered _ h.state c _ source
          (follow.performs m) rest (first-request is.invariant known.0);
      access_served = λ source m j known from caps some. access-served _ h.state c _ source tracker j rest
          (first-request is.invariant known.0);
      acquire_granted = λ n whole g known wants none. acquire-granted config h.state c n tracker _ _ rest;
      acquire_served = λ n whole g known wants some. acquire-served config h.state c n _ tracker _ rest;
      probe = λ n known. probe-taken config h.state c n _ rest;
      report = λ n known more. report-taken config h.state c n _ rest;
      report_answers = λ n q source j known last waits. report-answers config _ c q n source _
          (follow.performs (h.request n)) rest (serving-use n q source j is.invariant waits);
      report_grants = λ n q source j whole g known last waits wants. report-grants config h.state c q n _ _ _ rest;
      release = λ n known. release-taken config h.state c n _ rest;
      answer = λ source known. absurd cc;
      grant = λ n q d j known sent. granted n known.0 q d j sent;
      release_ack = λ n known. absurd cc;
      grant_ack = λ n known. absurd cc;
    }) (first, ends, lets)
  where
    granted : (n : ℕ) → (h.state.link c).d ≡ packet Grant n ∷ rest → (q : ℕ) (d : Bool) (j : Cap)
        → (h.state.block n).service ≡ GrantSent q d j
        → IsBalance config h.state (taken_by_client c n (GrantSent q d j) rest h).state false false false false
    granted n tokens q d j sent =
        let due = grant-due (is_caching config) c n rest _ is.invariant tokens in
        grant-taken _ h.state c n _ d j rest few (own.requests ((h.state.block n).source c) (λ closed. absurd
        (let both : Acquires n ≡ SourceFree = sym due.used ∙ closed in cc))) due.used

-- What is open, after the first token of a channel of a client's link is taken.
pub balance-kind : {w : ℕ} {config : Config} {log : Log w} (tracker : ℕ) {c : ℕ} (k : Kind) (i : ℕ) (rest : List Packet)
    (h : AbstractState w) {sys : System w}
    → SimulationRelation config log h.mail h.request h.state sys → c < clients_in config
    → AreBounded c (sources_in config c) config.trackers h.state → on k (h.state.link c) ≡ packet k i ∷ rest
    → IsBalance config h.state (kind_taken config tracker c k i rest h).state false (is_ending k) false
    (is_letting_go k)
balance-kind {config} tracker {c} Answer source rest h is few own first =
    let due = answer-due (is_caching config) c source rest h.mail _ is.invariant (is.answered c source) first in
    answer-taken _ _ c source rest few (own.requests source
    (λ closed. absurd (let both : Replied ≡ SourceFree = sym due.used ∙ closed in cc))) due.used
balance-kind tracker {c} ReleaseAck n rest h is few own first =
    let let_ = ack-due c n rest is.invariant first in
    release-ack-taken _ _ c n rest few (own.releases ((h.state.block n).release_source c) n let_) let_
balance-kind {config} tracker {c} GrantAck n rest h is few own first = grant-ack-taken config h.state c n rest few first
balance-kind tracker {c} k i rest h is few own first = still-kind tracker c k i rest h is few own first refl refl

module _ {X : Type 0} (config : Config) (s : State X) where
  access-asked : (c source : ℕ) → c < clients_in config → source < sources_in config c → s.uses c source ≡ SourceFree
      → IsBalance config s (access_asked c source s) true false false false
  access-asked c source few lt free = record {
    requests = omega (
      arith,
      marked-set is_used _ (sources_in config) c source Asked s.uses few lt,
      ap (λ x. one_if (is_used x)) free,
      acks-same (clients_in config) (access_asked c source s).link s.link
          (λ d. set-part (λ x. x.e) c (with_a (packet Request source) (s.link c)) s.link refl d),
      requests-split config s,
      requests-split config (access_asked c source s),
    );
    releases = refl;
  }

  acquire-asked : (c n source : ℕ) (whole : Bool) (g : Grow) (bytes : X) → c < clients_in config
      → source < sources_in config c → s.uses c source ≡ SourceFree
      → IsBalance config s (acquire_asked c n source whole g bytes s) true false false false
  acquire-asked c n source whole g bytes few lt free = record {
    requests = omega (
      arith,
      marked-set is_used _ (sources_in config) c source (Acquires n) s.uses few lt,
      ap (λ x. one_if (is_used x)) free,
      acks-same (clients_in config) (acquire_asked c n source whole g bytes s).link s.link
          (λ d. set-part (λ x. x.e) c (with_a (packet Acquire n) (s.link c)) s.link refl d),
      requests-split config s,
      requests-split config (acquire_asked c n source whole g bytes s),
    );
    releases = refl;
  }

  release-asked : (c n source : ℕ) (r : Prune) → c < clients_in config → source < sources_in config c
      → s.lets c source ≡ None → IsBalance config s (release_asked c n source r s) false false true false
  release-asked c n source r few lt free =
      let l = marked-set is_let _ (sources_in config) c source (Some n) s.lets few lt in
      let a = acks-same (clients_in config) (release_asked c n source r s).link s.link
      (λ d. set-part (λ x. x.e) c (with_c (packet Release n) (s.link c)) s.link refl d) in
      record {
        requests = omega (arith, a, requests-split config s, requests-split config (release_asked c n source r s));
        releases = omega (arith, l, ap (λ x. one_if (is_let x)) free);
      }

module _ {w : ℕ} (config : Config) (c : ℕ) (h : AbstractState w) where
  -- what is open after this operation had this reply
  abbrev IsOpenAfter : Op w → Reply → Type 0
  IsOpenAfter o r = IsBalance config h.state (asked c o r h).state (starts_request (Ask c o) (Outcome.Replied r)) false
      (starts_release (Ask c o) (Outcome.Replied r)) false

  busy-opens : (o : Op w) (b : Busy) → IsOpenAfter o (Reply.Busy b)
  busy-opens (Op.Access (Message.A m)) b = record { requests = refl; releases = refl }
  busy-opens o b = record { requests = refl; releases = refl }

  load-opens : (address size : ℕ) (p : Perm) (e : Endpoint w)
      → IsOpenAfter (Op.Load address size) (load address size p e).reply
  load-opens address size Perm.None e = record { requests = refl; releases = refl }
  load-opens address size p e = record { requests = refl; releases = refl }

  store-opens : (address size value : ℕ) (p : Perm) (e : Endpoint w)
      → IsOpenAfter (Op.Store address size value) (store address size value p e).reply
  store-opens address size value Perm.None e = record { requests = refl; releases = refl }
  store-opens address size value p e = record { requests = refl; releases = refl }

  module _ (terms : EndConfig) (e : Endpoint w) (at : terms_at config c ≡ Some terms) (few : c < clients_in config)
    where
      own_source : (source : ℕ) → source < 0 + terms.sources → source < sources_in config c
      own_source source lt = grind (arith, sources_in)

      done-opens : (o : Op w) → NotBusy terms o e → IsAskable (is_caching config) c o (done terms o e).reply h
          → IsOpenAfter o (done terms o e).reply
      done-opens (Op.Load address size) free may = load-opens address size (held_at e (block_at address)) e
      done-opens (Op.Store address size value) free may = store-opens address size value (held_at e (block_at address))
          e
      done-opens (Op.Acquire n g) free may =
          acquire-asked config h.state c n (source_or_0 (free_request terms e.past)) false g _ few
          (own_source _ (least_free-some (λ s. pending (RequestSource s) e.past) 0 terms.sources free.b1).1) may.1
      done-opens (Op.AcquireWhole n bytes) free may =
          acquire-asked config h.state c n (source_or_0 (free_request terms e.past)) true _ bytes few
          (own_source _ (least_free-some (λ s. pending (RequestSource s) e.past) 0 terms.sources free.b1).1) may.1
      done-opens (Op.Release n r) free may = release-asked config h.state c n (source_or_0 (free_release terms e.past))
          r few (own_source _ (least_free-some (λ s. pending (ReleaseSource s) e.past) 0 terms.sources free.b1).1) may.1
      done-opens (Op.Access (Message.A m)) free may =
          access-asked config h.state c (source_or_0 (free_request terms e.past)) few
          (own_source _ (least_free-some (λ s. pending (RequestSource s) e.past) 0 terms.sources free.b1).1) may
      done-opens o free may = record { requests = refl; releases = refl }

-- What is open after a client is asked.
pub balance-asked : {w : ℕ} {config : Config} {log : Log w} (h : AbstractState w) {sys : System w} (terms : EndConfig)
    (c : ℕ) (o : Op w) → SimulationRelation config log h.mail h.request h.state sys → terms_at config c ≡ Some terms
    → c < clients_in config → IsBalance config h.state (asked c o (ask.asked terms o (sys.clients c)).reply h).state
    (starts_request (Ask c o) (Outcome.Replied (ask.asked terms o (sys.clients c)).reply)) false
    (starts_release (Ask c o) (Outcome.Replied (ask.asked terms o (sys.clients c)).reply)) false
balance-asked {config} h {sys} terms c o is at few = asked-cases terms o (sys.clients c) (λ x. IsAskable
    (is_caching config) c o x.reply h → IsOpenAfter config c h o x.reply) (λ b may. busy-opens config c h o b)
    (λ free may. done-opens _ c h terms (sys.clients c) at few o free may) (askable terms c o is at)
