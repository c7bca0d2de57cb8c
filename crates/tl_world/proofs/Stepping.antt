-- What the parts of a world hold after an event.
use Rattle.std.proofs.Common.{◌≡◌, ◌<◌, ◌≤◌, ℕ, true, false, List, ◌∷◌, Option, Some, None, refl, ap, sym, subst}
use Rattle.std.proofs.Common.{◌∙◌, inl, inr, length, drop, arith}
use Rattle.std.proofs.lemmas.Bool.{cases_eq, ne_eqb, eq-eqb}
use Rattle.std.proofs.lemmas.Option.{slice_get_past}
use Rattle.std.specs.Prelude.{Result, Ok, Err, slice_get, slice_index_or}
use Rattle.tl_beat.specs.declared.beat.Beat.{Beat}
use Rattle.tl_beat.specs.declared.beat.Link.{Link}
use Rattle.tl_beat.specs.declared.channel.Channel.{Channel}
use Rattle.tl_burst.specs.declared.message.Message.{Message}
use Rattle.tl_params.specs.declared.config.Config.{Config}
use Rattle.tl_params.specs.declared.perm.Perm.{Perm}
use Rattle.tl_params.specs.declared.rule.Rule.{Rule}
use Rattle.tl_client.specs.declared.operation.Op.{Op}
use Rattle.tl_client.specs.declared.reply.Reply.{Reply}
use Rattle.tl_client.specs.declared.verdict.Verdict.{Verdict}
use Rattle.tl_client.specs.statement.Ask.{asked}
use Rattle.tl_client.specs.statement.Endpoint.{EndConfig, Endpoint}
use Rattle.tl_client.specs.statement.Offer.{offered}
use Rattle.tl_manager.specs.statement.Handing.{Handed}
use Rattle.tl_manager.specs.code.Knows.{Knows}
use Rattle.tl_manager.specs.statement.End as manager_end
use Rattle.tl_manager.specs.statement.Offer as manager
use Rattle.tl_world.specs.code.Called.{IsAsked, IsOffered}
use Rattle.tl_world.specs.code.Carrying.{place, Carries, Fit, AreKept, Deepen, AreMoved}
use Rattle.tl_world.specs.code.Holds.{clients_of, Holds, HasRoom, IsStepped, is_stay}
use Rattle.tl_coherence.specs.statement.Step.{stepped, only, handing, handed_by, judged, outcome_of, manager_took}
use Rattle.tl_coherence.specs.statement.Step.{is_to_client, client_of}
use Rattle.tl_coherence.specs.statement.System.{System, with_client, with_manager, with_channel, with_messages}
use Rattle.tl_coherence.specs.declared.event.Event.{Event}
use Rattle.tl_coherence.specs.declared.event.Event.TheVariants.{Ask, Deliver}
use Rattle.tl_coherence.specs.declared.event.Outcome.TheVariants as outcome
use Rattle.tl_world.specs.declared.network.Network.{Network}
use Rattle.tl_world.specs.declared.rings.Rings.{Rings}
use Rattle.tl_coherence.proofs.deliveries.Matching.{stepped-nobody}
use Rattle.tl_world.proofs.Queues.{moved-still, moved-then, messages-grow}
use Rattle.tl_coherence.proofs.queues.Steps.{clients-with_messages, manager-with_messages, stepped-asked, stepped-empty}
use Rattle.tl_coherence.proofs.queues.Steps.{stepped-to-client, stepped-to-manager}
use Rattle.tl_world.proofs.Unmoved.{stayed-client, stayed-manager, judged-refused, judged-stayed, judged-taken}
use Rattle.tl_world.proofs.Unmoved.{took-refused, took-stalled, took-sent}
use Rattle.tl_world.proofs.Holding.{member, none-left, first-is, carries-same}
use Rattle.tl_world.proofs.Holding.{room-after, fits-in, stepped-by, client-holds}
use Rattle.tl_world.proofs.Holding.{made-for}

module _ {w : ℕ} {A M : Type 0} (knows : A → Endpoint w → Type 0) (terms : A → EndConfig) (perm_of : M → ℕ → ℕ → Perm)
    (config : Config) where
  -- ---- the first beat of a channel

  pub first-brought : (network : Network w A M) (s : System w) (link : Link) (ch : Channel) (x : Beat w)
      → Holds knows terms perm_of config network s → link.0 < length network.clients.items
      → ((n : ℕ) (s : System w) → Carries n network.rings s → link.0 < n → Some x ≡ slice_get (s.channels link.0 ch) 0)
      → s.channels link.0 ch ≡ x ∷ drop 1 (s.channels link.0 ch)
  first-brought network s link ch x h inside first =
      let under : link.0 < clients_of config = omega (arith, inside, h.one_client_each) in
      first-is (s.channels link.0 ch) x (first (clients_of config) s h.channels under)

  -- ---- a client is asked

  pub steps-asked : (old new : Network w A M) (s : System w) (i : ℕ) (op : Op w) (answer : Reply × Option (Message w))
      → Holds knows terms perm_of config old s → i < length old.clients.items
      → IsAsked knows terms old.clients.items new.clients.items i op answer → new.manager ≡ old.manager
      → AreKept old.rings new.rings
      → ((n : ℕ) (s : System w) → Carries n old.rings s → Fit n old.rings (with_messages (handed_by i answer.1) s)
      → AreMoved n old.rings new.rings (with_messages (handed_by i answer.1) s))
      → HasRoom config (stepped config (Ask i op) s).after
      → IsStepped knows terms perm_of config old new (Ask i op) (outcome.Replied answer.0) s
  steps-asked old new s i op answer h inside is same_manager kept sends room =
      stepped-by knows terms perm_of config old new (Ask i op) s (handing (outcome.Replied answer.0) handed now)
      (outcome.Replied answer.0) step
      refl
      (client-holds knows terms perm_of config old new s (with_messages handed now) i end h known is.same_terms
      is.others is.same_number
      (λ k. ap (λ (f : ℕ → Endpoint w). f k) (clients-with_messages handed now)) (manager-with_messages handed now)
      same_manager kept moved.carries)
      moved.deepen
    where
      below : i < clients_of config
      below = omega (arith, inside, h.one_client_each)

      one : A
      one = member old.clients.items i inside

      t : EndConfig
      t = terms (slice_index_or old.clients.items i one)

      end : Endpoint w
      end = (asked t op (s.clients i)).after

      handed : Handed w
      handed = handed_by i answer.1

      now : System w
      now = with_client i end s

      step : stepped config (Ask i op) s ≡ handing (outcome.Replied answer.0) handed now
      step =
          stepped-asked config i op s t (h.terms_are i one below)
          ∙ rw (
            ← is.reply (s.clients i) one (h.clients i one below),
            ← is.message (s.clients i) one
                (h.clients i one below),
          ) refl

      known : (d : A) → knows (slice_index_or new.clients.items i d) end
      known d = subst (λ (u : EndConfig). knows (slice_index_or new.clients.items i d) (asked u op (s.clients i)).after)
          (made-for knows terms perm_of config old s i d one h below) (is.after (s.clients i) d (h.clients i d below))

      kept-still : AreKept old.rings old.rings
      kept-still = record { same_number = refl; same_capacity = λ k d. refl }

      moved : AreMoved (clients_of config) old.rings new.rings (with_messages handed now)
      moved =
          sends (clients_of config) now (carries-same (clients_of config) old.rings s now (λ k ch. refl) h.channels)
          (fits-in knows terms perm_of config old old.rings s (with_messages handed now) h kept-still
          (room-after config (Ask i op) s (handing (outcome.Replied answer.0) handed now) step room))

  -- ---- a beat is brought to a client

  module _ (old new : Network w A M) (s : System w) (link : Link) (ch : Channel) (x : Beat w) (rest : List (Beat w))
      (answer : Result (Verdict × Option (Message w)) Rule) (h : Holds knows terms perm_of config old s)
      (inside : link.0 < length old.clients.items) (first : s.channels link.0 ch ≡ x ∷ rest)
      (up : is_to_client ch ≡ true)
      (is : IsOffered knows terms old.clients.items new.clients.items link.0 ch x answer)
      (same_manager : new.manager ≡ old.manager) where
    below : link.0 < clients_of config
    below = omega (arith, inside, h.one_client_each)

    abbrev one : A
    one = member old.clients.items link.0 inside

    abbrev t : EndConfig
    t = terms (slice_index_or old.clients.items link.0 one)

    abbrev end : Endpoint w
    end = (offered t ch x (s.clients link.0)).after

    answer_is : answer ≡ (offered t ch x (s.clients link.0)).answer
    answer_is = is.answer_is (s.clients link.0) one (h.clients link.0 one below)

    known : (d : A) → knows (slice_index_or new.clients.items link.0 d) end
    known d = subst (λ (u : EndConfig). knows (slice_index_or new.clients.items link.0 d)
        (offered u ch x (s.clients link.0)).after)
        (made-for knows terms perm_of config old s link.0 d one h below)
        (is.after (s.clients link.0) d (h.clients link.0 d below))

    taken-up : stepped config (Deliver link ch) s ≡ judged (offered t ch x (s.clients link.0)).answer link.0 ch x rest
        end s
    taken-up = stepped-to-client config link ch s t x rest (h.terms_are link.0 one below) first up

    -- where the channels are as before
    kept : new.rings ≡ old.rings → AreKept old.rings new.rings
    kept same = subst (λ (r : Rings w). AreKept old.rings r) (sym same)
        (record { same_number = refl; same_capacity = λ k d. refl })

    carried : (s' : System w) → ((k : ℕ) (c : Channel) → s'.channels k c ≡ s.channels k c) → new.rings ≡ old.rings
        → Carries (clients_of config) new.rings s'
    carried s' as_before same = subst (λ (r : Rings w). Carries (clients_of config) r s') (sym same)
        (carries-same (clients_of config) old.rings s s' as_before h.channels)

    still : new.rings ≡ old.rings → Deepen (clients_of config) old.rings new.rings
    still same = subst (λ (r : Rings w). Deepen (clients_of config) old.rings r) (sym same)
        (moved-still (clients_of config) old.rings s h.channels).deepen

    pub steps-refused : (rule : Rule) → answer ≡ Err rule → new.rings ≡ old.rings
        → IsStepped knows terms perm_of config old new (Deliver link ch) outcome.Stalled s
    steps-refused rule refused same =
        stepped-by knows terms perm_of config old new (Deliver link ch) s
        (only outcome.Stalled (with_client link.0 end s)) outcome.Stalled
        (taken-up ∙ judged-refused _ rule link.0 ch x rest end s (sym refused ∙ answer_is)) refl
        (client-holds knows terms perm_of config old new s (with_client link.0 end s) link.0 end h known is.same_terms
        is.others is.same_number
        (λ k. refl) refl same_manager
        (kept same) (carried (with_client link.0 end s) (λ k c. refl) same))
        (still same)

    unmoved : (k : ℕ) → s.clients k ≡ (with_client link.0 (s.clients link.0) s).clients k
    unmoved k =
        elim (cases_eq k link.0) [
          | inl same ↦ rw (same, eq-eqb link.0 link.0 refl) refl
          | inr other ↦ rw (ne_eqb k link.0 other) refl
        ]

    pub steps-stayed : (v : Verdict) (m : Option (Message w)) → answer ≡ Ok (v, m) → is_stay v ≡ true
        → new.rings ≡ old.rings
        → IsStepped knows terms perm_of config old new (Deliver link ch) outcome.Stalled s
    steps-stayed v m stayed stays same =
        let again : end ≡ s.clients link.0 = stayed-client t ch x (s.clients link.0) v m (sym stayed ∙ answer_is) stays
        in
        stepped-by knows terms perm_of config old new (Deliver link ch) s (only outcome.Stalled s) outcome.Stalled
        (taken-up ∙ judged-stayed _ v m link.0 ch x rest end s (sym stayed ∙ answer_is) stays) refl
        (client-holds knows terms perm_of config old new s s link.0 (s.clients link.0) h
        (λ d. subst (λ (e : Endpoint w). knows (slice_index_or new.clients.items link.0 d) e) again (known d))
        is.same_terms is.others is.same_number
        unmoved refl same_manager (kept same) (carried s (λ k c. refl) same))
        (still same)

    -- the first beat is taken away, and a message sent
    pub steps-taken : (mid : Rings w) (v : Verdict) (m : Option (Message w)) → answer ≡ Ok (v, m) → is_stay v ≡ false
        → AreKept old.rings mid → AreKept mid new.rings
        → ((n : ℕ) (s : System w) (y : Beat w) (rest : List (Beat w)) → Carries n old.rings s → link.0 < n
        → s.channels link.0 ch ≡ y ∷ rest → AreMoved n old.rings mid (with_channel link.0 ch rest s))
        → ((n : ℕ) (s : System w) → Carries n mid s → Fit n mid (with_messages (handed_by link.0 m) s)
        → AreMoved n mid new.rings (with_messages (handed_by link.0 m) s))
        → HasRoom config (stepped config (Deliver link ch) s).after
        → IsStepped knows terms perm_of config old new (Deliver link ch) (outcome_of x v) s
    steps-taken mid v m taken moves first_kept then_kept drops sends room =
        stepped-by knows terms perm_of config old new (Deliver link ch) s (handing (outcome_of x v) handed now)
        (outcome_of x v) step refl
        (client-holds knows terms perm_of config old new s (with_messages handed now) link.0 end h known is.same_terms
        is.others is.same_number
        (λ k. ap (λ (f : ℕ → Endpoint w). f k) (clients-with_messages handed now)) (manager-with_messages handed now)
        same_manager both_kept sent.carries)
        (moved-then (clients_of config) old.rings mid new.rings base (with_messages handed now) dropped sent
        (λ k c. messages-grow handed now k c)).deepen
      where
        base : System w
        base = with_channel link.0 ch rest s

        now : System w
        now = with_client link.0 end base

        handed : Handed w
        handed = handed_by link.0 m

        step : stepped config (Deliver link ch) s ≡ handing (outcome_of x v) handed now
        step = taken-up ∙ judged-taken _ v m link.0 ch x rest end s (sym taken ∙ answer_is) moves

        both_kept : AreKept old.rings new.rings
        both_kept = record {
          same_number = then_kept.same_number ∙ first_kept.same_number;
          same_capacity = λ k d. then_kept.same_capacity k d ∙ first_kept.same_capacity k d;
        }

        dropped : AreMoved (clients_of config) old.rings mid base
        dropped = drops (clients_of config) s x rest h.channels below first

        sent : AreMoved (clients_of config) mid new.rings (with_messages handed now)
        sent =
            sends (clients_of config) now (carries-same (clients_of config) mid base now (λ k c. refl) dropped.carries)
            (fits-in knows terms perm_of config old mid s (with_messages handed now) h first_kept
            (room-after config (Deliver link ch) s (handing (outcome_of x v) handed now) step room))

  -- ---- a beat is brought to the manager

  manager-holds : (old new : Network w A M) (s s' : System w) → Holds knows terms perm_of config old s
      → new.clients.items ≡ old.clients.items
      → ((k : ℕ) → s'.clients k ≡ s.clients k) → Knows perm_of new.manager config s'.manager
      → AreKept old.rings new.rings → Carries (clients_of config) new.rings s' → Holds knows terms perm_of config new s'
  manager-holds old new s s' h same_clients clients_are knowing as_made carrying = record {
    one_client_each = ap (λ (c : List A). length c) same_clients ∙ h.one_client_each;
    clients = λ k d lt. rw (same_clients, clients_are k) (h.clients k d lt);
    terms_are = λ k d lt. rw same_clients (h.terms_are k d lt);
    manager = knowing;
    channels = carrying;
    room = λ k ch d lt. as_made.same_capacity (place k ch) d ∙ h.room k ch d lt;
  }

  module _ (old new : Network w A M) (s : System w) (link : Link) (ch : Channel) (x : Beat w) (rest : List (Beat w))
      (answer : manager.Reception w) (h : Holds knows terms perm_of config old s)
      (inside : link.0 < length old.clients.items) (first : s.channels link.0 ch ≡ x ∷ rest)
      (down : is_to_client ch ≡ false) (same_clients : new.clients.items ≡ old.clients.items)
      (answers : (config : Config) (e : manager_end.End w) → Knows perm_of old.manager config e
      → answer ≡ (manager.offered config link ch x e).0)
      (knowing : (config : Config) (e : manager_end.End w) → Knows perm_of old.manager config e
      → Knows perm_of new.manager config (manager.offered config link ch x e).1) where
    within : link.0 < clients_of config
    within = omega (arith, inside, h.one_client_each)

    abbrev taken : manager.Reception w × manager_end.End w
    taken = manager.offered config link ch x s.manager

    answered : answer ≡ taken.0
    answered = answers config s.manager h.manager

    taken-in : stepped config (Deliver link ch) s ≡ manager_took link.0 ch x rest taken s
    taken-in =
        let some = member old.clients.items link.0 inside in
        stepped-to-manager config link ch s (terms (slice_index_or old.clients.items link.0 some)) x rest
        (h.terms_are link.0 some within) first down

    as_made : new.rings ≡ old.rings → AreKept old.rings new.rings
    as_made same = subst (λ (r : Rings w). AreKept old.rings r) (sym same)
        (record { same_number = refl; same_capacity = λ k d. refl })

    carrying : (s' : System w) → ((k : ℕ) (c : Channel) → s'.channels k c ≡ s.channels k c) → new.rings ≡ old.rings
        → Carries (clients_of config) new.rings s'
    carrying s' as_before same = subst (λ (r : Rings w). Carries (clients_of config) r s') (sym same)
        (carries-same (clients_of config) old.rings s s' as_before h.channels)

    as_deep : new.rings ≡ old.rings → Deepen (clients_of config) old.rings new.rings
    as_deep same = subst (λ (r : Rings w). Deepen (clients_of config) old.rings r) (sym same)
        (moved-still (clients_of config) old.rings s h.channels).deepen

    pub manager-refused : (rule : Rule) → answer ≡ manager.Refused rule → new.rings ≡ old.rings
        → IsStepped knows terms perm_of config old new (Deliver link ch) outcome.Stalled s
    manager-refused rule refused same =
        stepped-by knows terms perm_of config old new (Deliver link ch) s
        (only outcome.Stalled (with_manager taken.1 s)) outcome.Stalled
        (taken-in ∙ took-refused taken rule link.0 ch x rest s (sym answered ∙ refused)) refl
        (manager-holds old new s (with_manager taken.1 s) h same_clients (λ k. refl)
        (knowing config s.manager h.manager) (as_made same) (carrying (with_manager taken.1 s) (λ k c. refl) same))
        (as_deep same)

    pub manager-stayed : answer ≡ manager.Stalled → new.rings ≡ old.rings
        → IsStepped knows terms perm_of config old new (Deliver link ch) outcome.Stalled s
    manager-stayed stalled same =
        let again : taken.1 ≡ s.manager = stayed-manager config link ch x s.manager (sym answered ∙ stalled) in
        stepped-by knows terms perm_of config old new (Deliver link ch) s (only outcome.Stalled s) outcome.Stalled
        (taken-in ∙ took-stalled taken link.0 ch x rest s (sym answered ∙ stalled)) refl
        (manager-holds old new s s h same_clients (λ k. refl)
        (subst (λ (e : manager_end.End w). Knows perm_of new.manager config e) again
        (knowing config s.manager h.manager)) (as_made same)
        (carrying s (λ k c. refl) same))
        (as_deep same)

    -- the first beat is taken away, and messages sent
    pub manager-sent : (mid : Rings w) (handed : Handed w) → answer ≡ manager.Sent handed
        → AreKept old.rings mid → AreKept mid new.rings
        → ((n : ℕ) (s : System w) (y : Beat w) (rest : List (Beat w)) → Carries n old.rings s → link.0 < n
        → s.channels link.0 ch ≡ y ∷ rest → AreMoved n old.rings mid (with_channel link.0 ch rest s))
        → ((n : ℕ) (s : System w) → Carries n mid s → Fit n mid (with_messages handed s)
        → AreMoved n mid new.rings (with_messages handed s))
        → HasRoom config (stepped config (Deliver link ch) s).after
        → IsStepped knows terms perm_of config old new (Deliver link ch) (outcome.Moved x) s
    manager-sent mid handed sent first_kept then_kept drops sends room =
        stepped-by knows terms perm_of config old new (Deliver link ch) s (handing (outcome.Moved x) handed now)
        (outcome.Moved x) step refl
        (manager-holds old new s (with_messages handed now) h same_clients
        (λ k. ap (λ (f : ℕ → Endpoint w). f k) (clients-with_messages handed now))
        (rw (manager-with_messages handed now) (knowing config s.manager h.manager)) both_kept moved.carries)
        (moved-then (clients_of config) old.rings mid new.rings base (with_messages handed now) dropped moved
        (λ k c. messages-grow handed now k c)).deepen
      where
        base : System w
        base = with_channel link.0 ch rest s

        now : System w
        now = with_manager taken.1 base

        step : stepped config (Deliver link ch) s ≡ handing (outcome.Moved x) handed now
        step = taken-in ∙ took-sent taken handed link.0 ch x rest s (sym answered ∙ sent)

        both_kept : AreKept old.rings new.rings
        both_kept = record {
          same_number = then_kept.same_number ∙ first_kept.same_number;
          same_capacity = λ k d. then_kept.same_capacity k d ∙ first_kept.same_capacity k d;
        }

        dropped : AreMoved (clients_of config) old.rings mid base
        dropped = drops (clients_of config) s x rest h.channels within first

        moved : AreMoved (clients_of config) mid new.rings (with_messages handed now)
        moved =
            sends (clients_of config) now (carries-same (clients_of config) mid base now (λ k c. refl) dropped.carries)
            (fits-in knows terms perm_of config old mid s (with_messages handed now) h first_kept
            (room-after config (Deliver link ch) s (handing (outcome.Moved x) handed now) step room))

  -- ---- nothing changes

  pub steps-nobody : (network : Network w A M) (s : System w) (event : Event w)
      → Holds knows terms perm_of config network s → length network.clients.items ≤ client_of event
      → IsStepped knows terms perm_of config network network event outcome.NoSuchClient s
  steps-nobody network s event h past =
      stepped-by knows terms perm_of config network network event s (only outcome.NoSuchClient s) outcome.NoSuchClient
      (stepped-nobody config event s
      (rw (slice_get_past config.clients.items (client_of event) (omega (arith, past, h.one_client_each))) refl))
      refl h
      (moved-still (clients_of config) network.rings s h.channels).deepen

  pub steps-empty : (network : Network w A M) (s : System w) (link : Link) (ch : Channel)
      → Holds knows terms perm_of config network s → link.0 < length network.clients.items
      → ((n : ℕ) (s : System w) → Carries n network.rings s → link.0 < n → None ≡ slice_get (s.channels link.0 ch) 0)
      → IsStepped knows terms perm_of config network network (Deliver link ch) outcome.Empty s
  steps-empty network s link ch h inside first =
      let under : link.0 < clients_of config = omega (arith, inside, h.one_client_each) in
      let some = member network.clients.items link.0 inside in
      stepped-by knows terms perm_of config network network (Deliver link ch) s (only outcome.Empty s) outcome.Empty
      (stepped-empty config link ch s (terms (slice_index_or network.clients.items link.0 some))
      (h.terms_are link.0 some under)
      (none-left (s.channels link.0 ch) (first (clients_of config) s h.channels under))) refl h
      (moved-still (clients_of config) network.rings s h.channels).deepen
