-- Beats of a GrantData, judged by the bytes that it may bring.
use Rattle.std.proofs.Common.{◌≡◌, ◌<◌, ◌+◌, ◌*◌, ℕ, Bool, true, false, ◌||◌, List, length, refl, sym, ap, ◌∙◌, arith}
use Rattle.std.specs.Prelude.{Option, Some, None, option_map}
use Rattle.std.specs.Global.{Vec}
use Rattle.tl_beat.specs.declared.beat.Beat.{Beat}
use Rattle.tl_beat.specs.declared.beat.BeatD.{BeatD}
use Rattle.tl_beat.specs.declared.channel.Channel.{Channel}
use Rattle.tl_beat.specs.declared.opcode.OpD.{OpD}
use Rattle.tl_burst.specs.statement.Messages.{unfinished}
use Rattle.tl_bytes.specs.declared.telling.Told.{Told}
use Rattle.tl_bytes.specs.statement.Bytes.{each_from, told_as}
use Rattle.tl_bytes.specs.statement.Early.{is_overtaken, outrun_accesses}
use Rattle.tl_bytes.specs.statement.Known.{MayWrite, tellings_at, windowed}
use Rattle.tl_rules.specs.declared.past.Request.{Request}
use Rattle.tl_rules.specs.statement.Admission.{is_spoiled, lanes_of}
use Rattle.tl_rules.specs.statement.History.{block_at}
use Rattle.tl_rules.specs.statement.OpenMessages.{open_request}
use Rattle.tl_commits.specs.code.Granting.{KnowsGrant, told_or_any}
use Rattle.tl_commits.specs.code.ValueTable.{KnowsKept}
use Rattle.tl_commits.specs.declared.block_values.BlockValues.{BlockValues}
use Rattle.tl_commits.specs.declared.granting.GrantBytes.{GrantBytes}
use Rattle.tl_commits.specs.statement.Completeness.{Completeness}
use Rattle.tl_commits.specs.statement.Copies.{link_beats}
use Rattle.tl_commits.specs.statement.Events.{Events, beats_of}
use Rattle.tl_commits.specs.statement.Seen.{Seen, values_seen}
use Rattle.tl_commits.specs.statement.True.{before_last_seen, is_true_seen, may_grant_seen}

module _ {w : ℕ} (complete : Completeness) (n link : ℕ) (x : BeatD w) (e : Events w) (asked : Request)
    (opened : open_request x.source (link_beats link e) ≡ Some asked) (doubt spoiled both : Bool)
    (doubt_is : is_overtaken asked.block x (link_beats link e) ≡ doubt) (spoiled_is : spoiled ≡ is_spoiled (Beat.D x))
    (both_is : both ≡ (doubt || spoiled)) where
  abbrev each : Bool
  each = each_from (may_grant_seen complete n
      (before_last_seen link (length (unfinished Channel.D (link_beats link e))) e))
      (64 * asked.block + w * length (unfinished Channel.D (link_beats link e))) (lanes_of (Beat.D x))

  -- one that is in doubt or corrupt isn't judged
  pub grant-unjudged : both ≡ true → true ≡ is_true_seen complete OpD.GrantData n link x e
  grant-unjudged on = rw (opened, doubt_is, ← spoiled_is) (go doubt spoiled each (sym both_is ∙ on))
    where
      go : (d s rest : Bool) → (d || s) ≡ true → true ≡ (s || (d || rest))
      go d true rest f = refl
      go true false rest f = refl
      go false false rest f = absurd cc

  -- another is judged by its bytes
  pub grant-judged : (all : Bool) → both ≡ false → all ≡ each → all ≡ is_true_seen complete OpD.GrantData n link x e
  grant-judged all off is = is ∙ rw (opened, doubt_is, ← spoiled_is) (go doubt spoiled each (sym both_is ∙ off))
    where
      go : (d s rest : Bool) → (d || s) ≡ false → rest ≡ (s || (d || rest))
      go d true rest f = absurd (or-false d f)
        where
          or-false : (d : Bool) → (d || true) ≡ false → ⊥
          or-false true f = absurd cc
          or-false false f = absurd cc
      go true false rest f = absurd cc
      go false false rest f = refl

  pub grant-lanes : (first : ℕ) (lanes : List ℕ) (all : Bool) → x.lanes ≡ Some lanes
      → first ≡ w * length (unfinished Channel.D (link_beats link e))
      → all ≡ each_from (may_grant_seen complete n
      (before_last_seen link (length (unfinished Channel.D (link_beats link e))) e)) (64 * asked.block + first) lanes
      → all ≡ each
  grant-lanes first lanes all some at is = is ∙ rw (some, at) refl

-- ---- what a Grant may bring that begins now

-- the values of a block that are kept, or any
told-kept : {w : ℕ} (values : Option BlockValues) (told : Option (Vec Told)) (complete : Completeness) (n block : ℕ)
    (e : Events w) → option_map (λ (v : Vec Told). v.items) told ≡ option_map (λ (v : BlockValues). v.seen.items) values
    → KnowsKept values complete n block e → (place v : ℕ) → place < 64
    → told_or_any told place v ≡ told_as v (values_seen complete n (64 * block + place) e)
told-kept None None complete n block e copied k place v small =
    ap (λ (s : Seen). told_as v s.values) (sym (k place small).0)
told-kept None (Some told) complete n block e copied k place v small = absurd cc
told-kept (Some values) None complete n block e copied k place v small = absurd cc
told-kept (Some values) (Some told) complete n block e copied k place v small =
    ap (λ l. told_as v (tellings_at place l)) (same copied) ∙ ap (told_as v) (k.seen_is place small)
  where
    same : {X : Type 0} {a b : X} → Some a ≡ Some b → a ≡ b
    same e = cc

pub granted-now : {w : ℕ} (g : GrantBytes) (values : Option BlockValues) (complete : Completeness) (n block : ℕ)
    (e : Events w) → option_map (λ (v : Vec Told). v.items) g.told
    ≡ option_map (λ (v : BlockValues). v.seen.items) values → KnowsKept values complete n block e
    → MayWrite g.writes.items block (windowed n block (beats_of e)) (outrun_accesses (beats_of e))
    → KnowsGrant g complete n block e
granted-now g values complete n block e copied k writes place v small =
    let at : block_at (64 * block + place) ≡ block = omega (arith, small) in
    rw (told-kept values g.told complete n block e copied k place v small, writes place v small, at) refl
