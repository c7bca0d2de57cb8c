-- The names that a line has; only private clauses cite this.
use Rattle.std.specs.Prelude.{ℕ, List, [], ◌∷◌, codes, bytes_eq, Option}
use Rattle.std.specs.List.{find}
use Rattle.tl_params.specs.declared.param.Arithmetic.{Arithmetic}
use Rattle.tl_params.specs.declared.param.Arithmetic.TheVariants as arithmetic
use Rattle.tl_params.specs.declared.param.Grow.{Grow}
use Rattle.tl_params.specs.declared.param.Grow.TheVariants as grow
use Rattle.tl_params.specs.declared.param.Intent.{Intent}
use Rattle.tl_params.specs.declared.param.Intent.TheVariants as intent
use Rattle.tl_params.specs.declared.param.Logical.{Logical}
use Rattle.tl_params.specs.declared.param.Logical.TheVariants as logical
use Rattle.tl_params.specs.declared.param.Prune.{Prune}
use Rattle.tl_params.specs.declared.param.Prune.TheVariants as prune
use Rattle.tl_params.specs.statement.Names.{arithmetic_name, grow_name, intent_name, logical_name, prune_name}
use Rattle.tl_schedule.specs.declared.name.Word.{Word}
use Rattle.tl_schedule.specs.declared.name.Word.TheVariants as word

abbrev pub word_name : Word → List ℕ
word_name word.Load = codes "load"
word_name word.Store = codes "store"
word_name word.Acquire = codes "acquire"
word_name word.Whole = codes "whole"
word_name word.Release = codes "release"
word_name word.Get = codes "get"
word_name word.Put = codes "put"
word_name word.Part = codes "part"
word_name word.Arith = codes "arith"
word_name word.Logic = codes "logic"
word_name word.Hint = codes "intent"
word_name word.Deliver = codes "deliver"

-- the first of these whose name the field is
abbrev pub with_name : {A : Type 0} → (A → List ℕ) → List A → List ℕ → Option A
with_name name all field = find (λ x. bytes_eq field (name x)) all

abbrev pub words : List Word
words =
    word.Load ∷ word.Store ∷ word.Acquire ∷ word.Whole ∷ word.Release ∷ word.Get ∷ word.Put ∷ word.Part ∷ word.Arith
    ∷ word.Logic ∷ word.Hint
    ∷ word.Deliver ∷ []

abbrev pub word_in : List ℕ → Option Word
word_in = with_name word_name words

abbrev pub grows : List Grow
grows = grow.NtoB ∷ grow.NtoT ∷ grow.BtoT ∷ []

abbrev pub grow_in : List ℕ → Option Grow
grow_in = with_name grow_name grows

abbrev pub prunes : List Prune
prunes = prune.TtoB ∷ prune.TtoN ∷ prune.BtoN ∷ []

abbrev pub prune_in : List ℕ → Option Prune
prune_in = with_name prune_name prunes

abbrev pub arithmetics : List Arithmetic
arithmetics = arithmetic.Min ∷ arithmetic.Max ∷ arithmetic.MinU ∷ arithmetic.MaxU ∷ arithmetic.Add ∷ []

abbrev pub arithmetic_in : List ℕ → Option Arithmetic
arithmetic_in = with_name arithmetic_name arithmetics

abbrev pub logicals : List Logical
logicals = logical.Xor ∷ logical.Or ∷ logical.And ∷ logical.Swap ∷ []

abbrev pub logical_in : List ℕ → Option Logical
logical_in = with_name logical_name logicals

abbrev pub intents : List Intent
intents = intent.PrefetchRead ∷ intent.PrefetchWrite ∷ []

abbrev pub intent_in : List ℕ → Option Intent
intent_in = with_name intent_name intents
