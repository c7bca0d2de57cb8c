use Rattle.std.proofs.Common.{inl, inr}
use Rattle.tl_client.proofs.caching_client.Stores.{word_room, length-stored, stored-inside, stored-outside}
use Rattle.tl_client.proofs.law.stores_its_bytes.Goals as goal

pub returns-clause-long : goal.returns-clause-long
returns-clause-long c = λ address size value copy word long. length-stored address size value copy long
    (word_room address size word)

pub returns-clause-inside : goal.returns-clause-inside
returns-clause-inside c = λ address size value j copy word long lt. stored-inside address size value j copy long
    (word_room address size word) lt

pub returns-clause-below : goal.returns-clause-below
returns-clause-below c = λ address size value i copy word long lt. stored-outside address size value i copy long
    (word_room address size word) (inl lt)

pub returns-clause-above : goal.returns-clause-above
returns-clause-above c = λ address size value i copy word long le. stored-outside address size value i copy long
    (word_room address size word) (inr le)
