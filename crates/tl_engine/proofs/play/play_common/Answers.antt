use Rattle.tl_engine.proofs.play.play_common.Goals as goal

pub returns-in-Load : goal.returns-in-Load
returns-in-Load g c = rw c.in-Load.is c.play_load.ensures

pub returns-in-Store : goal.returns-in-Store
returns-in-Store g c = rw c.in-Store.is c.play_store.ensures

pub returns-in-Deliver : goal.returns-in-Deliver
returns-in-Deliver g c = rw c.in-Deliver.is c.play_delivery.ensures
