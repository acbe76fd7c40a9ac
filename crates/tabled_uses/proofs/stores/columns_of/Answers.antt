use Rattle.tabled_uses.proofs.stores.columns_of.Goals as goal

pub returns : goal.returns
returns g c = c.args.records.now.rowless
