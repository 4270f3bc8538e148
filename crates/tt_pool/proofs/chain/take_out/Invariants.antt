use Rattle.tt_pool.proofs.chain.take_out.Given as goal

abbrev pub ghost-transfer : goal.ghost-transfer
ghost-transfer g a = g.at
