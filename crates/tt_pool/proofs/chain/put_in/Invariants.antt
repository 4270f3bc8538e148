use Rattle.tt_pool.proofs.chain.put_in.Given as goal

abbrev pub ghost-transfer : goal.ghost-transfer
ghost-transfer a = 0
