use Rattle.tt_pool.proofs.chain.take.Given as goal

abbrev pub ghost-take_out : goal.ghost-take_out
ghost-take_out g a = g.at
