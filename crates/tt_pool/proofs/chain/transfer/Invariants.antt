use Rattle.tt_pool.proofs.chain.transfer.Given as goal

abbrev pub ghost-detach : goal.ghost-detach
ghost-detach g a = g.at
