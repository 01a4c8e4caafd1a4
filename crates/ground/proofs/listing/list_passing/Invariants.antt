use Rattle.ground.proofs.listing.list_passing.Given as goal

abbrev pub ghost-count_passing : goal.ghost-count_passing
ghost-count_passing g a = g.f

abbrev pub ghost-write_passing : goal.ghost-write_passing
ghost-write_passing g a = g.f
